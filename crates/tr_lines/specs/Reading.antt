-- How far a reader of lines is, and how it goes on.
use Rattle.std.specs.Prelude.{◌≡◌, ℕ, ◌+◌, ◌-◌, List, [], ◌∷◌, ◌++◌, Bool, false, Option, length, if◌then◌else◌}
use Rattle.tr_record.specs.Bytes.{and_then_bytes}
use Rattle.tr_lines.specs.Lines.{HasNoFeed, keep_more, text_of_line}
use Rattle.tr_terms.specs.declared.limits.TheConstants.{LONGEST_SCRIPT}

-- how far a reader is
pub record Reading : Type 0 where
  -- the bytes that came and are in no line yet
  pub held : List ℕ
  -- how many bytes came
  pub total : ℕ
  -- the text of the line that was read; none for a bad line
  pub line : Option (List ℕ)

abbrev pub reading : List ℕ → ℕ → Option (List ℕ) → Reading
reading held total line = record { held = held; total = total; line = line }

-- how many bytes may still go into lines
abbrev pub budget : Reading → ℕ
budget r = (LONGEST_SCRIPT - r.total) + length r.held

-- a line is taken from what is held, with its newline
pub record TakesLine (old new : Reading) : Type 0 where
  pub raw : List ℕ
  pub bytes : old.held ≡ raw ++ 10 ∷ new.held
  pub no_feed : HasNoFeed raw
  pub text : new.line ≡ text_of_line raw
  pub total : new.total ≡ old.total

-- all that is held is the beginning of a line
pub record BeginsLine (old new : Reading) : Type 0 where
  pub no_feed : HasNoFeed old.held
  pub begun : new ≡ reading [] old.total (text_of_line old.held)

-- this holds since the line that is read on has begun
abbrev pub SinceBegun : Reading → (Reading → Type 0) → Type 0
SinceBegun now Holds = (old : Reading) → BeginsLine old now → Holds old

-- the source, which had given `before`, gave `more`, and the line `raw` came out with its newline
pub record ReadsLine (before after : Option (List ℕ)) (old new : Reading) : Type 0 where
  pub raw : List ℕ
  pub more : List ℕ
  pub came : after ≡ and_then_bytes before more
  pub bytes : old.held ++ more ≡ raw ++ 10 ∷ new.held
  pub no_feed : HasNoFeed raw
  pub text : new.line ≡ text_of_line raw
  pub total : new.total ≡ old.total + length more

-- the source gave `more`, and `raw` is what there is of a line whose newline did not come
pub record ReadsOn (before after : Option (List ℕ)) (old new : Reading) : Type 0 where
  pub raw : List ℕ
  pub more : List ℕ
  pub came : after ≡ and_then_bytes before more
  pub bytes : old.held ++ more ≡ raw ++ new.held
  pub no_feed : HasNoFeed raw
  pub text : new.line ≡ text_of_line raw
  pub total : new.total ≡ old.total + length more

-- as above, and nothing else is held
pub record ReadsAll (before after : Option (List ℕ)) (old new : Reading) : Type 0 where
  pub on : ReadsOn before after old new
  pub nothing_held : new.held ≡ []

-- as above, with a script as long as it may be, and then one more byte came
pub record GoesTooFar (before after : Option (List ℕ)) (old new : Reading) : Type 0 where
  pub within : Option (List ℕ)
  pub byte : ℕ
  pub all : ReadsAll before within old new
  pub full : new.total ≡ LONGEST_SCRIPT
  pub came : after ≡ and_then_bytes within (byte ∷ [])

-- a part of what is held goes to the line, up to a newline if there is one
pub record TakesPart (old new : Reading) (found : Bool) : Type 0 where
  pub part : List ℕ
  pub no_feed : HasNoFeed part
  pub bytes : old.held ≡ part ++ (if found then 10 ∷ new.held else [])
  pub rest : found ≡ false → new.held ≡ []
  pub text : new.line ≡ keep_more old.line part
  pub total : new.total ≡ old.total
