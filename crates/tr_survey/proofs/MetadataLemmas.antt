-- The identifier that the lines of metadata name, line by line.
use Rattle.std.proofs.Common.{◌≡◌, ◌+◌, ◌<◌, ◌&&◌, ℕ, suc, Bool, true, false, not, cond, ltb, refl, sym, ap, ◌∙◌, arith, List, [], ◌∷◌, length, take, drop, drop-drop, Option, Some, None}
use Rattle.std.specs.List.{onto_first, position, position_or_len, slice_split}
use Rattle.std.specs.Option.{option_or}
use Rattle.std.proofs.lemmas.Bool.{lt-ltb, ltb-true, ltb-false}
use Rattle.std.proofs.lemmas.List.Splits.{slice_split_first}
use Rattle.std.proofs.lemmas.List.Sums.{prefix_len-le-length}
use Rattle.tr_folders.specs.Tree.{File}
use Rattle.tr_survey.specs.Metadata.{ends_line, named, naming_by, naming_in, uuid_in, uuid_in_line, uuid_in_lines}
use Rattle.tr_survey.specs.declared.naming.Naming.{Naming}
use Rattle.tr_survey.specs.declared.naming.Naming.TheVariants.{Unreadable}
use Rattle.tr_metadata.specs.declared.metadata.TheConstants.{LONGEST_METADATA}

abbrev end_of : List ℕ → ℕ
end_of = position_or_len ends_line

or_none : {X : Type 0} (o : Option X) → option_or o None ≡ o
or_none None = refl
or_none (Some x) = refl

one_more_line : (test : Bool) (b : ℕ) (bytes : List ℕ) (n : ℕ) → cond (not test) (1 + end_of bytes) 0 ≡ suc n → (test ≡ false) × (end_of bytes ≡ n)
one_more_line true b bytes n e = absurd (omega arith)
one_more_line false b bytes n e = (refl, omega arith)

-- without a newline there is one line
one_line : (bytes : List ℕ) → end_of bytes ≡ length bytes → slice_split ends_line bytes ≡ bytes ∷ []
one_line [] e = refl
one_line (b ∷ bytes) e =
    let rest = one_more_line (ends_line b) b bytes (length bytes) e in
    ap (λ (t : Bool). cond t ([] ∷ slice_split ends_line bytes) (onto_first b (slice_split ends_line bytes))) rest.0
    ∙ ap (onto_first b) (one_line bytes rest.1)

none_is : (test : Bool) (k : ℕ) → None ≡ cond test (Some k) None → test ≡ false
none_is true k e = absurd cc
none_is false k e = refl

some_is : (test : Bool) (k n : ℕ) → Some n ≡ cond test (Some k) None → (test ≡ true) × (k ≡ n)
some_is true k n e = (refl, cc)
some_is false k n e = absurd cc

-- the last line
pub last_line : (bytes : List ℕ) → None ≡ position ends_line bytes → uuid_in_line bytes ≡ uuid_in bytes
last_line bytes none =
    let high = ltb-false (end_of bytes) (length bytes) (none_is (ltb (end_of bytes) (length bytes)) (end_of bytes) none) in
    let whole : end_of bytes ≡ length bytes = omega (arith, high, prefix_len-le-length (λ b. not (ends_line b)) bytes) in
    sym (ap uuid_in_lines (one_line bytes whole) ∙ or_none (uuid_in_line bytes))

-- a line, and the lines after it
pub next_line : (bytes : List ℕ) (end : ℕ) → Some end ≡ position ends_line bytes
    → uuid_in bytes ≡ option_or (uuid_in_line (take end bytes)) (uuid_in (drop (end + 1) bytes))
next_line bytes end some =
    let found = some_is (ltb (end_of bytes) (length bytes)) (end_of bytes) end some in
    ap uuid_in_lines (slice_split_first ends_line bytes 0 (ltb-true (end_of bytes) (length bytes) found.0))
    ∙ ap (λ (n : ℕ). option_or (uuid_in_line (take n bytes)) (uuid_in (drop (n + 1) bytes))) found.1

-- the line names one, or none and the lines after it are left
pub found_in_line : (bytes line : List ℕ) (end : ℕ) (uuid : List ℕ) → Some end ≡ position ends_line bytes → line ≡ take end bytes
    → Some uuid ≡ uuid_in_line line → Some uuid ≡ uuid_in bytes
found_in_line bytes line end uuid some is found =
    ap (λ o. option_or o (uuid_in (drop (end + 1) bytes))) (found ∙ ap uuid_in_line is) ∙ sym (next_line bytes end some)

pub not_in_line : (bytes line more rest : List ℕ) (end : ℕ) → Some end ≡ position ends_line bytes → line ≡ take end bytes → more ≡ drop end bytes
    → rest ≡ drop 1 more → None ≡ uuid_in_line line → uuid_in rest ≡ uuid_in bytes
not_in_line bytes line more rest end some is-line is-more is-rest none =
    let is : rest ≡ drop (end + 1) bytes = is-rest ∙ ap (drop 1) is-more ∙ drop-drop 1 end bytes in
    ap uuid_in is
    ∙ ap (λ o. option_or o (uuid_in (drop (end + 1) bytes))) (none ∙ ap uuid_in_line is-line)
    ∙ sym (next_line bytes end some)

-- what bytes name, if there are some
pub named_some : (bytes : List ℕ) (uuid : Option (List ℕ)) → (length bytes ≡ 0 → ⊥) → uuid ≡ uuid_in bytes → named bytes uuid ≡ naming_by bytes
named_some [] uuid some is = absurd (some refl)
named_some (b ∷ bytes) uuid some is = ap (named (b ∷ bytes)) is

-- what is made of an open file's bytes up to its end or as far as they count
pub whole_by : {X : Type 0} (file : File) (none : X) (made : List ℕ → X) → (length file.bytes < LONGEST_METADATA → file.breaks ≡ false)
    → made (take LONGEST_METADATA file.bytes)
    ≡ cond (ltb (length file.bytes) LONGEST_METADATA && file.breaks) none (made (take LONGEST_METADATA file.bytes))
whole_by file none made whole = by_test (ltb (length file.bytes) LONGEST_METADATA) refl
  where
    by_test : (test : Bool) → ltb (length file.bytes) LONGEST_METADATA ≡ test
        → made (take LONGEST_METADATA file.bytes)
        ≡ cond (ltb (length file.bytes) LONGEST_METADATA && file.breaks) none (made (take LONGEST_METADATA file.bytes))
    by_test true e =
        ap (λ (t : Bool). cond t none (made (take LONGEST_METADATA file.bytes)))
        (sym (ap (λ (t : Bool). t && file.breaks) e ∙ whole (ltb-true (length file.bytes) LONGEST_METADATA e)))
    by_test false e =
        ap (λ (t : Bool). cond t none (made (take LONGEST_METADATA file.bytes))) (sym (ap (λ (t : Bool). t && file.breaks) e))

-- the same of one that can't be read so far
pub broken_by : {X : Type 0} (file : File) (none : X) (made : List ℕ → X) → (length file.bytes < LONGEST_METADATA) × (file.breaks ≡ true)
    → none ≡ cond (ltb (length file.bytes) LONGEST_METADATA && file.breaks) none (made (take LONGEST_METADATA file.bytes))
broken_by file none made broken =
    ap (λ (t : Bool). cond t none (made (take LONGEST_METADATA file.bytes)))
    (sym (ap (λ (t : Bool). t && file.breaks) (lt-ltb _ _ broken.0) ∙ broken.1))

-- it is read as metadata
pub read_whole : (file : File) (front : List ℕ) (naming : Naming) → front ≡ take LONGEST_METADATA file.bytes
    → (length file.bytes < LONGEST_METADATA → file.breaks ≡ false) → naming ≡ naming_by front → naming ≡ naming_in (Some file)
read_whole file front naming is whole found = found ∙ ap naming_by is ∙ whole_by file Unreadable naming_by whole

pub read_broken : (file : File) → (length file.bytes < LONGEST_METADATA) × (file.breaks ≡ true) → Unreadable ≡ naming_in (Some file)
read_broken file broken = broken_by file Unreadable naming_by broken
