-- What the tokens of a journal's table know, and the rule of one journal.
use Rattle.std.specs.Prelude.{◌≡◌, ◌≢◌, ℕ, ◌+◌, ◌<◌, ◌==◌, List, [], ◌∷◌, ◌++◌, Option, Some, None, filter, map}
use Rattle.std.specs.List.{AllByRecursion}
use mathlib.Core.Option.{some}
use lib.ListN.{get_elem?}
use Rattle.tr_journal.specs.declared.rule.Line.{Line}
use Rattle.tr_journal.specs.declared.rule.Log.{Log}
use Rattle.tr_journal.specs.declared.rule.Part.{Part}
use Rattle.tr_journal.specs.declared.rule.View.{View}

-- ---- lines and parts

abbrev pub line : {E : Type 0} → ℕ → E → Line E
line who done = record { who = who; done = done }

-- all that was done, in order, and what the holder of the seat of this number did of it
abbrev pub all_done : {E : Type 0} → List (Line E) → List E
all_done lines = map (λ l. l.done) lines

abbrev pub done_by : {E : Type 0} → ℕ → List (Line E) → List E
done_by who lines = all_done (filter (λ l. l.who == who) lines)

-- each line is of one of the seats that were made
abbrev pub AreNumbered : {E : Type 0} → ℕ → List (Line E) → Type 0
AreNumbered made lines = AllByRecursion (λ l. l.who < made) lines

-- a part has all that the lines have of its number, and its seat is one of those that were made
abbrev pub IsPartOf : {E : Type 0} → ℕ → List (Line E) → Part E → Type 0
IsPartOf made lines part = (part.who < made) × (part.own ≡ done_by part.who lines)

-- no two of the parts have one number
abbrev pub AreApart : {E : Type 0} → List (Part E) → Type 0
AreApart [] = Unit {0}
AreApart (p ∷ ps) = AllByRecursion (λ q. p.who ≢ q.who) ps × AreApart ps

-- the parts are those of so many seats of a journal with these lines
pub record ArePartsOf {E : Type 0} (made : ℕ) (lines : List (Line E)) (parts : List (Part E)) : Type 0 where
  pub numbered : AreNumbered made lines
  pub each : AllByRecursion (IsPartOf made lines) parts
  pub apart : AreApart parts

-- ---- steps

abbrev pub new_part : {E : Type 0} → ℕ → Part E
new_part who = record { who = who; own = [] }

-- the seat's holder did this
abbrev pub part_after : {E : Type 0} → E → Part E → Part E
part_after done part = record { who = part.who; own = part.own ++ done ∷ [] }

abbrev pub log_after : {E : Type 0} → ℕ → E → Log E → Log E
log_after who done log = record { lines = log.lines ++ line who done ∷ []; made = log.made }

-- an empty journal, with its one seat
abbrev pub first_log : {E : Type 0} → Log E
first_log = record { lines = []; made = 1 }

-- one seat more is made
abbrev pub one_more : {E : Type 0} → Log E → Log E
one_more log = record { lines = log.lines; made = log.made + 1 }

-- ---- views

abbrev pub first_view : {E : Type 0} → View E
first_view = record { log = Some first_log; parts = new_part 0 ∷ [] }

abbrev pub book_view : {E : Type 0} → Log E → View E
book_view log = record { log = Some log; parts = [] }

abbrev pub seat_view : {E : Type 0} → List (Part E) → View E
seat_view parts = record { log = None; parts = parts }

abbrev pub nobody : {E : Type 0} → View E
nobody = record { log = None; parts = [] }

abbrev pub log_with_one_more : {E : Type 0} → Option (Log E) → Option (Log E)
log_with_one_more (Some log) = Some (one_more log)
log_with_one_more None = None

abbrev pub with_one_more : {E : Type 0} → View E → View E
with_one_more v = record { log = log_with_one_more v.log; parts = v.parts }

-- the next seat, whose holder did nothing yet
abbrev pub next_seat : {E : Type 0} → Option (Log E) → View E
next_seat (Some log) = seat_view (new_part log.made ∷ [])
next_seat None = nobody

abbrev pub newcomer : {E : Type 0} → View E → View E
newcomer v = next_seat v.log

-- nothing is joined any more
abbrev pub without_seat : {E : Type 0} → View E → View E
without_seat v = record { log = v.log; parts = [] }

-- what is joined to a view, as a seat's
abbrev pub seat_of : {E : Type 0} → View E → View E
seat_of v = seat_view v.parts

-- a seat is joined to a view
abbrev pub with_seat : {E : Type 0} → View E → View E → View E
with_seat v seat = record { log = v.log; parts = v.parts ++ seat.parts }

-- the first joined seat's holder did this
abbrev pub noted_in : {E : Type 0} → E → Option (Log E) → List (Part E) → View E
noted_in done (Some log) (p ∷ ps) = record { log = Some (log_after p.who done log); parts = part_after done p ∷ ps }
noted_in done (Some log) [] = book_view log
noted_in done None parts = seat_view parts

abbrev pub noted : {E : Type 0} → E → View E → View E
noted done v = noted_in done v.log v.parts

-- ---- the rule

-- what is joined to the journal is its own
abbrev pub IsShown : {E : Type 0} → View E → Type 0
IsShown v = (log : Log _) → v.log ≡ Some log → ArePartsOf log.made log.lines v.parts

-- what the rule says of one view: the log is at one place, and the part of each number at one place
pub record Fits {E : Type 0} (log : Log E) (book_at : ℕ) (seat_at : ℕ → ℕ) (at : ℕ) (v : View E) : Type 0 where
  pub book : (l : Log E) → v.log ≡ Some l → (at ≡ book_at) × (l ≡ log)
  pub places : AllByRecursion (λ p. at ≡ seat_at p.who) v.parts
  pub each : AllByRecursion (IsPartOf log.made log.lines) v.parts
  pub apart : AreApart v.parts

-- there is one log, which one view has, and each part is what the log has of its number, which no other part has
pub record AreOne {E : Type 0} (views : List (View E)) : Type 0 where
  pub log : Log E
  pub book_at : ℕ
  pub seat_at : ℕ → ℕ
  pub fits : (at : ℕ) (v : View E) → get_elem? views at ≡ some v → Fits log book_at seat_at at v
  pub numbered : AreNumbered log.made log.lines
