-- A journal and its seats as contracts see them.
use Rattle.std.specs.Prelude.{◌≡◌, ℕ, ◌+◌, List, [], ◌∷◌, ◌++◌, Option, Some, None, drop, length}
use Rattle.atomic_table.specs.Seated.{TableId}
use Rattle.tr_journal.specs.Views.{ArePartsOf, first_log, line, new_part, nobody}
use Rattle.tr_journal.specs.declared.rule.Line.{Line}
use Rattle.tr_journal.specs.declared.rule.Log.{Log}
use Rattle.tr_journal.specs.declared.rule.Part.{Part}
use Rattle.tr_journal.specs.declared.rule.View.{View}

-- ---- journals

-- which table a journal is, all that was done, in order, and how many seats were made
pub record JournalState (E : Type 0) : Type 0 where
  pub table : TableId
  pub lines : List (Line E)
  pub made : ℕ

abbrev pub journal_state : {E : Type 0} → TableId → Log E → JournalState E
journal_state table log = record { table = table; lines = log.lines; made = log.made }

-- a journal without a line, with one seat made
abbrev pub new_journal : {E : Type 0} → TableId → JournalState E
new_journal table = journal_state table first_log

-- after the holder of the seat of this number did this
abbrev pub journal_after : {E : Type 0} → ℕ → E → JournalState E → JournalState E
journal_after who done journal = record journal { lines = journal.lines ++ line who done ∷ [] }

-- after one seat more was made
abbrev pub journal_with_seat : {E : Type 0} → JournalState E → JournalState E
journal_with_seat journal = record journal { made = journal.made + 1 }

-- ---- seats

-- which table a seat is of, its number there, what its holder did, in order, and the parts of the seats that were joined to it
pub record SeatState (E : Type 0) : Type 0 where
  pub table : TableId
  pub who : ℕ
  pub own : List E
  pub joined : List (Part E)

-- a seat with this part of its own, and these joined to it
abbrev pub seat_state : {E : Type 0} → TableId → Part E → List (Part E) → SeatState E
seat_state table part joined = record { table = table; who = part.who; own = part.own; joined = joined }

abbrev pub parts_of : {E : Type 0} → SeatState E → List (Part E)
parts_of seat = record { who = seat.who; own = seat.own } ∷ seat.joined

-- the seat of a number, whose holder did nothing yet
abbrev pub new_seat : {E : Type 0} → TableId → ℕ → SeatState E
new_seat table who = seat_state table (new_part who) []

-- after its holder did this
abbrev pub seat_after : {E : Type 0} → E → SeatState E → SeatState E
seat_after done seat = record seat { own = seat.own ++ done ∷ [] }

-- after another seat was joined to it, with all that was joined to that
abbrev pub seat_with : {E : Type 0} → SeatState E → SeatState E → SeatState E
seat_with other seat = record seat { joined = seat.joined ++ parts_of other }

-- what a seat has of its own number, and of each that was joined to it, is all that the journal has of that number
abbrev pub IsSeatOf : {E : Type 0} → JournalState E → SeatState E → Type 0
IsSeatOf journal seat = ArePartsOf journal.made journal.lines (parts_of seat)

-- all seats that were made are joined in this one
abbrev pub IsWhole : {E : Type 0} → JournalState E → SeatState E → Type 0
IsWhole journal seat = length (parts_of seat) ≡ journal.made

-- ---- what tokens have

abbrev pub log_or_first : {E : Type 0} → Option (Log E) → Log E
log_or_first (Some log) = log
log_or_first None = first_log

abbrev pub log_in : {E : Type 0} → View E → Log E
log_in v = log_or_first v.log

-- the one view in the list
abbrev pub view_of : {E : Type 0} → List (View E) → View E
view_of [] = nobody
view_of (v ∷ views) = v

abbrev pub first_or_new : {E : Type 0} → List (Part E) → Part E
first_or_new [] = new_part 0
first_or_new (p ∷ ps) = p

-- a seat's own part, and those that were joined to it
abbrev pub own_in : {E : Type 0} → List (View E) → Part E
own_in views = first_or_new (view_of views).parts

abbrev pub joined_in : {E : Type 0} → List (View E) → List (Part E)
joined_in views = drop 1 (view_of views).parts
