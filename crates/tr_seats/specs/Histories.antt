-- One history of all that was done to a stream, and the seats that are joined to show it.
use Rattle.std.specs.Prelude.{◌≡◌, ◌≢◌, ◌<◌, ℕ, List, length, map, slice_index_or}
use Rattle.std.specs.List.{AllByRecursion, AllPairs, Contains}
use Rattle.atomic_table.specs.Seated.{TableId}
use Rattle.tr_accounts.specs.Seats.{IsJournalOf, desk_seat, is_offer, is_operation, steps_of, take_lines}
use Rattle.tr_accounts.specs.StreamSteps.{taken_in}
use Rattle.tr_accounts.specs.declared.step.StreamStep.{StreamStep}
use Rattle.tr_journal.specs.Journals.{SeatState}
use Rattle.tr_journal.specs.Views.{all_done, done_by}
use Rattle.tr_journal.specs.declared.rule.Line.{Line}
use Rattle.tr_journal.specs.declared.rule.Part.{Part}
use Rattle.tr_seats.specs.Books.{Books, books_at}
use Rattle.tr_seats.specs.Drainers.{DrainerState, taken_at}
use Rattle.tr_stream.specs.State.{StreamState}
use Rattle.tr_stream.specs.declared.answers.Taken.{Taken}

-- one history has all that was done to a stream, each call by whose it is: the offers in it, refused ones too, are just the
-- producer's, the takes are just the drainers', each by one of them, and none is missing, and all else is just what the desk did
pub record IsHistoryOf (producer : List StreamStep) (drainers : List (List Taken)) (desk : List StreamStep) (stream : StreamState) : Type 0 where
  pub lines : List (Line StreamStep)
  pub journal : IsJournalOf lines stream
  pub offers : steps_of is_offer (all_done lines) ≡ producer
  pub operations : steps_of is_operation (all_done lines) ≡ desk
  -- the drainers' numbers in it
  pub numbers : List ℕ
  pub theirs : AllByRecursion (λ who. desk_seat < who) numbers
  pub apart : AllPairs (λ a b. a ≢ b) numbers
  pub taken : drainers ≡ map (λ who. taken_in (done_by who lines)) numbers
  pub none_missing : AllByRecursion (λ l. Contains numbers l.who) (take_lines lines)

-- ---- seats that are joined

-- the desk's seat in this table, to which drainers' seats are joined and no others
pub record IsDeskWith (table : TableId) (seat : SeatState StreamStep) : Type 0 where
  pub table_is : seat.table ≡ table
  pub desk : seat.who ≡ desk_seat
  pub drainers : AllByRecursion (λ (p : Part StreamStep). desk_seat < p.who) seat.joined

-- what the holders of the seats that were joined took, one after another
abbrev pub takes_joined : SeatState StreamStep → List (List Taken)
takes_joined seat = map (λ (p : Part StreamStep). taken_in p.own) seat.joined

-- what the desk did to each stream, as its seats noted
abbrev pub operations_in : List (SeatState StreamStep) → List (List StreamStep)
operations_in seats = map (λ (s : SeatState StreamStep). s.own) seats

-- what these drainers took from the stream of this number
abbrev pub takes_of : List DrainerState → ℕ → List (List Taken)
takes_of drainers i = map (λ (d : DrainerState). taken_at d i) drainers

-- the desk's seat of each stream, to which just these drainers' are joined
pub record AreDeskWith (books : List Books) (drainers : List DrainerState) (seats : List (SeatState StreamStep)) : Type 0 where
  pub many : length seats ≡ length books
  pub each : (i : ℕ) (d : SeatState StreamStep) → i < length books → IsDeskWith (books_at books i).journal (slice_index_or seats i d)
  pub taken : (i : ℕ) (d : SeatState StreamStep) → i < length books → takes_joined (slice_index_or seats i d) ≡ takes_of drainers i
