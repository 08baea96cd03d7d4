-- What a plan made: the session before its first call, and the books of each of its streams.
use Rattle.std.specs.Prelude.{◌≡◌, ◌<◌, ◌+◌, ℕ, List, [], Some, length, map, option_map, pos, slice_get, slice_index_or}
use Rattle.atomic_table.specs.Seated.{TableId}
use Rattle.tr_ledger.specs.Ledgers.{LedgerState, ledger_state}
use Rattle.tr_session.specs.Session.{HasItsStreams, SessionOf, new_session}
use Rattle.tr_stream.specs.State.{StreamState}
use Rattle.tr_tally.specs.Tallies.{TallyState, tally_state}
use Rattle.tr_stream.specs.declared.config.StreamConfig.{StreamConfig}
use Rattle.tr_terms.specs.declared.limits.TheConstants.{SMALLEST_PACKET}
use Rattle.tr_terms.specs.declared.mode.Mode.TheVariants.{Overwrite}
use Rattle.tr_terms.specs.declared.session_mode.SessionMode.{SessionMode}
use Rattle.tr_terms.specs.declared.session_mode.SessionMode.TheVariants.{Local, Snapshot}
use Rattle.tr_seats.specs.Sums.{totals_in}

-- the tables of a stream's seven books, and of its journal
pub record Books : Type 0 where
  pub offered : TableId
  pub discarded : TableId
  pub overwritten : TableId
  pub overwritten_packets : TableId
  pub consumed : TableId
  pub cuts : TableId
  pub cleared : TableId
  pub journal : TableId

abbrev pub books_of : (offered discarded overwritten overwritten_packets consumed cuts cleared journal : TableId) → Books
books_of offered discarded overwritten overwritten_packets consumed cuts cleared journal = record {
  offered = offered;
  discarded = discarded;
  overwritten = overwritten;
  overwritten_packets = overwritten_packets;
  consumed = consumed;
  cuts = cuts;
  cleared = cleared;
  journal = journal;
}

-- the session as it was configured, the books of its streams, in order of number, the tally of what they are offered, and the
-- table of the journal of its desk
pub record PlanState : Type 0 where
  pub session : SessionOf StreamState
  pub books : List Books
  pub tally : TallyState
  pub desk : TableId

abbrev pub plan_state : SessionOf StreamState → List Books → TallyState → TableId → PlanState
plan_state session books tally desk = record { session = session; books = books; tally = tally; desk = desk }

abbrev pub no_table : TableId
no_table = record { words = 0; slots = 0; views_name = 0; atom = 0; block = 0; offset = 0; slot_names = [] }

abbrev pub no_books : Books
no_books = books_of no_table no_table no_table no_table no_table no_table no_table no_table

abbrev pub no_plan : PlanState
no_plan = plan_state (new_session [] (pos 0) Local) [] (tally_state no_table 0 0) no_table

-- the books of the stream of this number
abbrev pub books_at : List Books → ℕ → Books
books_at books i = slice_index_or books i no_books

-- the plan made a stream of this number with this configuration
abbrev pub IsPlanned : PlanState → ℕ → StreamConfig → Type 0
IsPlanned plan i config = option_map (λ (t : StreamState). t.config) (slice_get plan.session.streams i) ≡ Some config

-- a payload of this length fits no sub-buffer of the stream of this number
abbrev pub IsTooBig : PlanState → ℕ → ℕ → Type 0
IsTooBig plan i len =
    (config : StreamConfig) → IsPlanned plan i config → config.geometry.size < SMALLEST_PACKET + len

-- a stream's books: their totals are its counts, and only that of the consumed records has made seats
pub record AreBooksOf (books : Books) (stream : StreamState) (made : ℕ)
    (offered discarded overwritten overwritten_packets consumed cuts cleared : LedgerState) : Type 0 where
  pub offered_is : offered ≡ ledger_state books.offered (totals_in stream).offered 0
  pub discarded_is : discarded ≡ ledger_state books.discarded (totals_in stream).discarded 0
  pub overwritten_is : overwritten ≡ ledger_state books.overwritten (totals_in stream).overwritten 0
  pub packets_is : overwritten_packets
      ≡ ledger_state books.overwritten_packets (totals_in stream).overwritten_packets 0
  pub consumed_is : consumed ≡ ledger_state books.consumed (totals_in stream).consumed made
  pub cuts_is : cuts ≡ ledger_state books.cuts (totals_in stream).cuts 0
  pub cleared_is : cleared ≡ ledger_state books.cleared (totals_in stream).cleared 0

-- the books of what the streams consumed, those of their cuts, and those of what was cleared
abbrev pub consumed_books : List Books → List TableId
consumed_books books = map (λ (b : Books). b.consumed) books

abbrev pub cut_books : List Books → List TableId
cut_books books = map (λ (b : Books). b.cuts) books

abbrev pub cleared_books : List Books → List TableId
cleared_books books = map (λ (b : Books). b.cleared) books

-- in a snapshot session every ring overwrites
abbrev pub AreOverwriting : SessionMode → List StreamState → Type 0
AreOverwriting mode streams =
    mode ≡ Snapshot → (i : ℕ) (t : StreamState) → slice_get streams i ≡ Some t → t.config.mode ≡ Overwrite

-- a plan has books for each stream of its session, and a tally of them
pub record IsPlan (plan : PlanState) : Type 0 where
  pub books : length plan.books ≡ length plan.session.streams
  pub session : HasItsStreams plan.session
  pub overwriting : AreOverwriting plan.session.book.mode plan.session.streams
  pub tally : plan.tally.streams ≡ length plan.books
