-- A clear at a desk as its session's rule.
use Rattle.std.proofs.Common.{◌≡◌, ◌≢◌, ◌∙◌, ◌<◌, ℕ, Bool, true, List, Some, Result, Ok, Err, ap, arith, length, refl, set, sym}
use Rattle.std.proofs.lemmas.Bool.Decides.{nat_tests}
use Rattle.std.specs.Option.{option_map_or}
use Rattle.std.specs.Prelude.{if◌then◌else◌, nat_lt, slice_get}
use Rattle.tr_seats.proofs.CutLemmas.{set-same}
use Rattle.tr_seats.proofs.SlotLemmas.{if-same}
use Rattle.tr_seats.specs.Clears.{desk_after_clear, desk_clear_answer, slot_after_clear}
use Rattle.tr_seats.specs.Desks.{DeskState}
use Rattle.tr_seats.specs.Slots.{SlotState}
use Rattle.tr_book.proofs.ChangeLemmas.{changed_at-set}
use Rattle.tr_session.specs.Session.{session_of}
use Rattle.tr_session.specs.Steps.{change_at, clear_as_session, if_allowed, session_after_clear, session_clear_answer}
use Rattle.tr_session_book.specs.BookSteps.{book_clear_answer, clear_allowed_at, unless_refused}
use Rattle.tr_session_book.specs.declared.faults.SessionFault.{SessionFault}
use Rattle.tr_session_book.specs.declared.faults.SessionFault.TheVariants.{Misplaced, NoStream, SnapshotMode}
use Rattle.tr_stream.specs.Rules.{by_state}
use Rattle.tr_stream.specs.State.{StreamState}
use Rattle.tr_stream.specs.StateSteps.{state_after_clear, state_clear_answer}
use Rattle.tr_stream.specs.declared.answers.ClearFault.{ClearFault}
use Rattle.tr_stream.specs.declared.answers.ClearFault.TheVariants as clear_fault
use Rattle.tr_stream.specs.declared.answers.Cleared.{Cleared}
use Rattle.tr_terms.specs.declared.session_mode.SessionMode.{SessionMode}
use Rattle.tr_terms.specs.declared.session_mode.SessionMode.TheVariants.{Local, Snapshot}

-- a stream's clear is refused for the mode only in a snapshot session
pub refused-mode : (s : StreamState) (fault : ClearFault) (told : SessionFault)
    → ◌≡◌ {A = Result Cleared SessionFault} (clear_as_session (Err fault)) (Err told)
    → (◌≢◌ {A = Result Cleared ClearFault} (Err fault) (Err clear_fault.NoMemory) → Err fault ≡ state_clear_answer s)
    → ◌≡◌ {A = Result Cleared SessionFault} (Err told) (Err SnapshotMode) → s.config.session ≡ Snapshot
refused-mode s clear_fault.NoMemory told is value same = absurd cc
refused-mode s clear_fault.SnapshotMode told is value same = go s.config.session refl
  where
    answer : Err clear_fault.SnapshotMode ≡ state_clear_answer s
    answer = value (λ e. cc)

    go : (m : SessionMode) → s.config.session ≡ m → s.config.session ≡ Snapshot
    go Snapshot at = at
    go Local at = let is = answer in absurd cc

-- a clear leaves the book as it is
book-same : (r : Result Cleared SessionFault) (i : ℕ) (desk : DeskState) → (desk_after_clear r i desk).book ≡ desk.book
book-same (Ok done) i desk = refl
book-same (Err fault) i desk = refl

module _ (i : ℕ) (desk : DeskState) (slot : SlotState) (streams : List StreamState) (here : i ≡ slot.number)
    (there : i < length desk.book.threads) (at : slice_get streams i ≡ Some slot.stream) where
  allowed : clear_allowed_at i desk.book ≡ book_clear_answer desk.book
  allowed =
      let so : nat_lt i (length desk.book.threads) ≡ true = grind (arith, nat_tests, there) in
      ap (λ (b : Bool). if b then book_clear_answer desk.book else Err NoStream) so

  pub clear-answer : desk_clear_answer i desk slot ≡ session_clear_answer by_state i (session_of desk.book streams)
  clear-answer =
      if-same i slot.number (if_allowed (book_clear_answer desk.book) (clear_as_session (state_clear_answer slot.stream))) (Err Misplaced) here
      ∙ (λ j. if_allowed (sym allowed j)
      (option_map_or (λ (t : StreamState). clear_as_session (state_clear_answer t)) (sym at j) (Err NoStream)))

  after-allowed : (r : Result Unit SessionFault) → session_of desk.book (set streams i (unless_refused r (state_after_clear slot.stream) slot.stream))
      ≡ unless_refused r (session_of desk.book (change_at i state_after_clear streams)) (session_of desk.book streams)
  after-allowed (Ok done) =
      ap (session_of desk.book) (changed_at-set state_after_clear i streams slot.stream (state_after_clear slot.stream) at refl)
  after-allowed (Err fault) = ap (session_of desk.book) (set-same i streams slot.stream at)

  pub clear-after : session_of (desk_after_clear (desk_clear_answer i desk slot) i desk).book (set streams i (slot_after_clear i desk slot).stream)
      ≡ session_after_clear by_state i (session_of desk.book streams)
  clear-after =
      let is = if-same i slot.number
      (record slot { stream = unless_refused (book_clear_answer desk.book) (state_after_clear slot.stream) slot.stream }) slot here in
      (λ j. session_of (book-same (desk_clear_answer i desk slot) i desk j) (set streams i (is j).stream))
      ∙ after-allowed (book_clear_answer desk.book)
      ∙ (λ j. unless_refused (sym allowed j) (session_of desk.book (change_at i state_after_clear streams)) (session_of desk.book streams))
