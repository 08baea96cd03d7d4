-- A cut at a desk as its session's rule.
use Rattle.std.proofs.Common.{◌≡◌, ◌∙◌, ℕ, zero, suc, List, [], ◌∷◌, Option, Some, Result, Ok, Err, ap, refl, set, sym}
use Rattle.std.specs.Option.{option_map_or}
use Rattle.std.specs.Prelude.{max, slice_get}
use Rattle.tr_seats.proofs.SlotLemmas.{if-same}
use Rattle.tr_seats.specs.Cuts.{cut_if_due, desk_after_cut, desk_cut_answer, slot_after_cut, stream_after_cut}
use Rattle.tr_seats.specs.Desks.{DeskState}
use Rattle.tr_seats.specs.Slots.{SlotState}
use Rattle.tr_book.proofs.ChangeLemmas.{changed_at-set}
use Rattle.tr_session.specs.Session.{session_of}
use Rattle.tr_session.specs.Steps.{after_cut_if_due, cut_answer_if_due, cut_as_step, session_after_cut, session_cut_answer}
use Rattle.tr_session.specs.declared.faults.StepFault.TheVariants.{Session}
use Rattle.tr_session_book.specs.BookSteps.{cut_moment}
use Rattle.tr_session_book.specs.declared.faults.SessionFault.{SessionFault}
use Rattle.tr_session_book.specs.declared.faults.SessionFault.TheVariants.{Misplaced, NoStream}
use Rattle.tr_stream.specs.Rules.{by_state}
use Rattle.tr_stream.specs.State.{StreamState}
use Rattle.tr_stream.specs.StateSteps.{cut_done, state_after_cut, state_cut_answer}
use Rattle.tr_terms.specs.declared.session_mode.SessionMode.TheVariants.{Local}

-- an element that is written as it was
pub set-same : {X : Type 0} (i : ℕ) (xs : List X) (x : X) → slice_get xs i ≡ Some x → set xs i x ≡ xs
set-same i [] x at = refl
set-same zero (z ∷ xs) x at = let same : z ≡ x = cc in ap (λ (w : _). w ∷ xs) (sym same)
set-same (suc i) (z ∷ xs) x at = ap (λ (ys : List _). z ∷ ys) (set-same i xs x at)

local-answer : (moment : ℕ) (t : StreamState) → t.config.session ≡ Local
    → state_cut_answer moment t ≡ Ok (cut_done (max moment t.counters.last) t)
local-answer moment t local = rw local refl

module _ (i : ℕ) (desk : DeskState) (slot : SlotState) (streams : List StreamState) (here : i ≡ slot.number)
    (at : slice_get streams i ≡ Some slot.stream) where
  answer-due : (due : Result ℕ SessionFault) → cut_if_due due slot.stream ≡ cut_answer_if_due by_state due i (session_of desk.book streams)
  answer-due (Err fault) = refl
  answer-due (Ok moment) =
      ap (λ (o : Option StreamState). option_map_or (λ (t : StreamState). cut_as_step (state_cut_answer moment t)) o (Err (Session NoStream)))
      (sym at)

  after-due : (due : Result ℕ SessionFault) → slot.stream.config.session ≡ Local
      → session_of (desk_after_cut (cut_if_due due slot.stream) i desk).book (set streams i (stream_after_cut due slot.stream))
      ≡ after_cut_if_due by_state due i (session_of desk.book streams)
  after-due (Err fault) local = ap (session_of desk.book) (set-same i streams slot.stream at)
  after-due (Ok moment) local =
      let answer = local-answer moment slot.stream local in
      let changed = changed_at-set (state_after_cut moment) i streams slot.stream (state_after_cut moment slot.stream) at refl in
      (λ j. session_of (desk_after_cut (cut_as_step (answer j)) i desk).book (changed j))

  is-due : desk_cut_answer i desk slot ≡ cut_if_due (cut_moment i desk.book) slot.stream
  is-due = if-same i slot.number (cut_if_due (cut_moment i desk.book) slot.stream) (Err (Session Misplaced)) here

  pub cut-answer : desk_cut_answer i desk slot ≡ session_cut_answer by_state i (session_of desk.book streams)
  cut-answer = is-due ∙ answer-due (cut_moment i desk.book)

  pub cut-after : slot.stream.config.session ≡ Local
      → session_of (desk_after_cut (desk_cut_answer i desk slot) i desk).book (set streams i (slot_after_cut i desk slot).stream)
      ≡ session_after_cut by_state i (session_of desk.book streams)
  cut-after local =
      let cut = if-same i slot.number (record slot { stream = stream_after_cut (cut_moment i desk.book) slot.stream }) slot here in
      (λ j. session_of (desk_after_cut (is-due j) i desk).book (set streams i (cut j).stream)) ∙ after-due (cut_moment i desk.book) local
