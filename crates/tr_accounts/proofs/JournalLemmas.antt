-- If each call of a stream is noted in its journal, the journal is still the stream's.
use Rattle.std.proofs.Common.{◌≡◌, ◌<◌, ℕ, Bool, true, false, List, [], ◌∷◌, ◌++◌, Result, sym, subst}
use Rattle.std.proofs.lemmas.List.{map-append}
use Rattle.tr_accounts.proofs.AccountLemmas.{accounts-clear, accounts-cut, accounts-look, accounts-new, accounts-offer, accounts-switch, accounts-take}
use Rattle.tr_accounts.proofs.SeatLemmas.{accepted-theirs, theirs-push}
use Rattle.tr_accounts.specs.Accounts.{IsAccounted}
use Rattle.tr_accounts.specs.Holds.{HoldsOffers}
use Rattle.tr_accounts.specs.Seats.{HasRole, IsJournalOf, desk_seat, producer_seat, role_of}
use Rattle.tr_accounts.specs.StreamSteps.{accepted_in, clear_step, cut_step, look_step, offer_step, switch_step, take_step}
use Rattle.tr_accounts.specs.declared.step.StreamStep.{StreamStep}
use Rattle.tr_book.specs.Snaps.{SnapState}
use Rattle.tr_journal.specs.Journals.{JournalState, journal_after}
use Rattle.tr_journal.specs.Views.{all_done, done_by, line}
use Rattle.tr_journal.specs.declared.rule.Line.{Line}
use Rattle.tr_stream.specs.Kept.{IsKept}
use Rattle.tr_stream.specs.StandsFor.{StandsFor}
use Rattle.tr_stream.specs.State.{StreamState}
use Rattle.tr_stream.specs.StateSteps.{state_after_clear, state_after_cut, state_after_offer, state_after_switch, state_after_take, state_clear_answer, state_cut_answer, state_offer_answer, state_snap, state_take_answer}
use Rattle.tr_stream.specs.Steps.{new_history}
use Rattle.tr_stream.specs.declared.answers.ClearFault.{ClearFault}
use Rattle.tr_stream.specs.declared.answers.Cleared.{Cleared}
use Rattle.tr_stream.specs.declared.answers.CutDone.{CutDone}
use Rattle.tr_stream.specs.declared.answers.CutFault.{CutFault}
use Rattle.tr_stream.specs.declared.answers.OfferFault.{OfferFault}
use Rattle.tr_stream.specs.declared.answers.Offered.{Offered}
use Rattle.tr_stream.specs.declared.answers.TakeFault.{TakeFault}
use Rattle.tr_stream.specs.declared.answers.Taken.{Taken}

pub all_done-push : (lines : List (Line StreamStep)) (who : ℕ) (step : StreamStep) → all_done (lines ++ line who step ∷ []) ≡ all_done lines ++ step ∷ []
all_done-push lines who step = map-append (λ (l : Line StreamStep). l.done) lines (line who step ∷ [])

pub journal-new : (s : StreamState) → StandsFor s new_history → IsJournalOf [] s
journal-new s stands = record { accounted = accounts-new s stands; theirs = tt }

-- what the stream holds is what the producer's seat noted
pub journal-holds : (lines : List (Line StreamStep)) (s : StreamState) → IsJournalOf lines s → HoldsOffers (accepted_in (done_by producer_seat lines)) s
journal-holds lines s was = subst (λ os. HoldsOffers os s) (accepted-theirs lines was.theirs) was.accounted.holds

module _ (lines : List (Line StreamStep)) (s : StreamState) (was : IsJournalOf lines s) where
  more : (t : StreamState) (who : ℕ) (step : StreamStep) → HasRole (role_of step.call) who → IsAccounted (all_done lines ++ step ∷ []) t
      → IsJournalOf (lines ++ line who step ∷ []) t
  more t who step role is = record {
    accounted = subst (λ steps. IsAccounted steps t) (sym (all_done-push lines who step)) is;
    theirs = theirs-push lines who step was.theirs role;
  }

  pub journal-offer : (who moment id : ℕ) (payload : List ℕ) (told : Result Offered OfferFault) → who ≡ producer_seat → IsKept s → told ≡ state_offer_answer moment id payload s
      → IsJournalOf (lines ++ line who (offer_step moment id payload told) ∷ []) (state_after_offer moment id payload s)
  journal-offer who moment id payload told mine kept is =
      more _ who (offer_step moment id payload told) mine
      (subst (λ r. IsAccounted (all_done lines ++ offer_step moment id payload r ∷ []) (state_after_offer moment id payload s)) (sym is)
      (accounts-offer (all_done lines) s was.accounted moment id payload kept))

  pub journal-take : (who : ℕ) (told : Result Taken TakeFault) → desk_seat < who → told ≡ state_take_answer s
      → IsJournalOf (lines ++ line who (take_step told) ∷ []) (state_after_take s)
  journal-take who told drainer is =
      more _ who (take_step told) drainer
      (subst (λ r. IsAccounted (all_done lines ++ take_step r ∷ []) (state_after_take s)) (sym is) (accounts-take (all_done lines) s was.accounted))

  pub journal-cut : (who moment : ℕ) (told : Result CutDone CutFault) → who ≡ desk_seat → told ≡ state_cut_answer moment s
      → IsJournalOf (lines ++ line who (cut_step moment told) ∷ []) (state_after_cut moment s)
  journal-cut who moment told mine is =
      more _ who (cut_step moment told) mine
      (subst (λ r. IsAccounted (all_done lines ++ cut_step moment r ∷ []) (state_after_cut moment s)) (sym is)
      (accounts-cut (all_done lines) s was.accounted moment))

  pub journal-clear : (who : ℕ) (told : Result Cleared ClearFault) → who ≡ desk_seat → told ≡ state_clear_answer s
      → IsJournalOf (lines ++ line who (clear_step told) ∷ []) (state_after_clear s)
  journal-clear who told mine is =
      more _ who (clear_step told) mine
      (subst (λ r. IsAccounted (all_done lines ++ clear_step r ∷ []) (state_after_clear s)) (sym is) (accounts-clear (all_done lines) s was.accounted))

  pub journal-switch : (who : ℕ) (active : Bool) → who ≡ desk_seat → IsJournalOf (lines ++ line who (switch_step active) ∷ []) (state_after_switch active s)
  journal-switch who true mine = more _ who (switch_step true) mine (accounts-switch (all_done lines) s was.accounted true)
  journal-switch who false mine = more _ who (switch_step false) mine (accounts-switch (all_done lines) s was.accounted false)

  pub journal-look : (who moment : ℕ) (snap : SnapState) → who ≡ desk_seat → snap ≡ state_snap moment s
      → IsJournalOf (lines ++ line who (look_step moment snap) ∷ []) s
  journal-look who moment snap mine is =
      more _ who (look_step moment snap) mine
      (subst (λ r. IsAccounted (all_done lines ++ look_step moment r ∷ []) s) (sym is) (accounts-look (all_done lines) s was.accounted moment))

-- a note made the journal what it is now, and a call the stream
pub journal-moved : (before after : JournalState StreamStep) (who : ℕ) (step : StreamStep) (s t : StreamState) → after ≡ journal_after who step before
    → s ≡ t → IsJournalOf (before.lines ++ line who step ∷ []) t → IsJournalOf after.lines s
journal-moved before after who step s t is same h =
    subst (λ (j : JournalState StreamStep). IsJournalOf j.lines s) (sym is) (subst (IsJournalOf (before.lines ++ line who step ∷ [])) (sym same) h)
