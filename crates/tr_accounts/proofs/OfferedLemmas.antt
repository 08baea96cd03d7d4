-- One step more among the steps of a stream that holds what was offered.
use Rattle.std.proofs.Common.{◌≡◌, ℕ, Bool, true, false, List, [], ◌∷◌, ◌++◌, Result, Ok, Err, refl, sym, ap, ◌∙◌, subst, append-nil}
use Rattle.std.proofs.lemmas.List.Elements.{filter_map-append}
use Rattle.tr_book.specs.Snaps.{SnapState}
use Rattle.tr_stream.specs.State.{StreamState}
use Rattle.tr_stream.specs.StateSteps.{state_after_clear, state_after_cut, state_after_offer, state_after_release, state_after_switch, state_after_take, state_clear_answer, state_cut_answer, state_offer_answer, state_release_answer, state_take_answer}
use Rattle.tr_stream.specs.declared.answers.OfferFault.{OfferFault}
use Rattle.tr_stream.specs.declared.answers.Offered.{Offered}
use Rattle.tr_accounts.proofs.HoldLemmas.{holds-accepted, holds-clear, holds-cut, holds-release, holds-switch, holds-take, offer-refused}
use Rattle.tr_accounts.specs.Holds.{HoldsOffers}
use Rattle.tr_accounts.specs.StreamSteps.{accepted_in, accepted_of, clear_step, cut_step, look_step, offer_step, release_step, switch_step, take_step}
use Rattle.tr_accounts.specs.declared.step.StreamStep.{StreamStep}

pub accepted-push : (steps : List StreamStep) (step : StreamStep) → accepted_in (steps ++ step ∷ []) ≡ accepted_in steps ++ accepted_in (step ∷ [])
accepted-push steps step = filter_map-append (λ (p : StreamStep). accepted_of p.call p.answer) steps (step ∷ [])

-- a step that is no accepted offer
pub accepted-same : (steps : List StreamStep) (step : StreamStep) → accepted_in (step ∷ []) ≡ [] → accepted_in (steps ++ step ∷ []) ≡ accepted_in steps
accepted-same steps step none = accepted-push steps step ∙ ap (λ os. accepted_in steps ++ os) none ∙ append-nil (accepted_in steps)

module _ (steps : List StreamStep) (s : StreamState) (h : HoldsOffers (accepted_in steps) s) where
  same : (t : StreamState) (step : StreamStep) → accepted_in (step ∷ []) ≡ [] → HoldsOffers (accepted_in steps) t → HoldsOffers (accepted_in (steps ++ step ∷ [])) t
  same t step none holds = subst (λ os. HoldsOffers os t) (sym (accepted-same steps step none)) holds

  offer-by : (moment id : ℕ) (payload : List ℕ) (told : Result Offered OfferFault) → state_offer_answer moment id payload s ≡ told
      → HoldsOffers (accepted_in (steps ++ offer_step moment id payload told ∷ [])) (state_after_offer moment id payload s)
  offer-by moment id payload (Ok offered) is =
      subst (λ os. HoldsOffers os (state_after_offer moment id payload s)) (sym (accepted-push steps (offer_step moment id payload (Ok offered))))
      (holds-accepted (accepted_in steps) s moment id payload offered h is)
  offer-by moment id payload (Err fault) is =
      same (state_after_offer moment id payload s) (offer_step moment id payload (Err fault)) refl
      (subst (HoldsOffers (accepted_in steps)) (sym (offer-refused s moment id payload fault is)) h)

  pub keeps-offer : (moment id : ℕ) (payload : List ℕ)
      → HoldsOffers (accepted_in (steps ++ offer_step moment id payload (state_offer_answer moment id payload s) ∷ [])) (state_after_offer moment id payload s)
  keeps-offer moment id payload = offer-by moment id payload (state_offer_answer moment id payload s) refl

  pub keeps-take : HoldsOffers (accepted_in (steps ++ take_step (state_take_answer s) ∷ [])) (state_after_take s)
  keeps-take = same _ (take_step (state_take_answer s)) refl (holds-take (accepted_in steps) s h)

  pub keeps-cut : (moment : ℕ) → HoldsOffers (accepted_in (steps ++ cut_step moment (state_cut_answer moment s) ∷ [])) (state_after_cut moment s)
  keeps-cut moment = same _ (cut_step moment (state_cut_answer moment s)) refl (holds-cut (accepted_in steps) s h moment)

  pub keeps-clear : HoldsOffers (accepted_in (steps ++ clear_step (state_clear_answer s) ∷ [])) (state_after_clear s)
  keeps-clear = same _ (clear_step (state_clear_answer s)) refl (holds-clear (accepted_in steps) s h)

  pub keeps-release : (k : ℕ) → HoldsOffers (accepted_in (steps ++ release_step k (state_release_answer k s) ∷ [])) (state_after_release k s)
  keeps-release k = same _ (release_step k (state_release_answer k s)) refl (holds-release (accepted_in steps) s k h)

  pub keeps-switch : (active : Bool) → HoldsOffers (accepted_in (steps ++ switch_step active ∷ [])) (state_after_switch active s)
  keeps-switch true = same _ (switch_step true) refl (holds-switch (accepted_in steps) s h true)
  keeps-switch false = same _ (switch_step false) refl (holds-switch (accepted_in steps) s h false)

  pub keeps-look : (moment : ℕ) (snap : SnapState) → HoldsOffers (accepted_in (steps ++ look_step moment snap ∷ [])) s
  keeps-look moment snap = same s (look_step moment snap) refl h
