-- If each call of a stream is noted, the stream is still what its steps lead to.
use Rattle.std.specs.Global.{Global}
use Rattle.std.proofs.Common.{◌≡◌, ℕ, Bool, true, false, List, [], ◌∷◌, ◌++◌, max, Option, Some, None, Ok, refl, sym, ap, ◌∙◌, subst}
use Rattle.std.proofs.lemmas.List.{map-append}
use Rattle.tr_book.specs.Snaps.{SnapState}
use Rattle.tr_ring.specs.ClosedBuffer.{ClosedBuffer}
use Rattle.tr_stream.proofs.ClearLemmas.{clears}
use Rattle.tr_stream.proofs.CutLemmas.{cuts, snaps}
use Rattle.tr_stream.proofs.OfferLemmas.{offers}
use Rattle.tr_stream.proofs.Refinement.{stands-switched}
use Rattle.tr_stream.proofs.ReleaseLemmas.{releases}
use Rattle.tr_stream.proofs.TakeLemmas.{takes}
use Rattle.tr_stream.specs.History.{History}
use Rattle.tr_stream.specs.Kept.{IsKept}
use Rattle.tr_stream.specs.Runs.{history_after_event, history_after_events, history_answer, history_answers}
use Rattle.tr_stream.specs.StandsFor.{StandsFor}
use Rattle.tr_stream.specs.State.{StreamState}
use Rattle.tr_stream.specs.StateSteps.{move_oldest, refusal_of, release_part_unless, state_after_clear, state_after_cut, state_after_offer, state_after_release, state_after_switch, state_after_take, state_clear_answer, state_clear_ring, state_cut_answer, state_cut_ring, state_entry, state_offer_answer, state_release_answer, state_release_refusal, state_snap, state_take_answer, state_unless}
use Rattle.tr_stream.specs.Steps.{new_history}
use Rattle.tr_stream.specs.declared.answers.OfferFault.{OfferFault}
use Rattle.tr_stream.specs.declared.answers.ReleaseFault.{ReleaseFault}
use Rattle.tr_stream.specs.declared.config.StreamConfig.{StreamConfig}
use Rattle.tr_stream.specs.declared.events.StreamAnswer.{StreamAnswer}
use Rattle.tr_stream.specs.declared.events.StreamAnswer.TheVariants as answer
use Rattle.tr_stream.specs.declared.events.StreamEvent.{StreamEvent}
use Rattle.tr_terms.specs.SessionModes.{by_session_mode}
use Rattle.tr_terms.specs.declared.session_mode.SessionMode.{SessionMode}
use Rattle.tr_terms.specs.declared.session_mode.SessionMode.TheVariants.{Local, Snapshot}
use Rattle.tr_accounts.proofs.HoldLemmas.{holds-new}
use Rattle.tr_accounts.proofs.MomentLemmas.{stores-clear, stores-cut, stores-look, stores-new, stores-offer, stores-release, stores-switch, stores-take}
use Rattle.tr_accounts.proofs.OfferedLemmas.{keeps-clear, keeps-cut, keeps-look, keeps-offer, keeps-release, keeps-switch, keeps-take}
use Rattle.tr_accounts.specs.Accounts.{IsAccounted, history_of}
use Rattle.tr_accounts.specs.Holds.{HoldsOffers}
use Rattle.tr_accounts.specs.Moments.{StoresMoments}
use Rattle.tr_accounts.specs.StreamSteps.{accepted_in, answers_in, calls_in, clear_step, cut_step, look_step, offer_step, release_step, switch_step, take_step}
use Rattle.tr_accounts.specs.declared.step.StreamStep.{StreamStep}

-- ---- what a stream was made with stays

config-unless : (s : StreamState) (e : _) (refused : Option OfferFault) → (state_unless refused e s).config ≡ s.config
config-unless s e (Some fault) = refl
config-unless s e None = refl

pub config-offer : (s : StreamState) (moment id : ℕ) (payload : List ℕ) → (state_after_offer moment id payload s).config ≡ s.config
config-offer s moment id payload = config-unless s (state_entry moment id payload s) (refusal_of _ s)

config-oldest : (s : StreamState) (waiting : List ClosedBuffer) → (move_oldest waiting s).config ≡ s.config
config-oldest s [] = refl
config-oldest s (b ∷ bs) = refl

taken-config : (m : SessionMode) (s : StreamState) → (by_session_mode m (move_oldest s.ring.waiting s) s).config ≡ s.config
taken-config Local s = config-oldest s s.ring.waiting
taken-config Snapshot s = refl

pub config-take : (s : StreamState) → (state_after_take s).config ≡ s.config
config-take s = taken-config s.config.session s

cut-config : (m : SessionMode) (s : StreamState) (end : ℕ) → (by_session_mode m (state_cut_ring end s) s).config ≡ s.config
cut-config Local s end = refl
cut-config Snapshot s end = refl

pub config-cut : (s : StreamState) (moment : ℕ) → (state_after_cut moment s).config ≡ s.config
config-cut s moment = cut-config s.config.session s (max moment s.counters.last)

clear-config : (m : SessionMode) (s : StreamState) → (by_session_mode m (state_clear_ring s) s).config ≡ s.config
clear-config Local s = refl
clear-config Snapshot s = refl

pub config-clear : (s : StreamState) → (state_after_clear s).config ≡ s.config
config-clear s = clear-config s.config.session s

release-config : (refused : Option ReleaseFault) (s : StreamState) (k : ℕ) → (release_part_unless refused k s).config ≡ s.config
release-config (Some fault) s k = refl
release-config None s k = refl

pub config-release : (s : StreamState) (k : ℕ) → (state_after_release k s).config ≡ s.config
config-release s k = release-config (state_release_refusal k s) s k

-- ---- one call more

events-push : (c : StreamConfig) (es : List (StreamEvent Global)) (e : StreamEvent Global) (h : History)
    → history_after_events c (es ++ e ∷ []) h ≡ history_after_event c e (history_after_events c es h)
events-push c [] e h = refl
events-push c (d ∷ ds) e h = events-push c ds e (history_after_event c d h)

answers-push : (c : StreamConfig) (es : List (StreamEvent Global)) (e : StreamEvent Global) (h : History)
    → history_answers c (es ++ e ∷ []) h ≡ history_answers c es h ++ history_answer c e (history_after_events c es h) ∷ []
answers-push c [] e h = refl
answers-push c (d ∷ ds) e h = ap (λ told. history_answer c d h ∷ told) (answers-push c ds e (history_after_event c d h))

abbrev history_in : List StreamStep → StreamState → History
history_in steps s = history_of s.config steps

more : (steps : List StreamStep) (s t : StreamState) (step : StreamStep) → IsAccounted steps s → t.config ≡ s.config
    → StandsFor t (history_after_event s.config step.call (history_in steps s))
    → step.answer ≡ history_answer s.config step.call (history_in steps s) → HoldsOffers (accepted_in (steps ++ step ∷ [])) t
    → StoresMoments (steps ++ step ∷ []) t → IsAccounted (steps ++ step ∷ []) t
more steps s t step was same stands told holds moments =
    let calls : calls_in (steps ++ step ∷ []) ≡ calls_in steps ++ step.call ∷ [] = map-append (λ (p : StreamStep). p.call) steps (step ∷ []) in
    let answers : answers_in (steps ++ step ∷ []) ≡ answers_in steps ++ step.answer ∷ [] = map-append (λ (p : StreamStep). p.answer) steps (step ∷ []) in
    let after : history_after_events s.config (calls_in (steps ++ step ∷ [])) new_history ≡ history_after_event s.config step.call (history_in steps s) =
    ap (λ es. history_after_events s.config es new_history) calls ∙ events-push s.config (calls_in steps) step.call new_history in
    let all : answers_in (steps ++ step ∷ []) ≡ history_answers s.config (calls_in (steps ++ step ∷ [])) new_history =
    answers ∙ ap (λ told. told ++ step.answer ∷ []) was.answered
    ∙ ap (λ (a : StreamAnswer Global). history_answers s.config (calls_in steps) new_history ++ a ∷ []) told
    ∙ sym (answers-push s.config (calls_in steps) step.call new_history)
    ∙ sym (ap (λ es. history_answers s.config es new_history) calls) in
    record {
      stands = subst (λ (c : StreamConfig). StandsFor t (history_after_events c (calls_in (steps ++ step ∷ [])) new_history)) (sym same)
          (subst (StandsFor t) (sym after) stands);
      answered = subst (λ (c : StreamConfig). answers_in (steps ++ step ∷ []) ≡ history_answers c (calls_in (steps ++ step ∷ [])) new_history) (sym same) all;
      holds = holds;
      moments = moments;
    }

-- a new stream has no step
pub accounts-new : (s : StreamState) → StandsFor s new_history → IsAccounted [] s
accounts-new s stands = record { stands = stands; answered = refl; holds = holds-new s stands; moments = stores-new s stands }

module _ (steps : List StreamStep) (s : StreamState) (was : IsAccounted steps s) where
  pub accounts-offer : (moment id : ℕ) (payload : List ℕ) → IsKept s
      → IsAccounted (steps ++ offer_step moment id payload (state_offer_answer moment id payload s) ∷ []) (state_after_offer moment id payload s)
  accounts-offer moment id payload kept =
      let step = offers s (history_in steps s) moment id payload kept.sound.made was.stands in
      more steps s _ (offer_step moment id payload (state_offer_answer moment id payload s)) was (config-offer s moment id payload) step.1 (ap answer.Offer step.0) (keeps-offer steps s was.holds moment id payload)
      (stores-offer steps s was.moments moment id payload was.holds.many)

  pub accounts-take : IsAccounted (steps ++ take_step (state_take_answer s) ∷ []) (state_after_take s)
  accounts-take =
      let step = takes s (history_in steps s) was.stands in
      more steps s _ (take_step (state_take_answer s)) was (config-take s) step.1 (ap answer.Take step.0) (keeps-take steps s was.holds)
      (stores-take steps s was.moments)

  pub accounts-cut : (moment : ℕ) → IsAccounted (steps ++ cut_step moment (state_cut_answer moment s) ∷ []) (state_after_cut moment s)
  accounts-cut moment =
      let step = cuts s (history_in steps s) moment was.stands in
      more steps s _ (cut_step moment (state_cut_answer moment s)) was (config-cut s moment) step.1 (ap answer.Cut step.0) (keeps-cut steps s was.holds moment)
      (stores-cut steps s was.moments moment)

  pub accounts-clear : IsAccounted (steps ++ clear_step (state_clear_answer s) ∷ []) (state_after_clear s)
  accounts-clear =
      let step = clears s (history_in steps s) was.stands in
      more steps s _ (clear_step (state_clear_answer s)) was (config-clear s) step.1 (ap answer.Clear step.0) (keeps-clear steps s was.holds)
      (stores-clear steps s was.moments)

  pub accounts-release : (k : ℕ) → IsAccounted (steps ++ release_step k (state_release_answer k s) ∷ []) (state_after_release k s)
  accounts-release k =
      let step = releases s (history_in steps s) k was.stands in
      more steps s _ (release_step k (state_release_answer k s)) was (config-release s k) step.1 (ap answer.Release step.0) (keeps-release steps s was.holds k)
      (stores-release steps s was.moments k)

  pub accounts-switch : (active : Bool) → IsAccounted (steps ++ switch_step active ∷ []) (state_after_switch active s)
  accounts-switch true = more steps s _ (switch_step true) was refl (stands-switched s (history_in steps s) true was.stands) refl (keeps-switch steps s was.holds true) (stores-switch steps s was.moments true)
  accounts-switch false = more steps s _ (switch_step false) was refl (stands-switched s (history_in steps s) false was.stands) refl (keeps-switch steps s was.holds false) (stores-switch steps s was.moments false)

  pub accounts-look : (moment : ℕ) → IsAccounted (steps ++ look_step moment (state_snap moment s) ∷ []) s
  accounts-look moment =
      more steps s s (look_step moment (state_snap moment s)) was refl was.stands
      (ap (λ (snap : SnapState). answer.Peek (Ok snap)) (snaps s (history_in steps s) moment was.stands))
      (keeps-look steps s was.holds moment (state_snap moment s)) (stores-look steps s was.moments moment (state_snap moment s))
