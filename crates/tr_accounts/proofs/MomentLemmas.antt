-- After each of its calls a stream's records still have the moments that its steps make them.
use Rattle.std.proofs.Common.{◌≡◌, ℕ, Bool, true, false, List, [], ◌∷◌, ◌++◌, append-nil, append_assoc, length, max, Option, Some, None, Result, Ok, Err, refl, sym, ap, subst, ◌∙◌, arith}
use Rattle.std.specs.List.{AllByRecursion}
use Rattle.std.proofs.lemmas.List.Elements.{filter_map-append}
use Rattle.tr_book.specs.Counters.{CountersState}
use Rattle.tr_book.specs.Parts.{PartState}
use Rattle.tr_book.specs.Snaps.{SnapState}
use Rattle.tr_record.specs.Records.{Entry, entry}
use Rattle.tr_ring.specs.ClosedBuffer.{ClosedBuffer}
use Rattle.tr_ring.specs.Ring.{push_answer}
use Rattle.tr_ring.specs.declared.pushed.Pushed.{Pushed}
use Rattle.tr_ring.specs.declared.pushed.Pushed.TheVariants as pushed
use Rattle.tr_stream.specs.StandsFor.{StandsFor}
use Rattle.tr_stream.specs.State.{StreamState}
use Rattle.tr_stream.specs.StateSteps.{counters_after_push, cut_done, move_oldest, refusal_of, release_part_unless, state_after_clear, state_after_cut, state_after_offer, state_after_release, state_after_switch, state_after_take, state_answer_unless, state_clear_answer, state_clear_ring, state_cut_answer, state_cut_ring, state_entry, state_offer_answer, state_release_answer, state_release_refusal, state_take_answer, state_unless}
use Rattle.tr_stream.specs.Steps.{new_history}
use Rattle.tr_stream.specs.declared.answers.CutFault.TheVariants as cut_fault
use Rattle.tr_stream.specs.declared.answers.OfferFault.{OfferFault}
use Rattle.tr_stream.specs.declared.answers.Offered.{Offered}
use Rattle.tr_stream.specs.declared.answers.ReleaseFault.{ReleaseFault}
use Rattle.tr_terms.specs.SessionModes.{by_session_mode}
use Rattle.tr_terms.specs.declared.session_mode.SessionMode.{SessionMode}
use Rattle.tr_terms.specs.declared.session_mode.SessionMode.TheVariants.{Local, Snapshot}
use Rattle.tr_accounts.proofs.HoldLemmas.{AllHeld, AllInBuffers, AllInPackets, AllInParts, by_place, changed, from_places, held-clear, held-switch, held-take, held-unless, offer-refused, ring_cut}
use Rattle.tr_accounts.proofs.Lists.{all-more}
use Rattle.tr_accounts.specs.Holds.{held_records}
use Rattle.tr_accounts.specs.Moments.{IsStored, StoresMoments, given_in, given_of, greatest}
use Rattle.tr_accounts.specs.StreamSteps.{AcceptedOffer, accepted_in, clear_step, cut_step, look_step, offer_step, release_step, switch_step, take_step}
use Rattle.tr_accounts.specs.declared.step.StreamStep.{StreamStep}

greatest-push : (ms : List ℕ) (m : ℕ) → greatest (ms ++ m ∷ []) ≡ max m (greatest ms)
greatest-push [] m = refl
greatest-push (x ∷ xs) m = omega (arith, greatest-push xs m)

given-push : (steps : List StreamStep) (step : StreamStep) → given_in (steps ++ step ∷ []) ≡ given_in steps ++ given_in (step ∷ [])
given-push steps step = filter_map-append (λ (p : StreamStep). given_of p.call p.answer) steps (step ∷ [])

-- what a step more makes of the greatest moment
quiet-push : (steps : List StreamStep) (step : StreamStep) → given_in (step ∷ []) ≡ []
    → greatest (given_in (steps ++ step ∷ [])) ≡ greatest (given_in steps)
quiet-push steps step none =
    ap greatest (given-push steps step ∙ ap (λ (ms : List ℕ). given_in steps ++ ms) none ∙ append-nil (given_in steps))

some-push : (steps : List StreamStep) (step : StreamStep) (m : ℕ) → given_in (step ∷ []) ≡ m ∷ []
    → greatest (given_in (steps ++ step ∷ [])) ≡ max m (greatest (given_in steps))
some-push steps step m some =
    ap greatest (given-push steps step ∙ ap (λ (ms : List ℕ). given_in steps ++ ms) some) ∙ greatest-push (given_in steps) m

still-stored : (steps more : List StreamStep) (e : Entry) → IsStored steps e → IsStored (steps ++ more) e
still-stored steps more e h = record {
  before = h.before;
  offer = h.offer;
  after = h.after ++ more;
  among = ap (λ (l : List StreamStep). l ++ more) h.among ∙ append_assoc h.before _ more;
  is = h.is;
}

last_pushed : (p : Pushed) (m : ℕ) (b : CountersState) → (counters_after_push p m b).last ≡ m
last_pushed (pushed.Stored seq) m b = refl
last_pushed (pushed.StoredOver seq gone_seq gone_count) m b = refl
last_pushed pushed.Refused m b = refl

last-unless : (s : StreamState) (e : Entry) (refused : Option OfferFault) (answer : Offered) → state_answer_unless refused e s ≡ Ok answer
    → (state_unless refused e s).counters.last ≡ e.moment
last-unless s e (Some fault) answer is = absurd cc
last-unless s e None answer is = last_pushed (push_answer e s.ring) e.moment s.counters

last-oldest : (s : StreamState) (waiting : List ClosedBuffer) → (move_oldest waiting s).counters.last ≡ s.counters.last
last-oldest s [] = refl
last-oldest s (b ∷ bs) = refl

last-take : (m : SessionMode) (s : StreamState) → (by_session_mode m (move_oldest s.ring.waiting s) s).counters.last ≡ s.counters.last
last-take Local s = last-oldest s s.ring.waiting
last-take Snapshot s = refl

last-clear : (m : SessionMode) (s : StreamState) → (by_session_mode m (state_clear_ring s) s).counters.last ≡ s.counters.last
last-clear Local s = refl
last-clear Snapshot s = refl

module _ (steps : List StreamStep) (s : StreamState) (h : StoresMoments steps s) where
  abbrev Stored : StreamStep → Entry → Type 0
  Stored step e = IsStored (steps ++ step ∷ []) e

  still : (step : StreamStep) → AllHeld (Stored step) s
  still step =
      by_place (Stored step) s
      (all-more (IsStored steps) (Stored step) (λ e is. still-stored steps (step ∷ []) e is) (held_records s) h.held)

  -- a step that gives no moment, and one that gives this
  quiet : (t : StreamState) (step : StreamStep) → given_in (step ∷ []) ≡ [] → t.counters.last ≡ s.counters.last → AllHeld (Stored step) t
      → StoresMoments (steps ++ step ∷ []) t
  quiet t step none same held = record {
    last = same ∙ h.last ∙ sym (quiet-push steps step none);
    held = from_places (Stored step) t held;
  }

  given : (t : StreamState) (step : StreamStep) (m : ℕ) → given_in (step ∷ []) ≡ m ∷ [] → t.counters.last ≡ max m s.counters.last
      → AllHeld (Stored step) t → StoresMoments (steps ++ step ∷ []) t
  given t step m some is held = record {
    last = is ∙ ap (λ n. max m n) h.last ∙ sym (some-push steps step m some);
    held = from_places (Stored step) t held;
  }

  offer-by : (moment id : ℕ) (payload : List ℕ) (told : Result Offered OfferFault) → s.counters.offered ≡ length (accepted_in steps)
      → state_offer_answer moment id payload s ≡ told
      → StoresMoments (steps ++ offer_step moment id payload told ∷ []) (state_after_offer moment id payload s)
  offer-by moment id payload (Ok offered) many is =
      let step = offer_step moment id payload (Ok offered) in
      let o : AcceptedOffer = record { moment = moment; id = id; payload = payload; answer = offered } in
      let e : Entry = state_entry moment id payload s in
      let refused = refusal_of (length payload) s in
      let raised : max moment s.counters.last ≡ greatest (given_in (steps ++ step ∷ [])) =
      ap (λ n. max moment n) h.last ∙ sym (some-push steps step moment refl) in
      let new : Stored step e = record {
        before = steps;
        offer = o;
        after = [];
        among = refl;
        is = λ j. entry (many j) (raised j) id payload;
      } in
      given (state_after_offer moment id payload s) step moment refl (last-unless s e refused offered is)
      (held-unless (Stored step) s e refused new (still step))
  offer-by moment id payload (Err fault) many is =
      let step = offer_step moment id payload (Err fault) in
      let same = offer-refused s moment id payload fault is in
      quiet (state_after_offer moment id payload s) step refl (ap (λ (t : StreamState). t.counters.last) same)
      (subst (AllHeld (Stored step)) (sym same) (still step))

  pub stores-offer : (moment id : ℕ) (payload : List ℕ) → s.counters.offered ≡ length (accepted_in steps)
      → StoresMoments (steps ++ offer_step moment id payload (state_offer_answer moment id payload s) ∷ []) (state_after_offer moment id payload s)
  stores-offer moment id payload many = offer-by moment id payload (state_offer_answer moment id payload s) many refl

  pub stores-take : StoresMoments (steps ++ take_step (state_take_answer s) ∷ []) (state_after_take s)
  stores-take =
      let step = take_step (state_take_answer s) in
      quiet (state_after_take s) step refl (last-take s.config.session s) (held-take (Stored step) s (still step))

  cut_in : (m : SessionMode) (moment : ℕ)
      → StoresMoments (steps ++ cut_step moment (by_session_mode m (Ok (cut_done (max moment s.counters.last) s)) (Err cut_fault.SnapshotMode)) ∷ [])
      (by_session_mode m (state_cut_ring (max moment s.counters.last) s) s)
  cut_in Local moment =
      let end = max moment s.counters.last in
      let step = cut_step moment (Ok (cut_done end s)) in
      given (state_cut_ring end s) step moment refl refl (ring_cut (Stored step) s end (still step))
  cut_in Snapshot moment =
      let step = cut_step moment (Err cut_fault.SnapshotMode) in
      quiet s step refl refl (still step)

  pub stores-cut : (moment : ℕ) → StoresMoments (steps ++ cut_step moment (state_cut_answer moment s) ∷ []) (state_after_cut moment s)
  stores-cut moment = cut_in s.config.session moment

  pub stores-clear : StoresMoments (steps ++ clear_step (state_clear_answer s) ∷ []) (state_after_clear s)
  stores-clear =
      let step = clear_step (state_clear_answer s) in
      quiet (state_after_clear s) step refl (last-clear s.config.session s) (held-clear (Stored step) s (still step))

  released : (step : StreamStep) (refused : Option ReleaseFault) (k : ℕ) → given_in (step ∷ []) ≡ []
      → StoresMoments (steps ++ step ∷ []) (release_part_unless refused k s)
  released step (Some fault) k none = quiet s step none refl (still step)
  released step None k none =
      let places = still step in
      quiet (release_part_unless None k s) step none refl
      (record { waiting = places.waiting; current = places.current; closed = changed (Stored step) s.parts.closed k places.closed; part = places.part })

  pub stores-release : (k : ℕ) → StoresMoments (steps ++ release_step k (state_release_answer k s) ∷ []) (state_after_release k s)
  stores-release k = released (release_step k (state_release_answer k s)) (state_release_refusal k s) k refl

  pub stores-switch : (active : Bool) → StoresMoments (steps ++ switch_step active ∷ []) (state_after_switch active s)
  stores-switch true =
      let step = switch_step true in
      quiet (state_after_switch true s) step refl refl (held-switch (Stored step) s true (still step))
  stores-switch false =
      let step = switch_step false in
      quiet (state_after_switch false s) step refl refl (held-switch (Stored step) s false (still step))

  pub stores-look : (moment : ℕ) (snap : SnapState) → StoresMoments (steps ++ look_step moment snap ∷ []) s
  stores-look moment snap =
      let step = look_step moment snap in
      quiet s step refl refl (still step)

-- a new stream has stored no moment
pub stores-new : (s : StreamState) → StandsFor s new_history → StoresMoments [] s
stores-new s h = record {
  last = h.last;
  held = from_places (IsStored []) s (record {
    waiting = subst (λ (bs : List ClosedBuffer). AllInBuffers (IsStored []) bs) (sym h.waiting) tt;
    current = subst (λ (es : List Entry). AllByRecursion (IsStored []) es) (sym h.filling) tt;
    closed = subst (λ (ps : List PartState). AllInParts (IsStored []) ps) (sym h.closed) tt;
    part = subst (λ (p : PartState). AllInPackets (IsStored []) p.packets) (sym h.current) tt;
  });
}
