-- A stream that stands for a history continues to do so, and answers as the history does.
use Rattle.std.proofs.Common.{◌≡◌, ℕ, ◌+◌, ◌≤◌, max, Bool, true, false, cond, List, [], ◌∷◌, length, Option, Some, None, refl, sym, ◌∙◌, ap, subst, arith}
use Rattle.std.proofs.lemmas.Bool.Decides.{nat_tests}
use Rattle.std.specs.Prelude.{nat_lt}
use Rattle.tr_record.specs.Records.{Entry}
use Rattle.tr_ring.specs.ClosedBuffer.{ClosedBuffer}
use Rattle.tr_ring.specs.Ring.{RingState, current_buffer, after_push, join_current, follow_current, discard_newest, drop_front}
use Rattle.tr_stream.proofs.ClearLemmas.{clears, stands-clear}
use Rattle.tr_stream.proofs.CutLemmas.{cuts, snaps, stands-cut}
use Rattle.tr_stream.proofs.FateLemmas.{fates}
use Rattle.tr_stream.proofs.KeptLemmas.{overwrites-is, overwrites-not}
use Rattle.tr_stream.proofs.OfferLemmas.{offers, joins, follows, discards, replaces}
use Rattle.tr_stream.proofs.PartLemmas.{part-is}
use Rattle.tr_stream.proofs.Refinement.{stands-switched}
use Rattle.tr_stream.proofs.SoundLemmas.{losses-discarded, losses-without_oldest}
use Rattle.tr_stream.proofs.TakeLemmas.{starts, taken, takes, counts-are}
use Rattle.tr_stream.specs.Chunks.{origin_of, part_in}
use Rattle.tr_stream.specs.Rules.{Traced, Agrees, by_state, by_history}
use Rattle.tr_stream.specs.Sound.{IsMade, LosesByMode}
use Rattle.tr_stream.specs.StandsFor.{StandsFor}
use Rattle.tr_stream.specs.State.{StreamState}
use Rattle.tr_stream.specs.StateSteps.{state_entry, refusal_of, state_unless, state_after_offer, move_oldest, state_cut_ring, state_clear_ring, overwrites, state_with_offer, state_release_refusal, release_part_unless}
use Rattle.tr_stream.specs.Steps.{history_after_offer, keep_oldest, history_after_take, history_cut_ring, history_after_cut, history_clear_ring, history_after_clear, history_after_release}
use Rattle.tr_stream.specs.declared.answers.OfferFault.{OfferFault}
use Rattle.tr_terms.specs.declared.session_mode.SessionMode.{SessionMode}
use Rattle.tr_terms.specs.declared.session_mode.SessionMode.TheVariants.{Local, Snapshot}
use Rattle.tr_stream.specs.declared.config.StreamConfig.{StreamConfig}
use Rattle.tr_subbuf.specs.SubBuffer.{has_room}
use Rattle.tr_terms.specs.SessionModes.{by_session_mode}
use Rattle.tr_terms.specs.declared.limits.TheConstants.{SMALLEST_SUB_BUFFER}
use Rattle.tr_stream.proofs.ReleaseLemmas.{releases}
use Rattle.tr_stream.specs.declared.answers.ReleaseFault.{ReleaseFault}
use Rattle.tr_stream.specs.History.{History}

-- a push leaves the ring as it was made
chosen : {X : Type 0} (f : RingState → X) (x : X) (room free over : Bool) (a b c d : RingState) → f a ≡ x → f b ≡ x
    → f c ≡ x → f d ≡ x → f (cond room a (cond free b (cond over c d))) ≡ x
chosen f x true free over a b c d p q r s = p
chosen f x false true over a b c d p q r s = q
chosen f x false false true a b c d p q r s = r
chosen f x false false false a b c d p q r s = s

made-pushed : (c : StreamConfig) (e : Entry) (r : RingState) → IsMade c r → IsMade c (after_push e r)
made-pushed c e r is =
    let room = has_room (current_buffer r) (length e.payload) in
    let free = nat_lt (length r.waiting + 1) r.count in
    record {
      size = chosen (λ (q : RingState). q.size) c.geometry.size room free r.overwrite (join_current e r)
          (follow_current e r) (follow_current e (drop_front r)) (discard_newest r) is.size is.size is.size is.size;
      count = chosen (λ (q : RingState). q.count) c.geometry.count room free r.overwrite (join_current e r)
          (follow_current e r) (follow_current e (drop_front r)) (discard_newest r) is.count is.count is.count is.count;
      mode = chosen (λ (q : RingState). q.overwrite) (overwrites c.mode) room free r.overwrite (join_current e r)
          (follow_current e r) (follow_current e (drop_front r)) (discard_newest r) is.mode is.mode is.mode is.mode;
      origin = chosen (λ (q : RingState). q.origin) (origin_of c) room free r.overwrite (join_current e r)
          (follow_current e r) (follow_current e (drop_front r)) (discard_newest r) is.origin is.origin is.origin is.origin;
      size_low = is.size_low;
      count_low = is.count_low;
    }

made-unless : (s : StreamState) (e : Entry) (refusal : Option OfferFault) → IsMade s.config s.ring
    → IsMade (state_unless refusal e s).config (state_unless refusal e s).ring
made-unless s e (Some fault) is = is
made-unless s e None is = made-pushed s.config e s.ring is

config-unless : (s : StreamState) (e : Entry) (refusal : Option OfferFault) → (state_unless refusal e s).config ≡ s.config
config-unless s e (Some fault) = refl
config-unless s e None = refl

-- an offer loses records as the mode says
losses-pushed : (s : StreamState) (e : Entry) (room free over : Bool) (waiting : List ClosedBuffer)
    → has_room (current_buffer s.ring) (length e.payload) ≡ room → nat_lt (length s.ring.waiting + 1) s.ring.count ≡ free
    → s.ring.overwrite ≡ over → s.ring.waiting ≡ waiting → IsMade s.config s.ring → LosesByMode s
    → LosesByMode (state_with_offer e s)
losses-pushed s e true free over waiting r f o w made is =
    subst (λ (t : StreamState). LosesByMode t) (sym (joins e s r))
    (record { discarding = is.discarding; overwriting = is.overwriting })
losses-pushed s e false true over waiting r f o w made is =
    subst (λ (t : StreamState). LosesByMode t) (sym (follows e s r f))
    (record { discarding = is.discarding; overwriting = is.overwriting })
losses-pushed s e false false false waiting r f o w made is =
    subst (λ (t : StreamState). LosesByMode t) (sym (discards e s r f o))
    (losses-discarded s e.moment (overwrites-not s.config.mode (sym made.mode ∙ o)) is)
losses-pushed s e false false true [] r f o w made is =
    let none : length s.ring.waiting ≡ 0 = ap length w in
    absurd (grind (arith, nat_tests, none, f, made.count, made.count_low))
losses-pushed s e false false true (b ∷ bs) r f o w made is =
    let t = losses-without_oldest s (overwrites-is s.config.mode (sym made.mode ∙ o)) is in
    subst (λ (t : StreamState). LosesByMode t) (sym (replaces e s r f o b bs w)) (record { discarding = t.discarding; overwriting = t.overwriting })

losses-unless : (s : StreamState) (e : Entry) (refusal : Option OfferFault) → IsMade s.config s.ring → LosesByMode s
    → LosesByMode (state_unless refusal e s)
losses-unless s e (Some fault) made is = is
losses-unless s e None made is =
    losses-pushed s e (has_room (current_buffer s.ring) (length e.payload))
    (nat_lt (length s.ring.waiting + 1) s.ring.count) s.ring.overwrite s.ring.waiting refl refl refl refl made is

-- a new stream, and a history that begins
pub agree-made : (c : StreamConfig) → SMALLEST_SUB_BUFFER ≤ c.geometry.size → 2 ≤ c.geometry.count → Agrees (by_state.new c) (by_history.new c)
agree-made c size count = record {
  config = refl;
  made = record { size = refl; count = refl; mode = refl; origin = refl; size_low = size; count_low = count };
  losses = record { discarding = λ e. (refl, refl); overwriting = λ e. refl };
  stands = starts c;
}

-- an offer
pub same-offered : (s : StreamState) (t : Traced) (moment id : ℕ) (payload : List ℕ) → Agrees s t
    → by_state.offer_answer moment id payload s ≡ by_history.offer_answer moment id payload t
same-offered s t moment id payload is = rw (← is.config) ((offers s t.history moment id payload is.made is.stands).0)

pub agree-offered : (s : StreamState) (t : Traced) (moment id : ℕ) (payload : List ℕ) → Agrees s t
    → Agrees (by_state.after_offer moment id payload s) (by_history.after_offer moment id payload t)
agree-offered s t moment id payload is =
    let e = state_entry moment id payload s in
    let refusal = refusal_of (length payload) s in
    record {
      config = config-unless s e refusal ∙ is.config;
      made = made-unless s e refusal is.made;
      losses = losses-unless s e refusal is.made is.losses;
      stands = subst (λ (c : StreamConfig). StandsFor (state_after_offer moment id payload s)
          (history_after_offer c moment id payload t.history)) is.config
          (offers s t.history moment id payload is.made is.stands).1;
    }

-- a take
pub same-taken : (s : StreamState) (t : Traced) → Agrees s t → by_state.take_answer s ≡ by_history.take_answer t
same-taken s t is = rw (← is.config) ((takes s t.history is.stands).0)

made-oldest : (s : StreamState) (waiting : List ClosedBuffer) → IsMade s.config s.ring
    → IsMade (move_oldest waiting s).config (move_oldest waiting s).ring
made-oldest s [] is = is
made-oldest s (b ∷ bs) is = record { size = is.size; count = is.count; mode = is.mode; origin = is.origin; size_low = is.size_low; count_low = is.count_low }

losses-oldest : (s : StreamState) (waiting : List ClosedBuffer) → LosesByMode s → LosesByMode (move_oldest waiting s)
losses-oldest s [] is = is
losses-oldest s (b ∷ bs) is = record { discarding = is.discarding; overwriting = is.overwriting }

config-oldest : (s : StreamState) (waiting : List ClosedBuffer) → (move_oldest waiting s).config ≡ s.config
config-oldest s [] = refl
config-oldest s (b ∷ bs) = refl

agree-oldest : (m : SessionMode) (s : StreamState) (t : Traced) → Agrees s t
    → Agrees (by_session_mode m (move_oldest s.ring.waiting s) s)
    (record t { history = by_session_mode m (keep_oldest t.history) t.history })
agree-oldest Local s t is = record {
  config = config-oldest s s.ring.waiting ∙ is.config;
  made = made-oldest s s.ring.waiting is.made;
  losses = losses-oldest s s.ring.waiting is.losses;
  stands = taken s t.history s.ring.waiting refl is.stands;
}
agree-oldest Snapshot s t is = record { config = is.config; made = is.made; losses = is.losses; stands = is.stands }

pub agree-taken : (s : StreamState) (t : Traced) → Agrees s t → Agrees (by_state.after_take s) (by_history.after_take t)
agree-taken s t is = subst (λ (c : StreamConfig). Agrees (by_state.after_take s)
    (record t { history = history_after_take c t.history })) is.config (agree-oldest s.config.session s t is)

-- a cut
pub same-cut : (s : StreamState) (t : Traced) (moment : ℕ) → Agrees s t → by_state.cut_answer moment s ≡ by_history.cut_answer moment t
same-cut s t moment is = rw (← is.config) ((cuts s t.history moment is.stands).0)

agree-cut_ring : (m : SessionMode) (s : StreamState) (t : Traced) (moment : ℕ) → Agrees s t
    → Agrees (by_session_mode m (state_cut_ring (max moment s.counters.last) s) s)
    (record t { history = by_session_mode m (history_cut_ring (max moment t.history.last) t.history) t.history })
agree-cut_ring Snapshot s t moment is = record { config = is.config; made = is.made; losses = is.losses; stands = is.stands }
agree-cut_ring Local s t moment is = record {
  config = is.config;
  made = record { size = is.made.size; count = is.made.count; mode = is.made.mode; origin = is.made.origin; size_low = is.made.size_low; count_low = is.made.count_low };
  losses = record { discarding = is.losses.discarding; overwriting = is.losses.overwriting };
  stands = rw (ap (max moment) is.stands.last) (stands-cut s t.history (max moment t.history.last) is.stands);
}

pub agree-cut : (s : StreamState) (t : Traced) (moment : ℕ) → Agrees s t → Agrees (by_state.after_cut moment s) (by_history.after_cut moment t)
agree-cut s t moment is = subst (λ (c : StreamConfig). Agrees (by_state.after_cut moment s)
    (record t { history = history_after_cut c moment t.history })) is.config (agree-cut_ring s.config.session s t moment is)

-- a clear
pub same-cleared : (s : StreamState) (t : Traced) → Agrees s t → by_state.clear_answer s ≡ by_history.clear_answer t
same-cleared s t is = rw (← is.config) ((clears s t.history is.stands).0)

agree-clear_ring : (m : SessionMode) (s : StreamState) (t : Traced) → Agrees s t
    → Agrees (by_session_mode m (state_clear_ring s) s) (record t { history = by_session_mode m (history_clear_ring t.history) t.history })
agree-clear_ring Snapshot s t is = record { config = is.config; made = is.made; losses = is.losses; stands = is.stands }
agree-clear_ring Local s t is = record {
  config = is.config;
  made = record { size = is.made.size; count = is.made.count; mode = is.made.mode; origin = is.made.origin; size_low = is.made.size_low; count_low = is.made.count_low };
  losses = record { discarding = is.losses.discarding; overwriting = is.losses.overwriting };
  stands = stands-clear s t.history is.stands;
}

pub agree-cleared : (s : StreamState) (t : Traced) → Agrees s t → Agrees (by_state.after_clear s) (by_history.after_clear t)
agree-cleared s t is = subst (λ (c : StreamConfig). Agrees (by_state.after_clear s)
    (record t { history = history_after_clear c t.history })) is.config (agree-clear_ring s.config.session s t is)

-- a release
pub same-released : (s : StreamState) (t : Traced) (k : ℕ) → Agrees s t → by_state.release_answer k s ≡ by_history.release_answer k t
same-released s t k is = rw (← is.config) ((releases s t.history k is.stands).0)

agree-part : (refusal : Option ReleaseFault) (s : StreamState) (t : Traced) (k : ℕ) (g : History) → Agrees s t
    → StandsFor (release_part_unless refusal k s) g → Agrees (release_part_unless refusal k s) (record t { history = g })
agree-part (Some fault) s t k g is stands =
    record { config = is.config; made = is.made; losses = is.losses; stands = stands }
agree-part None s t k g is stands = record {
  config = is.config;
  made = record { size = is.made.size; count = is.made.count; mode = is.made.mode; origin = is.made.origin; size_low = is.made.size_low; count_low = is.made.count_low };
  losses = record { discarding = is.losses.discarding; overwriting = is.losses.overwriting };
  stands = stands;
}

pub agree-released : (s : StreamState) (t : Traced) (k : ℕ) → Agrees s t → Agrees (by_state.after_release k s) (by_history.after_release k t)
agree-released s t k is =
    agree-part (state_release_refusal k s) s t k (history_after_release k t.history) is (releases s t.history k is.stands).1

-- a peek
pub same-snapped : (s : StreamState) (t : Traced) (moment : ℕ) → Agrees s t → by_state.snap moment s ≡ by_history.snap moment t
same-snapped s t moment is = rw (← is.config) (snaps s t.history moment is.stands)

-- a start or a stop
pub agree-turned : (s : StreamState) (t : Traced) (active : Bool) → Agrees s t
    → Agrees (by_state.after_switch active s) (by_history.after_switch active t)
agree-turned s t active is =
    record {
      config = is.config;
      made = is.made;
      losses = record { discarding = is.losses.discarding; overwriting = is.losses.overwriting };
      stands = stands-switched s t.history active is.stands;
    }

-- the counts
pub same-counted : (s : StreamState) (t : Traced) → Agrees s t → by_state.counts s ≡ by_history.counts t
same-counted s t is = rw (← is.config) (counts-are s t.history is.stands)

-- a fate
pub same-fated : (s : StreamState) (t : Traced) (n : ℕ) → Agrees s t → by_state.fate n s ≡ by_history.fate n t
same-fated s t n is = fates s t.history n is.stands is.losses

-- a part
pub same-parted : (s : StreamState) (t : Traced) (k : ℕ) → Agrees s t → by_state.part k s ≡ by_history.part k t
same-parted s t k is = part-is s t.history k is.stands ∙ ap (λ (c : StreamConfig). part_in c k t.history) is.config
