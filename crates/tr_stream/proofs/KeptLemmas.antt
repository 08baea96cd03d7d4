-- Each call leaves a stream sound, with a history that led to it.
use Rattle.std.proofs.Common.{◌≡◌, ℕ, ◌+◌, ◌^◌, ◌≤◌, ◌<◌, Bool, true, false, List, [], ◌∷◌, length, Option, Some, None, refl, sym, ◌∙◌, ap, subst, arith}
use Rattle.std.proofs.lemmas.Bool.Decides.{nat_tests}
use Rattle.std.proofs.lemmas.Grind.{common_steps}
use Rattle.std.specs.Prelude.{nat_lt}
use Rattle.tr_terms.specs.declared.mode.Mode.{Mode}
use Rattle.tr_terms.specs.declared.mode.Mode.TheVariants.{Discard, Overwrite}
use Rattle.tr_terms.specs.declared.limits.TheConstants.{LAST_MOMENT, SMALLEST_SUB_BUFFER}
use Rattle.tr_ring.specs.Ring.{current_buffer}
use Rattle.tr_ring.specs.ClosedBuffer.{ClosedBuffer}
use Rattle.tr_stream.proofs.ClearLemmas.{stands-clear}
use Rattle.tr_stream.proofs.CutLemmas.{stands-cut}
use Rattle.tr_stream.proofs.OfferLemmas.{IsAccepted, accepted, not_empty, joins, follows, discards, replaces, offers}
use Rattle.tr_stream.proofs.OpenLemmas.{open-none}
use Rattle.tr_stream.proofs.PlacedLemmas.{nothing-in, placed-clear_ring, placed-cut_ring, placed-offered, placed-oldest}
use Rattle.tr_stream.proofs.Refinement.{without_oldest, stands-switched}
use Rattle.tr_stream.proofs.SoundLemmas.{sound-clear, sound-cut, IsNext, sound-joined, sound-discarded, sound-followed, sound-without_oldest, sound-moved, sound-switched}
use Rattle.tr_stream.proofs.TakeLemmas.{starts, taken}
use Rattle.tr_stream.specs.Kept.{IsKept}
use Rattle.tr_stream.specs.Sound.{IsSound, IsConfig}
use Rattle.tr_stream.specs.State.{StreamState}
use Rattle.tr_stream.specs.StateSteps.{state_clear_ring, state_cut_ring, state_entry, refusal_of, state_unless, state_with_offer, state_after_offer, move_oldest, state_after_switch, new_state, overwrites}
use Rattle.tr_stream.specs.Steps.{history_clear_ring, history_cut_ring, history_after_offer, keep_oldest, new_history, history_after_switch}
use Rattle.tr_stream.specs.declared.answers.OfferFault.{OfferFault}
use Rattle.tr_terms.specs.declared.session_mode.SessionMode.TheVariants.{Local}
use Rattle.tr_stream.specs.declared.config.StreamConfig.{StreamConfig}
use Rattle.tr_subbuf.specs.SubBuffer.{has_room}

pub overwrites-is : (m : Mode) → overwrites m ≡ true → m ≡ Overwrite
overwrites-is Discard e = cc
overwrites-is Overwrite e = refl

pub overwrites-not : (m : Mode) → overwrites m ≡ false → m ≡ Discard
overwrites-not Discard e = refl
overwrites-not Overwrite e = cc

-- what an offer brings
pub record IsOffer (moment id : ℕ) (payload : List ℕ) : Type 0 where
  pub moment_in : moment ≤ LAST_MOMENT
  pub id_in : id < 2 ^ 32

entered-is_next : (s : StreamState) (moment id : ℕ) (payload : List ℕ) → IsOffer moment id payload → IsSound s
    → IsAccepted s (length payload) → IsNext s (state_entry moment id payload s)
entered-is_next s moment id payload offer is ok = record {
  left = ok.left;
  fits = record {
    serial = omega (arith, ok.left);
    moment = omega (arith, offer.moment_in, is.in_time);
    id = offer.id_in;
    payload = omega (arith, ok.small, is.config.size_high);
  };
  serial = refl;
  moment = omega arith;
}

-- an accepted offer, by the cases of the push
sound-offered : (s : StreamState) (moment id : ℕ) (payload : List ℕ) (room free over : Bool) (waiting : List ClosedBuffer)
    → IsOffer moment id payload → IsSound s → IsAccepted s (length payload)
    → has_room (current_buffer s.ring) (length payload) ≡ room → nat_lt (length s.ring.waiting + 1) s.ring.count ≡ free
    → s.ring.overwrite ≡ over → s.ring.waiting ≡ waiting → IsSound (state_with_offer (state_entry moment id payload s) s)
sound-offered s moment id payload true free over waiting offer is ok room_is free_is over_is waiting_is =
    let e = state_entry moment id payload s in
    subst (λ (t : StreamState). IsSound t) (sym (joins e s room_is))
    (sound-joined s e is (entered-is_next s moment id payload offer is ok) (grind (arith, nat_tests, room_is, is.made.size)))
sound-offered s moment id payload false true over waiting offer is ok room_is free_is over_is waiting_is =
    let e = state_entry moment id payload s in
    subst (λ (t : StreamState). IsSound t) (sym (follows e s room_is free_is))
    (sound-followed s e is (entered-is_next s moment id payload offer is ok)
    (not_empty s (length payload) is.made ok.small room_is) (omega (arith, ok.small, is.made.size_low))
    (grind (arith, nat_tests, free_is, is.made.count)))
sound-offered s moment id payload false false false waiting offer is ok room_is free_is over_is waiting_is =
    let e = state_entry moment id payload s in
    let next = entered-is_next s moment id payload offer is ok in
    subst (λ (t : StreamState). IsSound t) (sym (discards e s room_is free_is over_is))
    (sound-discarded s e.moment is ok.left next.moment next.fits.moment (overwrites-not s.config.mode (sym is.made.mode ∙ over_is)))
sound-offered s moment id payload false false true [] offer is ok room_is free_is over_is waiting_is =
    let none : length s.ring.waiting ≡ 0 = ap length waiting_is in
    absurd (grind (arith, nat_tests, none, free_is, is.made.count, is.made.count_low))
sound-offered s moment id payload false false true (b ∷ bs) offer is ok room_is free_is over_is waiting_is =
    let e = state_entry moment id payload s in
    let next = entered-is_next s moment id payload offer is ok in
    let some : 0 < length s.ring.waiting = rw waiting_is (grind (arith, common_steps)) in
    let without = sound-without_oldest s is some (overwrites-is s.config.mode (sym is.made.mode ∙ over_is)) in
    let less : length (without_oldest s).ring.waiting + 1 ≡ length s.ring.waiting = rw waiting_is (grind (arith, common_steps)) in
    subst (λ (t : StreamState). IsSound t) (sym (replaces e s room_is free_is over_is b bs waiting_is))
    (sound-followed (without_oldest s) e without (record { left = next.left; fits = next.fits; serial = next.serial; moment = next.moment })
    (not_empty s (length payload) is.made ok.small room_is) (omega (arith, ok.small, is.made.size_low)) (omega (arith, less, is.room)))

sound-unless : (s : StreamState) (moment id : ℕ) (payload : List ℕ) (refusal : Option OfferFault)
    → refusal_of (length payload) s ≡ refusal → IsOffer moment id payload → IsSound s
    → IsSound (state_unless refusal (state_entry moment id payload s) s)
sound-unless s moment id payload (Some fault) told offer is = is
sound-unless s moment id payload None told offer is =
    sound-offered s moment id payload (has_room (current_buffer s.ring) (length payload))
    (nat_lt (length s.ring.waiting + 1) s.ring.count) s.ring.overwrite s.ring.waiting offer is
    (accepted s (length payload) told) refl refl refl refl

pub kept-offered : (s : StreamState) (moment id : ℕ) (payload : List ℕ) → IsOffer moment id payload → IsKept s
    → IsKept (state_after_offer moment id payload s)
kept-offered s moment id payload offer is = record {
  sound = sound-unless s moment id payload (refusal_of (length payload) s) refl offer is.sound;
  placed = placed-offered s (state_entry moment id payload s) (refusal_of (length payload) s) refl is.placed;
  history = (history_after_offer s.config moment id payload is.history.0, (offers s is.history.0 moment id payload is.sound.made is.history.1).1);
}

sound-oldest : (s : StreamState) (waiting : List ClosedBuffer) → s.ring.waiting ≡ waiting → s.config.session ≡ Local
    → IsSound s → IsSound (move_oldest waiting s)
sound-oldest s [] waiting_is local is = is
sound-oldest s (b ∷ bs) waiting_is local is = sound-moved s b bs waiting_is local is

pub kept-oldest : (s : StreamState) → s.config.session ≡ Local → IsKept s → IsKept (move_oldest s.ring.waiting s)
kept-oldest s local is = record {
  sound = sound-oldest s s.ring.waiting refl local is.sound;
  placed = placed-oldest s s.ring.waiting refl is.sound.current_held is.placed;
  history = (keep_oldest is.history.0, taken s is.history.0 s.ring.waiting refl is.history.1);
}

pub kept-cut : (s : StreamState) (end : ℕ) → s.config.session ≡ Local → s.counters.last ≤ end → end ≤ LAST_MOMENT → IsKept s
    → IsKept (state_cut_ring end s)
kept-cut s end local later in_time is =
    record {
      sound = sound-cut s end local is.sound later in_time;
      placed = placed-cut_ring s end is.sound.current_held is.placed;
      history = (history_cut_ring end is.history.0, stands-cut s is.history.0 end is.history.1);
    }

pub kept-clear : (s : StreamState) → s.config.session ≡ Local → IsKept s → IsKept (state_clear_ring s)
kept-clear s local is = record {
  sound = sound-clear s local is.sound;
  placed = placed-clear_ring s is.placed;
  history = (history_clear_ring is.history.0, stands-clear s is.history.0 is.history.1);
}

pub kept-switched : (s : StreamState) (active : Bool) → IsKept s → IsKept (state_after_switch active s)
kept-switched s active is = record {
  sound = sound-switched s active is.sound;
  placed = record { parts = is.placed.parts; begun = is.placed.begun; ring = is.placed.ring };
  history = (history_after_switch active is.history.0, stands-switched s is.history.0 active is.history.1);
}

-- a new stream
pub kept-new : (c : StreamConfig) → IsConfig c → SMALLEST_SUB_BUFFER ≤ c.geometry.size → 2 ≤ c.geometry.count → IsKept (new_state c)
kept-new c config size count = record {
  sound = record {
    config = config;
    made = record { size = refl; count = refl; mode = refl; origin = refl; size_low = size; count_low = count };
    few = omega arith;
    in_time = omega arith;
    total = refl;
    consumed = refl;
    withdrawn = omega arith;
    numbers = omega arith;
    dropped = omega arith;
    room = omega arith;
    fits = omega arith;
    waiting_fit = tt;
    losses = record { discarding = λ e. (refl, refl); overwriting = λ e. refl };
    packets = tt;
    filling = open-none 0 0;
    unconsumed = λ e. refl;
    current_held = refl;
    closed_sent = tt;
    current_sent = tt;
  };
  placed = record { parts = (refl, λ n seq e. absurd (nothing-in n 0 seq e)); begun = omega arith; ring = (tt, tt) };
  history = (new_history, starts c);
}
