-- After each of its calls a stream still holds what was offered.
use Rattle.std.proofs.Common.{◌≡◌, ℕ, zero, suc, ◌+◌, ◌≤◌, Bool, true, false, List, [], ◌∷◌, ◌++◌, length, map, max, Option, Some, None, Ok, Err, refl, sym, ap, subst, ◌∙◌, arith, length-append, if◌then◌else◌}
use Rattle.std.specs.Prelude.{nat_lt}
use Rattle.std.specs.List.{AllByRecursion, flat_map}
use Rattle.tr_book.specs.Counters.{CountersState}
use Rattle.tr_book.specs.Parts.{PartState, change_at, release}
use Rattle.tr_packet.specs.Packets.{Contents}
use Rattle.tr_record.specs.Records.{Entry}
use Rattle.tr_ring.specs.ClosedBuffer.{ClosedBuffer}
use Rattle.tr_ring.specs.Ring.{RingState, closed_current, current_buffer, discard_newest, drop_front, follow_current, join_current, push_answer, ring_records}
use Rattle.tr_subbuf.specs.SubBuffer.{has_room}
use Rattle.tr_ring.specs.declared.pushed.Pushed.{Pushed}
use Rattle.tr_ring.specs.declared.pushed.Pushed.TheVariants as pushed
use Rattle.tr_stream.specs.Chunks.{closed_if_any, packet_of, ring_buffers}
use Rattle.tr_stream.specs.Fates.{all_parts}
use Rattle.tr_stream.specs.StandsFor.{StandsFor}
use Rattle.tr_stream.specs.State.{StreamState}
use Rattle.tr_stream.specs.StateSteps.{counters_after_push, move_oldest, offered_as, refusal_of, release_part_unless, state_after_release, state_release_refusal, state_after_clear, state_after_cut, state_after_offer, state_after_switch, state_after_take, state_answer_unless, state_clear_ring, state_cut_ring, state_entry, state_offer_answer, state_unless}
use Rattle.tr_stream.specs.declared.answers.OfferFault.{OfferFault}
use Rattle.tr_stream.specs.declared.answers.Offered.{Offered}
use Rattle.tr_stream.specs.declared.answers.ReleaseFault.{ReleaseFault}
use Rattle.tr_stream.specs.declared.config.StreamConfig.{StreamConfig}
use Rattle.tr_stream.specs.Steps.{new_history}
use Rattle.tr_terms.specs.SessionModes.{by_session_mode}
use Rattle.tr_terms.specs.declared.session_mode.SessionMode.{SessionMode}
use Rattle.tr_terms.specs.declared.session_mode.SessionMode.TheVariants.{Local, Snapshot}
use Rattle.tr_accounts.proofs.Lists.{all-back, all-both, all-flat, all-front, all-more, all-nested, all-rest, get-front, get-last}
use Rattle.tr_accounts.specs.Holds.{ArePlaced, HoldsOffers, IsOffered, held_records, packet_records, parts_records}
use Rattle.tr_accounts.specs.StreamSteps.{AcceptedOffer, serial_of}

-- ---- a stream's records, by where they are

module _ (P : Entry → Type 0) where
  abbrev pub AllInBuffers : List ClosedBuffer → Type 0
  AllInBuffers bs = AllByRecursion (λ (b : ClosedBuffer). AllByRecursion P b.records) bs

  abbrev pub AllInPackets : List Contents → Type 0
  AllInPackets ps = AllByRecursion (λ (p : Contents). AllByRecursion P p.records) ps

  abbrev pub AllInParts : List PartState → Type 0
  AllInParts parts = AllByRecursion (λ (p : PartState). AllInPackets p.packets) parts

  pub record AllHeld (s : StreamState) : Type 0 where
    pub waiting : AllInBuffers s.ring.waiting
    pub current : AllByRecursion P s.ring.current
    pub closed : AllInParts s.parts.closed
    pub part : AllInPackets s.parts.current.packets

  in_part : (part : PartState) → AllByRecursion P (packet_records part.packets) → AllInPackets part.packets
  in_part part h = all-nested P (λ (p : Contents). p.records) part.packets h

  pub by_place : (s : StreamState) → AllByRecursion P (held_records s) → AllHeld s
  by_place s h =
      let f : ClosedBuffer → List Entry = λ (b : ClosedBuffer). b.records in
      let g : PartState → List Entry = λ (p : PartState). packet_records p.packets in
      let ring = all-back P (parts_records (all_parts s.parts)) (ring_records s.ring) h in
      let nested = all-nested P g (all_parts s.parts) (all-front P (parts_records (all_parts s.parts)) (ring_records s.ring) h) in
      let parts : AllInParts (all_parts s.parts) =
      all-more (λ (p : PartState). AllByRecursion P (packet_records p.packets)) (λ (p : PartState). AllInPackets p.packets) in_part (all_parts s.parts) nested in
      record {
        waiting = all-nested P f s.ring.waiting (all-front P (flat_map f s.ring.waiting) s.ring.current ring);
        current = all-back P (flat_map f s.ring.waiting) s.ring.current ring;
        closed = all-front (λ (p : PartState). AllInPackets p.packets) s.parts.closed (s.parts.current ∷ []) parts;
        part = (all-back (λ (p : PartState). AllInPackets p.packets) s.parts.closed (s.parts.current ∷ []) parts).0;
      }

  pub from_places : (s : StreamState) → AllHeld s → AllByRecursion P (held_records s)
  from_places s h =
      let f : ClosedBuffer → List Entry = λ (b : ClosedBuffer). b.records in
      let g : PartState → List Entry = λ (p : PartState). packet_records p.packets in
      let parts = all-both (λ (p : PartState). AllInPackets p.packets) s.parts.closed (s.parts.current ∷ []) h.closed (h.part, tt) in
      let flat = all-more (λ (p : PartState). AllInPackets p.packets) (λ (p : PartState). AllByRecursion P (packet_records p.packets))
      (λ p q. all-flat P (λ (c : Contents). c.records) p.packets q) (all_parts s.parts) parts in
      all-both P (parts_records (all_parts s.parts)) (ring_records s.ring) (all-flat P g (all_parts s.parts) flat)
      (all-both P (flat_map f s.ring.waiting) s.ring.current (all-flat P f s.ring.waiting h.waiting) h.current)

  -- ---- offers

  abbrev InRing : RingState → Type 0
  InRing r = AllInBuffers r.waiting × AllByRecursion P r.current

  followed : (e : Entry) (r : RingState) → P e → InRing r → InRing (follow_current e r)
  followed e r new h =
      (all-both (λ (b : ClosedBuffer). AllByRecursion P b.records) r.waiting (closed_current e.moment r ∷ []) h.0 (h.1, tt), (new, tt))

  pushed_in : (e : Entry) (r : RingState) → P e → InRing r → (room free over : Bool)
      → InRing (if room then join_current e r else (if free then follow_current e r else (if over then follow_current e (drop_front r) else discard_newest r)))
  pushed_in e r new h true free over = (h.0, all-both P r.current (e ∷ []) h.1 (new, tt))
  pushed_in e r new h false true over = followed e r new h
  pushed_in e r new h false false true = followed e (drop_front r) new (all-rest (λ (b : ClosedBuffer). AllByRecursion P b.records) r.waiting h.0, h.1)
  pushed_in e r new h false false false = h

  pub held-unless : (s : StreamState) (e : Entry) (refused : Option OfferFault) → P e → AllHeld s → AllHeld (state_unless refused e s)
  held-unless s e (Some fault) new h = h
  held-unless s e None new h =
      let r = s.ring in
      let ring = pushed_in e r new (h.waiting, h.current) (has_room (current_buffer r) (length e.payload)) (nat_lt (length r.waiting + 1) r.count) r.overwrite in
      record { waiting = ring.0; current = ring.1; closed = h.closed; part = h.part }

  -- ---- takes

  oldest_moved : (s : StreamState) (waiting : List ClosedBuffer) → AllHeld s → AllInBuffers waiting → AllHeld (move_oldest waiting s)
  oldest_moved s [] h all = h
  oldest_moved s (b ∷ bs) h all = record {
    waiting = all-rest (λ (c : ClosedBuffer). AllByRecursion P c.records) s.ring.waiting h.waiting;
    current = h.current;
    closed = h.closed;
    part = all-both (λ (p : Contents). AllByRecursion P p.records) s.parts.current.packets (packet_of s.config b ∷ []) h.part (all.0, tt);
  }

  taken_in : (m : SessionMode) (s : StreamState) → AllHeld s → AllHeld (by_session_mode m (move_oldest s.ring.waiting s) s)
  taken_in Local s h = oldest_moved s s.ring.waiting h h.waiting
  taken_in Snapshot s h = h

  pub held-take : (s : StreamState) → AllHeld s → AllHeld (state_after_take s)
  held-take s h = taken_in s.config.session s h

  -- ---- cuts and clears

  packets_of : (c : StreamConfig) (bs : List ClosedBuffer) → AllInBuffers bs → AllInPackets (map (packet_of c) bs)
  packets_of c [] h = tt
  packets_of c (b ∷ bs) h = (h.0, packets_of c bs h.1)

  closed_any : (seq end discarded : ℕ) (es : List Entry) → AllByRecursion P es → AllInBuffers (closed_if_any seq end discarded es)
  closed_any seq end discarded [] h = tt
  closed_any seq end discarded (e ∷ es) h = (h, tt)

  pub ring_cut : (s : StreamState) (end : ℕ) → AllHeld s → AllHeld (state_cut_ring end s)
  ring_cut s end h =
      let bs = ring_buffers end s.ring in
      let all = all-both (λ (b : ClosedBuffer). AllByRecursion P b.records) s.ring.waiting (closed_if_any s.ring.seq end s.ring.discarded s.ring.current) h.waiting
      (closed_any s.ring.seq end s.ring.discarded s.ring.current h.current) in
      let packets = all-both (λ (p : Contents). AllByRecursion P p.records) s.parts.current.packets (map (packet_of s.config) bs) h.part (packets_of s.config bs all) in
      record {
        waiting = tt;
        current = tt;
        closed = all-both (λ (p : PartState). AllInPackets p.packets) s.parts.closed _ h.closed (packets, tt);
        part = tt;
      }

  cut_in : (m : SessionMode) (s : StreamState) (end : ℕ) → AllHeld s → AllHeld (by_session_mode m (state_cut_ring end s) s)
  cut_in Local s end h = ring_cut s end h
  cut_in Snapshot s end h = h

  pub held-cut : (s : StreamState) (moment : ℕ) → AllHeld s → AllHeld (state_after_cut moment s)
  held-cut s moment h = cut_in s.config.session s (max moment s.counters.last) h

  clear_in : (m : SessionMode) (s : StreamState) → AllHeld s → AllHeld (by_session_mode m (state_clear_ring s) s)
  clear_in Local s h = record { waiting = tt; current = tt; closed = h.closed; part = tt }
  clear_in Snapshot s h = h

  pub held-clear : (s : StreamState) → AllHeld s → AllHeld (state_after_clear s)
  held-clear s h = clear_in s.config.session s h

  pub held-switch : (s : StreamState) (active : Bool) → AllHeld s → AllHeld (state_after_switch active s)
  held-switch s active h = record { waiting = h.waiting; current = h.current; closed = h.closed; part = h.part }

-- ---- what was offered

one_more : (p : Pushed) (m : ℕ) (b : CountersState) → (counters_after_push p m b).offered ≡ b.offered + 1
one_more (pushed.Stored seq) m b = refl
one_more (pushed.StoredOver seq gone_seq gone_count) m b = refl
one_more pushed.Refused m b = refl

still-offered : (os more : List AcceptedOffer) (e : Entry) → IsOffered os e → IsOffered (os ++ more) e
still-offered os more e h = (h.0, get-front os more e.serial h.0 h.1, h.2)

count-unless : (s : StreamState) (e : Entry) (refused : Option OfferFault) (answer : Offered) → state_answer_unless refused e s ≡ Ok answer
    → (state_unless refused e s).counters.offered ≡ s.counters.offered + 1
count-unless s e (Some fault) answer is = absurd cc
count-unless s e None answer is = one_more (push_answer e s.ring) e.moment s.counters

serial-is : (n : ℕ) (p : Pushed) → serial_of (offered_as n p) ≡ n
serial-is n (pushed.Stored seq) = refl
serial-is n (pushed.StoredOver seq gone_seq gone_count) = refl
serial-is n pushed.Refused = refl

serial-unless : (s : StreamState) (e : Entry) (refused : Option OfferFault) (answer : Offered) → state_answer_unless refused e s ≡ Ok answer
    → serial_of answer ≡ s.counters.offered
serial-unless s e (Some fault) answer is = absurd cc
serial-unless s e None answer is =
    let same : offered_as s.counters.offered (push_answer e s.ring) ≡ answer = cc in
    ap serial_of (sym same) ∙ serial-is s.counters.offered (push_answer e s.ring)

-- an accepted offer has as its serial how many there were before it
pub offer-serial : (os : List AcceptedOffer) (s : StreamState) (moment id : ℕ) (payload : List ℕ) (answer : Offered) → HoldsOffers os s
    → state_offer_answer moment id payload s ≡ Ok answer → serial_of answer ≡ length os
offer-serial os s moment id payload answer h is =
    serial-unless s (state_entry moment id payload s) (refusal_of (length payload) s) answer is ∙ h.many

placed-push : (n : ℕ) (os : List AcceptedOffer) (o : AcceptedOffer) → ArePlaced n os → serial_of o.answer ≡ n + length os → ArePlaced n (os ++ o ∷ [])
placed-push n [] o h is = (is ∙ omega arith, tt)
placed-push n (p ∷ ps) o h is = (h.0, placed-push (n + 1) ps o h.1 (is ∙ omega arith))

-- an accepted offer is one more, and what is held is still what was offered
pub holds-accepted : (os : List AcceptedOffer) (s : StreamState) (moment id : ℕ) (payload : List ℕ) (answer : Offered) → HoldsOffers os s
    → state_offer_answer moment id payload s ≡ Ok answer
    → HoldsOffers (os ++ record { moment = moment; id = id; payload = payload; answer = answer } ∷ []) (state_after_offer moment id payload s)
holds-accepted os s moment id payload answer h is =
    let o : AcceptedOffer = record { moment = moment; id = id; payload = payload; answer = answer } in
    let e : Entry = state_entry moment id payload s in
    let raised : moment ≤ max moment s.counters.last = omega arith in
    let new : IsOffered (os ++ o ∷ []) e = (o, get-last os o s.counters.offered h.many, record { id = refl; payload = refl; moment = raised }) in
    let held = all-more (IsOffered os) (IsOffered (os ++ o ∷ [])) (still-offered os (o ∷ [])) (held_records s) h.held in
    let refused = refusal_of (length payload) s in
    record {
      many = count-unless s e refused answer is ∙ omega (arith, h.many, length-append os (o ∷ []));
      placed = placed-push 0 os o h.placed (offer-serial os s moment id payload answer h is ∙ omega arith);
      held = from_places (IsOffered (os ++ o ∷ [])) (state_after_offer moment id payload s)
          (held-unless (IsOffered (os ++ o ∷ [])) s e refused new (by_place (IsOffered (os ++ o ∷ [])) s held));
    }

unless-same : (s : StreamState) (e : Entry) (refused : Option OfferFault) (fault : OfferFault) → state_answer_unless refused e s ≡ Err fault
    → state_unless refused e s ≡ s
unless-same s e (Some f) fault is = refl
unless-same s e None fault is = absurd cc

-- a refused offer changes nothing
pub offer-refused : (s : StreamState) (moment id : ℕ) (payload : List ℕ) (fault : OfferFault) → state_offer_answer moment id payload s ≡ Err fault
    → state_after_offer moment id payload s ≡ s
offer-refused s moment id payload fault is = unless-same s (state_entry moment id payload s) (refusal_of (length payload) s) fault is

-- calls that offer nothing
module _ (os : List AcceptedOffer) (s : StreamState) (h : HoldsOffers os s) where
  same-held : (t : StreamState) → t.counters.offered ≡ s.counters.offered → AllHeld (IsOffered os) t → HoldsOffers os t
  same-held t count held = record { many = count ∙ h.many; placed = h.placed; held = from_places (IsOffered os) t held }

  count-oldest : (waiting : List ClosedBuffer) → (move_oldest waiting s).counters.offered ≡ s.counters.offered
  count-oldest [] = refl
  count-oldest (b ∷ bs) = refl

  count-take : (m : SessionMode) → (by_session_mode m (move_oldest s.ring.waiting s) s).counters.offered ≡ s.counters.offered
  count-take Local = count-oldest s.ring.waiting
  count-take Snapshot = refl

  pub holds-take : HoldsOffers os (state_after_take s)
  holds-take = same-held (state_after_take s) (count-take s.config.session) (held-take (IsOffered os) s (by_place (IsOffered os) s h.held))

  count-cut : (m : SessionMode) (end : ℕ) → (by_session_mode m (state_cut_ring end s) s).counters.offered ≡ s.counters.offered
  count-cut Local end = refl
  count-cut Snapshot end = refl

  pub holds-cut : (moment : ℕ) → HoldsOffers os (state_after_cut moment s)
  holds-cut moment =
      same-held (state_after_cut moment s) (count-cut s.config.session (max moment s.counters.last))
      (held-cut (IsOffered os) s moment (by_place (IsOffered os) s h.held))

  count-clear : (m : SessionMode) → (by_session_mode m (state_clear_ring s) s).counters.offered ≡ s.counters.offered
  count-clear Local = refl
  count-clear Snapshot = refl

  pub holds-clear : HoldsOffers os (state_after_clear s)
  holds-clear = same-held (state_after_clear s) (count-clear s.config.session) (held-clear (IsOffered os) s (by_place (IsOffered os) s h.held))

  pub holds-switch : (active : Bool) → HoldsOffers os (state_after_switch active s)
  holds-switch active = same-held (state_after_switch active s) refl (held-switch (IsOffered os) s active (by_place (IsOffered os) s h.held))

-- ---- releases

pub changed : (P : Entry → Type 0) (parts : List PartState) (k : ℕ) → AllInParts P parts → AllInParts P (change_at k release parts)
changed P [] k h = tt
changed P (p ∷ ps) zero h = (tt, h.1)
changed P (p ∷ ps) (suc k) h = (h.0, changed P ps k h.1)

release-unless : (os : List AcceptedOffer) (s : StreamState) (k : ℕ) (refused : Option ReleaseFault) → HoldsOffers os s
    → HoldsOffers os (release_part_unless refused k s)
release-unless os s k (Some fault) h = h
release-unless os s k None h =
    let places = by_place (IsOffered os) s h.held in
    record {
      many = h.many;
      placed = h.placed;
      held = from_places (IsOffered os) (release_part_unless None k s)
          (record { waiting = places.waiting; current = places.current; closed = changed (IsOffered os) s.parts.closed k places.closed; part = places.part });
    }

pub holds-release : (os : List AcceptedOffer) (s : StreamState) (k : ℕ) → HoldsOffers os s → HoldsOffers os (state_after_release k s)
holds-release os s k h = release-unless os s k (state_release_refusal k s) h

-- a new stream holds nothing
pub holds-new : (s : StreamState) → StandsFor s new_history → HoldsOffers [] s
holds-new s h = record {
  many = h.offered;
  placed = tt;
  held = from_places (IsOffered []) s (record {
    waiting = subst (λ (bs : List ClosedBuffer). AllInBuffers (IsOffered []) bs) (sym h.waiting) tt;
    current = subst (λ (es : List Entry). AllByRecursion (IsOffered []) es) (sym h.filling) tt;
    closed = subst (λ (ps : List PartState). AllInParts (IsOffered []) ps) (sym h.closed) tt;
    part = subst (λ (p : PartState). AllInPackets (IsOffered []) p.packets) (sym h.current) tt;
  });
}
