-- What is to be proved for the bodies of a stream's calls, from what the ring, the parts and the counters did.
use Rattle.std.proofs.Common.{◌≡◌, ◌≢◌, ℕ, ◌+◌, ◌^◌, ◌≤◌, ◌<◌, zero, suc, Bool, false, List, [], ◌∷◌, ◌++◌, length, map, max, min, IsTrue, length-append, append_assoc, Option, Some, None, Result, Ok, Err, refl, sym, ◌∙◌, ap, subst, arith}
use Rattle.std.proofs.lemmas.Grind.{common_steps, flat_map-append}
use Rattle.std.proofs.lemmas.List.{append-nil, map-append, length-map, nil_from_length}
use Rattle.std.proofs.lemmas.List.Sums.{sum_by-cons}
use Rattle.std.specs.Prelude.{slice_get}
use Rattle.std.specs.List.{AllByRecursion}
use Rattle.std.proofs.lemmas.Bool.{false≢true}
use Rattle.tr_book.specs.Runs.{packet_runs, runs_of}
use Rattle.tr_book.specs.declared.runs.Run.{Run}
use Rattle.tr_packet.proofs.OrderLemmas.{moments_hold_says}
use Rattle.tr_packet.specs.Order.{moments_hold}
use Rattle.tr_book.specs.Counters.{CountersState, at_moment, new_counters, with_cleared, with_consumed, with_offer, with_overwritten}
use Rattle.tr_book.specs.Parts.{PartsState, empty_part, part_records, records_of, no_parts, with_packet, with_packets, close_part, clear_part, part_packets, Rest}
use Rattle.tr_packet.specs.Packets.{Contents, IsPacket}
use Rattle.tr_record.specs.Records.{Entry}
use Rattle.tr_ring.specs.ClosedBuffer.{ClosedBuffer}
use Rattle.tr_ring.specs.Ring.{RingState, after_push, closed_current, clear_ring, empty_ring, push_answer, drop_front, seq_after}
use Rattle.tr_ring.specs.declared.pushed.Pushed.{Pushed}
use Rattle.tr_ring.specs.declared.pushed.Pushed.TheVariants as pushed
use Rattle.tr_stream.proofs.ClearLemmas.{clears}
use Rattle.tr_stream.proofs.CutLemmas.{cuts, records_in-ring}
use Rattle.tr_stream.proofs.KeptLemmas.{IsOffer, kept-offered, kept-oldest, kept-cut, kept-clear}
use Rattle.tr_stream.proofs.OfferLemmas.{offers}
use Rattle.tr_stream.proofs.Refinement.{with_moved}
use Rattle.tr_stream.proofs.SessionLemmas.{in-local}
use Rattle.tr_stream.proofs.SoundLemmas.{records_of-packets}
use Rattle.tr_stream.proofs.TakeLemmas.{takes}
use Rattle.tr_stream.specs.Chunks.{origin_of, packet_of, buffer_runs, closed_if_any, ring_buffers}
use Rattle.tr_stream.specs.History.{History}
use Rattle.tr_stream.specs.Kept.{IsKept}
use Rattle.tr_stream.specs.Sound.{IsMade, ArePackets}
use Rattle.tr_stream.specs.StandsFor.{StandsFor}
use Rattle.tr_stream.specs.State.{StreamState, in_ring, records_in}
use Rattle.tr_stream.specs.StateSteps.{new_state, overwrites, counters_after_push, state_entry, refusal_of, state_answer_unless, state_unless, state_with_offer, offered_as, state_offer_answer, state_after_offer, move_oldest, state_take_answer, state_after_take, state_cut_ring, cut_done, state_cut_answer, state_after_cut, state_cleared, state_clear_answer, state_clear_ring, state_after_clear}
use Rattle.tr_stream.specs.Steps.{history_offer_answer, history_after_offer, history_take_answer, history_after_take, history_cut_answer, history_after_cut, history_clear_answer, history_after_clear, taken_from}
use Rattle.tr_stream.specs.declared.answers.ClearFault.{ClearFault}
use Rattle.tr_stream.specs.declared.answers.ClearFault.TheVariants as clear_fault
use Rattle.tr_stream.specs.declared.answers.Cleared.{Cleared}
use Rattle.tr_stream.specs.declared.answers.CutDone.{CutDone}
use Rattle.tr_stream.specs.declared.answers.CutFault.{CutFault}
use Rattle.tr_stream.specs.declared.answers.CutFault.TheVariants as cut_fault
use Rattle.tr_stream.specs.declared.answers.OfferFault.{OfferFault}
use Rattle.tr_stream.specs.declared.answers.Offered.{Offered}
use Rattle.tr_stream.specs.declared.answers.TakeFault.{TakeFault}
use Rattle.tr_stream.specs.declared.answers.TakeFault.TheVariants as take_fault
use Rattle.tr_stream.specs.declared.answers.TakeFault.TheVariants.{Nothing}
use Rattle.tr_stream.specs.declared.answers.Taken.{Taken}
use Rattle.tr_terms.specs.declared.session_mode.SessionMode.TheVariants.{Local}
use Rattle.tr_stream.specs.declared.config.StreamConfig.{StreamConfig}
use Rattle.tr_terms.specs.declared.limits.TheConstants.{LAST_MOMENT}
use Rattle.tr_stream.proofs.ReleaseForms.{held-records, held-packets}

-- the rest of an offer, once the ring has it
pub kept-pushed : (s : StreamState) (moment id : ℕ) (payload : List ℕ) (e : Entry) (ring : RingState) (p : Pushed)
    (counters : CountersState) → IsKept s → refusal_of (length payload) s ≡ None → IsOffer moment id payload
    → e ≡ state_entry moment id payload s → p ≡ push_answer e s.ring → ring ≡ after_push e s.ring
    → counters ≡ counters_after_push p e.moment s.counters
    → IsKept (record { config = s.config; ring = ring; parts = s.parts; counters = counters; active = s.active })
kept-pushed s moment id payload e ring p counters is open_ offer entry pushed_is ring_is counters_is =
    let whole : IsKept (state_after_offer moment id payload s) = kept-offered s moment id payload offer is in
    let accepts : state_after_offer moment id payload s ≡ state_with_offer (state_entry moment id payload s) s =
    ap (λ (r : Option OfferFault). state_unless r (state_entry moment id payload s) s) open_ in
    let same : (let t : StreamState =
    record { config = s.config; ring = ring; parts = s.parts; counters = counters; active = s.active } in t)
    ≡ state_with_offer (state_entry moment id payload s) s = cc in
    subst (λ (t : StreamState). IsKept t) (accepts ∙ sym same) whole

-- the counters, by the ring's answer
pub booked-stored : (p : Pushed) (seq moment : ℕ) (old new : CountersState) → p ≡ pushed.Stored seq
    → new ≡ with_offer moment old → new ≡ counters_after_push p moment old
booked-stored p seq moment old new is noted = rw is noted

pub booked-refused : (p : Pushed) (moment : ℕ) (old new : CountersState) → p ≡ pushed.Refused
    → new ≡ with_offer moment old → new ≡ counters_after_push p moment old
booked-refused p moment old new is noted = rw is noted

pub booked-over : (p : Pushed) (seq gone_seq gone_count moment : ℕ) (old between new : CountersState)
    → p ≡ pushed.StoredOver seq gone_seq gone_count → between ≡ with_offer moment old
    → new ≡ with_overwritten gone_count between → new ≡ counters_after_push p moment old
booked-over p seq gone_seq gone_count moment old between new is first then =
    then ∙ ap (with_overwritten gone_count) first ∙ sym (ap (λ (q : Pushed). counters_after_push q moment old) is)

-- an accepted offer is the history's offer
pub step-accepted : (s new : StreamState) (h : History) (moment id : ℕ) (payload : List ℕ) (answer : Offered)
    → IsMade s.config s.ring → StandsFor s h → refusal_of (length payload) s ≡ None
    → (let e = state_entry moment id payload s in (answer ≡ offered_as s.counters.offered (push_answer e s.ring))
    → new ≡ state_with_offer e s
    → ((let r : Result Offered OfferFault = Ok answer in r) ≡ history_offer_answer s.config payload h)
    × StandsFor new (history_after_offer s.config moment id payload h))
step-accepted s new h moment id payload answer made is open_ told moved =
    let e = state_entry moment id payload s in
    let steps = offers s h moment id payload made is in
    let accepts : state_after_offer moment id payload s ≡ state_with_offer e s = ap (λ (r : Option OfferFault). state_unless r e s) open_ in
    let answers : state_offer_answer moment id payload s ≡ Ok (offered_as s.counters.offered (push_answer e s.ring)) =
    ap (λ (r : Option OfferFault). state_answer_unless r e s) open_ in (
      ap (λ (o : Offered). (let r : Result Offered OfferFault = Ok o in r)) told ∙ sym answers ∙ steps.0,
      subst (λ (t : StreamState). StandsFor t (history_after_offer s.config moment id payload h)) (accepts ∙ sym moved)
          steps.1,
    )

-- a take is the history's take
pub step-taken : (s new : StreamState) (h : History) (answer : Result Taken TakeFault) → StandsFor s h
    → answer ≡ state_take_answer s → new ≡ state_after_take s
    → (answer ≡ history_take_answer s.config h) × StandsFor new (history_after_take s.config h)
step-taken s new h answer is told moved = (
  told ∙ (takes s h is).0,
  subst (λ (t : StreamState). StandsFor t (history_after_take s.config h)) (sym moved)
      (takes s h is).1,
)

take-local : (s : StreamState) → s.config.session ≡ Local → state_take_answer s ≡ taken_from s.parts.current.id s.ring.waiting
take-local s local = in-local s.config.session (taken_from s.parts.current.id s.ring.waiting) (Err take_fault.SnapshotMode) local

after-local : (s : StreamState) → s.config.session ≡ Local → state_after_take s ≡ move_oldest s.ring.waiting s
after-local s local = in-local s.config.session (move_oldest s.ring.waiting s) s local

none_waits : (s : StreamState) (waiting : List ClosedBuffer) → length waiting ≡ 0
    → ((let r : Result Taken TakeFault = Err Nothing in r) ≡ taken_from s.parts.current.id waiting)
    × (s ≡ move_oldest waiting s)
none_waits s [] none = (refl, refl)
none_waits s (b ∷ bs) none = absurd (grind (arith, common_steps, none))

-- nothing waits
pub nothing-taken : (s : StreamState) → s.config.session ≡ Local → length s.ring.waiting ≡ 0
    → ((let r : Result Taken TakeFault = Err Nothing in r) ≡ state_take_answer s) × (s ≡ state_after_take s)
nothing-taken s local none =
    let is = none_waits s s.ring.waiting none in
    (is.0 ∙ sym (take-local s local), is.1 ∙ sym (after-local s local))

-- what waits can be sent
pub waiting-at : (c : StreamConfig) (waiting : List ClosedBuffer) (i : ℕ) (b : ClosedBuffer) → slice_get waiting i ≡ Some b
    → ArePackets c waiting → IsPacket (packet_of c b)
waiting-at c [] i b at are = cc
waiting-at c (x ∷ xs) zero b at are = let e : x ≡ b = cc in subst (λ (y : ClosedBuffer). IsPacket (packet_of c y)) e are.0
waiting-at c (x ∷ xs) (suc i) b at are = waiting-at c xs i b at are.1

-- the oldest sub-buffer that waits can be sent
pub oldest-is_packet : (s : StreamState) (b : ClosedBuffer) → IsKept s → slice_get s.ring.waiting 0 ≡ Some b → IsPacket (packet_of s.config b)
oldest-is_packet s b is first = waiting-at s.config s.ring.waiting 0 b first is.sound.packets

first_few : (waiting : List ClosedBuffer) (b : ClosedBuffer) → slice_get waiting 0 ≡ Some b → length b.records ≤ records_in waiting
first_few [] b first = cc
first_few (x ∷ xs) b first =
    let e : x ≡ b = cc in
    omega (arith, ap (λ (y : ClosedBuffer). length y.records) e, sum_by-cons (λ (y : ClosedBuffer). length y.records) x xs)

-- a counter has room for its records and those of the part
pub oldest-fits : (s : StreamState) (b : ClosedBuffer) → IsKept s → slice_get s.ring.waiting 0 ≡ Some b
    → records_of s.parts.current.packets + length b.records < 2 ^ 64
oldest-fits s b is first =
    let sound = is.sound in
    omega (
      arith,
      first_few s.ring.waiting b first,
      sound.total,
      sound.consumed,
      sound.few,
      held-records s.parts.current sound.current_held,
    )

moved_first : (s : StreamState) (waiting : List ClosedBuffer) (b : ClosedBuffer) → slice_get waiting 0 ≡ Some b
    → move_oldest waiting s ≡ with_moved b s
moved_first s [] b first = cc
moved_first s (x ∷ xs) b first = let e : x ≡ b = cc in ap (λ (y : ClosedBuffer). with_moved y s) e

-- the rest of a take, once the part has the packet
pub moved-is : (s : StreamState) (b : ClosedBuffer) (ring : RingState) (parts : PartsState) (counters : CountersState)
    → slice_get s.ring.waiting 0 ≡ Some b → ring ≡ drop_front s.ring → parts ≡ with_packet (packet_of s.config b) s.parts
    → counters ≡ with_consumed (length b.records) s.counters
    → (let t : StreamState = record {
      config = s.config;
      ring = ring;
      parts = parts;
      counters = counters;
      active = s.active;
    } in t) ≡ move_oldest s.ring.waiting s
moved-is s b ring parts counters first ring_is parts_is counters_is = let e = moved_first s s.ring.waiting b first in cc

pub moved-local : (s : StreamState) (b : ClosedBuffer) (ring : RingState) (parts : PartsState) (counters : CountersState)
    → s.config.session ≡ Local → slice_get s.ring.waiting 0 ≡ Some b → ring ≡ drop_front s.ring
    → parts ≡ with_packet (packet_of s.config b) s.parts → counters ≡ with_consumed (length b.records) s.counters
    → (let t : StreamState = record {
      config = s.config;
      ring = ring;
      parts = parts;
      counters = counters;
      active = s.active;
    } in t) ≡ state_after_take s
moved-local s b ring parts counters local first ring_is parts_is counters_is =
    moved-is s b ring parts counters first ring_is parts_is counters_is ∙ sym (after-local s local)

pub kept-moved : (s : StreamState) (b : ClosedBuffer) (ring : RingState) (parts : PartsState) (counters : CountersState)
    → s.config.session ≡ Local → IsKept s → slice_get s.ring.waiting 0 ≡ Some b → ring ≡ drop_front s.ring
    → parts ≡ with_packet (packet_of s.config b) s.parts → counters ≡ with_consumed (length b.records) s.counters
    → IsKept (record { config = s.config; ring = ring; parts = parts; counters = counters; active = s.active })
kept-moved s b ring parts counters local is first ring_is parts_is counters_is =
    subst (λ (t : StreamState). IsKept t) (sym (moved-is s b ring parts counters first ring_is parts_is counters_is))
    (kept-oldest s local is)

-- what a new stream is made of
pub new-is : (c : StreamConfig) (ring : RingState) (parts : PartsState) (counters : CountersState) (size count : ℕ)
    (over : Bool) → ring ≡ empty_ring (origin_of c) size count over → parts ≡ no_parts → counters ≡ new_counters → size ≡ c.geometry.size
    → count ≡ c.geometry.count → over ≡ overwrites c.mode
    → (let t : StreamState = record { config = c; ring = ring; parts = parts; counters = counters; active = false } in t)
    ≡ new_state c
new-is c ring parts counters size count over a b d e f g = cc

-- one packet less is left
pub packed-more : (c : StreamConfig) (packets more all : List Contents) (b : ClosedBuffer) (left rest : List ClosedBuffer)
    → left ≡ b ∷ rest → packets ++ map (packet_of c) left ≡ all → more ≡ packets ++ packet_of c b ∷ []
    → more ++ map (packet_of c) rest ≡ all
packed-more c packets more all b left rest steps so pushed =
    ap (λ (ps : List Contents). ps ++ map (packet_of c) rest) pushed
    ∙ append_assoc packets (packet_of c b ∷ []) (map (packet_of c) rest)
    ∙ ap (λ (bs : List ClosedBuffer). packets ++ map (packet_of c) bs) (sym steps) ∙ so

-- the ring's packets, with the current sub-buffer's if it has a record
pub packed-waiting : (c : StreamConfig) (ring : RingState) (end : ℕ) (packets : List Contents)
    → packets ≡ map (packet_of c) ring.waiting → length ring.current ≡ 0
    → packets ≡ map (packet_of c) (ring_buffers end ring)
packed-waiting c ring end packets are none =
    let nothing : closed_if_any ring.seq end ring.discarded ring.current ≡ [] = none_closing ring.current none in
    are ∙ ap (map (packet_of c)) (sym (append-nil ring.waiting))
    ∙ ap (λ (bs : List ClosedBuffer). map (packet_of c) (ring.waiting ++ bs)) (sym nothing)
  where
    none_closing : (es : List Entry) → length es ≡ 0 → closed_if_any ring.seq end ring.discarded es ≡ []
    none_closing [] e = refl
    none_closing (x ∷ es) e = absurd (grind (arith, common_steps, e))

pub packed-all : (c : StreamConfig) (ring : RingState) (end : ℕ) (packets more : List Contents) (p : Contents)
    → packets ≡ map (packet_of c) ring.waiting → length ring.current ≢ 0 → p ≡ packet_of c (closed_current end ring)
    → more ≡ packets ++ p ∷ [] → more ≡ map (packet_of c) (ring_buffers end ring)
packed-all c ring end packets more p are some last pushed =
    let it : closed_if_any ring.seq end ring.discarded ring.current ≡ closed_current end ring ∷ [] = one_closing ring.current some in
    let joined : map (packet_of c) (ring.waiting ++ closed_current end ring ∷ [])
    ≡ map (packet_of c) ring.waiting ++ packet_of c (closed_current end ring) ∷ [] =
    map-append (packet_of c) ring.waiting (closed_current end ring ∷ []) in
    cc
  where
    one_closing : (es : List Entry) → length es ≢ 0
        → closed_if_any ring.seq end ring.discarded es
        ≡ record { seq = ring.seq; end = end; discarded = ring.discarded; records = es } ∷ []
    one_closing [] some = absurd (some refl)
    one_closing (e ∷ es) some = refl

-- the packets of a ring have its records, and a counter has room for these and those of the part
pub cut-fits : (s : StreamState) (end : ℕ) (packets : List Contents) → IsKept s
    → packets ≡ map (packet_of s.config) (ring_buffers end s.ring)
    → records_of s.parts.current.packets + records_of packets < 2 ^ 64
cut-fits s end packets is are =
    let sound = is.sound in
    let count : records_of packets ≡ in_ring s.ring =
    ap records_of are ∙ records_of-packets s.config (ring_buffers end s.ring) ∙ records_in-ring s end in
    omega (arith, count, sound.total, sound.consumed, sound.few, held-records s.parts.current sound.current_held)

-- what a cut answers
pub cut-told : (s : StreamState) (end k len count : ℕ) (packets : List Contents)
    → packets ≡ map (packet_of s.config) (ring_buffers end s.ring) → k ≡ s.parts.current.id → len ≡ length packets
    → count ≡ in_ring s.ring → (let d : CutDone = record { chunk = k; packets = len; records = count } in d)
    ≡ cut_done end s
cut-told s end k len count packets are chunk_is len_is count_is =
    let e : length packets ≡ length (ring_buffers end s.ring) = ap length are ∙ length-map (ring_buffers end s.ring) (packet_of s.config) in
    let f = records_in-ring s end in
    cc

-- the rest of a cut, once the parts have the packets
pub cut-is : (s : StreamState) (end count : ℕ) (packets : List Contents) (ring : RingState) (parts : PartsState)
    (noted_ counters : CountersState) → packets ≡ map (packet_of s.config) (ring_buffers end s.ring)
    → ring ≡ clear_ring s.ring → parts ≡ close_part s.counters.offered (with_packets packets s.parts) → count ≡ in_ring s.ring
    → noted_ ≡ with_consumed count s.counters → counters ≡ at_moment end noted_
    → (let t : StreamState = record {
      config = s.config;
      ring = ring;
      parts = parts;
      counters = counters;
      active = s.active;
    } in t) ≡ state_cut_ring end s
cut-is s end count packets ring parts noted_ counters packets_are ring_is parts_is count_is first then = cc

pub kept-cut_now : (s : StreamState) (end count : ℕ) (packets : List Contents) (ring : RingState) (parts : PartsState)
    (noted_ counters : CountersState) → s.config.session ≡ Local → IsKept s → s.counters.last ≤ end → end ≤ LAST_MOMENT
    → packets ≡ map (packet_of s.config) (ring_buffers end s.ring) → ring ≡ clear_ring s.ring
    → parts ≡ close_part s.counters.offered (with_packets packets s.parts) → count ≡ in_ring s.ring → noted_ ≡ with_consumed count s.counters
    → counters ≡ at_moment end noted_
    → IsKept (record { config = s.config; ring = ring; parts = parts; counters = counters; active = s.active })
kept-cut_now s end count packets ring parts noted_ counters local is later in_time packets_are ring_is parts_is count_is first then =
    subst (λ (t : StreamState). IsKept t)
    (sym (cut-is s end count packets ring parts noted_ counters packets_are ring_is parts_is count_is first then))
    (kept-cut s end local later in_time is)

-- a cut is the history's cut
pub step-cut : (s new : StreamState) (h : History) (moment : ℕ) (answer : Result CutDone CutFault) → StandsFor s h
    → answer ≡ state_cut_answer moment s → new ≡ state_after_cut moment s
    → (answer ≡ history_cut_answer s.config moment h) × StandsFor new (history_after_cut s.config moment h)
step-cut s new h moment answer is told moved = (
  told ∙ (cuts s h moment is).0,
  subst (λ (t : StreamState). StandsFor t (history_after_cut s.config moment h)) (sym moved) (cuts s h moment is).1,
)

-- in a local session a cut is done
pub cut-local : (s new : StreamState) (moment end : ℕ) (done : CutDone) → s.config.session ≡ Local
    → end ≡ max moment s.counters.last → done ≡ cut_done end s → new ≡ state_cut_ring end s
    → ((let r : Result CutDone CutFault = Ok done in r) ≡ state_cut_answer moment s) × (new ≡ state_after_cut moment s)
cut-local s new moment end done local at told moved =
    let end_is : max moment s.counters.last ≡ end = sym at in (
      ap (λ (d : CutDone). (let r : Result CutDone CutFault = Ok d in r)) (told ∙ ap (λ (m : ℕ). cut_done m s) at)
          ∙ sym (in-local s.config.session (Ok (cut_done (max moment s.counters.last) s)) (Err cut_fault.SnapshotMode)
          local),
      moved ∙ ap (λ (m : ℕ). state_cut_ring m s) at ∙ sym (in-local s.config.session (state_cut_ring (max moment s.counters.last) s) s local),
    )

-- the rest of a clear, once the parts have the runs
pub clear-is : (s : StreamState) (runs : List Run) (count consumed : ℕ) (ring : RingState) (parts : PartsState)
    (counters : CountersState) → ((end : ℕ) → runs ≡ buffer_runs (ring_buffers end s.ring)) → ring ≡ clear_ring s.ring
    → parts ≡ clear_part runs s.parts → consumed ≡ part_records s.parts.current → count ≡ consumed + in_ring s.ring
    → counters ≡ with_cleared count consumed s.counters
    → (let t : StreamState = record {
      config = s.config;
      ring = ring;
      parts = parts;
      counters = counters;
      active = s.active;
    } in t) ≡ state_clear_ring s
clear-is s runs count consumed ring parts counters runs_are ring_is parts_is consumed_is count_is counters_are =
    let e = runs_are s.counters.last in cc

pub kept-clear_now : (s : StreamState) (runs : List Run) (count consumed : ℕ) (ring : RingState) (parts : PartsState)
    (counters : CountersState) → s.config.session ≡ Local → IsKept s
    → ((end : ℕ) → runs ≡ buffer_runs (ring_buffers end s.ring)) → ring ≡ clear_ring s.ring
    → parts ≡ clear_part runs s.parts → consumed ≡ part_records s.parts.current → count ≡ consumed + in_ring s.ring
    → counters ≡ with_cleared count consumed s.counters
    → IsKept (record { config = s.config; ring = ring; parts = parts; counters = counters; active = s.active })
kept-clear_now s runs count consumed ring parts counters local is runs_are ring_is parts_is consumed_is count_is counters_are =
    subst (λ (t : StreamState). IsKept t)
    (sym (clear-is s runs count consumed ring parts counters runs_are ring_is parts_is consumed_is count_is counters_are))
    (kept-clear s local is)

-- what a clear answers
pub clear-told : (s : StreamState) (len used consumed count : ℕ) → len ≡ part_packets s.parts.current
    → ((end : ℕ) → used ≡ length (ring_buffers end s.ring)) → consumed ≡ part_records s.parts.current
    → count ≡ in_ring s.ring
    → (let d : Cleared = record { packets = len + used; records = consumed + count } in d) ≡ state_cleared s
clear-told s len used consumed count len_is used_is consumed_is count_is = let e = used_is s.counters.last in cc

-- counters have room for what a clear takes away
pub clear-fits : (s : StreamState) → IsKept s
    → (part_records s.parts.current + in_ring s.ring < 2 ^ 62 + 1)
    × (s.counters.cleared + (part_records s.parts.current + in_ring s.ring) < 2 ^ 64)
    × (s.counters.withdrawn + part_records s.parts.current < 2 ^ 64)
clear-fits s is =
    let sound = is.sound in (
      omega (arith, sound.total, sound.few),
      omega (arith, sound.total, sound.few),
      omega (arith, sound.total, sound.few, sound.withdrawn),
    )

has-record : (p : Contents) → IsPacket p → 1 ≤ length p.records
has-record p is = some p.records is.records.moments
  where
    some : (es : List Entry) → IsTrue (moments_hold p.head.begin p.head.end es) → 1 ≤ length es
    some [] holds = absurd (false≢true (moments_hold_says p.head.begin p.head.end [] holds).starts)
    some (e ∷ es) holds = omega arith

packets-few : (ps : List Contents) → AllByRecursion IsPacket ps → length ps ≤ records_of ps
packets-few [] are = omega arith
packets-few (p ∷ ps) are =
    let a : length (p ∷ ps) ≡ length ps + 1 = grind (arith, common_steps) in
    omega (arith, a, has-record p are.0, packets-few ps are.1, sum_by-cons (λ (q : Contents). length q.records) p ps)

pub clear-packets : (s : StreamState) (used : ℕ) → IsKept s → used ≤ s.ring.count
    → part_packets s.parts.current + used < 2 ^ 64
clear-packets s used is few =
    let sound = is.sound in
    omega (
      arith,
      few,
      packets-few s.parts.current.packets sound.current_sent,
      held-packets s.parts.current sound.current_held,
      held-records s.parts.current sound.current_held,
      sound.total,
      sound.few,
      sound.made.count,
      sound.config.count_high,
    )

-- a clear is the history's clear
pub step-clear : (s new : StreamState) (h : History) (answer : Result Cleared ClearFault) → StandsFor s h
    → answer ≡ state_clear_answer s → new ≡ state_after_clear s
    → (answer ≡ history_clear_answer s.config h) × StandsFor new (history_after_clear s.config h)
step-clear s new h answer is told moved = (
  told ∙ (clears s h is).0,
  subst (λ (t : StreamState). StandsFor t (history_after_clear s.config h)) (sym moved) (clears s h is).1,
)

-- in a local session a clear is done
pub clear-local : (s new : StreamState) (done : Cleared) → s.config.session ≡ Local → done ≡ state_cleared s
    → new ≡ state_clear_ring s
    → ((let r : Result Cleared ClearFault = Ok done in r) ≡ state_clear_answer s) × (new ≡ state_after_clear s)
clear-local s new done local told moved = (
  ap (λ (d : Cleared). (let r : Result Cleared ClearFault = Ok d in r)) told
      ∙ sym (in-local s.config.session (Ok (state_cleared s)) (Err clear_fault.SnapshotMode) local),
  moved ∙ sym (in-local s.config.session (state_clear_ring s) s local),
)

-- the runs of a ring: those of one sub-buffer less are left
pub runs-more : (runs more all : List Run) (b : ClosedBuffer) (left rest : List ClosedBuffer) → left ≡ b ∷ rest
    → runs ++ buffer_runs left ≡ all → more ≡ runs ++ runs_of b.seq b.records → more ++ buffer_runs rest ≡ all
runs-more runs more all b left rest steps so pushed =
    ap (λ (rs : List Run). rs ++ buffer_runs rest) pushed ∙ append_assoc runs (runs_of b.seq b.records) (buffer_runs rest)
    ∙ ap (λ (bs : List ClosedBuffer). runs ++ buffer_runs bs) (sym steps) ∙ so

pub runs-all : (ring : RingState) (end : ℕ) (runs all : List Run) → runs ≡ buffer_runs ring.waiting
    → all ≡ runs ++ runs_of ring.seq ring.current → all ≡ buffer_runs (ring_buffers end ring)
runs-all ring end runs all are pushed =
    let joined = flat_map-append (λ (x : ClosedBuffer). runs_of x.seq x.records) ring.waiting
    (closed_if_any ring.seq end ring.discarded ring.current) in
    let last = closing-runs ring.current in
    cc
  where
    closing-runs : (es : List Entry) → buffer_runs (closed_if_any ring.seq end ring.discarded es) ≡ runs_of ring.seq es
    closing-runs [] = refl
    closing-runs (e ∷ es) = append-nil (runs_of ring.seq (e ∷ es))

-- how many sub-buffers have a record
pub used-is : (ring : RingState) (end : ℕ)
    → length (ring_buffers end ring) ≡ length ring.waiting + min 1 (length ring.current)
used-is ring end =
    length-append ring.waiting (closed_if_any ring.seq end ring.discarded ring.current)
    ∙ ap (λ (n : ℕ). length ring.waiting + n) (last_one ring.current)
  where
    last_one : (es : List Entry) → length (closed_if_any ring.seq end ring.discarded es) ≡ min 1 (length es)
    last_one [] = refl
    last_one (e ∷ es) = grind (arith, common_steps)

-- a clear that finds nothing changes nothing
pub clear-nothing : (s : StreamState) → s.parts.current.released ≡ None → (state_cleared s).packets ≡ 0 → s ≡ state_clear_ring s
clear-nothing s kept_there none =
    let used = used-is s.ring s.counters.last in
    let buffers = ring_buffers s.counters.last s.ring in
    let here : s.parts.current.packets ≡ [] = nil_from_length s.parts.current.packets (omega (arith, none, held-packets s.parts.current kept_there)) in
    let waits : s.ring.waiting ≡ [] = nil_from_length s.ring.waiting (omega (arith, none, used)) in
    let fills : s.ring.current ≡ [] = nil_from_length s.ring.current (omega (arith, none, used)) in
    let there : buffers ≡ [] = nil_from_length buffers (omega (arith, none)) in
    let kept : part_records s.parts.current ≡ 0 = held-records s.parts.current kept_there ∙ ap records_of here in
    let held : in_ring s.ring ≡ 0 = grind (arith, common_steps, waits, fills) in
    ap (λ (r : RingState). record s { ring = r }) (same-ring s.ring waits fills)
    ∙ ap (λ (p : PartsState). record s { ring = clear_ring s.ring; parts = p })
    (same-parts s.parts kept_there here (buffer_runs buffers) (ap buffer_runs there))
    ∙ ap (λ (b : CountersState). record s { ring = clear_ring s.ring; parts = clear_part (buffer_runs buffers) s.parts; counters = b })
    (same-counters s.counters (part_records s.parts.current + in_ring s.ring) (part_records s.parts.current)
    (omega (arith, kept, held)) kept)
  where
    same-ring : (r : RingState) → r.waiting ≡ [] → r.current ≡ [] → r ≡ clear_ring r
    same-ring r waits fills =
        ap (λ (w : List ClosedBuffer). record r { waiting = w }) waits
        ∙ ap (λ (es : List Entry). record r { waiting = []; current = es }) fills
        ∙ ap (λ (n : ℕ). record r { waiting = []; current = []; seq = n }) (sym (ap (seq_after r.seq) fills))

    same-parts : (p : PartsState) → p.current.released ≡ None → p.current.packets ≡ [] → (runs : List Run) → runs ≡ []
        → p ≡ clear_part runs p
    same-parts p held here runs none =
        let more : packet_runs p.current.packets ++ runs ≡ [] = ap (λ (rs : List Run). rs ++ runs) (ap packet_runs here) ∙ none in
        ap (λ (ps : List Contents). record p { current = record p.current { packets = ps } }) here
        ∙ ap (λ (rest : Option Rest). record p { current = record p.current { packets = []; released = rest } }) held
        ∙ ap (λ (rs : List Run). record p { current = empty_part p.current.id; cleared = rs })
        (sym (append-nil p.cleared) ∙ ap (λ (rs : List Run). p.cleared ++ rs) (sym more))

    same-counters : (b : CountersState) (count consumed : ℕ) → count ≡ 0 → consumed ≡ 0 → b ≡ with_cleared count consumed b
    same-counters b count consumed none none' =
        ap (λ (n : ℕ). record b { cleared = n }) (omega (arith, none))
        ∙ ap (λ (n : ℕ). record b { cleared = b.cleared + count; withdrawn = n }) (omega (arith, none'))
