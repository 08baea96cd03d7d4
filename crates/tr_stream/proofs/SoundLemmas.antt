-- Each inner step of a stream leaves it sound.
use Rattle.std.proofs.Common.{◌≡◌, ◌≢◌, ℕ, ◌+◌, ◌^◌, ◌≤◌, ◌<◌, Bool, List, [], ◌∷◌, ◌++◌, length, map, take, drop, min, refl, sym, subst, ◌∙◌, arith}
use Rattle.std.proofs.Common.{length-drop}
use Rattle.std.proofs.lemmas.Grind.{common_steps}
use Rattle.std.proofs.lemmas.List.Sums.{sum_by_push, sum_by-cons, sum_by-append}
use Rattle.tr_terms.specs.declared.mode.Mode.{Mode}
use Rattle.tr_terms.specs.declared.mode.Mode.TheVariants.{Discard, Overwrite}
use Rattle.tr_book.specs.Parts.{PartState, records_of, part_records}
use Rattle.tr_packet.specs.Packets.{Contents, IsPacket}
use Rattle.tr_record.proofs.RecordLemmas.{all_append, all_push}
use Rattle.tr_record.specs.Records.{Entry, Fits}
use Rattle.tr_record.specs.Weight.{weight_of}
use Rattle.std.specs.List.{AllByRecursion}
use Rattle.tr_ring.specs.Ring.{IsClosedWithin, closed_current, seq_after}
use Rattle.tr_ring.specs.ClosedBuffer.{ClosedBuffer}
use Rattle.tr_stream.proofs.SessionLemmas.{not-both}
use Rattle.tr_stream.proofs.ChunkLemmas.{records_in-cons, records_in-append}
use Rattle.tr_stream.proofs.CutLemmas.{records_in-ring}
use Rattle.tr_stream.proofs.OpenLemmas.{open-joined, open-one, open-discarded, open-none}
use Rattle.tr_packet.proofs.OrderLemmas.{MakePacket-later}
use Rattle.tr_stream.proofs.Refinement.{with_joined, with_followed, with_discarded, without_oldest, with_moved}
use Rattle.tr_stream.specs.Chunks.{packet_of, closed_if_any, ring_buffers}
use Rattle.tr_ring.specs.Heads.{begin_of}
use Rattle.tr_stream.specs.Sound.{IsSound, ArePackets, CanBeSent, LosesByMode}
use Rattle.tr_stream.specs.State.{StreamState, records_in, in_ring, in_parts}
use Rattle.tr_stream.specs.StateSteps.{state_after_switch, state_cut_ring, state_clear_ring}
use Rattle.tr_terms.specs.declared.session_mode.SessionMode.TheVariants.{Local}
use Rattle.tr_stream.specs.declared.config.StreamConfig.{StreamConfig}
use Rattle.tr_terms.specs.declared.limits.TheConstants.{LAST_MOMENT, SMALLEST_PACKET}
use Rattle.tr_stream.proofs.ReleaseForms.{held-records}

are-push : (c : StreamConfig) (bs : List ClosedBuffer) (b : ClosedBuffer) → ArePackets c bs → IsPacket (packet_of c b) → ArePackets c (bs ++ b ∷ [])
are-push c [] b old new = (new, tt)
are-push c (x ∷ bs) b old new = (old.0, are-push c bs b old.1 new)

are-drop : (c : StreamConfig) (bs : List ClosedBuffer) → ArePackets c bs → ArePackets c (drop 1 bs)
are-drop c [] old = tt
are-drop c (b ∷ bs) old = old.1

first-packet : (c : StreamConfig) (b : ClosedBuffer) (bs : List ClosedBuffer) → ArePackets c (b ∷ bs) → IsPacket (packet_of c b)
first-packet c b bs are = are.0

fit-drop : (size : ℕ) (bs : List ClosedBuffer) → AllByRecursion (IsClosedWithin size) bs → AllByRecursion (IsClosedWithin size) (drop 1 bs)
fit-drop size [] old = tt
fit-drop size (b ∷ bs) old = old.1

used_some : {X : Type 0} (xs : List X) → xs ≢ [] → 0 < length xs
used_some [] used = absurd (used refl)
used_some (x ∷ xs) used = grind (arith, common_steps)

-- the current sub-buffer, closed at a moment that isn't before the last one
pub closing-is_packet : (s : StreamState) (end : ℕ) → IsSound s → s.ring.current ≢ [] → s.counters.last ≤ end
    → end ≤ LAST_MOMENT → IsPacket (packet_of s.config (closed_current end s.ring))
closing-is_packet s end is used le in_time = record {
  uuid = is.config.uuid;
  stream = is.config.number;
  seq = omega (arith, is.numbers, is.few);
  lost = omega (arith, is.total, is.few);
  records = MakePacket-later (begin_of s.ring.current) s.counters.last end s.ring.current (is.filling.makes used) le in_time;
}

-- what is required of the record of an accepted offer
pub record IsNext (s : StreamState) (e : Entry) : Type 0 where
  pub left : s.counters.offered < 2 ^ 62
  pub fits : Fits e
  pub serial : e.serial ≡ s.counters.offered
  pub moment : s.counters.last ≤ e.moment

pub sound-joined : (s : StreamState) (e : Entry) → IsSound s → IsNext s e
    → weight_of s.ring.current + (24 + length e.payload) ≤ s.config.geometry.size → IsSound (with_joined e s)
sound-joined s e is next room = record {
  config = is.config;
  made = record { size = is.made.size; count = is.made.count; mode = is.made.mode; origin = is.made.origin; size_low = is.made.size_low; count_low = is.made.count_low };
  few = omega (arith, next.left);
  in_time = next.fits.moment;
  total = grind (arith, common_steps, is.total);
  consumed = is.consumed;
  withdrawn = is.withdrawn;
  numbers = grind (arith, common_steps, is.numbers);
  dropped = is.dropped;
  room = is.room;
  fits = grind (arith, common_steps, room);
  waiting_fit = is.waiting_fit;
  losses = record { discarding = is.losses.discarding; overwriting = is.losses.overwriting };
  packets = is.packets;
  filling = open-joined s.counters.offered s.counters.last s.ring.current e next.fits next.serial next.moment
      (omega (arith, room, is.config.size_high)) is.filling;
  unconsumed = is.unconsumed;
  current_held = is.current_held;
  closed_sent = is.closed_sent;
  current_sent = is.current_sent;
}

other : (let m : Mode = Discard in m) ≡ Overwrite → ⊥
other e = cc

pub losses-discarded : (s : StreamState) (moment : ℕ) → s.config.mode ≡ Discard → LosesByMode s → LosesByMode (with_discarded moment s)
losses-discarded s moment mode is = record { discarding = is.discarding; overwriting = λ e. absurd (other (sym mode ∙ e)) }

pub losses-without_oldest : (s : StreamState) → s.config.mode ≡ Overwrite → LosesByMode s → LosesByMode (without_oldest s)
losses-without_oldest s mode is = record { discarding = λ e. absurd (other (sym e ∙ mode)); overwriting = is.overwriting }

pub sound-discarded : (s : StreamState) (moment : ℕ) → IsSound s → s.counters.offered < 2 ^ 62 → s.counters.last ≤ moment
    → moment ≤ LAST_MOMENT → s.config.mode ≡ Discard → IsSound (with_discarded moment s)
sound-discarded s moment is left le in_time mode = record {
  config = is.config;
  made = record { size = is.made.size; count = is.made.count; mode = is.made.mode; origin = is.made.origin; size_low = is.made.size_low; count_low = is.made.count_low };
  few = omega (arith, left);
  in_time = in_time;
  total = grind (arith, is.total);
  consumed = is.consumed;
  withdrawn = is.withdrawn;
  numbers = grind (arith, is.numbers);
  dropped = is.dropped;
  room = is.room;
  fits = is.fits;
  waiting_fit = is.waiting_fit;
  losses = losses-discarded s moment mode is.losses;
  packets = is.packets;
  filling = open-discarded s.counters.offered s.counters.last moment s.ring.current le in_time is.filling;
  unconsumed = is.unconsumed;
  current_held = is.current_held;
  closed_sent = is.closed_sent;
  current_sent = is.current_sent;
}

pub sound-followed : (s : StreamState) (e : Entry) → IsSound s → IsNext s e → s.ring.current ≢ []
    → length e.payload + SMALLEST_PACKET ≤ s.config.geometry.size → length s.ring.waiting + 1 < s.config.geometry.count
    → IsSound (with_followed e s)
sound-followed s e is next used small room = record {
  config = is.config;
  made = record { size = is.made.size; count = is.made.count; mode = is.made.mode; origin = is.made.origin; size_low = is.made.size_low; count_low = is.made.count_low };
  few = omega (arith, next.left);
  in_time = next.fits.moment;
  total = grind (
    arith,
    common_steps,
    is.total,
    records_in-append s.ring.waiting (closed_current e.moment s.ring ∷ []),
    records_in-cons (closed_current e.moment s.ring) [],
  );
  consumed = is.consumed;
  withdrawn = is.withdrawn;
  numbers = grind (arith, common_steps, is.numbers, used_some s.ring.current used);
  dropped = grind (arith, common_steps, is.dropped);
  room = grind (arith, common_steps, room);
  fits = grind (arith, common_steps, small);
  waiting_fit = all_push (IsClosedWithin s.config.geometry.size) s.ring.waiting (closed_current e.moment s.ring)
      is.waiting_fit (record { some = used_some s.ring.current used; within = is.fits });
  losses = record { discarding = is.losses.discarding; overwriting = is.losses.overwriting };
  packets = are-push s.config s.ring.waiting (closed_current e.moment s.ring) is.packets
      (closing-is_packet s e.moment is used next.moment next.fits.moment);
  filling = open-one s.counters.offered e next.fits next.serial (grind (arith, common_steps, small, is.config.size_high));
  unconsumed = is.unconsumed;
  current_held = is.current_held;
  closed_sent = is.closed_sent;
  current_sent = is.current_sent;
}

first-split : (bs : List ClosedBuffer) → records_in bs ≡ records_in (take 1 bs) + records_in (drop 1 bs)
first-split [] = refl
first-split (b ∷ bs) = grind (arith, common_steps, records_in-cons b bs, records_in-cons b [])

pub sound-without_oldest : (s : StreamState) → IsSound s → 0 < length s.ring.waiting → s.config.mode ≡ Overwrite → IsSound (without_oldest s)
sound-without_oldest s is some mode = record {
  config = is.config;
  made = record { size = is.made.size; count = is.made.count; mode = is.made.mode; origin = is.made.origin; size_low = is.made.size_low; count_low = is.made.count_low };
  few = is.few;
  in_time = is.in_time;
  total = grind (arith, is.total, first-split s.ring.waiting);
  consumed = is.consumed;
  withdrawn = is.withdrawn;
  numbers = is.numbers;
  dropped = grind (arith, common_steps, is.dropped, length-drop 1 s.ring.waiting);
  room = grind (arith, common_steps, is.room, length-drop 1 s.ring.waiting);
  fits = is.fits;
  waiting_fit = fit-drop s.config.geometry.size s.ring.waiting is.waiting_fit;
  losses = losses-without_oldest s mode is.losses;
  packets = are-drop s.config s.ring.waiting is.packets;
  filling = is.filling;
  unconsumed = is.unconsumed;
  current_held = is.current_held;
  closed_sent = is.closed_sent;
  current_sent = is.current_sent;
}

one : (b : ClosedBuffer) (bs ws : List ClosedBuffer) → ws ≡ b ∷ bs → records_in ws ≡ length b.records + records_in (drop 1 ws)
one b bs [] e = cc
one b bs (c ∷ ws) e =
    let f : c ≡ b = cc in
    rw (← f) (records_in-cons c ws)

pub sound-moved : (s : StreamState) (b : ClosedBuffer) (bs : List ClosedBuffer) → s.ring.waiting ≡ b ∷ bs
    → s.config.session ≡ Local → IsSound s → IsSound (with_moved b s)
sound-moved s b bs oldest local is = record {
  config = is.config;
  made = record { size = is.made.size; count = is.made.count; mode = is.made.mode; origin = is.made.origin; size_low = is.made.size_low; count_low = is.made.count_low };
  few = is.few;
  in_time = is.in_time;
  total = omega (arith, is.total, one b bs s.ring.waiting oldest, grown);
  consumed = omega (arith, is.consumed, grown);
  withdrawn = is.withdrawn;
  numbers = is.numbers;
  dropped = grind (arith, common_steps, is.dropped, length-drop 1 s.ring.waiting);
  room = grind (arith, common_steps, is.room, length-drop 1 s.ring.waiting);
  fits = is.fits;
  waiting_fit = fit-drop s.config.geometry.size s.ring.waiting is.waiting_fit;
  losses = record { discarding = is.losses.discarding; overwriting = is.losses.overwriting };
  packets = are-drop s.config s.ring.waiting is.packets;
  filling = is.filling;
  unconsumed = λ e. absurd (not-both s.config.session local e);
  current_held = is.current_held;
  closed_sent = is.closed_sent;
  current_sent = all_push IsPacket s.parts.current.packets (packet_of s.config b) is.current_sent
      (first-packet s.config b bs (subst (λ (ws : List ClosedBuffer). ArePackets s.config ws) oldest is.packets));
}
  where
    -- the current part has the packet's records more
    grown : part_records (with_moved b s).parts.current ≡ part_records s.parts.current + length b.records
    grown =
        omega (
          arith,
          held-records s.parts.current is.current_held,
          held-records (with_moved b s).parts.current is.current_held,
          sum_by_push (λ (p : Contents). length p.records) s.parts.current.packets (packet_of s.config b),
        )

pub sound-switched : (s : StreamState) (active : Bool) → IsSound s → IsSound (state_after_switch active s)
sound-switched s active is =
    record {
      config = is.config;
      made = is.made;
      few = is.few;
      in_time = is.in_time;
      total = is.total;
      consumed = is.consumed;
      withdrawn = is.withdrawn;
      numbers = is.numbers;
      dropped = is.dropped;
      room = is.room;
      fits = is.fits;
      waiting_fit = is.waiting_fit;
      losses = record { discarding = is.losses.discarding; overwriting = is.losses.overwriting };
      packets = is.packets;
      filling = is.filling;
      unconsumed = is.unconsumed;
      current_held = is.current_held;
      closed_sent = is.closed_sent;
      current_sent = is.current_sent;
    }

seq-after : (seq offered : ℕ) (es : List Entry) → seq + min 1 (length es) ≤ offered → seq_after seq es + min 1 0 ≤ offered
seq-after seq offered [] le = omega arith
seq-after seq offered (e ∷ es) le = grind (arith, common_steps, le)

seq-grows : (k seq : ℕ) (es : List Entry) → k ≤ seq → k ≤ seq_after seq es
seq-grows k seq [] le = le
seq-grows k seq (e ∷ es) le = omega arith

pub records_of-packets : (c : StreamConfig) (bs : List ClosedBuffer) → records_of (map (packet_of c) bs) ≡ records_in bs
records_of-packets c [] = refl
records_of-packets c (b ∷ bs) =
    grind (
      arith,
      common_steps,
      records_of-packets c bs,
      records_in-cons b bs,
      sum_by-cons (λ (p : Contents). length p.records) (packet_of c b) (map (packet_of c) bs),
    )

all-packets : (c : StreamConfig) (bs : List ClosedBuffer) → ArePackets c bs → AllByRecursion IsPacket (map (packet_of c) bs)
all-packets c [] are = tt
all-packets c (b ∷ bs) are = (are.0, all-packets c bs are.1)

are-append : (c : StreamConfig) (bs ds : List ClosedBuffer) → ArePackets c bs → ArePackets c ds → ArePackets c (bs ++ ds)
are-append c [] ds old new = new
are-append c (b ∷ bs) ds old new = (old.0, are-append c bs ds old.1 new)

-- all that the ring has can be sent
are-ring : (s : StreamState) (end : ℕ) → IsSound s → s.counters.last ≤ end → end ≤ LAST_MOMENT → ArePackets s.config (ring_buffers end s.ring)
are-ring s end is later in_time =
    are-append s.config s.ring.waiting (closed_if_any s.ring.seq end s.ring.discarded s.ring.current) is.packets
    (are-closing s.ring.current (λ used. closing-is_packet s end is used later in_time))
  where
    not_nil : (e : Entry) (es : List Entry) → e ∷ es ≢ []
    not_nil e es same = cc

    are-closing : (es : List Entry)
        → (es ≢ [] → IsPacket (packet_of s.config (record {
          seq = s.ring.seq;
          end = end;
          discarded = s.ring.discarded;
          records = es;
        }))) → ArePackets s.config (closed_if_any s.ring.seq end s.ring.discarded es)
    are-closing [] can = tt
    are-closing (e ∷ es) can = (can (not_nil e es), tt)

pub sound-cut : (s : StreamState) (end : ℕ) → s.config.session ≡ Local → IsSound s → s.counters.last ≤ end
    → end ≤ LAST_MOMENT → IsSound (state_cut_ring end s)
sound-cut s end local is later in_time = record {
  config = is.config;
  made = record { size = is.made.size; count = is.made.count; mode = is.made.mode; origin = is.made.origin; size_low = is.made.size_low; count_low = is.made.count_low };
  few = is.few;
  in_time = in_time;
  total = omega (arith, is.total, in_parts-cut);
  consumed = omega (arith, is.consumed, in_parts-cut);
  withdrawn = is.withdrawn;
  numbers = seq-after s.ring.seq s.counters.offered s.ring.current is.numbers;
  dropped = grind (arith, common_steps, seq-grows s.counters.overwritten_packets s.ring.seq s.ring.current (omega (arith, is.dropped)));
  room = omega (arith, is.made.count_low);
  fits = omega (arith, is.made.size_low);
  waiting_fit = tt;
  losses = record { discarding = is.losses.discarding; overwriting = is.losses.overwriting };
  packets = tt;
  filling = open-none s.counters.offered end;
  unconsumed = λ e. absurd (not-both s.config.session local e);
  current_held = refl;
  closed_sent = all_push CanBeSent s.parts.closed (record s.parts.current
      { packets = s.parts.current.packets ++ map (packet_of s.config) (ring_buffers end s.ring) }) is.closed_sent
      (all_append IsPacket s.parts.current.packets (map (packet_of s.config) (ring_buffers end s.ring)) is.current_sent
      (all-packets s.config (ring_buffers end s.ring) (are-ring s end is later in_time)));
  current_sent = tt;
}
  where
    in_parts-cut : in_parts (state_cut_ring end s).parts ≡ in_parts s.parts + in_ring s.ring
    in_parts-cut =
        let ps = map (packet_of s.config) (ring_buffers end s.ring) in
        let part = sum_by-append (λ (p : Contents). length p.records) s.parts.current.packets ps in
        let count = records_of-packets s.config (ring_buffers end s.ring) ∙ records_in-ring s end in
        let grown : PartState = record s.parts.current { packets = s.parts.current.packets ++ ps } in
        let closed = sum_by_push part_records s.parts.closed grown in
        omega (arith, part, count, closed, held-records s.parts.current is.current_held, held-records grown is.current_held)

-- a clear
pub sound-clear : (s : StreamState) → s.config.session ≡ Local → IsSound s → IsSound (state_clear_ring s)
sound-clear s local is = record {
  config = is.config;
  made = record { size = is.made.size; count = is.made.count; mode = is.made.mode; origin = is.made.origin; size_low = is.made.size_low; count_low = is.made.count_low };
  few = is.few;
  in_time = is.in_time;
  total = omega (arith, is.total);
  consumed = omega (arith, is.consumed);
  withdrawn = omega (arith, is.withdrawn);
  numbers = seq-after s.ring.seq s.counters.offered s.ring.current is.numbers;
  dropped = grind (arith, common_steps, seq-grows s.counters.overwritten_packets s.ring.seq s.ring.current (omega (arith, is.dropped)));
  room = omega (arith, is.made.count_low);
  fits = omega (arith, is.made.size_low);
  waiting_fit = tt;
  losses = record { discarding = is.losses.discarding; overwriting = is.losses.overwriting };
  packets = tt;
  filling = open-none s.counters.offered s.counters.last;
  unconsumed = λ e. absurd (not-both s.config.session local e);
  current_held = refl;
  closed_sent = is.closed_sent;
  current_sent = tt;
}
