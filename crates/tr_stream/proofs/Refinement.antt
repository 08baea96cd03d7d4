-- Each inner step of a stream is a step of the history.
use Rattle.std.proofs.Common.{◌≡◌, ◌≢◌, ℕ, ◌+◌, ◌<◌, zero, suc, Bool, true, false, cond, eqb, List, [], ◌∷◌, ◌++◌, length, map, take, refl, sym, ◌∙◌, ap, subst, append_assoc, arith, ap₂}
use Rattle.std.proofs.lemmas.Bool.Decides.{nat_tests}
use Rattle.std.proofs.lemmas.Grind.{common_steps}
use Rattle.std.proofs.lemmas.List.{append-nil}
use Rattle.std.proofs.lemmas.List.Sums.{sum_by_push}
use Rattle.tr_book.specs.Parts.{with_packet}
use Rattle.tr_packet.specs.Packets.{Contents}
use Rattle.tr_record.specs.Records.{Entry}
use Rattle.tr_ring.specs.Ring.{join_current, follow_current, discard_newest, drop_front}
use Rattle.tr_ring.specs.ClosedBuffer.{ClosedBuffer}
use Rattle.tr_stream.proofs.BlockLemmas.{blocks_of-settle_first, length-same, NumberedFrom-same, CoversFrom-same, AllUsed-same}
use Rattle.tr_stream.proofs.ChunkLemmas.{buffers_where-push, waiting-settle_first, other-settle_first, new-settle_first, records_where-push, blocks_where-push, records-settle_first, other_records-settle_first, blocks-settle_first, other_blocks-settle_first, sum-settle_first}
use Rattle.tr_stream.proofs.FormLemmas.{NumberedFrom-push, WaitLast-push, WaitLast-settle_first, AllWithinCuts-push, AllWithinCuts-settle_first, RecentLast-push, RecentLast-settle_first, serials_more, serials_same, AllUsed-push, LastHeld-settle_first, nil-push, Covers-join, Covers-discard, Covers-one, CoversFrom-push, offers_before-push}
use Rattle.tr_stream.specs.Chunks.{chunk_of, waiting_of, kept_of, cleared_of, buffer_runs, packet_of, part_of, parts_below, closed_part, part_if}
use Rattle.tr_stream.specs.History.{Status, Waiting, Dropped, Kept, Block, Closed, History, is_waiting, is_dropped, is_kept, is_kept_in, is_cleared, is_consumed, is_withdrawn, offers_in, offers_before, offered_of, times_in, times, is_released}
use Rattle.tr_stream.specs.StandsFor.{StandsFor}
use Rattle.tr_stream.specs.State.{StreamState, records_in}
use Rattle.tr_stream.specs.StateSteps.{state_after_switch}
use Rattle.tr_stream.specs.Steps.{follow_filling, settle_first, after_course, Join, DiscardNewest, history_after_switch}
use Rattle.tr_stream.specs.WellFormed.{IsWellFormed, IsWithin, IsRecent, Covers, LastHeld, chunks_below}
use Rattle.tr_stream.specs.declared.config.StreamConfig.{StreamConfig}
use Rattle.std.specs.List.{list_any}

-- a record is in the ring, and counted
abbrev pub with_joined : Entry → StreamState → StreamState
with_joined e s = record s { ring = join_current e s.ring; counters = record s.counters { offered = s.counters.offered + 1; last = e.moment } }

abbrev pub with_followed : Entry → StreamState → StreamState
with_followed e s = record s { ring = follow_current e s.ring; counters = record s.counters { offered = s.counters.offered + 1; last = e.moment } }

-- a record is discarded by the ring, and counted
abbrev pub with_discarded : ℕ → StreamState → StreamState
with_discarded moment s = record s { ring = discard_newest s.ring; counters = record s.counters { offered = s.counters.offered + 1; last = moment } }

-- the oldest sub-buffer that waits is overwritten, and counted
abbrev pub without_oldest : StreamState → StreamState
without_oldest s = record s {
  ring = drop_front s.ring;
  counters = record s.counters {
    overwritten = s.counters.overwritten + records_in (take 1 s.ring.waiting);
    overwritten_packets = s.counters.overwritten_packets + 1;
  };
}

pub chunks_below-same : (k : ℕ) (h g : History) → ((j : ℕ) → j < k → chunk_of j g ≡ chunk_of j h) → chunks_below k g ≡ chunks_below k h
chunks_below-same zero h g same = refl
chunks_below-same (suc k) h g same =
    let e = chunks_below-same k h g (λ j l. same j (omega arith)) in
    let f : chunk_of k g ≡ chunk_of k h = same k (omega arith) in
    cc

pub parts_below-same : (c : StreamConfig) (k : ℕ) (h g : History) → ((j : ℕ) → j < k → chunk_of j g ≡ chunk_of j h)
    → g.released ≡ h.released → parts_below c k g ≡ parts_below c k h
parts_below-same c zero h g same released = refl
parts_below-same c (suc k) h g same released =
    let e = parts_below-same c k h g (λ j l. same j (omega arith)) released in
    let f : chunk_of k g ≡ chunk_of k h = same k (omega arith) in
    let r : is_released k g ≡ is_released k h = ap (list_any (λ (j : ℕ). eqb j k)) released in
    let m : closed_part c k g ≡ closed_part c k h =
    ap₂ (λ (b : Bool) (bs : List ClosedBuffer). part_if b k (map (packet_of c) bs)) r f in
    cc

times-joined : (n : ℕ) (h : History) (e : Entry) → times n (after_course Join e h) ≡ times n h + cond (eqb e.serial n) 1 0
times-joined n h e = omega (arith, sum_by_push (λ (e : Entry). cond (eqb e.serial n) 1 0) h.filling.records e)

times-discarded : (n : ℕ) (h : History) (e : Entry) → times n (after_course DiscardNewest e h) ≡ times n h + cond (eqb e.serial n) 1 0
times-discarded n h e = omega (arith, sum_by_push (λ (m : ℕ). cond (eqb m n) 1 0) h.filling.discarded e.serial)

-- the chunks in order stay the kept blocks
pub chunks_same : (h g : History) → ((j : ℕ) → chunk_of j g ≡ chunk_of j h) → kept_of g ≡ kept_of h
    → chunks_below h.cuts h ++ chunk_of h.cuts h ≡ kept_of h
    → chunks_below h.cuts g ++ chunk_of h.cuts g ≡ kept_of g
chunks_same h g same consumed old =
    let a = chunks_below-same h.cuts h g (λ j l. same j) in
    let b = same h.cuts in
    cc

pub stands-joined : (s : StreamState) (h : History) (e : Entry) → e.serial ≡ offered_of h → StandsFor s h
    → StandsFor (with_joined e s) (after_course Join e h)
stands-joined s h e next is = record {
  model = record {
    numbers = is.model.numbers;
    filling = is.model.filling;
    order = is.model.order;
    kept = is.model.kept;
    recent = is.model.recent;
    used = is.model.used;
    room = λ none. absurd (nil-push h.filling.records e none);
    covers = is.model.covers;
    covers_filling = Covers-join (offers_before h.closed) h.filling e next is.model.covers_filling;
    chunks = chunks_same h (after_course Join e h) (λ j. refl) refl is.model.chunks;
    released = is.model.released;
    serials =
        λ n. serials_more n e.serial (offered_of h) (offered_of (after_course Join e h)) (times n h)
        (times n (after_course Join e h)) next (grind (arith, common_steps)) (is.model.serials n) (times-joined n h e);
  };
  closed = is.closed ∙ parts_below-same s.config h.cuts (after_course Join e h) h (λ j l. refl) refl;
  current = is.current;
  starts = is.starts;
  forgotten = is.forgotten;
  runs = is.runs;
  waiting = is.waiting;
  filling = ap (λ (es : List Entry). es ++ e ∷ []) is.filling;
  number = is.number;
  discarded = is.discarded;
  offered = grind (arith, common_steps, is.offered);
  overwritten = is.overwritten;
  overwritten_packets = is.overwritten_packets;
  consumed = is.consumed;
  cleared = is.cleared;
  withdrawn = is.withdrawn;
  last = refl;
  active = is.active;
}

pub stands-discarded : (s : StreamState) (h : History) (e : Entry) → s.ring.current ≢ [] → e.serial ≡ offered_of h
    → StandsFor s h → StandsFor (with_discarded e.moment s) (after_course DiscardNewest e h)
stands-discarded s h e used next is = record {
  model = record {
    numbers = is.model.numbers;
    filling = is.model.filling;
    order = is.model.order;
    kept = is.model.kept;
    recent = is.model.recent;
    used = is.model.used;
    room = is.model.room;
    covers = is.model.covers;
    covers_filling =
        Covers-discard (offers_before h.closed) h.filling e.serial (λ none. used (is.filling ∙ none)) is.model.covers_filling;
    chunks = chunks_same h (after_course DiscardNewest e h) (λ j. refl) refl is.model.chunks;
    released = is.model.released;
    serials =
        λ n. serials_more n e.serial (offered_of h) (offered_of (after_course DiscardNewest e h)) (times n h)
        (times n (after_course DiscardNewest e h)) next (grind (arith, common_steps)) (is.model.serials n)
        (times-discarded n h e);
  };
  closed = is.closed ∙ parts_below-same s.config h.cuts (after_course DiscardNewest e h) h (λ j l. refl) refl;
  current = is.current;
  starts = is.starts;
  forgotten = is.forgotten;
  runs = is.runs;
  waiting = is.waiting;
  filling = is.filling;
  number = is.number;
  discarded = grind (arith, common_steps, is.discarded);
  offered = grind (arith, common_steps, is.offered);
  overwritten = is.overwritten;
  overwritten_packets = is.overwritten_packets;
  consumed = is.consumed;
  cleared = is.cleared;
  withdrawn = is.withdrawn;
  last = refl;
  active = is.active;
}

-- the filling block, closed
abbrev closed_now : Entry → History → Closed
closed_now e h = record { block = h.filling; end = e.moment; status = Waiting }

-- a block that waits adds nothing to chunks
chunk_of-followed_by : (k : ℕ) (e : Entry) (h : History) → chunk_of k (follow_filling e h) ≡ chunk_of k h
chunk_of-followed_by k e h = buffers_where-push (is_kept_in k) 0 h.closed (closed_now e h) ∙ append-nil (chunk_of k h)

pub stands-followed : (s : StreamState) (h : History) (e : Entry) → h.filling.records ≢ [] → e.serial ≡ offered_of h
    → StandsFor s h → StandsFor (with_followed e s) (follow_filling e h)
stands-followed s h e used next is =
    let offers = sum_by_push (λ (c : Closed). offers_in c.block) h.closed (closed_now e h) in
    let discards = sum_by_push (λ (c : Closed). length c.block.discarded) h.closed (closed_now e h) in
    record {
      model = record {
        numbers = NumberedFrom-push 0 h.closed (closed_now e h) is.model.numbers (grind (arith, is.model.filling));
        filling = grind (arith, common_steps, is.model.filling);
        order = WaitLast-push h.closed (closed_now e h) is.model.order refl;
        kept = AllWithinCuts-push h.cuts h.closed (closed_now e h) is.model.kept tt;
        recent = RecentLast-push h.cuts h.closed (closed_now e h) is.model.recent tt;
        used = AllUsed-push h.closed (closed_now e h) is.model.used used;
        room = λ none. absurd (nil-push [] e none);
        covers = CoversFrom-push 0 h.closed (closed_now e h) is.model.covers
            (subst (λ (n : ℕ). Covers n h.filling) (omega arith) is.model.covers_filling);
        covers_filling = Covers-one (offers_before (h.closed ++ closed_now e h ∷ [])) (h.filling.number + 1) e
            (next ∙ sym (offers_before-push h.closed (closed_now e h)));
        chunks = chunks_same h (follow_filling e h) (λ j. chunk_of-followed_by j e h)
            (buffers_where-push is_kept 0 h.closed (closed_now e h) ∙ append-nil (kept_of h)) is.model.chunks;
        released = is.model.released;
        serials = λ n. serials_more n e.serial (offered_of h) (offered_of (follow_filling e h)) (times n h)
            (times n (follow_filling e h)) next (grind (arith, common_steps, offers)) (is.model.serials n)
            (omega (arith, sum_by_push (λ (c : Closed). times_in n c.block) h.closed (closed_now e h)));
      };
      closed = is.closed ∙ sym (parts_below-same s.config h.cuts h (follow_filling e h) (λ j l. chunk_of-followed_by j e h) refl);
      current = is.current ∙ ap (part_of s.config h.cuts) (sym (chunk_of-followed_by h.cuts e h));
      starts = is.starts;
      forgotten = is.forgotten;
      runs = is.runs ∙ ap buffer_runs (sym (buffers_where-push is_cleared 0 h.closed (closed_now e h) ∙ append-nil (cleared_of h)));
      waiting = grind (
        arith,
        common_steps,
        is.waiting,
        is.discarded,
        is.number,
        is.filling,
        buffers_where-push is_waiting 0 h.closed (closed_now e h),
      );
      filling = refl;
      number = ap (λ (n : ℕ). n + 1) is.number;
      discarded = grind (arith, common_steps, is.discarded, discards);
      offered = grind (arith, common_steps, is.offered, offers);
      overwritten = grind (arith, is.overwritten, records_where-push is_dropped h.closed (closed_now e h));
      overwritten_packets = grind (arith, is.overwritten_packets, blocks_where-push is_dropped h.closed (closed_now e h));
      consumed = grind (arith, is.consumed, records_where-push is_consumed h.closed (closed_now e h));
      cleared = grind (arith, is.cleared, records_where-push is_cleared h.closed (closed_now e h));
      withdrawn = grind (arith, is.withdrawn, records_where-push is_withdrawn h.closed (closed_now e h));
      last = refl;
      active = is.active;
    }

-- the history with its first waiting block settled
abbrev pub settled : Status → History → History
settled status h = record h { closed = settle_first status h.closed }

settled_well : (status : Status) (h : History) → (h.filling.records ≡ [] → LastHeld (settle_first status h.closed))
    → is_waiting status ≡ false → IsWithin h.cuts status → IsRecent h.cuts status
    → chunks_below h.cuts (settled status h) ++ chunk_of h.cuts (settled status h) ≡ kept_of (settled status h)
    → IsWellFormed h → IsWellFormed (settled status h)
settled_well status h room stops within recent chunks is =
    let g = settled status h in
    let blocks = blocks_of-settle_first status h.closed in
    record {
      numbers = NumberedFrom-same 0 g.closed h.closed blocks is.numbers;
      filling = is.filling ∙ sym (length-same g.closed h.closed blocks);
      order = WaitLast-settle_first status h.closed stops is.order;
      kept = AllWithinCuts-settle_first h.cuts status h.closed within is.kept;
      recent = RecentLast-settle_first h.cuts status h.closed recent is.order is.recent;
      used = AllUsed-same g.closed h.closed blocks is.used;
      room = room;
      covers = CoversFrom-same 0 g.closed h.closed blocks is.covers;
      covers_filling = subst (λ (n : ℕ). Covers n h.filling) (sym (sum-settle_first offers_in status h.closed)) is.covers_filling;
      chunks = chunks;
      released = is.released;
      serials = λ n. serials_same n (offered_of h) (offered_of g) (times n h) (times n g)
          (omega (arith, sum-settle_first offers_in status h.closed)) (is.serials n)
          (omega (arith, sum-settle_first (times_in n) status h.closed));
    }

pub kept_in : (j k : ℕ) → j < k → is_kept_in j (Kept k) ≡ false
kept_in j k below = grind (arith, nat_tests)

pub kept_in-same : (k : ℕ) → is_kept_in k (Kept k) ≡ true
kept_in-same k = grind (arith, nat_tests)

map-first : (c : StreamConfig) (before bs : List ClosedBuffer) (b : ClosedBuffer)
    → map (packet_of c) (before ++ take 1 (b ∷ bs)) ≡ map (packet_of c) before ++ packet_of c b ∷ []
map-first c [] bs b = refl
map-first c (d ∷ before) bs b = ap (λ (ps : List Contents). packet_of c d ∷ ps) (map-first c before bs b)

-- the oldest sub-buffer that waits, as a packet of the current part
abbrev pub with_moved : ClosedBuffer → StreamState → StreamState
with_moved b s = record s {
  ring = drop_front s.ring;
  parts = with_packet (packet_of s.config b) s.parts;
  counters = record s.counters { consumed = s.counters.consumed + length b.records };
}

pub stands-moved : (s : StreamState) (h : History) (b : ClosedBuffer) (bs : List ClosedBuffer) → s.ring.waiting ≡ b ∷ bs
    → StandsFor s h → StandsFor (with_moved b s) (settled (Kept h.cuts) h)
stands-moved s h b bs oldest is =
    let g = settled (Kept h.cuts) h in
    let grown : chunk_of h.cuts g ≡ chunk_of h.cuts h ++ take 1 (waiting_of h) =
    new-settle_first (is_kept_in h.cuts) (Kept h.cuts) 0 h.closed (kept_in-same h.cuts) refl is.model.order in
    let waiting : waiting_of h ≡ b ∷ bs = sym is.waiting ∙ oldest in
    record {
      model = settled_well (Kept h.cuts) h (λ none. LastHeld-settle_first h.cuts h.closed (is.model.room none)) refl (grind arith) refl
          (let a = chunks_below-same h.cuts h g (λ j l. other-settle_first (is_kept_in j) (Kept h.cuts) 0 h.closed (kept_in j h.cuts l) refl) in
          let b = grown in
          let c = new-settle_first is_kept (Kept h.cuts) 0 h.closed refl refl is.model.order in
          let d = append_assoc (chunks_below h.cuts h) (chunk_of h.cuts h) (take 1 (waiting_of h)) in
          let e = is.model.chunks in
          cc)
          is.model;
      closed = is.closed ∙ sym (parts_below-same s.config h.cuts h g
          (λ j l. other-settle_first (is_kept_in j) (Kept h.cuts) 0 h.closed (kept_in j h.cuts l) refl) refl);
      current =
          let p : map (packet_of s.config) (chunk_of h.cuts g) ≡ map (packet_of s.config) (chunk_of h.cuts h) ++ packet_of s.config b ∷ [] =
          ap (map (packet_of s.config)) (grown ∙ ap (λ (ws : List ClosedBuffer). chunk_of h.cuts h ++ take 1 ws) waiting)
          ∙ map-first s.config (chunk_of h.cuts h) bs b in
          let q = is.current in
          cc;
      starts = is.starts;
      forgotten = is.forgotten;
      runs = is.runs ∙ ap buffer_runs (sym (other-settle_first is_cleared (Kept h.cuts) 0 h.closed refl refl));
      waiting = grind (arith, is.waiting, waiting-settle_first (Kept h.cuts) 0 h.closed refl);
      filling = is.filling;
      number = is.number;
      discarded = grind (arith, is.discarded, sum-settle_first (λ (b : Block). length b.discarded) (Kept h.cuts) h.closed);
      offered = grind (arith, is.offered, sum-settle_first offers_in (Kept h.cuts) h.closed);
      overwritten = grind (arith, is.overwritten, other_records-settle_first is_dropped (Kept h.cuts) h.closed refl refl);
      overwritten_packets = grind (arith, is.overwritten_packets, other_blocks-settle_first is_dropped (Kept h.cuts) h.closed refl refl);
      consumed =
          let count : records_in (take 1 (waiting_of h)) ≡ length b.records =
          ap (λ (ws : List ClosedBuffer). records_in (take 1 ws)) waiting ∙ one b bs in
          omega (arith, is.consumed, count, records-settle_first is_consumed (Kept h.cuts) 0 h.closed refl refl);
      cleared = grind (arith, is.cleared, other_records-settle_first is_cleared (Kept h.cuts) h.closed refl refl);
      withdrawn = grind (arith, is.withdrawn, other_records-settle_first is_withdrawn (Kept h.cuts) h.closed refl refl);
      last = is.last;
      active = is.active;
    }
  where
    one : (b : ClosedBuffer) (bs : List ClosedBuffer) → records_in (take 1 (b ∷ bs)) ≡ length b.records
    one b bs = grind (arith, common_steps)

pub stands-without_oldest : (s : StreamState) (h : History) → s.ring.current ≢ [] → StandsFor s h
    → 0 < length s.ring.waiting → StandsFor (without_oldest s) (settled Dropped h)
stands-without_oldest s h used is some =
    let g = settled Dropped h in
    record {
      model = settled_well Dropped h (λ none. absurd (used (is.filling ∙ none))) refl tt tt
          (chunks_same h g (λ j. other-settle_first (is_kept_in j) Dropped 0 h.closed refl refl)
          (other-settle_first is_kept Dropped 0 h.closed refl refl) is.model.chunks) is.model;
      closed = is.closed ∙ sym (parts_below-same s.config h.cuts h g (λ j l. other-settle_first (is_kept_in j) Dropped 0 h.closed refl refl) refl);
      current = is.current ∙ ap (part_of s.config h.cuts) (sym (other-settle_first (is_kept_in h.cuts) Dropped 0 h.closed refl refl));
      starts = is.starts;
      forgotten = is.forgotten;
      runs = is.runs ∙ ap buffer_runs (sym (other-settle_first is_cleared Dropped 0 h.closed refl refl));
      waiting = grind (arith, is.waiting, waiting-settle_first Dropped 0 h.closed refl);
      filling = is.filling;
      number = is.number;
      discarded = grind (arith, is.discarded, sum-settle_first (λ (b : Block). length b.discarded) Dropped h.closed);
      offered = grind (arith, is.offered, sum-settle_first offers_in Dropped h.closed);
      overwritten = grind (arith, is.overwritten, is.waiting, records-settle_first is_dropped Dropped 0 h.closed refl refl);
      overwritten_packets = grind (
        arith,
        common_steps,
        some,
        is.waiting,
        is.overwritten_packets,
        blocks-settle_first is_dropped Dropped 0 h.closed refl refl,
      );
      consumed = grind (arith, is.consumed, other_records-settle_first is_consumed Dropped h.closed refl refl);
      cleared = grind (arith, is.cleared, other_records-settle_first is_cleared Dropped h.closed refl refl);
      withdrawn = grind (arith, is.withdrawn, other_records-settle_first is_withdrawn Dropped h.closed refl refl);
      last = is.last;
      active = is.active;
    }

pub stands-switched : (s : StreamState) (h : History) (active : Bool) → StandsFor s h
    → StandsFor (state_after_switch active s) (history_after_switch active h)
stands-switched s h active is = record {
  model = record {
    numbers = is.model.numbers;
    filling = is.model.filling;
    order = is.model.order;
    kept = is.model.kept;
    recent = is.model.recent;
    used = is.model.used;
    room = is.model.room;
    covers = is.model.covers;
    covers_filling = is.model.covers_filling;
    chunks = chunks_same h (history_after_switch active h) (λ j. refl) refl is.model.chunks;
    released = is.model.released;
    serials = is.model.serials;
  };
  closed = is.closed ∙ parts_below-same s.config h.cuts (history_after_switch active h) h (λ j l. refl) refl;
  current = is.current;
  starts = is.starts;
  forgotten = is.forgotten;
  runs = is.runs;
  waiting = is.waiting;
  filling = is.filling;
  number = is.number;
  discarded = is.discarded;
  offered = is.offered;
  overwritten = is.overwritten;
  overwritten_packets = is.overwritten_packets;
  consumed = is.consumed;
  cleared = is.cleared;
  withdrawn = is.withdrawn;
  last = is.last;
  active = refl;
}
