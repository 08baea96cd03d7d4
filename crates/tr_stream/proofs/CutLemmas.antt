-- A cut of a stream is the history's cut.
use Rattle.std.proofs.Common.{◌≡◌, ◌≢◌, ℕ, ◌+◌, ◌<◌, suc, List, [], ◌∷◌, ◌++◌, length, map, max, Ok, Err, refl, sym, ◌∙◌, ap, ap₂, subst, append_assoc, arith}
use Rattle.std.proofs.lemmas.Grind.{common_steps}
use Rattle.std.proofs.lemmas.List.{append-nil, map-append}
use Rattle.std.proofs.lemmas.List.Sums.{sum_by_push}
use Rattle.tr_book.specs.Counters.{with_consumed, at_moment}
use Rattle.tr_book.specs.Parts.{PartState, part_state, with_packets, close_part}
use Rattle.tr_packet.specs.Packets.{Contents}
use Rattle.tr_record.specs.Records.{Entry}
use Rattle.tr_ring.specs.ClosedBuffer.{ClosedBuffer}
use Rattle.tr_ring.specs.Ring.{seq_after}
use Rattle.tr_stream.proofs.BlockLemmas.{blocks_of-keep_waiting, length-same, NumberedFrom-same, CoversFrom-same, AllUsed-same}
use Rattle.tr_stream.proofs.ChunkLemmas.{buffers_where-push, records_where-push, blocks_where-push, records_in-append, waiting-keep_waiting, other-keep_waiting, new-keep_waiting, records-keep_waiting, other_records-keep_waiting, other_blocks-keep_waiting, sum-keep_waiting}
use Rattle.tr_stream.proofs.CutForms.{WaitLast-keep_waiting, AllWithinCuts-keep_waiting, AllWithinCuts-more, none_above, LastHeld-push, LastHeld-keep_waiting, Covers-none}
use Rattle.tr_stream.proofs.FormLemmas.{NumberedFrom-push, WaitLast-push, AllWithinCuts-push, RecentLast-push, RecentLast-new, serials_same, AllUsed-push, CoversFrom-push}
use Rattle.tr_stream.proofs.Refinement.{chunks_same, chunks_below-same, parts_below-same, kept_in, kept_in-same}
use Rattle.tr_stream.specs.Chunks.{chunk_of, waiting_of, kept_of, cleared_of, buffer_runs, packet_of, part_of, parts_below, closed_if_any, ring_of, ring_buffers, closed_part}
use Rattle.tr_stream.specs.History.{Waiting, Block, Closed, History, is_waiting, is_dropped, is_kept, is_kept_in, is_cleared, is_consumed, is_withdrawn, offers_in, offers_before, offered_of, times_in, times}
use Rattle.tr_stream.specs.StandsFor.{StandsFor}
use Rattle.tr_stream.specs.State.{StreamState, records_in, in_ring}
use Rattle.tr_stream.specs.StateSteps.{cut_done, state_cut_ring, state_cut_answer, state_after_cut, state_snap}
use Rattle.tr_stream.specs.Steps.{done_with, close_filling, keep_waiting, keep_all, history_cut_ring, history_after_cut, history_cut_answer, history_snap}
use Rattle.tr_stream.specs.WellFormed.{Covers, chunks_below}
use Rattle.tr_stream.specs.declared.answers.CutFault.TheVariants.{SnapshotMode}
use Rattle.tr_terms.specs.declared.session_mode.SessionMode.{SessionMode}
use Rattle.tr_terms.specs.declared.session_mode.SessionMode.TheVariants.{Local, Snapshot}
use Rattle.tr_stream.specs.declared.config.StreamConfig.{StreamConfig}
use Rattle.tr_terms.specs.SessionModes.{by_session_mode}
use Rattle.tr_stream.proofs.ReleaseForms.{AreClosed-more, held-part, unreleased}

-- all that waits is in the current part, which is closed
abbrev kept_all : StreamState → StreamState
kept_all s = record s {
  ring = record s.ring { waiting = [] };
  parts = close_part s.counters.offered (with_packets (map (packet_of s.config) s.ring.waiting) s.parts);
  counters = with_consumed (records_in s.ring.waiting) s.counters;
}

-- one more chunk
chunks_below-more : (k : ℕ) (h : History) → chunks_below (k + 1) h ≡ chunks_below k h ++ chunk_of k h
chunks_below-more k h = let e : k + 1 ≡ suc k = omega arith in ap (λ (n : ℕ). chunks_below n h) e

parts_below-more : (c : StreamConfig) (k : ℕ) (h : History) → parts_below c (k + 1) h ≡ parts_below c k h ++ closed_part c k h ∷ []
parts_below-more c k h = let e : k + 1 ≡ suc k = omega arith in ap (λ (n : ℕ). parts_below c n h) e

-- a part with the packets of all that waits
part-grown : (c : StreamConfig) (k : ℕ) (part : PartState) (before waits all : List ClosedBuffer) (packets : List Contents)
    → part ≡ part_of c k before → packets ≡ map (packet_of c) waits → all ≡ before ++ waits
    → (let grown : PartState = record part { packets = part.packets ++ packets } in grown) ≡ part_of c k all
part-grown c k part before waits all packets is packets_are all_is =
    rw (is, packets_are, all_is) (ap (part_state k) (sym (map-append (packet_of c) before waits)))

stands-kept_all : (s : StreamState) (h : History) → StandsFor s h → StandsFor (kept_all s) (keep_all h)
stands-kept_all s h is =
    let g = keep_all h in
    let blocks = blocks_of-keep_waiting h.cuts h.closed in
    let others = λ (j : ℕ) (l : j < h.cuts). other-keep_waiting (is_kept_in j) h.cuts 0 h.closed (kept_in j h.cuts l) refl in
    let same : chunks_below h.cuts g ≡ chunks_below h.cuts h = chunks_below-same h.cuts h g others in
    let above : chunk_of (h.cuts + 1) g ≡ [] =
    none_above h.cuts (h.cuts + 1) 0 (keep_waiting h.cuts h.closed) (omega arith)
    (AllWithinCuts-keep_waiting h.cuts h.cuts h.closed (omega arith) is.model.kept) in
    let now : chunk_of h.cuts g ≡ chunk_of h.cuts h ++ waiting_of h =
    new-keep_waiting (is_kept_in h.cuts) h.cuts 0 h.closed (kept_in-same h.cuts) refl is.model.order in
    record {
      model = record {
        numbers = NumberedFrom-same 0 g.closed h.closed blocks is.model.numbers;
        filling = is.model.filling ∙ sym (length-same g.closed h.closed blocks);
        order = WaitLast-keep_waiting h.cuts h.closed;
        kept = AllWithinCuts-more h.cuts (h.cuts + 1) (keep_waiting h.cuts h.closed) (omega arith)
            (AllWithinCuts-keep_waiting h.cuts h.cuts h.closed (omega arith) is.model.kept);
        recent = RecentLast-new h.cuts (h.cuts + 1) (keep_waiting h.cuts h.closed) (omega arith)
            (AllWithinCuts-keep_waiting h.cuts h.cuts h.closed (omega arith) is.model.kept);
        used = AllUsed-same g.closed h.closed blocks is.model.used;
        room = λ e. LastHeld-keep_waiting h.cuts h.closed (is.model.room e);
        covers = CoversFrom-same 0 g.closed h.closed blocks is.model.covers;
        covers_filling = subst (λ (n : ℕ). Covers n h.filling) (sym (sum-keep_waiting offers_in h.cuts h.closed)) is.model.covers_filling;
        chunks = let a = chunks_below-more h.cuts g in let c = append-nil (chunks_below (h.cuts + 1) g) in let d =
            new-keep_waiting is_kept h.cuts 0 h.closed refl refl is.model.order in let e =
            append_assoc (chunks_below h.cuts h) (chunk_of h.cuts h) (waiting_of h) in let f = is.model.chunks in let k =
            above in cc;
        released = AreClosed-more h.cuts (h.cuts + 1) h.released (omega arith) is.model.released;
        serials = λ n. serials_same n (offered_of h) (offered_of g) (times n h) (times n g)
            (omega (arith, sum-keep_waiting offers_in h.cuts h.closed)) (is.model.serials n)
            (omega (arith, sum-keep_waiting (times_in n) h.cuts h.closed));
      };
      closed =
          ap (λ (q : PartState). s.parts.closed ++ q ∷ [])
          (part-grown s.config h.cuts s.parts.current (chunk_of h.cuts h) (waiting_of h) (chunk_of h.cuts g) _
          is.current (ap (map (packet_of s.config)) is.waiting) now)
          ∙ ap (λ (ps : List PartState). ps ++ part_of s.config h.cuts (chunk_of h.cuts g) ∷ [])
          (is.closed ∙ sym (parts_below-same s.config h.cuts h g others refl))
          ∙ ap (λ (q : PartState). parts_below s.config h.cuts g ++ q ∷ [])
          (sym (held-part s.config h.cuts g (unreleased h.cuts h.cuts h.released (omega arith) is.model.released)))
          ∙ sym (parts_below-more s.config h.cuts g);
      current = let e = is.current in let a = above in cc;
      starts = ap₂ (λ (ns : List ℕ) (n : ℕ). ns ++ n ∷ []) is.starts is.offered;
      forgotten = is.forgotten;
      runs = is.runs ∙ ap buffer_runs (sym (other-keep_waiting is_cleared h.cuts 0 h.closed refl refl));
      waiting = sym (waiting-keep_waiting h.cuts 0 h.closed);
      filling = is.filling;
      number = is.number;
      discarded = grind (arith, is.discarded, sum-keep_waiting (λ (b : Block). length b.discarded) h.cuts h.closed);
      offered = grind (arith, is.offered, sum-keep_waiting offers_in h.cuts h.closed);
      overwritten = grind (arith, is.overwritten, other_records-keep_waiting is_dropped h.cuts h.closed refl refl);
      overwritten_packets = grind (arith, is.overwritten_packets, other_blocks-keep_waiting is_dropped h.cuts h.closed refl refl);
      consumed = grind (arith, is.consumed, is.waiting, records-keep_waiting is_consumed h.cuts 0 h.closed refl refl);
      cleared = grind (arith, is.cleared, other_records-keep_waiting is_cleared h.cuts h.closed refl refl);
      withdrawn = grind (arith, is.withdrawn, other_records-keep_waiting is_withdrawn h.cuts h.closed refl refl);
      last = is.last;
      active = is.active;
    }

-- the current sub-buffer with these records is closed
abbrev pub flushed : List Entry → ℕ → StreamState → StreamState
flushed rs end s = record s {
  ring = record s.ring { waiting = s.ring.waiting ++ closed_if_any s.ring.seq end s.ring.discarded rs; current = []; seq = seq_after s.ring.seq rs };
  counters = at_moment end s.counters;
}

not_nil : {X : Type 0} {x : X} {xs : List X} → x ∷ xs ≢ []
not_nil e = cc

pub stands-flushed : (s : StreamState) (h : History) (rs : List Entry) (end : ℕ) → s.ring.current ≡ rs → StandsFor s h
    → StandsFor (flushed rs end s) (close_filling rs end h)
stands-flushed s h [] end e is = record {
  model = record {
    numbers = is.model.numbers;
    filling = is.model.filling;
    order = is.model.order;
    kept = is.model.kept;
    recent = is.model.recent;
    used = is.model.used;
    room = is.model.room;
    covers = is.model.covers;
    covers_filling = is.model.covers_filling;
    chunks = chunks_same h (record h { last = end }) (λ j. refl) refl is.model.chunks;
    released = is.model.released;
    serials = is.model.serials;
  };
  closed = is.closed ∙ parts_below-same s.config h.cuts (record h { last = end }) h (λ j l. refl) refl;
  current = is.current;
  starts = is.starts;
  forgotten = is.forgotten;
  runs = is.runs;
  waiting = append-nil s.ring.waiting ∙ is.waiting;
  filling = sym e ∙ is.filling;
  number = is.number;
  discarded = is.discarded;
  offered = is.offered;
  overwritten = is.overwritten;
  overwritten_packets = is.overwritten_packets;
  consumed = is.consumed;
  cleared = is.cleared;
  withdrawn = is.withdrawn;
  last = refl;
  active = is.active;
}
stands-flushed s h (r ∷ rs) end e is =
    let b : Closed = record { block = h.filling; end = end; status = Waiting } in
    let g = close_filling (r ∷ rs) end h in
    let offers = sum_by_push (λ (c : Closed). offers_in c.block) h.closed b in
    let discards = sum_by_push (λ (c : Closed). length c.block.discarded) h.closed b in
    let same = λ (k : ℕ). buffers_where-push (is_kept_in k) 0 h.closed b ∙ append-nil (chunk_of k h) in
    record {
      model = record {
        numbers = NumberedFrom-push 0 h.closed b is.model.numbers (grind (arith, is.model.filling));
        filling = grind (arith, common_steps, is.model.filling);
        order = WaitLast-push h.closed b is.model.order refl;
        kept = AllWithinCuts-push h.cuts h.closed b is.model.kept tt;
        recent = RecentLast-push h.cuts h.closed b is.model.recent tt;
        used = AllUsed-push h.closed b is.model.used (λ empty. not_nil (sym (sym is.filling ∙ e) ∙ empty));
        room = λ e. LastHeld-push h.closed b refl;
        covers = CoversFrom-push 0 h.closed b is.model.covers (subst (λ (n : ℕ). Covers n h.filling) (omega arith) is.model.covers_filling);
        covers_filling = Covers-none (offers_before (h.closed ++ b ∷ [])) (h.filling.number + 1);
        chunks = chunks_same h g (λ j. same j) (buffers_where-push is_kept 0 h.closed b ∙ append-nil (kept_of h)) is.model.chunks;
        released = is.model.released;
        serials = λ n. serials_same n (offered_of h) (offered_of g) (times n h) (times n g)
            (grind (arith, common_steps, offers)) (is.model.serials n)
            (omega (arith, sum_by_push (λ (c : Closed). times_in n c.block) h.closed b));
      };
      closed = is.closed ∙ sym (parts_below-same s.config h.cuts h g (λ j l. same j) refl);
      current = is.current ∙ ap (part_of s.config h.cuts) (sym (same h.cuts));
      starts = is.starts;
      forgotten = is.forgotten;
      runs = is.runs ∙ ap buffer_runs (sym (buffers_where-push is_cleared 0 h.closed b ∙ append-nil (cleared_of h)));
      waiting = grind (arith, common_steps, is.waiting, is.discarded, is.number, is.filling, buffers_where-push is_waiting 0 h.closed b);
      filling = refl;
      number = ap (λ (n : ℕ). n + 1) is.number;
      discarded = grind (arith, common_steps, is.discarded, discards);
      offered = grind (arith, common_steps, is.offered, offers);
      overwritten = grind (arith, is.overwritten, records_where-push is_dropped h.closed b);
      overwritten_packets = grind (arith, is.overwritten_packets, blocks_where-push is_dropped h.closed b);
      consumed = grind (arith, is.consumed, records_where-push is_consumed h.closed b);
      cleared = grind (arith, is.cleared, records_where-push is_cleared h.closed b);
      withdrawn = grind (arith, is.withdrawn, records_where-push is_withdrawn h.closed b);
      last = refl;
      active = is.active;
    }

pub records_in-closing_if_any : (seq end discarded : ℕ) (rs : List Entry) → records_in (closed_if_any seq end discarded rs) ≡ length rs
records_in-closing_if_any seq end discarded [] = refl
records_in-closing_if_any seq end discarded (r ∷ rs) = grind (arith, common_steps)

-- how many records the ring's sub-buffers have
pub records_in-ring : (s : StreamState) (end : ℕ) → records_in (ring_buffers end s.ring) ≡ in_ring s.ring
records_in-ring s end = grind (
  arith,
  records_in-append s.ring.waiting
      (closed_if_any s.ring.seq end s.ring.discarded s.ring.current),
  records_in-closing_if_any s.ring.seq end s.ring.discarded s.ring.current,
)

pub stands-cut : (s : StreamState) (h : History) (end : ℕ) → StandsFor s h → StandsFor (state_cut_ring end s) (history_cut_ring end h)
stands-cut s h end is =
    let whole = stands-kept_all (flushed s.ring.current end s) (close_filling s.ring.current end h) (stands-flushed s h s.ring.current end refl is) in
    let there = subst (λ (rs : List Entry). StandsFor (kept_all (flushed s.ring.current end s))
    (keep_all (close_filling rs end h))) is.filling whole in
    subst (λ (n : ℕ). StandsFor (record (state_cut_ring end s) { counters = at_moment end (with_consumed n s.counters) })
    (history_cut_ring end h)) (records_in-ring s end) there

pub ring-same : (s : StreamState) (h : History) (end : ℕ) → StandsFor s h → ring_buffers end s.ring ≡ ring_of end h
ring-same s h end is = let a = is.waiting in let b = is.number in let c = is.discarded in let d = is.filling in cc

-- a cut is the history's cut
cuts_in : (m : SessionMode) (s : StreamState) (h : History) (moment : ℕ) → StandsFor s h
    → (by_session_mode m (Ok (cut_done (max moment s.counters.last) s)) (Err SnapshotMode)
    ≡ by_session_mode m (Ok (done_with h.cuts (ring_of (max moment h.last) h))) (Err SnapshotMode))
    × StandsFor (by_session_mode m (state_cut_ring (max moment s.counters.last) s) s) (by_session_mode m (history_cut_ring (max moment h.last) h) h)
cuts_in Snapshot s h moment is = (refl, is)
cuts_in Local s h moment is =
    let end : max moment s.counters.last ≡ max moment h.last = ap (max moment) is.last in
    let same = ring-same s h (max moment h.last) is in
    let k : s.parts.current.id ≡ h.cuts = ap (λ (p : PartState). p.id) is.current in
    ((let a = end in let b = same in let c = k in cc), rw end (stands-cut s h (max moment h.last) is))

pub cuts : (s : StreamState) (h : History) (moment : ℕ) → StandsFor s h
    → (state_cut_answer moment s ≡ history_cut_answer s.config moment h)
    × StandsFor (state_after_cut moment s) (history_after_cut s.config moment h)
cuts s h moment is = cuts_in s.config.session s h moment is

-- what a peek at a stream shows is what a peek at its history shows
pub snaps : (s : StreamState) (h : History) (moment : ℕ) → StandsFor s h → state_snap moment s ≡ history_snap s.config moment h
snaps s h moment is =
    let end : max moment s.counters.last ≡ max moment h.last = ap (max moment) is.last in
    let same = ring-same s h (max moment h.last) is in
    let a = is.offered in
    let b = is.discarded in
    cc
