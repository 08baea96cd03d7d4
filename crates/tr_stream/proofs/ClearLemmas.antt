-- A clear of a stream is the history's clear.
use Rattle.std.proofs.Common.{◌≡◌, ℕ, ◌+◌, ◌<◌, Bool, true, false, cond, eqb, List, [], ◌∷◌, ◌++◌, length, map, Ok, Err, refl, sym, ◌∙◌, ap, subst, arith, length-append}
use Rattle.std.proofs.lemmas.Bool.Decides.{nat_tests}
use Rattle.std.proofs.lemmas.Grind.{common_steps, flat_map-append}
use Rattle.std.proofs.lemmas.List.{append-nil, append_cancel_right, length-map}
use Rattle.tr_book.specs.Counters.{with_cleared}
use Rattle.tr_book.specs.Parts.{PartState, clear_part, part_records, part_packets}
use Rattle.tr_book.specs.Runs.{packet_runs, runs_of}
use Rattle.tr_record.specs.Records.{Entry}
use Rattle.tr_ring.specs.ClosedBuffer.{ClosedBuffer}
use Rattle.tr_stream.proofs.BlockLemmas.{blocks_of-cleared, sum-same, length-same, NumberedFrom-same, CoversFrom-same, AllUsed-same}
use Rattle.tr_stream.proofs.ChunkLemmas.{none_wait, weight, buffers_weight, one, weight-of_buffers, records-of_buffers, records_where-cons, records_in-append}
use Rattle.tr_stream.proofs.CutLemmas.{flushed, stands-flushed, records_in-ring, ring-same}
use Rattle.tr_stream.proofs.FormLemmas.{serials_same}
use Rattle.tr_stream.proofs.Refinement.{chunks_below-same, parts_below-same}
use Rattle.tr_stream.proofs.SoundLemmas.{records_of-packets}
use Rattle.tr_stream.specs.Chunks.{buffer_runs, buffers_where, chunk_of, cleared_of, kept_of, packet_of, ring_buffers, ring_of, waiting_of}
use Rattle.tr_stream.specs.History.{Status, Waiting, Dropped, Kept, Cleared, Block, Closed, History, is_waiting, is_dropped, is_kept, is_kept_in, is_cleared, is_consumed, is_withdrawn, offered_of, offers_in, records_where, times, times_in}
use Rattle.tr_stream.specs.StandsFor.{StandsFor}
use Rattle.tr_stream.specs.State.{StreamState, records_in}
use Rattle.tr_stream.specs.StateSteps.{state_cleared, state_clear_answer, state_clear_ring, state_after_clear}
use Rattle.tr_stream.specs.Steps.{clear_all, clear_blocks, cleared_status, cleared_with, close_filling, history_after_clear, history_clear_answer, history_clear_ring}
use Rattle.tr_stream.specs.WellFormed.{WaitLast, IsWithin, AllWithinCuts, IsRecent, AllRecent, RecentLast, Covers, LastHeld, chunks_below}
use Rattle.tr_stream.specs.declared.answers.ClearFault.TheVariants.{SnapshotMode}
use Rattle.tr_terms.specs.SessionModes.{by_session_mode}
use Rattle.tr_terms.specs.declared.session_mode.SessionMode.{SessionMode}
use Rattle.tr_terms.specs.declared.session_mode.SessionMode.TheVariants.{Local, Snapshot}
use Rattle.tr_stream.proofs.GoneLemmas.{packet_runs-are}

-- what a clear makes of statuses: what holds of each kind of old and new one
by_status : (P : Status → Status → Type 0) (k : ℕ) → P Waiting (Cleared false) → P Dropped Dropped
    → ((j : ℕ) → eqb j k ≡ true → P (Kept j) (Cleared true)) → ((j : ℕ) → eqb j k ≡ false → P (Kept j) (Kept j))
    → ((c : Bool) → P (Cleared c) (Cleared c)) → (st : Status) → P st (cleared_status k st)
by_status P k waits dropped current other cleared Waiting = waits
by_status P k waits dropped current other cleared Dropped = dropped
by_status P k waits dropped current other cleared (Kept j) = either (eqb j k) refl
  where
    either : (b : Bool) → eqb j k ≡ b → P (Kept j) (cond b (Cleared true) (Kept j))
    either true e = current j e
    either false e = other j e
by_status P k waits dropped current other cleared (Cleared c) = cleared c

waits-cleared : (k : ℕ) (st : Status) → is_waiting (cleared_status k st) ≡ false
waits-cleared k = by_status (λ (st new : Status). is_waiting new ≡ false) k refl refl (λ j e. refl) (λ j e. refl) (λ c. refl)

dropped-cleared : (k : ℕ) (st : Status) → is_dropped (cleared_status k st) ≡ is_dropped st
dropped-cleared k = by_status (λ (st new : Status). is_dropped new ≡ is_dropped st) k refl refl (λ j e. refl) (λ j e. refl) (λ c. refl)

consumed-cleared : (k : ℕ) (st : Status) → is_consumed (cleared_status k st) ≡ is_consumed st
consumed-cleared k = by_status (λ (st new : Status). is_consumed new ≡ is_consumed st) k refl refl (λ j e. refl) (λ j e. refl) (λ c. refl)

-- what is gone after a clear
abbrev pub is_gone : ℕ → Status → Bool
is_gone k Waiting = true
is_gone k Dropped = false
is_gone k (Kept j) = eqb j k
is_gone k (Cleared c) = true

gone-cleared : (k : ℕ) (st : Status) → is_cleared (cleared_status k st) ≡ is_gone k st
gone-cleared k = by_status (λ (st new : Status). is_cleared new ≡ is_gone k st) k refl refl (λ j e. sym e) (λ j e. sym e) (λ c. refl)

-- what had been consumed and is gone after it
abbrev was_consumed : ℕ → Status → Bool
was_consumed k Waiting = false
was_consumed k Dropped = false
was_consumed k (Kept j) = eqb j k
was_consumed k (Cleared c) = c

withdrawn-cleared : (k : ℕ) (st : Status) → is_withdrawn (cleared_status k st) ≡ was_consumed k st
withdrawn-cleared k =
    by_status (λ (st new : Status). is_withdrawn new ≡ was_consumed k st) k refl refl (λ j e. sym e) (λ j e. sym e) (λ c. refl)

-- what is kept after it
abbrev is_kept_but : ℕ → Status → Bool
is_kept_but k Waiting = false
is_kept_but k Dropped = false
is_kept_but k (Kept j) = cond (eqb j k) false true
is_kept_but k (Cleared c) = false

kept-cleared : (k : ℕ) (st : Status) → is_kept (cleared_status k st) ≡ is_kept_but k st
kept-cleared k = by_status (λ (st new : Status). is_kept new ≡ is_kept_but k st) k refl refl (λ j e. cc) (λ j e. cc) (λ c. refl)

-- another chunk stays
pub other-cleared : (i k : ℕ) → eqb i k ≡ false → (st : Status) → is_kept_in i (cleared_status k st) ≡ is_kept_in i st
other-cleared i k ne =
    by_status (λ (st new : Status). is_kept_in i new ≡ is_kept_in i st) k refl refl
    (λ j e. grind (arith, nat_tests, e, ne)) (λ j e. refl) (λ c. refl)

abbrev pub never : Status → Bool
never st = false

pub current-cleared : (k : ℕ) (st : Status) → is_kept_in k (cleared_status k st) ≡ never st
current-cleared k = by_status (λ (st new : Status). is_kept_in k new ≡ false) k refl refl (λ j e. refl) (λ j e. e) (λ c. refl)

-- the sub-buffers of a status after it are those of another before it
pub buffers-cleared : (after before : Status → Bool) (k discarded : ℕ) (cs : List Closed)
    → ((st : Status) → after (cleared_status k st) ≡ before st)
    → buffers_where after discarded (clear_blocks k cs) ≡ buffers_where before discarded cs
buffers-cleared after before k discarded [] same = refl
buffers-cleared after before k discarded (c ∷ cs) same =
    let rest = buffers-cleared after before k (discarded + length c.block.discarded) cs same in
    let here = same c.status in
    cc

weight-cleared : (size : List Entry → ℕ) (after before : Status → Bool) (k : ℕ) (cs : List Closed)
    → ((st : Status) → after (cleared_status k st) ≡ before st) → weight size after (clear_blocks k cs) ≡ weight size before cs
weight-cleared size after before k cs same =
    weight-of_buffers size after 0 (clear_blocks k cs) ∙ ap (buffers_weight size) (buffers-cleared after before k 0 cs same)
    ∙ sym (weight-of_buffers size before 0 cs)

pub none_ever : (discarded : ℕ) (cs : List Closed) → buffers_where never discarded cs ≡ []
none_ever discarded [] = refl
none_ever discarded (c ∷ cs) = none_ever (discarded + length c.block.discarded) cs

not-true : (b : Bool) → b ≡ false → b ≡ true → ⊥
not-true b e f = cc

WaitLast-cleared : (k : ℕ) (cs : List Closed) → WaitLast (clear_blocks k cs)
WaitLast-cleared k [] = tt
WaitLast-cleared k (c ∷ cs) = ((λ w. absurd (not-true _ (waits-cleared k c.status) w)), WaitLast-cleared k cs)

within-cleared : (cuts k : ℕ) (st : Status) → IsWithin cuts st → IsWithin cuts (cleared_status k st)
within-cleared cuts k =
    by_status (λ (st new : Status). IsWithin cuts st → IsWithin cuts new) k (λ old. tt) (λ old. tt)
    (λ j e old. tt) (λ j e old. old) (λ c old. tt)

AllWithinCuts-cleared : (cuts k : ℕ) (cs : List Closed) → AllWithinCuts cuts cs → AllWithinCuts cuts (clear_blocks k cs)
AllWithinCuts-cleared cuts k [] old = tt
AllWithinCuts-cleared cuts k (c ∷ cs) old = (within-cleared cuts k c.status old.0, AllWithinCuts-cleared cuts k cs old.1)

RecentLast-cleared : (k : ℕ) (cs : List Closed) → RecentLast k (clear_blocks k cs)
RecentLast-cleared k [] = tt
RecentLast-cleared k (c ∷ cs) = ((λ e. absurd (not-true _ (current-cleared k c.status) e)), RecentLast-cleared k cs)

LastHeld-cleared : (k : ℕ) (cs : List Closed) → LastHeld cs → LastHeld (clear_blocks k cs)
LastHeld-cleared k [] old = tt
LastHeld-cleared k (c ∷ []) old = dropped-cleared k c.status ∙ old
LastHeld-cleared k (c ∷ d ∷ ds) old = LastHeld-cleared k (d ∷ ds) old

-- after a block kept in the current chunk none is cleared, and none is kept in another
recent-uncleared : (k : ℕ) (st : Status) → IsRecent k st → is_cleared st ≡ false
recent-uncleared k Waiting is = refl
recent-uncleared k Dropped is = refl
recent-uncleared k (Kept j) is = refl
recent-uncleared k (Cleared c) is = absurd is

recent-current : (k : ℕ) (st : Status) → IsRecent k st → is_kept_but k st ≡ false
recent-current k Waiting is = refl
recent-current k Dropped is = refl
recent-current k (Kept j) is = grind (arith, nat_tests, is)
recent-current k (Cleared c) is = absurd is

none_recent : (wanted : Status → Bool) (k discarded : ℕ) (cs : List Closed) → ((st : Status) → IsRecent k st → wanted st ≡ false)
    → AllRecent k cs → buffers_where wanted discarded cs ≡ []
none_recent wanted k discarded [] not are = refl
none_recent wanted k discarded (c ∷ cs) not are =
    let here = not c.status are.0 in
    let rest = none_recent wanted k (discarded + length c.block.discarded) cs not are.1 in
    cc

-- the cleared ones come first, then those of the current chunk, then those that wait
gone-split : (k discarded : ℕ) (cs : List Closed) → RecentLast k cs → WaitLast cs
    → buffers_where (is_gone k) discarded cs
    ≡ buffers_where is_cleared discarded cs
    ++ (buffers_where (is_kept_in k) discarded cs ++ buffers_where is_waiting discarded cs)
gone-split k discarded [] recent order = refl
gone-split k discarded (c ∷ cs) recent order =
    let more = discarded + length c.block.discarded in
    let rest = gone-split k more cs recent.1 order.1 in
    let a : is_waiting c.status ≡ true → buffers_where is_cleared more cs ≡ [] = λ w. none_wait is_cleared more cs refl (order.0 w) in
    let b : is_waiting c.status ≡ true → buffers_where (is_kept_in k) more cs ≡ [] =
    λ w. none_wait (is_kept_in k) more cs refl (order.0 w) in
    let d : is_kept_in k c.status ≡ true → buffers_where is_cleared more cs ≡ [] =
    λ e. none_recent is_cleared k more cs (recent-uncleared k) (recent.0 e) in
    grind (arith, common_steps, rest, a, b, d)

-- the kept ones of other chunks come before those of the current one
kept-split : (k discarded : ℕ) (cs : List Closed) → RecentLast k cs
    → buffers_where is_kept discarded cs
    ≡ buffers_where (is_kept_but k) discarded cs ++ buffers_where (is_kept_in k) discarded cs
kept-split k discarded [] recent = refl
kept-split k discarded (c ∷ cs) recent =
    let more = discarded + length c.block.discarded in
    let rest = kept-split k more cs recent.1 in
    let a : is_kept_in k c.status ≡ true → buffers_where (is_kept_but k) more cs ≡ [] =
    λ e. none_recent (is_kept_but k) k more cs (recent-current k) (recent.0 e) in
    grind (arith, common_steps, rest, a)

-- what was consumed and is gone was gone before, or was in the current chunk
one-or-other : (k : ℕ) (st : Status) (n : ℕ)
    → cond (was_consumed k st) n 0 ≡ cond (is_withdrawn st) n 0 + cond (is_kept_in k st) n 0
one-or-other k Waiting n = refl
one-or-other k Dropped n = refl
one-or-other k (Kept j) n = omega arith
one-or-other k (Cleared c) n = omega arith

records-withdrawn : (k : ℕ) (cs : List Closed)
    → records_where (was_consumed k) cs ≡ records_where is_withdrawn cs + records_where (is_kept_in k) cs
records-withdrawn k [] = refl
records-withdrawn k (c ∷ cs) =
    omega (
      arith,
      records-withdrawn k cs,
      one-or-other k c.status (length c.block.records),
      records_where-cons (was_consumed k) c cs,
      records_where-cons is_withdrawn c cs,
      records_where-cons (is_kept_in k) c cs,
    )

buffer_runs-append : (bs ds : List ClosedBuffer) → buffer_runs (bs ++ ds) ≡ buffer_runs bs ++ buffer_runs ds
buffer_runs-append bs ds = flat_map-append (λ (b : ClosedBuffer). runs_of b.seq b.records) bs ds

-- all that waits, and the current part, are gone but for their runs
abbrev emptied : StreamState → StreamState
emptied s = record s {
  ring = record s.ring { waiting = [] };
  parts = clear_part (buffer_runs s.ring.waiting) s.parts;
  counters = with_cleared (part_records s.parts.current + records_in s.ring.waiting) (part_records s.parts.current) s.counters;
}

current-packets : (s : StreamState) (h : History) → StandsFor s h
    → s.parts.current.packets ≡ map (packet_of s.config) (chunk_of h.cuts h)
current-packets s h is = ap (λ (p : PartState). p.packets) is.current

current-records : (s : StreamState) (h : History) → StandsFor s h → part_records s.parts.current ≡ records_in (chunk_of h.cuts h)
current-records s h is = ap part_records is.current ∙ records_of-packets s.config (chunk_of h.cuts h)

stands-emptied : (s : StreamState) (h : History) → StandsFor s h → StandsFor (emptied s) (clear_all h)
stands-emptied s h is =
    let g = clear_all h in
    let blocks = blocks_of-cleared h.cuts h.closed in
    let others = λ (j : ℕ) (l : j < h.cuts).
    buffers-cleared (is_kept_in j) (is_kept_in j) h.cuts 0 h.closed (other-cleared j h.cuts (grind (arith, nat_tests, l))) in
    let same : chunks_below h.cuts g ≡ chunks_below h.cuts h = chunks_below-same h.cuts h g others in
    let now : chunk_of h.cuts g ≡ [] =
    buffers-cleared (is_kept_in h.cuts) never h.cuts 0 h.closed (current-cleared h.cuts) ∙ none_ever 0 h.closed in
    let waits : waiting_of g ≡ [] = buffers-cleared is_waiting never h.cuts 0 h.closed (waits-cleared h.cuts) ∙ none_ever 0 h.closed in
    let gone : cleared_of g ≡ cleared_of h ++ (chunk_of h.cuts h ++ waiting_of h) =
    buffers-cleared is_cleared (is_gone h.cuts) h.cuts 0 h.closed (gone-cleared h.cuts)
    ∙ gone-split h.cuts 0 h.closed is.model.recent is.model.order in
    let kept : kept_of h ≡ kept_of g ++ chunk_of h.cuts h =
    kept-split h.cuts 0 h.closed is.model.recent
    ∙ ap (λ (bs : List ClosedBuffer). bs ++ chunk_of h.cuts h)
    (sym (buffers-cleared is_kept (is_kept_but h.cuts) h.cuts 0 h.closed (kept-cleared h.cuts))) in
    let left : chunks_below h.cuts h ≡ kept_of g =
    append_cancel_right (chunks_below h.cuts h) (kept_of g) (chunk_of h.cuts h) (is.model.chunks ∙ kept) in
    let packets = current-packets s h is in
    let in_part : part_records s.parts.current ≡ records_where (is_kept_in h.cuts) h.closed =
    current-records s h is ∙ sym (records-of_buffers (is_kept_in h.cuts) 0 h.closed) in
    let in_wait : records_in s.ring.waiting ≡ records_where is_waiting h.closed =
    ap records_in is.waiting ∙ sym (records-of_buffers is_waiting 0 h.closed) in
    let all_gone : records_where is_cleared g.closed
    ≡ records_where is_cleared h.closed + (records_where (is_kept_in h.cuts) h.closed + records_where is_waiting h.closed) =
    let a = records-of_buffers is_cleared 0 g.closed ∙ ap records_in gone in
    let b = records_in-append (cleared_of h) (chunk_of h.cuts h ++ waiting_of h) in
    let c = records_in-append (chunk_of h.cuts h) (waiting_of h) in
    let d = records-of_buffers is_cleared 0 h.closed in
    let e = records-of_buffers (is_kept_in h.cuts) 0 h.closed in
    let f = records-of_buffers is_waiting 0 h.closed in
    omega (arith, a, b, c, d, e, f) in
    record {
      model = record {
        numbers = NumberedFrom-same 0 g.closed h.closed blocks is.model.numbers;
        filling = is.model.filling ∙ sym (length-same g.closed h.closed blocks);
        order = WaitLast-cleared h.cuts h.closed;
        kept = AllWithinCuts-cleared h.cuts h.cuts h.closed is.model.kept;
        recent = RecentLast-cleared h.cuts h.closed;
        used = AllUsed-same g.closed h.closed blocks is.model.used;
        room = λ e. LastHeld-cleared h.cuts h.closed (is.model.room e);
        covers = CoversFrom-same 0 g.closed h.closed blocks is.model.covers;
        covers_filling = subst (λ (n : ℕ). Covers n h.filling) (sym (sum-same offers_in g.closed h.closed blocks)) is.model.covers_filling;
        chunks = let a = same in let b = now in let c = append-nil (chunks_below h.cuts g) in let d = left in cc;
        released = is.model.released;
        serials = λ n. serials_same n (offered_of h) (offered_of g) (times n h) (times n g)
            (omega (arith, sum-same offers_in g.closed h.closed blocks)) (is.model.serials n)
            (omega (arith, sum-same (times_in n) g.closed h.closed blocks));
      };
      closed = is.closed ∙ sym (parts_below-same s.config h.cuts h g others refl);
      current =
          let e = is.current in
          let a = now in
          cc;
      starts = is.starts;
      forgotten = is.forgotten;
      runs =
          let a = is.runs in
          let b = ap packet_runs packets ∙ packet_runs-are s.config (chunk_of h.cuts h) in
          let c = ap buffer_runs is.waiting in
          let d = ap buffer_runs gone in
          let e = buffer_runs-append (cleared_of h) (chunk_of h.cuts h ++ waiting_of h) in
          let f = buffer_runs-append (chunk_of h.cuts h) (waiting_of h) in
          cc;
      waiting = sym waits;
      filling = is.filling;
      number = is.number;
      discarded = omega (arith, is.discarded, sum-same (λ (b : Block). length b.discarded) g.closed h.closed blocks);
      offered = omega (arith, is.offered, sum-same offers_in g.closed h.closed blocks);
      overwritten = is.overwritten ∙ sym (weight-cleared length is_dropped is_dropped h.cuts h.closed (dropped-cleared h.cuts));
      overwritten_packets =
          is.overwritten_packets ∙ sym (weight-cleared one is_dropped is_dropped h.cuts h.closed (dropped-cleared h.cuts));
      consumed = is.consumed ∙ sym (weight-cleared length is_consumed is_consumed h.cuts h.closed (consumed-cleared h.cuts));
      cleared = omega (arith, is.cleared, all_gone, in_part, in_wait);
      withdrawn =
          omega (
            arith,
            is.withdrawn,
            in_part,
            records-withdrawn h.cuts h.closed,
            weight-cleared length is_withdrawn (was_consumed h.cuts) h.cuts h.closed (withdrawn-cleared h.cuts),
          );
      last = is.last;
      active = is.active;
    }

pub stands-clear : (s : StreamState) (h : History) → StandsFor s h → StandsFor (state_clear_ring s) (history_clear_ring h)
stands-clear s h is =
    let end = s.counters.last in
    let whole = stands-emptied (flushed s.ring.current end s) (close_filling s.ring.current end h)
    (stands-flushed s h s.ring.current end refl is) in
    let there : StandsFor (emptied (flushed s.ring.current end s)) (history_clear_ring h) =
    subst (λ (n : ℕ). StandsFor (emptied (flushed s.ring.current end s)) (clear_all (close_filling h.filling.records n h)))
    is.last
    (subst (λ (rs : List _). StandsFor (emptied (flushed s.ring.current end s)) (clear_all (close_filling rs end h)))
    is.filling whole) in
    subst (λ (n : ℕ). StandsFor (record (state_clear_ring s)
    { counters = with_cleared (part_records s.parts.current + n) (part_records s.parts.current) s.counters })
    (history_clear_ring h)) (records_in-ring s end) there

-- a clear is the history's clear
cleared-is : (s : StreamState) (h : History) → StandsFor s h
    → state_cleared s ≡ cleared_with (chunk_of h.cuts h ++ ring_of h.last h)
cleared-is s h is =
    let ring : ring_buffers s.counters.last s.ring ≡ ring_of h.last h =
    ring-same s h s.counters.last is ∙ ap (λ (n : ℕ). ring_of n h) is.last in
    let a : part_packets s.parts.current ≡ length (chunk_of h.cuts h) =
    ap part_packets is.current ∙ length-map (chunk_of h.cuts h) (packet_of s.config) in
    let b = current-records s h is in
    let c = records_in-ring s s.counters.last in
    let d = length-append (chunk_of h.cuts h) (ring_of h.last h) in
    let e = records_in-append (chunk_of h.cuts h) (ring_of h.last h) in
    cc

clears_in : (m : SessionMode) (s : StreamState) (h : History) → StandsFor s h
    → (by_session_mode m (Ok (state_cleared s)) (Err SnapshotMode)
    ≡ by_session_mode m (Ok (cleared_with (chunk_of h.cuts h ++ ring_of h.last h))) (Err SnapshotMode))
    × StandsFor (by_session_mode m (state_clear_ring s) s) (by_session_mode m (history_clear_ring h) h)
clears_in Snapshot s h is = (refl, is)
clears_in Local s h is = ((let a = cleared-is s h is in cc), stands-clear s h is)

pub clears : (s : StreamState) (h : History) → StandsFor s h
    → (state_clear_answer s ≡ history_clear_answer s.config h)
    × StandsFor (state_after_clear s) (history_after_clear s.config h)
clears s h is = clears_in s.config.session s h is
