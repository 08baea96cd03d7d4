-- What each call does to the history, and what it answers.
use Rattle.std.specs.Prelude.{◌≢◌, ℕ, ◌+◌, ◌-◌, ◌^◌, ◌==◌, max, min, Bool, true, false, nat_lt, nat_le, not, List, [], ◌∷◌, ◌++◌, length, map, Option, Some, None, Result, Ok, Err, if◌then◌else◌}
use Rattle.tr_book.specs.Parts.{bytes_of}
use Rattle.tr_book.specs.Snaps.{SnapState, snap_state}
use Rattle.tr_book.specs.declared.counts.Counts.{Counts}
use Rattle.tr_terms.specs.declared.mode.Mode.{Mode}
use Rattle.tr_terms.specs.declared.mode.Mode.TheVariants.{Discard, Overwrite}
use Rattle.tr_record.specs.Records.{Entry, entry}
use Rattle.tr_record.specs.Weight.{weight_of}
use Rattle.tr_ring.specs.ClosedBuffer.{ClosedBuffer}
use Rattle.tr_stream.specs.Chunks.{waiting_of, ring_of, chunk_of, packet_of}
use Rattle.tr_stream.specs.History.{Status, Waiting, Dropped, Kept, Cleared, Closed, History, is_waiting, is_dropped, is_kept, is_cleared, is_consumed, is_withdrawn, is_released, are_released, offered_of, discarded_of, records_where, blocks_where}
use Rattle.tr_stream.specs.State.{records_in}
use Rattle.tr_stream.specs.declared.answers.ClearFault.{ClearFault}
use Rattle.tr_stream.specs.declared.answers.ClearFault.TheVariants as clear_fault
use Rattle.tr_stream.specs.declared.answers.Cleared.{Cleared as ClearedCounts}
use Rattle.tr_stream.specs.declared.answers.CutDone.{CutDone}
use Rattle.tr_stream.specs.declared.answers.CutFault.{CutFault}
use Rattle.tr_stream.specs.declared.answers.CutFault.TheVariants as cut_fault
use Rattle.tr_stream.specs.declared.answers.ForgetFault.{ForgetFault}
use Rattle.tr_stream.specs.declared.answers.ForgetFault.TheVariants as forget_fault
use Rattle.tr_stream.specs.declared.answers.OfferFault.{OfferFault}
use Rattle.tr_stream.specs.declared.answers.OfferFault.TheVariants.{Inactive, TooBig, Spent}
use Rattle.tr_stream.specs.declared.answers.Offered.{Offered}
use Rattle.tr_stream.specs.declared.answers.Offered.TheVariants.{Stored, StoredOver, Discarded}
use Rattle.tr_stream.specs.declared.answers.ReleaseFault.{ReleaseFault}
use Rattle.tr_stream.specs.declared.answers.ReleaseFault.TheVariants as release_fault
use Rattle.tr_stream.specs.declared.answers.Released.{Released}
use Rattle.tr_stream.specs.declared.answers.TakeFault.{TakeFault}
use Rattle.tr_stream.specs.declared.answers.TakeFault.TheVariants as take_fault
use Rattle.tr_stream.specs.declared.answers.Taken.{Taken}
use Rattle.tr_stream.specs.declared.config.StreamConfig.{StreamConfig}
use Rattle.tr_terms.specs.SessionModes.{by_session_mode}
use Rattle.tr_terms.specs.declared.limits.TheConstants.{MOST_OFFERS, RECORD_HEADER, SMALLEST_PACKET}

-- at the start: one empty block is filling
abbrev pub new_history : History
new_history = record {
  closed = [];
  filling = record { number = 0; records = []; discarded = [] };
  cuts = 0;
  starts = [];
  released = [];
  forgotten = 0;
  last = 0;
  active = false;
}

-- an offer as it is stored
abbrev pub history_entry : History → ℕ → ℕ → List ℕ → Entry
history_entry h moment id payload = entry (offered_of h) (max moment h.last) id payload

-- what an offer comes to
pub data Course : Type 0 where
  Refuse : (fault : OfferFault) → Course
  Join : Course
  Follow : Course
  DiscardNewest : Course
  Replace : Course

-- when there is no room
abbrev pub course_when_full : Mode → Course
course_when_full Discard = DiscardNewest
course_when_full Overwrite = Replace

-- the first of these that applies
abbrev pub course_of : StreamConfig → History → ℕ → Course
course_of c h len =
    if not h.active then Refuse Inactive
    else (if nat_lt (c.geometry.size - SMALLEST_PACKET) len then Refuse TooBig
    else (if nat_le MOST_OFFERS (offered_of h) then Refuse Spent
    else (if nat_le (weight_of h.filling.records + (RECORD_HEADER + len)) c.geometry.size then Join
    else (if nat_lt (length (waiting_of h) + 1) c.geometry.count then Follow
    else course_when_full c.mode))))

-- the filling block is closed and waits, and a block with this record alone follows
abbrev pub follow_filling : Entry → History → History
follow_filling e h = record h {
  closed = h.closed ++ record { block = h.filling; end = e.moment; status = Waiting } ∷ [];
  filling = record { number = h.filling.number + 1; records = e ∷ []; discarded = [] };
  last = e.moment;
}

-- the first block that waits gets this status
abbrev pub settle_first : Status → List Closed → List Closed
settle_first status [] = []
settle_first status (c ∷ cs) =
    if is_waiting c.status then record c { status = status } ∷ cs else c ∷ settle_first status cs

abbrev pub after_course : Course → Entry → History → History
after_course (Refuse fault) e h = h
after_course Join e h = record h {
  filling = record h.filling { records = h.filling.records ++ e ∷ [] };
  last = e.moment;
}
after_course Follow e h = follow_filling e h
after_course DiscardNewest e h =
    record h { filling = record h.filling { discarded = h.filling.discarded ++ e.serial ∷ [] }; last = e.moment }
after_course Replace e h = follow_filling e (record h { closed = settle_first Dropped h.closed })

-- the answer gives the number and the count of the first block that waits
abbrev pub over_oldest : ℕ → ℕ → List ClosedBuffer → Offered
over_oldest serial seq [] = Stored serial seq
over_oldest serial seq (b ∷ bs) = StoredOver serial seq b.seq (length b.records)

abbrev pub course_answer : Course → History → Result Offered OfferFault
course_answer (Refuse fault) h = Err fault
course_answer Join h = Ok (Stored (offered_of h) h.filling.number)
course_answer Follow h = Ok (Stored (offered_of h) (h.filling.number + 1))
course_answer DiscardNewest h = Ok (Discarded (offered_of h))
course_answer Replace h = Ok (over_oldest (offered_of h) (h.filling.number + 1) (waiting_of h))

abbrev pub history_after_offer : StreamConfig → ℕ → ℕ → List ℕ → History → History
history_after_offer c moment id payload h =
    after_course (course_of c h (length payload)) (history_entry h moment id payload) h

abbrev pub history_offer_answer : StreamConfig → List ℕ → History → Result Offered OfferFault
history_offer_answer c payload h = course_answer (course_of c h (length payload)) h

-- the oldest of these, for the chunk
abbrev pub taken_from : ℕ → List ClosedBuffer → Result Taken TakeFault
taken_from k [] = Err take_fault.Nothing
taken_from k (b ∷ bs) = Ok (record { seq = b.seq; count = length b.records; chunk = k })

-- the first block that waits is kept
abbrev pub keep_oldest : History → History
keep_oldest h = record h { closed = settle_first (Kept h.cuts) h.closed }

-- in a snapshot session nothing is taken
abbrev pub history_take_answer : StreamConfig → History → Result Taken TakeFault
history_take_answer c h = by_session_mode c.session (taken_from h.cuts (waiting_of h)) (Err take_fault.SnapshotMode)

abbrev pub history_after_take : StreamConfig → History → History
history_after_take c h = by_session_mode c.session (keep_oldest h) h

-- the filling block, if it has a record, is closed and waits, and an empty one follows
abbrev pub close_filling : List Entry → ℕ → History → History
close_filling [] end h = record h { last = end }
close_filling (e ∷ es) end h = record h {
  closed = h.closed ++ record { block = h.filling; end = end; status = Waiting } ∷ [];
  filling = record { number = h.filling.number + 1; records = []; discarded = [] };
  last = end;
}

-- each block that waits is kept in this chunk
abbrev pub keep_waiting : ℕ → List Closed → List Closed
keep_waiting k [] = []
keep_waiting k (c ∷ cs) = (if is_waiting c.status then record c { status = Kept k } else c) ∷ keep_waiting k cs

-- all is kept in the chunk, and the next one begins
abbrev pub keep_all : History → History
keep_all h = record h {
  closed = keep_waiting h.cuts h.closed;
  cuts = h.cuts + 1;
  starts = h.starts ++ offered_of h ∷ [];
}

abbrev pub history_cut_ring : ℕ → History → History
history_cut_ring end h = keep_all (close_filling h.filling.records end h)

-- in a snapshot session nothing is cut
abbrev pub history_after_cut : StreamConfig → ℕ → History → History
history_after_cut c moment h = by_session_mode c.session (history_cut_ring (max moment h.last) h) h

-- how many blocks and records a cut keeps
abbrev pub done_with : ℕ → List ClosedBuffer → CutDone
done_with k buffers = record { chunk = k; packets = length buffers; records = records_in buffers }

abbrev pub history_cut_answer : StreamConfig → ℕ → History → Result CutDone CutFault
history_cut_answer c moment h =
    by_session_mode c.session (Ok (done_with h.cuts (ring_of (max moment h.last) h))) (Err cut_fault.SnapshotMode)

-- what waits, or is kept in this chunk, is cleared
abbrev pub cleared_status : ℕ → Status → Status
cleared_status k Waiting = Cleared false
cleared_status k Dropped = Dropped
cleared_status k (Kept j) = if j == k then Cleared true else Kept j
cleared_status k (Cleared consumed) = Cleared consumed

abbrev pub clear_blocks : ℕ → List Closed → List Closed
clear_blocks k [] = []
clear_blocks k (c ∷ cs) = record c { status = cleared_status k c.status } ∷ clear_blocks k cs

abbrev pub clear_all : History → History
clear_all h = record h { closed = clear_blocks h.cuts h.closed }

-- the filling block, if it has a record, is closed; it, all that waits and all that is kept in the current chunk is cleared.
-- No moment is stored
abbrev pub history_clear_ring : History → History
history_clear_ring h = clear_all (close_filling h.filling.records h.last h)

-- in a snapshot session nothing is cleared
abbrev pub history_after_clear : StreamConfig → History → History
history_after_clear c h = by_session_mode c.session (history_clear_ring h) h

-- how many blocks and records a clear takes away
abbrev pub cleared_with : List ClosedBuffer → ClearedCounts
cleared_with buffers = record { packets = length buffers; records = records_in buffers }

abbrev pub history_clear_answer : StreamConfig → History → Result ClearedCounts ClearFault
history_clear_answer c h =
    by_session_mode c.session (Ok (cleared_with (chunk_of h.cuts h ++ ring_of h.last h))) (Err clear_fault.SnapshotMode)

-- the answer of a clear that finds packets
abbrev pub ClearsSome : Result ClearedCounts ClearFault → Type 0
ClearsSome (Ok cleared) = cleared.packets ≢ 0
ClearsSome (Err fault) = ⊥

-- how many packets, records and bytes a release gives up
abbrev pub released_with : StreamConfig → List ClosedBuffer → Released
released_with c buffers = record {
  packets = length buffers;
  records = records_in buffers;
  bytes = bytes_of (map (packet_of c) buffers);
}

-- why a chunk isn't released: it isn't closed, or it was released before
abbrev pub history_release_refusal : ℕ → History → Option ReleaseFault
history_release_refusal k h =
    if nat_le h.cuts k then Some release_fault.NoPart
    else (if is_released k h then Some release_fault.Released else None)

abbrev pub released_unless : Option ReleaseFault → Released → Result Released ReleaseFault
released_unless (Some fault) released = Err fault
released_unless None released = Ok released

-- a chunk is released. It keeps its blocks, so what became of each record stays known
abbrev pub history_release_answer : StreamConfig → ℕ → History → Result Released ReleaseFault
history_release_answer c k h = released_unless (history_release_refusal k h) (released_with c (chunk_of k h))

abbrev pub release_chunk : ℕ → History → History
release_chunk k h = record h { released = k ∷ h.released }

abbrev pub release_chunk_unless : Option ReleaseFault → ℕ → History → History
release_chunk_unless (Some fault) k h = h
release_chunk_unless None k h = release_chunk k h

abbrev pub history_after_release : ℕ → History → History
history_after_release k h = release_chunk_unless (history_release_refusal k h) k h

-- the answer of a release that finds packets
abbrev pub ReleasesSome : Result Released ReleaseFault → Type 0
ReleasesSome (Ok released) = released.packets ≢ 0
ReleasesSome (Err fault) = ⊥

-- why the chunks below this number aren't forgotten: not all of them are closed, or not all were released
abbrev pub history_forget_refusal : ℕ → History → Option ForgetFault
history_forget_refusal k h =
    if nat_lt h.cuts k then Some forget_fault.NoPart
    else (if are_released k h then None else Some forget_fault.Held)

abbrev pub done_unless : Option ForgetFault → Result (Unit {0}) ForgetFault
done_unless (Some fault) = Err fault
done_unless None = Ok tt

-- chunks are forgotten: they keep their blocks, and no fate is told any more of what was offered before the next one began
abbrev pub history_forget_answer : ℕ → History → Result (Unit {0}) ForgetFault
history_forget_answer k h = done_unless (history_forget_refusal k h)

abbrev pub forget_chunks_unless : Option ForgetFault → ℕ → History → History
forget_chunks_unless (Some fault) k h = h
forget_chunks_unless None k h = record h { forgotten = max k h.forgotten }

abbrev pub history_after_forget : ℕ → History → History
history_after_forget k h = forget_chunks_unless (history_forget_refusal k h) k h

-- what a peek shows of the stream at a moment: the filling block, if it has a record, as if it were closed
abbrev pub history_snap : StreamConfig → ℕ → History → SnapState
history_snap c moment h = snap_state c.number (offered_of h) (discarded_of h)
    (map (packet_of c) (ring_of (max moment h.last) h))

abbrev pub history_after_switch : Bool → History → History
history_after_switch active h = record h { active = active }

abbrev pub history_counts : StreamConfig → History → Counts
history_counts c h = record {
  offered = offered_of h;
  discarded = discarded_of h;
  overwritten = records_where is_dropped h.closed;
  overwritten_packets = blocks_where is_dropped h.closed;
  in_ring = records_in (waiting_of h) + length h.filling.records;
  consumed = records_where is_consumed h.closed;
  in_chunks = records_where is_kept h.closed;
  cleared = records_where is_cleared h.closed;
  withdrawn = records_where is_withdrawn h.closed;
  cuts = h.cuts;
  current_bytes = min (bytes_of (map (packet_of c) (chunk_of h.cuts h))) (2 ^ 64 - 1);
}
