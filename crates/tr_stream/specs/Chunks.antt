-- The ring and the trace chunks of a history: its blocks, by what became of them, and their packets.
use Rattle.std.specs.Prelude.{ℕ, ◌+◌, zero, suc, Bool, List, [], ◌∷◌, ◌++◌, length, map, nat_le, nat_lt, Option, Some, None, if◌then◌else◌}
use Rattle.std.specs.List.{flat_map}
use Rattle.tr_book.specs.Parts.{PartState, part_state, released_part}
use Rattle.tr_book.specs.Runs.{runs_of}
use Rattle.tr_book.specs.declared.runs.Run.{Run}
use Rattle.tr_packet.specs.Packets.{Contents}
use Rattle.tr_record.specs.Records.{Entry}
use Rattle.tr_ring.specs.ClosedBuffer.{ClosedBuffer, closed_buffer}
use Rattle.tr_ring.specs.Heads.{packet_from}
use Rattle.tr_ring.specs.Ring.{RingState}
use Rattle.tr_ring.specs.declared.origin.Origin.{Origin}
use Rattle.tr_stream.specs.History.{Status, Closed, History, is_waiting, is_kept, is_kept_in, is_cleared, is_released, discarded_of}
use Rattle.tr_stream.specs.declared.config.StreamConfig.{StreamConfig}

-- the sub-buffer of a closed block, with the number of records discarded before the block
abbrev pub buffer_of : ℕ → Closed → ClosedBuffer
buffer_of discarded c = closed_buffer c.block.number c.end (discarded + length c.block.discarded) c.block.records

-- the sub-buffers of the blocks of this status, in order
abbrev pub buffers_where : (Status → Bool) → ℕ → List Closed → List ClosedBuffer
buffers_where wanted discarded [] = []
buffers_where wanted discarded (c ∷ cs) =
    let rest = buffers_where wanted (discarded + length c.block.discarded) cs in
    if wanted c.status then buffer_of discarded c ∷ rest else rest

-- the closed sub-buffers that wait
abbrev pub waiting_of : History → List ClosedBuffer
waiting_of h = buffers_where is_waiting 0 h.closed

-- a current sub-buffer as if closed now, left out if it has no record
abbrev pub closed_if_any : (seq end discarded : ℕ) → List Entry → List ClosedBuffer
closed_if_any seq end discarded [] = []
closed_if_any seq end discarded (e ∷ es) = closed_buffer seq end discarded (e ∷ es) ∷ []

-- the ring, the filling block as if it were closed at this moment
abbrev pub ring_of : ℕ → History → List ClosedBuffer
ring_of end h = waiting_of h ++ closed_if_any h.filling.number end (discarded_of h) h.filling.records

-- the same for a ring
abbrev pub ring_buffers : ℕ → RingState → List ClosedBuffer
ring_buffers end r = r.waiting ++ closed_if_any r.seq end r.discarded r.current

-- the records that the ring holds, the oldest first
abbrev pub history_ring : History → List Entry
history_ring h = flat_map (λ (b : ClosedBuffer). b.records) (waiting_of h) ++ h.filling.records

-- what a chunk keeps
abbrev pub chunk_of : ℕ → History → List ClosedBuffer
chunk_of k h = buffers_where (is_kept_in k) 0 h.closed

-- what any chunk keeps
abbrev pub kept_of : History → List ClosedBuffer
kept_of h = buffers_where is_kept 0 h.closed

-- what was cleared
abbrev pub cleared_of : History → List ClosedBuffer
cleared_of h = buffers_where is_cleared 0 h.closed

-- the runs of sub-buffers, in order
abbrev pub buffer_runs : List ClosedBuffer → List Run
buffer_runs buffers = flat_map (λ (b : ClosedBuffer). runs_of b.seq b.records) buffers

-- whose packets a stream's are
abbrev pub origin_of : StreamConfig → Origin
origin_of c = record { uuid = c.uuid; stream = c.number }

-- the packet that a closed sub-buffer becomes
abbrev pub packet_of : StreamConfig → ClosedBuffer → Contents
packet_of c = packet_from (origin_of c)

-- a part: the packets of a chunk
abbrev pub part_of : StreamConfig → ℕ → List ClosedBuffer → PartState
part_of c k buffers = part_state k (map (packet_of c) buffers)

-- the part of a chunk, which may have been released
abbrev pub part_if : Bool → ℕ → List Contents → PartState
part_if released k packets = if released then released_part k packets else part_state k packets

-- the part of a closed chunk
abbrev pub closed_part : StreamConfig → ℕ → History → PartState
closed_part c k h = part_if (is_released k h) k (map (packet_of c) (chunk_of k h))

-- the parts of the chunks below a number, in order
abbrev pub parts_below : StreamConfig → ℕ → History → List PartState
parts_below c zero h = []
parts_below c (suc k) h = parts_below c k h ++ closed_part c k h ∷ []

-- the part of a chunk, if it was begun
abbrev pub part_in : StreamConfig → ℕ → History → Option PartState
part_in c k h = if nat_le k h.cuts then Some (closed_part c k h) else None

-- the part of a chunk, if it was begun and isn't forgotten
abbrev pub part_known_in : StreamConfig → ℕ → History → Option PartState
part_known_in c k h = if nat_lt k h.forgotten then None else part_in c k h
