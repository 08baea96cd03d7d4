-- What each call does to what a stream holds, and what it answers.
use Rattle.std.specs.Option.{option_map_or}
use Rattle.std.specs.Prelude.{ℕ, ◌+◌, ◌-◌, ◌^◌, zero, suc, max, min, Bool, true, false, ◌&&◌, nat_lt, nat_le, not, List, [], ◌∷◌, length, map, Option, Some, None, Result, Ok, Err, is_some, slice_get, if◌then◌else◌}
use Rattle.tr_book.specs.Counters.{CountersState, new_counters, with_consumed, with_cleared, at_moment}
use Rattle.tr_book.specs.Parts.{PartState, no_parts, part_bytes, part_packets, part_records, with_packet, with_packets, close_part, clear_part, forget_parts, release_part}
use Rattle.tr_book.specs.Snaps.{SnapState, snap_state}
use Rattle.tr_book.specs.declared.counts.Counts.{Counts}
use Rattle.tr_record.specs.Records.{Entry, entry}
use Rattle.tr_ring.specs.Ring.{after_push, clear_ring, empty_ring, push_answer, drop_front}
use Rattle.tr_ring.specs.ClosedBuffer.{ClosedBuffer}
use Rattle.tr_ring.specs.declared.pushed.Pushed.{Pushed}
use Rattle.tr_ring.specs.declared.pushed.Pushed.TheVariants as pushed
use Rattle.tr_terms.specs.declared.mode.Mode.{Mode}
use Rattle.tr_terms.specs.declared.mode.Mode.TheVariants.{Discard, Overwrite}
use Rattle.tr_stream.specs.Chunks.{origin_of, packet_of, ring_buffers, buffer_runs}
use Rattle.tr_stream.specs.State.{StreamState, in_ring, in_parts, stream_state}
use Rattle.tr_stream.specs.declared.answers.ClearFault.{ClearFault}
use Rattle.tr_stream.specs.declared.answers.ClearFault.TheVariants as clear_fault
use Rattle.tr_stream.specs.declared.answers.Cleared.{Cleared}
use Rattle.tr_stream.specs.Steps.{taken_from, done_unless, done_with, released_unless}
use Rattle.tr_stream.specs.declared.answers.CutDone.{CutDone}
use Rattle.tr_stream.specs.declared.answers.CutFault.{CutFault}
use Rattle.tr_stream.specs.declared.answers.CutFault.TheVariants as cut_fault
use Rattle.tr_stream.specs.declared.answers.ForgetFault.{ForgetFault}
use Rattle.tr_stream.specs.declared.answers.ForgetFault.TheVariants as forget_fault
use Rattle.tr_stream.specs.declared.answers.OfferFault.{OfferFault}
use Rattle.tr_stream.specs.declared.answers.OfferFault.TheVariants.{Inactive, TooBig, Spent}
use Rattle.tr_stream.specs.declared.answers.Offered.{Offered}
use Rattle.tr_stream.specs.declared.answers.Offered.TheVariants.{Stored, StoredOver, Discarded}
use Rattle.tr_stream.specs.declared.answers.ReleaseFault.{ReleaseFault}
use Rattle.tr_stream.specs.declared.answers.ReleaseFault.TheVariants as release_fault
use Rattle.tr_stream.specs.declared.answers.Released.{Released}
use Rattle.tr_stream.specs.declared.answers.TakeFault.{TakeFault}
use Rattle.tr_stream.specs.declared.answers.TakeFault.TheVariants as take_fault
use Rattle.tr_stream.specs.declared.answers.Taken.{Taken}
use Rattle.tr_stream.specs.declared.config.StreamConfig.{StreamConfig}
use Rattle.tr_terms.specs.SessionModes.{by_session_mode}
use Rattle.tr_terms.specs.declared.limits.TheConstants.{MOST_OFFERS, SMALLEST_PACKET}

-- an offer as it is stored
abbrev pub state_entry : ℕ → ℕ → List ℕ → StreamState → Entry
state_entry moment id payload s = entry s.counters.offered (max moment s.counters.last) id payload

-- why an offer of `len` bytes is refused: the first of these that applies
abbrev pub refusal_of : ℕ → StreamState → Option OfferFault
refusal_of len s =
    if not s.active then Some Inactive
    else (if nat_lt (s.config.geometry.size - SMALLEST_PACKET) len then Some TooBig
    else (if nat_le MOST_OFFERS s.counters.offered then Some Spent
    else None))

-- the counters after an accepted offer
abbrev pub counters_after_push : Pushed → ℕ → CountersState → CountersState
counters_after_push (pushed.Stored seq) moment b = record b { offered = b.offered + 1; last = moment }
counters_after_push (pushed.StoredOver seq gone_seq gone_count) moment b = record b {
  offered = b.offered + 1;
  overwritten = b.overwritten + gone_count;
  overwritten_packets = b.overwritten_packets + 1;
  last = moment;
}
counters_after_push pushed.Refused moment b = record b { offered = b.offered + 1; last = moment }

-- what the ring made of it, as the stream answers it
abbrev pub offered_as : ℕ → Pushed → Offered
offered_as serial (pushed.Stored seq) = Stored serial seq
offered_as serial (pushed.StoredOver seq gone_seq gone_count) = StoredOver serial seq gone_seq gone_count
offered_as serial pushed.Refused = Discarded serial

-- an accepted offer
abbrev pub state_with_offer : Entry → StreamState → StreamState
state_with_offer e s = record s {
  ring = after_push e s.ring;
  counters = counters_after_push (push_answer e s.ring) e.moment s.counters;
}

abbrev pub state_answer_unless : Option OfferFault → Entry → StreamState → Result Offered OfferFault
state_answer_unless (Some fault) e s = Err fault
state_answer_unless None e s = Ok (offered_as s.counters.offered (push_answer e s.ring))

abbrev pub state_unless : Option OfferFault → Entry → StreamState → StreamState
state_unless (Some fault) e s = s
state_unless None e s = state_with_offer e s

-- an offer
abbrev pub state_offer_answer : ℕ → ℕ → List ℕ → StreamState → Result Offered OfferFault
state_offer_answer moment id payload s =
    state_answer_unless (refusal_of (length payload) s) (state_entry moment id payload s) s

abbrev pub state_after_offer : ℕ → ℕ → List ℕ → StreamState → StreamState
state_after_offer moment id payload s = state_unless (refusal_of (length payload) s) (state_entry moment id payload s) s

-- the oldest sub-buffer that waits is a packet of the current part now
abbrev pub move_oldest : List ClosedBuffer → StreamState → StreamState
move_oldest [] s = s
move_oldest (b ∷ bs) s = record s {
  ring = drop_front s.ring;
  parts = with_packet (packet_of s.config b) s.parts;
  counters = record s.counters { consumed = s.counters.consumed + length b.records };
}

-- a take
abbrev pub state_take_answer : StreamState → Result Taken TakeFault
state_take_answer s = by_session_mode s.config.session (taken_from s.parts.current.id s.ring.waiting)
    (Err take_fault.SnapshotMode)

abbrev pub state_after_take : StreamState → StreamState
state_after_take s = by_session_mode s.config.session (move_oldest s.ring.waiting s) s

-- all that the ring holds is in the current part, which is closed
abbrev pub state_cut_ring : ℕ → StreamState → StreamState
state_cut_ring end s = record s {
  ring = clear_ring s.ring;
  parts = close_part s.counters.offered (with_packets (map (packet_of s.config) (ring_buffers end s.ring)) s.parts);
  counters = at_moment end (with_consumed (in_ring s.ring) s.counters);
}

-- a cut
abbrev pub cut_done : ℕ → StreamState → CutDone
cut_done end s = done_with s.parts.current.id (ring_buffers end s.ring)

abbrev pub state_cut_answer : ℕ → StreamState → Result CutDone CutFault
state_cut_answer moment s = by_session_mode s.config.session (Ok (cut_done (max moment s.counters.last) s))
    (Err cut_fault.SnapshotMode)

abbrev pub state_after_cut : ℕ → StreamState → StreamState
state_after_cut moment s = by_session_mode s.config.session (state_cut_ring (max moment s.counters.last) s) s

-- all that the ring and the current part hold is gone, but for its runs
abbrev pub state_clear_ring : StreamState → StreamState
state_clear_ring s = record s {
  ring = clear_ring s.ring;
  parts = clear_part (buffer_runs (ring_buffers s.counters.last s.ring)) s.parts;
  counters = with_cleared (part_records s.parts.current + in_ring s.ring) (part_records s.parts.current) s.counters;
}

-- a clear: it takes no moment, so what is filling is closed at the last stored one, which nothing shows
abbrev pub state_cleared : StreamState → Cleared
state_cleared s = record {
  packets = part_packets s.parts.current + length (ring_buffers s.counters.last s.ring);
  records = part_records s.parts.current + in_ring s.ring;
}

abbrev pub state_clear_answer : StreamState → Result Cleared ClearFault
state_clear_answer s = by_session_mode s.config.session (Ok (state_cleared s)) (Err clear_fault.SnapshotMode)

abbrev pub state_after_clear : StreamState → StreamState
state_after_clear s = by_session_mode s.config.session (state_clear_ring s) s

-- why a part isn't released: it isn't closed, or it was released before
abbrev pub part_refusal : Option PartState → Option ReleaseFault
part_refusal None = Some release_fault.NoPart
part_refusal (Some p) = if is_some p.released then Some release_fault.Released else None

abbrev pub state_release_refusal : ℕ → StreamState → Option ReleaseFault
state_release_refusal k s = part_refusal (slice_get s.parts.closed k)

-- what a closed part has
abbrev pub size_of_part : Option PartState → Released
size_of_part part = record {
  packets = option_map_or part_packets part 0;
  records = option_map_or part_records part 0;
  bytes = option_map_or part_bytes part 0;
}

-- a release of a closed part
abbrev pub state_release_answer : ℕ → StreamState → Result Released ReleaseFault
state_release_answer k s = released_unless (state_release_refusal k s) (size_of_part (slice_get s.parts.closed k))

abbrev pub release_part_unless : Option ReleaseFault → ℕ → StreamState → StreamState
release_part_unless (Some fault) k s = s
release_part_unless None k s = record s { parts = release_part k s.parts }

abbrev pub state_after_release : ℕ → StreamState → StreamState
state_after_release k s = release_part_unless (state_release_refusal k s) k s

-- the closed part at this place was released
abbrev pub is_part_released : ℕ → StreamState → Bool
is_part_released k s = option_map_or (λ (p : PartState). is_some p.released) (slice_get s.parts.closed k) false

-- each one below it was
abbrev pub are_parts_released : ℕ → StreamState → Bool
are_parts_released zero s = true
are_parts_released (suc k) s = are_parts_released k s && is_part_released k s

-- why the parts below this number aren't forgotten: not all of them are closed, or not all were released
abbrev pub state_forget_refusal : ℕ → StreamState → Option ForgetFault
state_forget_refusal k s =
    if nat_lt (length s.parts.closed) k then Some forget_fault.NoPart
    else (if are_parts_released k s then None else Some forget_fault.Held)

-- parts are forgotten
abbrev pub state_forget_answer : ℕ → StreamState → Result (Unit {0}) ForgetFault
state_forget_answer k s = done_unless (state_forget_refusal k s)

abbrev pub forget_parts_unless : Option ForgetFault → ℕ → StreamState → StreamState
forget_parts_unless (Some fault) k s = s
forget_parts_unless None k s = record s { parts = forget_parts k s.parts }

abbrev pub state_after_forget : ℕ → StreamState → StreamState
state_after_forget k s = forget_parts_unless (state_forget_refusal k s) k s

-- what a peek shows of the stream at a moment
abbrev pub state_snap : ℕ → StreamState → SnapState
state_snap moment s = snap_state s.config.number s.counters.offered s.ring.discarded
    (map (packet_of s.config) (ring_buffers (max moment s.counters.last) s.ring))

abbrev pub state_after_switch : Bool → StreamState → StreamState
state_after_switch active s = record s { active = active }

abbrev pub state_counts : StreamState → Counts
state_counts s = record {
  offered = s.counters.offered;
  discarded = s.ring.discarded;
  overwritten = s.counters.overwritten;
  overwritten_packets = s.counters.overwritten_packets;
  in_ring = in_ring s.ring;
  consumed = s.counters.consumed;
  in_chunks = in_parts s.parts;
  cleared = s.counters.cleared;
  withdrawn = s.counters.withdrawn;
  cuts = length s.parts.closed;
  current_bytes = min (part_bytes s.parts.current) (2 ^ 64 - 1);
}

-- whether the oldest sub-buffer is overwritten
abbrev pub overwrites : Mode → Bool
overwrites Discard = false
overwrites Overwrite = true

-- at the start
abbrev pub new_state : StreamConfig → StreamState
new_state c = stream_state c (empty_ring (origin_of c) c.geometry.size c.geometry.count (overwrites c.mode)) no_parts new_counters
    false
