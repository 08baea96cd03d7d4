-- What is true of every stream value, by itself.
use Rattle.std.specs.Prelude.{◌≡◌, ◌≢◌, ℕ, ◌+◌, ◌^◌, ◌≤◌, ◌<◌, min, List, [], ◌∷◌, length, None}
use Rattle.std.specs.List.{AllByRecursion}
use Rattle.tr_book.specs.Parts.{PartState, no_parts}
use Rattle.tr_terms.specs.declared.mode.Mode.TheVariants.{Discard, Overwrite}
use Rattle.tr_packet.specs.Order.{IsBelow}
use Rattle.tr_packet.specs.Packets.{IsPacket, MakePacket}
use Rattle.tr_record.specs.Records.{Entry}
use Rattle.tr_record.specs.Weight.{weight_of}
use Rattle.tr_ring.specs.Ring.{RingState, IsClosedWithin}
use Rattle.tr_ring.specs.ClosedBuffer.{ClosedBuffer}
use Rattle.tr_stream.specs.Chunks.{origin_of, packet_of}
use Rattle.tr_ring.specs.Heads.{begin_of}
use Rattle.tr_stream.specs.State.{StreamState, in_ring, in_parts}
use Rattle.tr_stream.specs.StateSteps.{overwrites}
use Rattle.tr_terms.specs.declared.session_mode.SessionMode.TheVariants.{Snapshot}
use Rattle.tr_stream.specs.declared.config.StreamConfig.{StreamConfig}
use Rattle.tr_terms.specs.declared.limits.TheConstants.{FEWEST_SUB_BUFFERS, LARGEST_PACKET, LAST_MOMENT, MOST_OFFERS, MOST_SUB_BUFFERS, SMALLEST_SUB_BUFFER}

-- a stream can be made with this configuration
pub record IsConfig (c : StreamConfig) : Type 0 where
  pub uuid : length c.uuid ≡ 16
  pub number : c.number < 2 ^ 64
  pub size_high : c.geometry.size ≤ LARGEST_PACKET
  pub count_high : c.geometry.count ≤ MOST_SUB_BUFFERS

-- rings are made with sizes and counts of at least these
pub record IsUsable (c : StreamConfig) : Type 0 where
  pub size : SMALLEST_SUB_BUFFER ≤ c.geometry.size
  pub count : FEWEST_SUB_BUFFERS ≤ c.geometry.count

-- the ring is as it was made: an empty sub-buffer has room for a record, and there is another one
pub record IsMade (c : StreamConfig) (r : RingState) : Type 0 where
  pub size : r.size ≡ c.geometry.size
  pub count : r.count ≡ c.geometry.count
  pub mode : r.overwrite ≡ overwrites c.mode
  pub origin : r.origin ≡ origin_of c
  pub size_low : SMALLEST_SUB_BUFFER ≤ c.geometry.size
  pub count_low : FEWEST_SUB_BUFFERS ≤ c.geometry.count

-- each of these can be sent as a packet
abbrev pub ArePackets : StreamConfig → List ClosedBuffer → Type 0
ArePackets c [] = Unit {0}
ArePackets c (b ∷ bs) = IsPacket (packet_of c b) × ArePackets c bs

-- each packet of a part can be sent
abbrev pub CanBeSent : PartState → Type 0
CanBeSent part = AllByRecursion IsPacket part.packets

-- the records of a sub-buffer that the next record may join, with this serial and a moment not before this one
pub record IsOpen (serial last : ℕ) (es : List Entry) : Type 0 where
  pub below : AllByRecursion (IsBelow serial) es
  pub makes : es ≢ [] → MakePacket (begin_of es) last es

-- what each mode never does
pub record LosesByMode (s : StreamState) : Type 0 where
  pub discarding : s.config.mode ≡ Discard → (s.counters.overwritten ≡ 0) × (s.counters.overwritten_packets ≡ 0)
  pub overwriting : s.config.mode ≡ Overwrite → s.ring.discarded ≡ 0

pub record IsSound (s : StreamState) : Type 0 where
  pub config : IsConfig s.config
  pub made : IsMade s.config s.ring
  pub few : s.counters.offered ≤ MOST_OFFERS
  pub in_time : s.counters.last ≤ LAST_MOMENT
  -- each offer is in one place
  pub total : s.ring.discarded + s.counters.overwritten + s.counters.cleared + in_ring s.ring + in_parts s.parts ≡ s.counters.offered
  pub consumed : s.counters.consumed ≡ in_parts s.parts + s.counters.withdrawn
  pub withdrawn : s.counters.withdrawn ≤ s.counters.cleared
  -- no more numbers are used than offers were accepted, and none is both overwritten and in the ring
  pub numbers : s.ring.seq + min 1 (length s.ring.current) ≤ s.counters.offered
  pub dropped : s.counters.overwritten_packets + length s.ring.waiting ≤ s.ring.seq
  pub room : length s.ring.waiting + 1 ≤ s.config.geometry.count
  pub fits : weight_of s.ring.current ≤ s.config.geometry.size
  pub waiting_fit : AllByRecursion (IsClosedWithin s.config.geometry.size) s.ring.waiting
  pub losses : LosesByMode s
  -- what waits can be sent, and what is filling can be closed
  pub packets : ArePackets s.config s.ring.waiting
  pub filling : IsOpen s.counters.offered s.counters.last s.ring.current
  -- in a snapshot session nothing was consumed, nothing was cut, and nothing was cleared
  pub unconsumed : s.config.session ≡ Snapshot → s.parts ≡ no_parts
  -- the current part has its packets
  pub current_held : s.parts.current.released ≡ None
  -- what was consumed can be sent
  pub closed_sent : AllByRecursion CanBeSent s.parts.closed
  pub current_sent : CanBeSent s.parts.current
