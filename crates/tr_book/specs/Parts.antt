-- The packets that were consumed, in parts.
use Rattle.std.specs.Prelude.{◌≡◌, ◌≤◌, ◌*◌, ℕ, zero, suc, ◌+◌, max, true, List, [], ◌∷◌, ◌++◌, length, sum_by, slice_get, Option, Some, None, is_some, take, find, ◌==◌, nat_le, nat_lt, if◌then◌else◌}
use Rattle.std.specs.List.{AllByRecursion}
use Rattle.std.specs.Option.{option_map, unwrap_or}
use Rattle.tr_book.specs.Runs.{GapsShow, PacketsRise, RunsRise, packet_runs, seq_in_runs}
use Rattle.tr_book.specs.declared.runs.Run.{Run}
use Rattle.tr_packet.specs.Packets.{Contents, packet_size}
use Rattle.tr_record.specs.Records.{has_serial}
use Rattle.tr_terms.specs.declared.limits.TheConstants.{LARGEST_PACKET}

-- what is kept of packets that were released: their runs, and how many packets, records and bytes they were
pub record Rest : Type 0 where
  pub runs : List Run
  pub packets : ℕ
  pub records : ℕ
  pub bytes : ℕ

-- the packets of one stream in one trace chunk; or none, and what is kept of them once they are released
pub record PartState : Type 0 where
  pub id : ℕ
  pub packets : List Contents
  pub released : Option Rest

abbrev pub part_state : ℕ → List Contents → PartState
part_state id packets = record { id = id; packets = packets; released = None }

-- the closed parts in order, the current one, and the runs of the packets that were cleared; the serials at which the parts
-- after the first one began; and how many of the closed parts, the first ones, are forgotten: they are released, and no call
-- tells what they were
pub record PartsState : Type 0 where
  pub closed : List PartState
  pub current : PartState
  pub cleared : List Run
  pub starts : List ℕ
  pub forgotten : ℕ

abbrev pub parts_state : List PartState → PartState → List Run → List ℕ → ℕ → PartsState
parts_state closed current cleared starts forgotten =
    record { closed = closed; current = current; cleared = cleared; starts = starts; forgotten = forgotten }

abbrev pub bytes_of : List Contents → ℕ
bytes_of packets = sum_by packet_size packets

-- how many records packets have
abbrev pub records_of : List Contents → ℕ
records_of packets = sum_by (λ (p : Contents). length p.records) packets

abbrev pub empty_part : ℕ → PartState
empty_part id = part_state id []

abbrev pub no_parts : PartsState
no_parts = parts_state [] (empty_part 0) [] [] 0

-- the packet is added at the end of the current part
abbrev pub with_packet : Contents → PartsState → PartsState
with_packet p s = record s { current = record s.current { packets = s.current.packets ++ p ∷ [] } }

-- the packet is added at the end of a part
abbrev pub part_with : Contents → PartState → PartState
part_with p part = record part { packets = part.packets ++ p ∷ [] }

-- this is the current part, in the place of the one that was
abbrev pub with_part : PartState → PartsState → PartsState
with_part part s = record s { current = part }

-- the packets are added at the end of the current part, in order
abbrev pub with_packets : List Contents → PartsState → PartsState
with_packets ps s = record s { current = record s.current { packets = s.current.packets ++ ps } }

-- the current part joins the closed ones, and the next one begins at this serial
abbrev pub close_part : ℕ → PartsState → PartsState
close_part next s =
    parts_state (s.closed ++ s.current ∷ []) (empty_part (s.current.id + 1)) s.cleared (s.starts ++ next ∷ []) s.forgotten

-- the current part is emptied, and the runs of its packets are kept after the others, and these after them
abbrev pub clear_part : List Run → PartsState → PartsState
clear_part more s =
    parts_state s.closed (empty_part s.current.id) (s.cleared ++ (packet_runs s.current.packets ++ more)) s.starts s.forgotten

abbrev pub rest_of : List Contents → Rest
rest_of packets = record {
  runs = packet_runs packets;
  packets = length packets;
  records = records_of packets;
  bytes = bytes_of packets;
}

-- a part with these packets is released
abbrev pub released_part : ℕ → List Contents → PartState
released_part id packets = record { id = id; packets = []; released = Some (rest_of packets) }

abbrev pub release : PartState → PartState
release p = released_part p.id p.packets

-- the element at this place is changed
abbrev pub change_at : {X : Type 0} → ℕ → (X → X) → List X → List X
change_at i f [] = []
change_at zero f (x ∷ xs) = f x ∷ xs
change_at (suc i) f (x ∷ xs) = x ∷ change_at i f xs

-- a closed part is released
abbrev pub release_part : ℕ → PartsState → PartsState
release_part k s = record s { closed = change_at k release s.closed }

-- the closed parts below this number are forgotten, and those that were before
abbrev pub forget_parts : ℕ → PartsState → PartsState
forget_parts k s = record s { forgotten = max k s.forgotten }

-- a closed part by its place, or the current one after them
abbrev pub part_at : ℕ → PartsState → Option PartState
part_at k s = if k == length s.closed then Some s.current else slice_get s.closed k

-- the same, if it isn't forgotten
abbrev pub part_known : ℕ → PartsState → Option PartState
part_known k s = if nat_lt k s.forgotten then None else part_at k s

-- a closed part by its place, if it isn't one of the first ones, so many, that are forgotten
abbrev pub closed_at : ℕ → ℕ → List PartState → Option PartState
closed_at k forgotten closed = if nat_lt k forgotten then None else slice_get closed k

-- where the part at this place began, if parts after the first one began at these serials
abbrev pub begun_at : ℕ → List ℕ → ℕ
begun_at zero starts = 0
begun_at (suc k) starts = unwrap_or (slice_get starts k) 0

-- the serials below this one are those of forgotten parts, and of what was lost or cleared while these were current
abbrev pub known_from : PartsState → ℕ
known_from s = begun_at s.forgotten s.starts

-- each of these parts was released
abbrev pub AreReleased : List PartState → Type 0
AreReleased parts = AllByRecursion (λ (p : PartState). is_some p.released ≡ true) parts

-- what is forgotten was closed, and released
pub record IsForgetful (s : PartsState) : Type 0 where
  pub closed : s.forgotten ≤ length s.closed
  pub released : AreReleased (take s.forgotten s.closed)

-- the number of the packet that has the record of a serial
abbrev pub seq_among : ℕ → List Contents → Option ℕ
seq_among n packets = option_map (λ (p : Contents). p.head.seq)
    (find (λ (p : Contents). has_serial n p.records) packets)

-- how many packets, records and bytes a part has, or had before it was released
abbrev pub packets_left : List Contents → Option Rest → ℕ
packets_left packets None = length packets
packets_left packets (Some rest) = rest.packets

abbrev pub part_packets : PartState → ℕ
part_packets p = packets_left p.packets p.released

abbrev pub records_left : List Contents → Option Rest → ℕ
records_left packets None = records_of packets
records_left packets (Some rest) = rest.records

abbrev pub part_records : PartState → ℕ
part_records p = records_left p.packets p.released

abbrev pub bytes_left : List Contents → Option Rest → ℕ
bytes_left packets None = bytes_of packets
bytes_left packets (Some rest) = rest.bytes

abbrev pub part_bytes : PartState → ℕ
part_bytes p = bytes_left p.packets p.released

-- the number of its packet that has the record of a serial, or had it before it was released
abbrev pub seq_left : ℕ → List Contents → Option Rest → Option ℕ
seq_left n packets None = seq_among n packets
seq_left n packets (Some rest) = seq_in_runs n rest.runs

abbrev pub seq_in_part : ℕ → PartState → Option ℕ
seq_in_part n p = seq_left n p.packets p.released

-- the current part's number is the number of closed ones
abbrev pub IsNumbered : PartsState → Type 0
IsNumbered s = s.current.id ≡ length s.closed

-- the place of the part in which a serial is, if it is in one: the last one that began at it or before
abbrev pub place_in : ℕ → List ℕ → ℕ
place_in n [] = 0
place_in n (s ∷ starts) = if nat_le s n then place_in n starts + 1 else 0

-- parts, and how many more packets the current one has room for
pub record ReadyState : Type 0 where
  pub parts : PartsState
  pub room : ℕ

-- a part, and how many more packets it has room for
pub record OpenState : Type 0 where
  pub part : PartState
  pub room : ℕ

-- so many records and bytes are those of these packets, and no packet was too large
pub record AreCounted (records bytes : ℕ) (packets : List Contents) : Type 0 where
  pub counted : records ≡ records_of packets
  pub sized : bytes ≡ bytes_of packets
  pub small : bytes ≤ LARGEST_PACKET * records

-- what a search among a part's packets, or their runs, rests on: serials rise, and where some are missing in a packet, that shows
abbrev pub CanBeSearched : List Contents → Option Rest → Type 0
CanBeSearched packets None = PacketsRise 0 packets × GapsShow 0 packets
CanBeSearched packets (Some rest) = RunsRise 0 rest.runs

abbrev pub IsOrdered : PartState → Type 0
IsOrdered p = CanBeSearched p.packets p.released
