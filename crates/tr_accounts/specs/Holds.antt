-- That a stream holds what was offered to it, and nothing else.
use Rattle.std.specs.Prelude.{◌≡◌, ◌≤◌, ◌+◌, ℕ, List, [], ◌∷◌, ◌++◌, Some, length, slice_get}
use Rattle.std.specs.List.{AllByRecursion, flat_map}
use Rattle.tr_book.specs.Parts.{PartState}
use Rattle.tr_packet.specs.Packets.{Contents}
use Rattle.tr_record.specs.Records.{Entry}
use Rattle.tr_ring.specs.Ring.{ring_records}
use Rattle.tr_stream.specs.Fates.{all_parts}
use Rattle.tr_stream.specs.State.{StreamState}
use Rattle.tr_accounts.specs.StreamSteps.{AcceptedOffer, serial_of}

-- the records of packets, and of parts
abbrev pub packet_records : List Contents → List Entry
packet_records packets = flat_map (λ (p : Contents). p.records) packets

abbrev pub parts_records : List PartState → List Entry
parts_records parts = flat_map (λ (p : PartState). packet_records p.packets) parts

-- the records that a stream holds: its parts', and its ring's. A released part has none
abbrev pub held_records : StreamState → List Entry
held_records s = parts_records (all_parts s.parts) ++ ring_records s.ring

-- a record is what was offered: its id and its payload, and no lesser moment than the one that was given
pub record IsRecordOf (offer : AcceptedOffer) (e : Entry) : Type 0 where
  pub id : e.id ≡ offer.id
  pub payload : e.payload ≡ offer.payload
  pub moment : offer.moment ≤ e.moment

-- it is the offer at its serial
abbrev pub IsOffered : List AcceptedOffer → Entry → Type 0
IsOffered offers e = (offer : AcceptedOffer) × (slice_get offers e.serial ≡ Some offer) × IsRecordOf offer e

-- each offer was answered with its place as its serial, if the first one's place is this
abbrev pub ArePlaced : ℕ → List AcceptedOffer → Type 0
ArePlaced n [] = Unit {0}
ArePlaced n (o ∷ os) = (serial_of o.answer ≡ n) × ArePlaced (n + 1) os

-- a stream counts these offers, each of which has its place as its serial, and each record that it holds is one of them
pub record HoldsOffers (offers : List AcceptedOffer) (s : StreamState) : Type 0 where
  pub many : s.counters.offered ≡ length offers
  pub placed : ArePlaced 0 offers
  pub held : AllByRecursion (IsOffered offers) (held_records s)
