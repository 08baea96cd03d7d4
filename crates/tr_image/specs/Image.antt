-- Which packets stand in an image: in any bytes, such as a file of rings, a dump of memory or a copy of a disk.
use Rattle.std.specs.Prelude.{◌<◌, ℕ, zero, suc, List, [], ◌∷◌, ◌++◌, ◌&&◌, Option, Some, None, length, drop, is_none, if◌then◌else◌}
use Rattle.std.specs.Str.{bytes_eq}
use Rattle.tr_packet.specs.Decoding.{contents_in, first_fault}
use Rattle.tr_packet.specs.Packets.{Contents}
use Rattle.tr_subbuf.specs.Stores.{Stands, committed}

-- the packet at the front of bytes, if one of this trace is
abbrev pub packet_of : List ℕ → List ℕ → Option Contents
packet_of uuid bytes = if is_none (first_fault bytes) && bytes_eq (contents_in bytes).head.uuid uuid then Some (contents_in bytes) else None

-- that which stands at the front of memory, as large as its content says
abbrev pub packet_at : List ℕ → List ℕ → Option Contents
packet_at uuid memory = packet_of uuid (committed memory)

abbrev pub if_any : Option Contents → List Contents
if_any None = []
if_any (Some p) = p ∷ []

-- those of a trace that stand in an image, by their places
abbrev pub packets_in : List ℕ → List ℕ → List Contents
packets_in uuid [] = []
packets_in uuid (b ∷ bytes) = if_any (packet_at uuid (b ∷ bytes)) ++ packets_in uuid bytes

-- those at the first places alone
abbrev pub packets_before : ℕ → List ℕ → List ℕ → List Contents
packets_before n uuid [] = []
packets_before zero uuid (b ∷ bytes) = []
packets_before (suc n) uuid (b ∷ bytes) = if_any (packet_at uuid (b ∷ bytes)) ++ packets_before n uuid bytes

-- a packet stands somewhere in an image
pub record StandsIn (p : Contents) (image : List ℕ) : Type 0 where
  pub place : ℕ
  pub within : place < length image
  pub stands : Stands p (drop place image)
