-- The pages of a ring: those that wait, and those that are free.
use Rattle.std.specs.Prelude.{◌≡◌, ℕ, ◌+◌, List, length, map, Option, Some, find}
use Rattle.std.specs.List.{AllByRecursion}
use Rattle.std.specs.Option.{option_map}
use Rattle.tr_record.specs.Records.{has_serial}
use Rattle.circular_buffer.specs.Buffer.{Buffer}
use Rattle.tr_subbuf.specs.SubBuffer.{SubBuffer, empty_buffer}
use Rattle.tr_packet.specs.declared.head.Head.{Head}
use Rattle.tr_ring.specs.ClosedBuffer.{ClosedBuffer}
use Rattle.tr_ring.specs.Heads.{head_from}
use Rattle.tr_ring.specs.declared.origin.Origin.{Origin}

-- a page that waits: the closed sub-buffer in it, its size, and what the packet that stands in it says
pub record SealedPage : Type 0 where
  pub closed : ClosedBuffer
  pub size : ℕ
  pub head : Option Head

abbrev pub sealed_page : ClosedBuffer → ℕ → Option Head → SealedPage
sealed_page closed size head = record { closed = closed; size = size; head = head }

-- the number of the page that has the record of a serial
abbrev pub seq_in_pages : ℕ → List SealedPage → Option ℕ
seq_in_pages n pages = option_map (λ (p : SealedPage). p.closed.seq)
    (find (λ (p : SealedPage). has_serial n p.closed.records) pages)

-- the sub-buffers in pages
abbrev pub closed_in : List SealedPage → List ClosedBuffer
closed_in pages = map (λ (p : SealedPage). p.closed) pages

abbrev pub HasSize : ℕ → SealedPage → Type 0
HasSize size p = p.size ≡ size

-- what stands in it is the packet that it becomes
abbrev pub IsPacketFrom : Origin → SealedPage → Type 0
IsPacketFrom o p = p.head ≡ Some (head_from o p.closed)

abbrev pub IsFree : ℕ → SubBuffer → Type 0
IsFree size b = b ≡ empty_buffer size

-- each page but the current one waits or is free, all have one size, and there is room for all of them to be free
pub record ArePages (origin : Origin) (size : ℕ) (waiting : List SealedPage) (free : Buffer SubBuffer) (count : ℕ) : Type 0 where
  pub sizes : AllByRecursion (HasSize size) waiting
  pub packets : AllByRecursion (IsPacketFrom origin) waiting
  pub empty : AllByRecursion (IsFree size) free.items
  pub all : length free.items + length waiting ≡ count
  pub room : free.capacity ≡ count
