-- What an audit of a stream's files says of its history.
use Rattle.std.specs.Prelude.{◌≡◌, ◌<◌, ℕ, zero, suc, Bool, false, ◌&&◌, ◌||◌, nat_eq, nat_lt, List, [], ◌++◌, map, None, if◌then◌else◌, unwrap_or}
use Rattle.std.specs.List.{flat_map, last_or, list_any}
use Rattle.tr_book.specs.Parts.{PartState}
use Rattle.tr_chunk.specs.Audit.{all_of}
use Rattle.tr_chunk.specs.Files.{packets_text}
use Rattle.tr_chunk.specs.declared.stream_audit.StreamAudit.{StreamAudit}
use Rattle.tr_packet.specs.Packets.{Contents}
use Rattle.tr_record.specs.Records.{Entry}
use Rattle.tr_ring.specs.ClosedBuffer.{ClosedBuffer}
use Rattle.tr_stream.specs.Fates.{all_parts}
use Rattle.tr_stream.specs.Chunks.{chunk_of}
use Rattle.tr_stream.specs.History.{Closed, History, is_cleared, is_dropped, is_kept, is_released}
use Rattle.tr_stream.specs.State.{StreamState}

-- the packets of each part, and of all parts, in order
abbrev pub packets_by_part : StreamState → List (List Contents)
packets_by_part s = map (λ (p : PartState). p.packets) (all_parts s.parts)

abbrev pub packets_in : StreamState → List Contents
packets_in s = all_of (packets_by_part s)

-- what the stream's files hold, one for each part
abbrev pub files_of : StreamState → List (List ℕ)
files_of s = map packets_text (packets_by_part s)

-- what the chunks below a number that were not released keep, in order
abbrev pub left_below : ℕ → History → List ClosedBuffer
left_below zero h = []
left_below (suc k) h = left_below k h ++ (if is_released k h then [] else chunk_of k h)

-- what all chunks that were not released keep
abbrev pub left_of : History → List ClosedBuffer
left_of h = left_below (suc h.cuts) h

-- none of the chunks below a number was released
abbrev pub NoneReleased : ℕ → History → Type 0
NoneReleased k h = (j : ℕ) → j < k → is_released j h ≡ false

-- what an audit says of the last packet is what its sub-buffer had
pub record LastIs {A : Type 0} (a : StreamAudit A) (bs : List ClosedBuffer) : Type 0 where
  pub seq : a.last_seq ≡ last_or None (map (λ (b : ClosedBuffer). b.seq) bs)
  pub serial : a.last_serial
      ≡ last_or None (map (λ (e : Entry). e.serial) (flat_map (λ (b : ClosedBuffer). b.records) bs))
  pub discarded : a.last_lost ≡ unwrap_or (last_or None (map (λ (b : ClosedBuffer). b.discarded) bs)) 0

-- the block of this number was overwritten or cleared
abbrev pub was_removed : ℕ → List Closed → Bool
was_removed n cs = list_any (λ (c : Closed). nat_eq c.block.number n && (is_dropped c.status || is_cleared c.status)) cs

-- a block of a higher number was kept
abbrev pub kept_above : ℕ → List Closed → Bool
kept_above n cs = list_any (λ (c : Closed). nat_lt n c.block.number && is_kept c.status) cs

-- one of these sub-buffers has a higher number
abbrev pub is_below_one : ℕ → List ClosedBuffer → Bool
is_below_one n bs = list_any (λ (b : ClosedBuffer). nat_lt n b.seq) bs
