-- What is true of every history that calls lead to.
use Rattle.std.specs.Prelude.{◌≡◌, ◌≢◌, ℕ, ◌+◌, ◌≤◌, ◌<◌, zero, suc, nat_lt, true, false, List, [], ◌∷◌, ◌++◌, length, if◌then◌else◌}
pub use Rattle.tr_book.specs.Runs.{RecordsRise, next_serial}
use Rattle.tr_record.specs.Records.{Entry}
use Rattle.tr_ring.specs.ClosedBuffer.{ClosedBuffer}
use Rattle.tr_stream.specs.Chunks.{chunk_of, kept_of}
use Rattle.tr_stream.specs.History.{Status, Waiting, Dropped, Kept, Cleared, Block, Closed, History, is_waiting, is_dropped, is_kept_in, offers_in, offers_before, offered_of, times}

-- blocks are numbered by their place
abbrev pub NumberedFrom : ℕ → List Closed → Type 0
NumberedFrom n [] = Unit {0}
NumberedFrom n (c ∷ cs) = (c.block.number ≡ n) × NumberedFrom (n + 1) cs

-- after a block that waits, all wait
abbrev pub AllWait : List Closed → Type 0
AllWait [] = Unit {0}
AllWait (c ∷ cs) = (is_waiting c.status ≡ true) × AllWait cs

abbrev pub WaitLast : List Closed → Type 0
WaitLast [] = Unit {0}
WaitLast (c ∷ cs) = (is_waiting c.status ≡ true → AllWait cs) × WaitLast cs

-- a block is kept in a chunk that was begun
abbrev pub IsWithin : ℕ → Status → Type 0
IsWithin cuts Waiting = Unit {0}
IsWithin cuts Dropped = Unit {0}
IsWithin cuts (Kept k) = k ≤ cuts
IsWithin cuts (Cleared consumed) = Unit {0}

abbrev pub AllWithinCuts : ℕ → List Closed → Type 0
AllWithinCuts cuts [] = Unit {0}
AllWithinCuts cuts (c ∷ cs) = IsWithin cuts c.status × AllWithinCuts cuts cs

-- a block that may come after one kept in this chunk
abbrev pub IsRecent : ℕ → Status → Type 0
IsRecent k Waiting = Unit {0}
IsRecent k Dropped = Unit {0}
IsRecent k (Kept j) = j ≡ k
IsRecent k (Cleared consumed) = ⊥

abbrev pub AllRecent : ℕ → List Closed → Type 0
AllRecent k [] = Unit {0}
AllRecent k (c ∷ cs) = IsRecent k c.status × AllRecent k cs

-- after a block kept in this chunk, none is kept in another, and none was cleared
abbrev pub RecentLast : ℕ → List Closed → Type 0
RecentLast k [] = Unit {0}
RecentLast k (c ∷ cs) = (is_kept_in k c.status ≡ true → AllRecent k cs) × RecentLast k cs

-- the first record has this serial; without a record, none was discarded
abbrev pub StartsAt : ℕ → List Entry → List ℕ → Type 0
StartsAt low [] discarded = discarded ≡ []
StartsAt low (e ∷ es) discarded = e.serial ≡ low

-- a block's serials start at this one, which its first record has, and rise within as many as the block accounts for
pub record Covers (low : ℕ) (b : Block) : Type 0 where
  pub starts : StartsAt low b.records b.discarded
  pub rise : RecordsRise low b.records
  pub within : next_serial low b.records ≤ low + offers_in b

-- each block goes on where the one before ends
abbrev pub CoversFrom : ℕ → List Closed → Type 0
CoversFrom low [] = Unit {0}
CoversFrom low (c ∷ cs) = Covers low c.block × CoversFrom (low + offers_in c.block) cs

-- each closed block has a record
abbrev pub AllUsed : List Closed → Type 0
AllUsed [] = Unit {0}
AllUsed (c ∷ cs) = (c.block.records ≢ []) × AllUsed cs

-- the last closed block, if there is one, wasn't dropped
abbrev pub LastHeld : List Closed → Type 0
LastHeld [] = Unit {0}
LastHeld (c ∷ []) = is_dropped c.status ≡ false
LastHeld (c ∷ d ∷ ds) = LastHeld (d ∷ ds)

-- the sub-buffers of the chunks below a number, in order
abbrev pub chunks_below : ℕ → History → List ClosedBuffer
chunks_below zero h = []
chunks_below (suc k) h = chunks_below k h ++ chunk_of k h

-- each of these chunks is closed
abbrev pub AreClosed : ℕ → List ℕ → Type 0
AreClosed cuts [] = Unit {0}
AreClosed cuts (k ∷ ks) = (k < cuts) × AreClosed cuts ks

pub record IsWellFormed (h : History) : Type 0 where
  pub numbers : NumberedFrom 0 h.closed
  pub filling : h.filling.number ≡ length h.closed
  pub order : WaitLast h.closed
  pub kept : AllWithinCuts h.cuts h.closed
  pub recent : RecentLast h.cuts h.closed
  pub used : AllUsed h.closed
  -- what was dropped made room for a record
  pub room : h.filling.records ≡ [] → LastHeld h.closed
  -- the serials of a block's records lie between those of its neighbours
  pub covers : CoversFrom 0 h.closed
  pub covers_filling : Covers (offers_before h.closed) h.filling
  -- the chunks in order have the kept blocks in order
  pub chunks : chunks_below h.cuts h ++ chunk_of h.cuts h ≡ kept_of h
  pub released : AreClosed h.cuts h.released
  -- each serial below the next is in one place
  pub serials : (n : ℕ) → times n h ≡ (if nat_lt n (offered_of h) then 1 else 0)
