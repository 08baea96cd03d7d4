-- The history of a stream: every block that it ever filled, and what became of each. No block is ever removed.
use Rattle.std.specs.List.{list_any}
use Rattle.std.specs.Prelude.{ℕ, ◌+◌, zero, suc, Bool, true, false, ◌==◌, ◌&&◌, List, length, sum_by, count_by, if◌then◌else◌}
use Rattle.tr_record.specs.Records.{Entry}

-- what became of a closed block: it waits, it was overwritten, it is kept in a chunk, or it was cleared, before or after it
-- was consumed
pub data Status : Type 0 where
  Waiting : Status
  Dropped : Status
  Kept : (chunk : ℕ) → Status
  Cleared : (consumed : Bool) → Status

-- the records stored in one sub-buffer, and the serials discarded while it was the current one
pub record Block : Type 0 where
  pub number : ℕ
  pub records : List Entry
  pub discarded : List ℕ

-- a block that was closed at a moment
pub record Closed : Type 0 where
  pub block : Block
  pub end : ℕ
  pub status : Status

-- the closed blocks in order, and the one that is filling; the cuts, and how many offers had been accepted at each; the chunks
-- that were released, and how many, the first ones, are forgotten; the last stored moment; whether offers are taken
pub record History : Type 0 where
  pub closed : List Closed
  pub filling : Block
  pub cuts : ℕ
  pub starts : List ℕ
  pub released : List ℕ
  pub forgotten : ℕ
  pub last : ℕ
  pub active : Bool

abbrev pub is_waiting : Status → Bool
is_waiting Waiting = true
is_waiting Dropped = false
is_waiting (Kept k) = false
is_waiting (Cleared consumed) = false

abbrev pub is_dropped : Status → Bool
is_dropped Waiting = false
is_dropped Dropped = true
is_dropped (Kept k) = false
is_dropped (Cleared consumed) = false

abbrev pub is_kept : Status → Bool
is_kept Waiting = false
is_kept Dropped = false
is_kept (Kept k) = true
is_kept (Cleared consumed) = false

abbrev pub is_kept_in : ℕ → Status → Bool
is_kept_in k Waiting = false
is_kept_in k Dropped = false
is_kept_in k (Kept j) = j == k
is_kept_in k (Cleared consumed) = false

abbrev pub is_cleared : Status → Bool
is_cleared Waiting = false
is_cleared Dropped = false
is_cleared (Kept k) = false
is_cleared (Cleared consumed) = true

-- it was consumed, and is kept or was cleared since
abbrev pub is_consumed : Status → Bool
is_consumed Waiting = false
is_consumed Dropped = false
is_consumed (Kept k) = true
is_consumed (Cleared consumed) = consumed

-- it was cleared after it had been consumed
abbrev pub is_withdrawn : Status → Bool
is_withdrawn Waiting = false
is_withdrawn Dropped = false
is_withdrawn (Kept k) = false
is_withdrawn (Cleared consumed) = consumed

-- how many offers a block accounts for
abbrev pub offers_in : Block → ℕ
offers_in b = length b.records + length b.discarded

-- how many offers closed blocks account for
abbrev pub offers_before : List Closed → ℕ
offers_before cs = sum_by (λ (c : Closed). offers_in c.block) cs

-- how many offers were accepted
abbrev pub offered_of : History → ℕ
offered_of h = offers_before h.closed + offers_in h.filling

-- how many serials were discarded while closed blocks were filling
abbrev pub discarded_in : List Closed → ℕ
discarded_in cs = sum_by (λ (c : Closed). length c.block.discarded) cs

-- how many serials were discarded in all
abbrev pub discarded_of : History → ℕ
discarded_of h = discarded_in h.closed + length h.filling.discarded

-- how many records the blocks of this status hold
abbrev pub records_where : (Status → Bool) → List Closed → ℕ
records_where wanted cs = sum_by (λ (c : Closed). if wanted c.status then length c.block.records else 0) cs

-- how many blocks have this status
abbrev pub blocks_where : (Status → Bool) → List Closed → ℕ
blocks_where wanted cs = count_by (λ (c : Closed). wanted c.status) cs

-- how often a serial is a block's, as a record or as discarded
abbrev pub times_in : ℕ → Block → ℕ
times_in n b = count_by (λ (r : Entry). r.serial == n) b.records + count_by (λ (m : ℕ). m == n) b.discarded

-- how often it is any block's
abbrev pub times : ℕ → History → ℕ
times n h = sum_by (λ (c : Closed). times_in n c.block) h.closed + times_in n h.filling

-- the chunk of this number was released
abbrev pub is_released : ℕ → History → Bool
is_released k h = list_any (λ (j : ℕ). j == k) h.released

-- each chunk below this number was
abbrev pub are_released : ℕ → History → Bool
are_released zero h = true
are_released (suc k) h = are_released k h && is_released k h
