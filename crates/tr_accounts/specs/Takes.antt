-- What became of the packets that were taken.
use Rattle.std.specs.Prelude.{◌≡◌, ℕ, true, List, Some, length, slice_get}
use Rattle.tr_stream.specs.History.{Closed, History, Status, Waiting, Dropped, Kept, Cleared}
use Rattle.tr_stream.specs.declared.answers.Taken.{Taken}

-- it is kept in this chunk, or was cleared after it had been consumed
abbrev pub WasKept : ℕ → Status → Type 0
WasKept k Waiting = ⊥
WasKept k Dropped = ⊥
WasKept k (Kept j) = j ≡ k
WasKept k (Cleared consumed) = consumed ≡ true

-- the block with the take's number has as many records as the take answered, and came to the chunk that it named
pub record WasTakenFrom (closed : List Closed) (taken : Taken) : Type 0 where
  pub block : Closed
  pub there : slice_get closed taken.seq ≡ Some block
  pub count : length block.block.records ≡ taken.count
  pub kept : WasKept taken.chunk block.status

abbrev pub WasTaken : History → Taken → Type 0
WasTaken h taken = WasTakenFrom h.closed taken
