-- How many bytes a source and a sink over memory take at a time.
use Rattle.std.specs.Prelude.{ℕ}
use Rattle.tr_record.specs.declared.memory.MemorySink.{MemorySink}
use Rattle.tr_record.specs.declared.memory.MemorySource.{MemorySource}

-- the most that a source gives at a time; 0 counts as 1
abbrev pub piece_given : MemorySource → ℕ
piece_given s = s.piece

-- the most that a sink takes at a time; 0 counts as 1
abbrev pub piece_taken : {A : Type 0} → MemorySink A → ℕ
piece_taken s = s.piece
