-- A closed sub-buffer.
use Rattle.std.specs.Prelude.{ℕ, List}
use Rattle.tr_record.specs.Records.{Entry}

-- its packet's number, when it was closed, how many records its ring had discarded by then, and its records
pub record ClosedBuffer : Type 0 where
  pub seq : ℕ
  pub end : ℕ
  pub discarded : ℕ
  pub records : List Entry

abbrev pub closed_buffer : ℕ → ℕ → ℕ → List Entry → ClosedBuffer
closed_buffer seq end discarded records = record { seq = seq; end = end; discarded = discarded; records = records }
