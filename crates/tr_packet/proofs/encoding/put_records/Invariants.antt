use Rattle.std.proofs.Common.{◌≡◌, ◌+◌, ◌≤◌, ◌++◌, vec_len}
use Rattle.std.specs.Prelude.{vec_capacity, sum_by}
use Rattle.tr_record.specs.Records.{records_text}
use Rattle.tr_record.specs.Weight.{record_weight}
use Rattle.tr_packet.proofs.encoding.put_records.Given as goal

-- with the records that are left, the text is whole
abbrev pub invariant-loop-r : goal.invariant-loop-r
invariant-loop-r g l = record {
  items : l.out.items ++ records_text l.r-iterator ≡ l.initial.out.items ++ records_text l.fn.records;
  len : vec_len l.out + sum_by record_weight l.r-iterator ≡ vec_len l.initial.out + sum_by record_weight l.fn.records;
  room : vec_capacity l.initial.out ≤ vec_capacity l.out;
}
