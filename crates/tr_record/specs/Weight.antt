-- What records weigh in a sub-buffer and in a packet.
use Rattle.std.specs.Prelude.{ℕ, ◌+◌, List, length, sum_by}
use Rattle.tr_record.specs.Records.{Entry}
use Rattle.tr_terms.specs.declared.limits.TheConstants.{PACKET_HEADER, RECORD_HEADER}

-- the bytes of a record's text
abbrev pub record_weight : Entry → ℕ
record_weight e = RECORD_HEADER + length e.payload

-- the bytes of a packet's header and context, and of the records
abbrev pub weight_of : List Entry → ℕ
weight_of es = PACKET_HEADER + sum_by record_weight es
