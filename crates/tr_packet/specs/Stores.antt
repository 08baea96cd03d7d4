-- Numbers that are written over those in a packet's text.
use Rattle.std.specs.Prelude.{ℕ, ◌+◌, List, ◌++◌, take, drop}
use Rattle.std.specs.Int.{w64, to_le_bytes}
use Rattle.tr_packet.specs.declared.layout.TheConstants.{END_AT, SEQ_AT}

-- the bytes with this number in the eight from a place on
abbrev pub with_number : ℕ → ℕ → List ℕ → List ℕ
with_number at number bytes = take at bytes ++ (to_le_bytes w64 number ++ drop (at + 8) bytes)

-- the bytes with this moment as timestamp_end, and this size in bits as content_size and packet_size
abbrev pub with_extent : ℕ → ℕ → List ℕ → List ℕ
with_extent end bits bytes =
    take END_AT bytes ++ ((to_le_bytes w64 end ++ (to_le_bytes w64 bits ++ to_le_bytes w64 bits)) ++ drop SEQ_AT bytes)
