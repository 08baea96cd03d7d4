-- What is said of the packets of an archive, stream by stream, each line with its newline.
use Rattle.std.specs.Prelude.{ℕ, ◌+◌, ◌-◌, nat_lt, List, [], ◌∷◌, ◌++◌, codes, length, if◌then◌else◌}
use Rattle.std.specs.Fmt.{decimal}
use Rattle.std.specs.List.{flat_map}
use Rattle.tr_chunk.specs.Audit.{capped_count}
use Rattle.tr_packet.specs.Packets.{Contents}
use Rattle.tr_recover.specs.Archive.{parted}
use Rattle.tr_recover.specs.declared.lines.Counts.{Counts}

-- before a stream's first packet
abbrev pub no_counts : Counts
no_counts = record { packets = 0; records = 0; absent = 0; lost = 0; next = 0 }

-- the numbers from the next one on that aren't there before this packet's
abbrev pub absent_before : Counts → Contents → ℕ
absent_before c p = p.head.seq - c.next

-- after one packet more
abbrev pub counted : Counts → Contents → Counts
counted c p = record {
  packets = capped_count (c.packets + 1);
  records = capped_count (c.records + length p.records);
  absent = capped_count (c.absent + absent_before c p);
  lost = p.head.lost;
  next = capped_count (p.head.seq + 1);
}

-- a run of numbers that no packet of a stream has
abbrev pub gap_line : ℕ → Counts → Contents → List ℕ
gap_line stream c p =
    if nat_lt c.next p.head.seq
    then codes "gap " ++ (decimal stream ++ (32 ∷ (decimal c.next ++ (32 ∷ (decimal (absent_before c p) ++ 10 ∷ [])))))
    else []

-- a stream: how many packets and records it has, how many numbers are absent, and how many records it discarded
abbrev pub counts_line : ℕ → Counts → List ℕ
counts_line stream c =
    codes "stream " ++ (decimal stream
    ++ (codes " packets " ++ (decimal c.packets
    ++ (codes " records " ++ (decimal c.records
    ++ (codes " absent " ++ (decimal c.absent
    ++ (codes " lost " ++ (decimal c.lost ++ 10 ∷ [])))))))))

-- the lines of a stream's packets, after others of it
abbrev pub lines_after : ℕ → Counts → List Contents → List ℕ
lines_after stream c [] = counts_line stream c
lines_after stream c (p ∷ ps) = gap_line stream c p ++ lines_after stream (counted c p) ps

abbrev pub stream_lines : List Contents → List ℕ
stream_lines [] = []
stream_lines (p ∷ ps) = lines_after p.head.stream no_counts (p ∷ ps)

-- those of packets that stand side by side, stream by stream
abbrev pub recovered_text : List Contents → List ℕ
recovered_text ps = flat_map stream_lines (parted ps)
