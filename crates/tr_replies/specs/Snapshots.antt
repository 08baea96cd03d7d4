-- The lines of a snapshot.
use Rattle.std.specs.Fmt.{decimal}
use Rattle.std.specs.Prelude.{List, None, Option, Some, [], codes, length, slice_get, ℕ, ◌++◌, ◌-◌, ◌∷◌}
use Rattle.tr_book.specs.Snaps.{SnapState}
use Rattle.tr_packet.specs.Packets.{Contents}
use Rattle.tr_record.specs.Records.{Entry}
use Rattle.tr_replies.specs.Text.{Text}
use Rattle.tr_snapshot.specs.Snapshots.{entries_shown}

-- its first line, without its newline
abbrev pub snapshot_head : ℕ → Text
snapshot_head moment = codes "snapshot " ++ decimal moment

-- a record's serial; only a packet without records would have no first and no last one
abbrev pub serial_text : Option Entry → Text
serial_text None = []
serial_text (Some e) = decimal e.serial

-- a packet's line in a snapshot: its number, how many records it has, and the serials of the first and the last one
abbrev pub packet_line : Contents → Text
packet_line p =
    codes "packet " ++ (decimal p.head.seq ++ (codes " records " ++ (decimal (length p.records)
    ++ (codes " first " ++ (serial_text (slice_get p.records 0)
    ++ (codes " last " ++ serial_text (slice_get p.records (length p.records - 1))))))))

-- the lines of packets, a newline before each
abbrev pub packet_lines : List Contents → Text
packet_lines [] = []
packet_lines (p ∷ ps) = 10 ∷ (packet_line p ++ packet_lines ps)

-- a stream's line in a snapshot: its number, how many offers it had accepted, how many packets and records are shown
abbrev pub stream_line : SnapState → Text
stream_line s =
    codes "stream " ++ (decimal s.stream ++ (codes " offered " ++ (decimal s.offered
    ++ (codes " packets " ++ (decimal (length s.packets)
    ++ (codes " records " ++ decimal (length (entries_shown s))))))))
