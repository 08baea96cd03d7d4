-- The row of a stream: what is drawn of its packets, one after another through its files.
use Rattle.std.specs.Prelude.{ℕ, Bool, nat_eq, List, [], ◌∷◌, drop, length, zero, suc, Option, Some, None, if◌then◌else◌}
use Rattle.tr_chunk.specs.declared.audit_fault.AuditCause.{AuditCause}
use Rattle.tr_folders.specs.Tree.{File, Tree}
use Rattle.tr_packet.specs.Decoding.{contents_in, first_fault}
use Rattle.tr_packet.specs.Packets.{Contents, packet_size}
use Rattle.tr_packet.specs.declared.faults.PacketFault.{PacketFault}
use Rattle.tr_packet.specs.declared.faults.PacketFault.TheVariants.{Short, BadMagic, BadStreamId, BadSize, BadRecord, SerialOrder, MomentOrder}
use Rattle.tr_picture.specs.Bars.{fault_bar, gap_bar, packet_bar}
use Rattle.tr_picture.specs.Frame.{no_extent, with_packet}
use Rattle.tr_picture.specs.Lanes.{Lane, add, no_lane}
use Rattle.tr_picture.specs.Losses.{since_end, with_discarded}
use Rattle.tr_picture.specs.Threads.{no_threads, threads_after}
use Rattle.tr_picture.specs.declared.frame.Frame.{Frame}
use Rattle.tr_picture.specs.declared.rows.Row.{Row}
use Rattle.tr_survey.specs.Order.{Numbered}
use Rattle.tr_survey.specs.Paths.{file_in}
use Rattle.tr_survey.specs.Streams.{Place, absent_before, before, broken, cause_of, falls, next_number, no_tally, place, tally_after}
use Rattle.tr_survey.specs.declared.tally.Last.{Last}

-- nothing of a stream
abbrev pub no_row : Row
no_row = record { tally = no_tally 0; extent = no_extent; packets = no_lane; losses = no_lane; threads = no_threads }

-- ---- a packet

-- the numbers absent right before a packet, between the packets before and after
abbrev pub with_gap : Frame → ℕ → Lane → Option Last → Contents → Lane
with_gap f archive l last p =
    if nat_eq (absent_before last p.head.seq) 0 then l
    else add l (gap_bar f archive (since_end p.head.begin last) p.head.begin (next_number last) (absent_before last p.head.seq))

-- a packet, and what is absent before it, if it is known what was before
abbrev pub with_number : Frame → ℕ → Bool → Lane → Option Last → Contents → Lane
with_number f archive is_broken l last p = add (if is_broken then l else with_gap f archive l last p) (packet_bar f archive p)

-- fewer records are said to have been discarded than by the packet before: that is a fault
abbrev pub with_fall : Frame → ℕ → Lane → Option Last → Contents → Lane
with_fall f archive l last p = if falls last p then add l (fault_bar f archive p.head.end) else l

abbrev pub with_loss : Frame → ℕ → Bool → Lane → Option Last → Contents → Lane
with_loss f archive is_broken l last p =
    if is_broken then l else with_fall f archive (with_discarded f archive l last p) last p

-- the row after a packet
abbrev pub row_after : Frame → Place → Row → Contents → Row
row_after f at s p = record {
  tally = tally_after at s.tally p;
  extent = with_packet s.extent p;
  packets = with_number f at.archive.number s.tally.is_broken s.packets s.tally.last p;
  losses = with_loss f at.archive.number s.tally.is_broken s.losses s.tally.last p;
  threads = threads_after s.threads p.records;
}

-- after a fault, which is drawn at the end of the packet before
abbrev pub faulty : Frame → Place → Row → Row
faulty f at s = record s {
  tally = broken s.tally;
  losses = add s.losses (fault_bar f at.archive.number (since_end f.least s.tally.last));
}

-- ---- a file

-- bytes that are too few for a packet, at the end of a file
abbrev pub left_row : Frame → Place → Row → List ℕ → Row
left_row f at s [] = s
left_row f at s (b ∷ bytes) = faulty f at s

-- bytes that don't start with a packet, for this reason
abbrev pub end_row : Frame → Place → Row → List ℕ → Bool → PacketFault → Row
end_row f at s bytes breaks Short = if breaks then faulty f at s else left_row f at s bytes
end_row f at s bytes breaks BadMagic = faulty f at s
end_row f at s bytes breaks BadStreamId = faulty f at s
end_row f at s bytes breaks BadSize = faulty f at s
end_row f at s bytes breaks BadRecord = faulty f at s
end_row f at s bytes breaks SerialOrder = faulty f at s
end_row f at s bytes breaks MomentOrder = faulty f at s

-- a packet with which this is wrong or nothing, and what comes after it
abbrev pub judged_row : (Row → List ℕ → Row) → Frame → Place → Row → List ℕ → Contents → Option AuditCause → Row
judged_row more f at s bytes p (Some cause) = faulty f at s
judged_row more f at s bytes p None = more (row_after f at s p) (drop (packet_size p) bytes)

abbrev pub front_row : (Row → List ℕ → Row) → Frame → Place → Row → List ℕ → Bool → Option PacketFault → Row
front_row more f at s bytes breaks (Some fault) = end_row f at s bytes breaks fault
front_row more f at s bytes breaks None =
    judged_row more f at s bytes (contents_in bytes) (cause_of at.uuid at.stream (before s.tally) (contents_in bytes))

-- the row after bytes, after which the file ends, or breaks and can't be read further: at most `n` packets, and what comes
-- after them
unfoldable pub bytes_row : ℕ → Frame → Place → Row → List ℕ → Bool → Row
bytes_row zero f at s bytes breaks = s
bytes_row (suc n) f at s bytes breaks = front_row (λ after rest. bytes_row n f at after rest breaks) f at s bytes breaks (first_fault bytes)

-- the row after a stream's file in an archive: there are no more packets than bytes
abbrev pub file_row : Frame → Place → Row → Option File → Row
file_row f at s None = faulty f at s
file_row f at s (Some file) = bytes_row (suc (length file.bytes)) f at s file.bytes file.breaks

-- ---- a stream

abbrev pub files_row : Frame → Tree → List ℕ → List ℕ → Numbered → Row → List Numbered → Row
files_row f t folder uuid stream s [] = s
files_row f t folder uuid stream s (a ∷ archives) =
    files_row f t folder uuid stream (file_row f (place uuid stream.number a) s (file_in t folder stream a)) archives

-- its files in the archives of a folder, in order
abbrev pub stream_row : Frame → Tree → List ℕ → List ℕ → List Numbered → Numbered → Row
stream_row f t folder uuid archives stream = files_row f t folder uuid stream no_row archives
