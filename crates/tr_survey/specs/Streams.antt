-- What is reported of a stream, packet by packet through its files.
use Rattle.std.specs.Prelude.{ℕ, ◌+◌, ◌-◌, Bool, true, false, nat_eq, nat_lt, List, [], ◌∷◌, ◌++◌, codes, length, drop, zero, suc, Option, Some, None, unwrap_or, option_map, if◌then◌else◌}
use Rattle.std.specs.Option.{option_and_then}
use Rattle.tr_chunk.specs.Audit.{capped_count, packet_cause}
use Rattle.tr_chunk.specs.declared.audit_fault.AuditCause.{AuditCause}
use Rattle.tr_chunk.specs.declared.audit_fault.AuditCause.TheVariants.{Packet}
use Rattle.tr_events.specs.Events.{Event}
use Rattle.tr_folders.specs.Tree.{File, Tree}
use Rattle.tr_packet.specs.Decoding.{contents_in, first_fault}
use Rattle.tr_packet.specs.Order.{last_serial_after}
use Rattle.tr_packet.specs.Packets.{Contents, packet_size}
use Rattle.tr_packet.specs.declared.faults.PacketFault.{PacketFault}
use Rattle.tr_packet.specs.declared.faults.PacketFault.TheVariants.{Short}
use Rattle.tr_survey.specs.Lines.{before_text, between_text, cause_text, cleared_text, counts_text, file_fault_text, gap_text, last_text, lost_text, packet_fault_text, stream_text}
use Rattle.tr_survey.specs.Losses.{and_more, no_taken, placed_told, taken_after, unplaced}
use Rattle.tr_survey.specs.Order.{Numbered}
use Rattle.tr_survey.specs.Paths.{file_in}
use Rattle.tr_survey.specs.Told.{Told, and_then, told}
use Rattle.tr_survey.specs.declared.losses.Taken.{Taken}
use Rattle.tr_survey.specs.declared.tally.Last.{Last}
use Rattle.tr_survey.specs.declared.tally.Tally.{Tally}

-- a trace: its identifier, and the events that are declared of it
pub record TraceState : Type 0 where
  pub uuid : List ℕ
  pub events : List Event

abbrev pub trace_state : List ℕ → List Event → TraceState
trace_state uuid events = record { uuid = uuid; events = events }

-- where packets are read: the trace and the stream that they are to be of, and the archive
pub record Place : Type 0 where
  pub uuid : List ℕ
  pub events : List Event
  pub stream : ℕ
  pub archive : Numbered

abbrev pub place_of : TraceState → ℕ → Numbered → Place
place_of from stream archive = record { uuid = from.uuid; events = from.events; stream = stream; archive = archive }

-- the same where no event is asked for
abbrev pub place : List ℕ → ℕ → Numbered → Place
place uuid stream archive = place_of (trace_state uuid []) stream archive

-- ---- a packet and the one before it

-- the packet right before the next one; none: there is none, or what lies between them isn't known
abbrev pub before : Tally → Option Last
before s = if s.is_broken then None else s.last

-- what is wrong with a packet, if anything
abbrev pub cause_of : List ℕ → ℕ → Option Last → Contents → Option AuditCause
cause_of uuid stream last p =
    packet_cause uuid stream (option_map (λ (l : Last). l.seq) last) (option_map (λ (l : Last). l.serial) last) p

-- the first number after a packet, and how many from there on are absent before another
abbrev pub next_number : Option Last → ℕ
next_number None = 0
next_number (Some l) = capped_count (l.seq + 1)

abbrev pub absent_before : Option Last → ℕ → ℕ
absent_before last seq = seq - next_number last

-- how many records were discarded by the end of a packet
abbrev pub lost_by : Option Last → ℕ
lost_by None = 0
lost_by (Some l) = l.lost

-- before a packet of this archive, or between it and the one before
abbrev pub where_text : Option Last → ℕ → ℕ → List ℕ
where_text None archive moment = before_text archive moment
where_text (Some l) archive moment = between_text l.archive l.end archive moment

-- numbers are absent right before a packet
abbrev pub gap_told : Place → Option Last → Contents → List ℕ
gap_told at last p =
    if nat_eq (absent_before last p.head.seq) 0 then []
    else gap_text at.stream (next_number last) (absent_before last p.head.seq) ++ where_text last at.archive.number p.head.begin

-- how many records were discarded since the packet before
abbrev pub discarded : Option Last → Contents → ℕ
discarded last p = p.head.lost - lost_by last

-- the serials that were taken by the end of a packet, if they are known
abbrev pub taken_by : Option Last → Option Taken
taken_by None = Some no_taken
taken_by (Some l) = l.taken

-- the same, if no number is absent right before the next one: overwritten and cleared records took serials too
abbrev pub taken_before : Option Last → Contents → Option Taken
taken_before last p = if nat_eq (absent_before last p.head.seq) 0 then taken_by last else None

-- those that are taken by the end of that next one. If it is known where records were discarded, it is known how many took
-- serials after its last record; none did if none were discarded since the packet before
abbrev pub taken_at : ℕ → Option Last → Contents → Option Taken
taken_at archive last p =
    if nat_eq (discarded last p) 0 then Some (taken_after archive no_taken p.records)
    else option_and_then (λ (t : Taken). option_map (and_more (taken_after archive t p.records)) (unplaced (discarded last p) t.next p.records))
    (taken_before last p)

-- between the ends of two packets records were discarded
abbrev pub ends_told : Place → Option Last → Contents → List ℕ
ends_told at last p = lost_text at.stream (discarded last p) ++ where_text last at.archive.number p.head.end

-- between records and up to the end, where these serials were taken before; if they don't fit, between ends
abbrev pub fitted_told : Place → Option Last → Contents → Taken → Option ℕ → List ℕ
fitted_told at last p t None = ends_told at last p
fitted_told at last p t (Some rest) = placed_told at.events at.stream at.archive.number t p.records rest p.head.end

abbrev pub discarded_told : Place → Option Last → Contents → Option Taken → List ℕ
discarded_told at last p None = ends_told at last p
discarded_told at last p (Some t) = fitted_told at last p t (unplaced (discarded last p) t.next p.records)

-- records were discarded since the packet before
abbrev pub lost_told : Place → Option Last → Contents → List ℕ
lost_told at last p = if nat_eq (discarded last p) 0 then [] else discarded_told at last p (taken_before last p)

-- fewer records are said to have been discarded than by the packet before
abbrev pub falls : Option Last → Contents → Bool
falls last p = nat_lt p.head.lost (lost_by last)

abbrev pub fall_told : Place → Option Last → ℕ → Contents → List ℕ
fall_told at last offset p =
    if falls last p then packet_fault_text at.stream at.archive.name offset (codes "lost falls") else []

-- what is reported at a packet, if it is known what was before
abbrev pub packet_told : Place → Tally → ℕ → Contents → List ℕ
packet_told at s offset p =
    if s.is_broken then []
    else gap_told at s.last p ++ (lost_told at s.last p ++ fall_told at s.last offset p)

-- ---- counts

-- one fault more, if this is one
abbrev pub and_one : ℕ → Bool → ℕ
and_one n is_fault = if is_fault then capped_count (n + 1) else n

-- the numbers absent right before a packet, as far as it is known what was before
abbrev pub absent_at : Tally → ℕ → ℕ
absent_at s seq = if s.is_broken then 0 else absent_before s.last seq

-- the numbers absent before the first packet of all
abbrev pub below_at : Tally → ℕ → ℕ
below_at s seq = if nat_eq s.packets 0 then absent_at s seq else 0

-- the serials that are taken after a packet of an archive, if they are known
abbrev pub taken_then : ℕ → Tally → Contents → Option Taken
taken_then archive s p = if s.is_broken then None else taken_at archive s.last p

abbrev pub last_of : ℕ → Option Taken → Contents → Last
last_of archive taken p = record {
  archive = archive;
  seq = p.head.seq;
  serial = unwrap_or (last_serial_after None p.records) 0;
  end = p.head.end;
  lost = p.head.lost;
  taken = taken;
}

-- the counts after a packet
abbrev pub tally_after : Place → Tally → Contents → Tally
tally_after at s p = record {
  packets = capped_count (s.packets + 1);
  records = capped_count (s.records + length p.records);
  bytes = capped_count (s.bytes + packet_size p);
  absent = capped_count (s.absent + absent_at s p.head.seq);
  below = capped_count (s.below + below_at s p.head.seq);
  first = Some (unwrap_or s.first p.head.begin);
  last = Some (last_of at.archive.number (taken_then at.archive.number s p) p);
  is_broken = false;
  faults = and_one s.faults (falls (before s) p);
}

-- after a fault: it counts, and what comes next is judged anew
abbrev pub broken : Tally → Tally
broken s = record s { is_broken = true; faults = capped_count (s.faults + 1) }

-- ---- a file

abbrev pub fault_told : Place → Tally → ℕ → AuditCause → Told Tally
fault_told at s offset cause = told (packet_fault_text at.stream at.archive.name offset (cause_text cause)) (broken s)

abbrev pub unreadable_told : Place → Tally → Told Tally
unreadable_told at s = told (file_fault_text at.stream at.archive.name (codes "unreadable")) (broken s)

abbrev pub no_file_told : Place → Tally → Told Tally
no_file_told at s = told (file_fault_text at.stream at.archive.name (codes "no file")) (broken s)

-- bytes that are too few for a packet, at the end of a file
abbrev pub left_told : Place → Tally → ℕ → List ℕ → Told Tally
left_told at s offset [] = told [] s
left_told at s offset (b ∷ bytes) = fault_told at s offset (Packet Short)

-- bytes that don't start with a packet, for this reason
abbrev pub end_told : Place → Tally → ℕ → List ℕ → Bool → PacketFault → Told Tally
end_told at s offset bytes breaks Short = if breaks then unreadable_told at s else left_told at s offset bytes
end_told at s offset bytes breaks fault = fault_told at s offset (Packet fault)

-- a packet with which this is wrong or nothing, and what comes after it
abbrev pub judged_told : (Tally → ℕ → List ℕ → Told Tally) → Place → Tally → ℕ → List ℕ → Contents → Option AuditCause → Told Tally
judged_told more at s offset bytes p (Some cause) = fault_told at s offset cause
judged_told more at s offset bytes p None =
    and_then (packet_told at s offset p)
    (more (tally_after at s p) (capped_count (offset + packet_size p)) (drop (packet_size p) bytes))

abbrev pub front_told : (Tally → ℕ → List ℕ → Told Tally) → Place → Tally → ℕ → List ℕ → Bool → Option PacketFault → Told Tally
front_told more at s offset bytes breaks (Some fault) = end_told at s offset bytes breaks fault
front_told more at s offset bytes breaks None =
    judged_told more at s offset bytes (contents_in bytes) (cause_of at.uuid at.stream (before s) (contents_in bytes))

-- what is reported of bytes from this offset on, after which the file ends, or breaks and can't be read further: at most `n`
-- packets, and what comes after them
unfoldable pub bytes_told : ℕ → Place → Tally → ℕ → List ℕ → Bool → Told Tally
bytes_told zero at s offset bytes breaks = told [] s
bytes_told (suc n) at s offset bytes breaks =
    front_told (λ after further rest. bytes_told n at after further rest breaks) at s offset bytes breaks (first_fault bytes)

-- what is reported of a stream's file in an archive: there are no more packets than bytes
abbrev pub file_told : Place → Tally → Option File → Told Tally
file_told at s None = no_file_told at s
file_told at s (Some file) = bytes_told (suc (length file.bytes)) at s 0 file.bytes file.breaks

-- ---- a stream

-- of its files in the archives of a folder, in order
abbrev pub files_told : Tree → List ℕ → TraceState → Numbered → Tally → List Numbered → Told Tally
files_told t folder from stream s [] = told [] s
files_told t folder from stream s (a ∷ archives) =
    and_then (file_told (place_of from stream.number a) s (file_in t folder stream a)).text
    (files_told t folder from stream (file_told (place_of from stream.number a) s (file_in t folder stream a)).state archives)

-- before its first file, after this number of faults
abbrev pub no_tally : ℕ → Tally
no_tally n = record { packets = 0; records = 0; bytes = 0; absent = 0; below = 0; first = None; last = None; is_broken = false; faults = n }

abbrev pub span_text : Option ℕ → Option Last → List ℕ
span_text first None = codes " last none"
span_text first (Some l) = last_text l.seq l.serial (unwrap_or first 0) l.end

-- its line
abbrev pub stream_line : Numbered → Tally → List ℕ
stream_line stream s = stream_text stream (counts_text s.packets s.records s.absent (lost_by s.last)) (span_text s.first s.last)

-- the numbers that only a clear or damage takes: those absent in a stream that discarded, but for those below the first packet
-- where archives were deleted
abbrev pub unexplained : Bool → Tally → ℕ
unexplained are_deleted s = if nat_eq (lost_by s.last) 0 then 0 else if are_deleted then s.absent - s.below else s.absent

abbrev pub cleared_line : Numbered → ℕ → List ℕ
cleared_line stream count = if nat_eq count 0 then [] else cleared_text stream.number count

abbrev pub are_deleted : List Numbered → Bool
are_deleted [] = false
are_deleted (a ∷ archives) = nat_lt 0 a.number

-- what is reported after a stream's files
abbrev pub ended_told : Numbered → Bool → Tally → Told ℕ
ended_told stream deleted s = told (stream_line stream s ++ cleared_line stream (unexplained deleted s)) s.faults

-- what is reported of a stream, after this number of faults
abbrev pub stream_told : Tree → List ℕ → TraceState → List Numbered → ℕ → Numbered → Told ℕ
stream_told t folder from archives n stream =
    and_then (files_told t folder from stream (no_tally n) archives).text
    (ended_told stream (are_deleted archives) (files_told t folder from stream (no_tally n) archives).state)

-- of all streams
abbrev pub streams_told : Tree → List ℕ → TraceState → List Numbered → ℕ → List Numbered → Told ℕ
streams_told t folder from archives n [] = told [] n
streams_told t folder from archives n (s ∷ streams) =
    and_then (stream_told t folder from archives n s).text
    (streams_told t folder from archives (stream_told t folder from archives n s).state streams)
