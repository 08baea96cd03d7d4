-- What results say.
use Rattle.std.specs.Prelude.{ℕ, Bool, is_some, length, unwrap_or, slice_get, ◌+◌, ◌-◌, ◌^◌, ◌==◌, min, Option, Some, None, if◌then◌else◌}
use Rattle.tr_book.specs.Parts.{PartState, part_bytes, part_packets, part_records}
use Rattle.tr_book.specs.declared.counts.Counts.{Counts}
use Rattle.tr_book.specs.Snaps.{SnapState}
use Rattle.tr_book.specs.Parts.{records_of}
use Rattle.tr_packet.specs.Texts.{packets_text}
use Rattle.tr_schedule.specs.declared.cause.Cause.{Cause}
use Rattle.tr_schedule.specs.declared.cause.Cause.TheVariants.{Timer, Size}
use Rattle.tr_session_book.specs.Book.{SessionBookState}
use Rattle.tr_session_book.specs.declared.state.State.{State}
use Rattle.tr_session_book.specs.declared.state.State.TheVariants.{New, Active, Inactive}
use Rattle.tr_snapshot.specs.Snapshots.{oldest_in}
use Rattle.tr_terms.specs.declared.session_mode.SessionMode.{SessionMode}
use Rattle.tr_terms.specs.declared.session_mode.SessionMode.TheVariants.{Local, Snapshot}
use Rattle.tr_session_book.specs.declared.archive.Archive.{Archive}
use Rattle.tr_stream.specs.declared.answers.Cleared.{Cleared}
use Rattle.tr_stream.specs.declared.answers.CutDone.{CutDone}
use Rattle.tr_stream.specs.declared.answers.Offered.{Offered}
use Rattle.tr_stream.specs.declared.answers.Offered.TheVariants as offered
use Rattle.tr_stream.specs.declared.answers.Released.{Released}
use Rattle.tr_stream.specs.declared.answers.Taken.{Taken}
use Rattle.tr_stream.specs.declared.fate.Fate.{Fate}
use Rattle.tr_stream.specs.declared.fate.Fate.TheVariants as fate
use Rattle.tr_border.specs.declared.outs.AboutOut.{AboutOut}
use Rattle.tr_border.specs.declared.outs.ArchiveOut.{ArchiveOut}
use Rattle.tr_border.specs.declared.outs.ClearedOut.{ClearedOut}
use Rattle.tr_border.specs.declared.outs.CountsOut.{CountsOut}
use Rattle.tr_border.specs.declared.outs.CutOut.{CutOut}
use Rattle.tr_border.specs.declared.outs.FateOut.{FateOut}
use Rattle.tr_border.specs.declared.outs.OfferedOut.{OfferedOut}
use Rattle.tr_border.specs.declared.outs.PartOut.{PartOut}
use Rattle.tr_border.specs.declared.outs.ReleasedOut.{ReleasedOut}
use Rattle.tr_border.specs.declared.outs.ShownOut.{ShownOut}
use Rattle.tr_border.specs.declared.outs.SumOut.{SumOut}
use Rattle.tr_border.specs.declared.outs.TakenOut.{TakenOut}

-- a number, or the greatest 64-bit number if it is more
abbrev pub bounded : ℕ → ℕ
bounded n = min n (2 ^ 64 - 1)

abbrev pub offered_out : Offered → OfferedOut
offered_out (offered.Stored serial seq) =
    record { kind = 0; serial = serial; seq = seq; gone_seq = 0; gone_count = 0 }
offered_out (offered.StoredOver serial seq gone_seq gone_count) =
    record { kind = 1; serial = serial; seq = seq; gone_seq = gone_seq; gone_count = gone_count }
offered_out (offered.Discarded serial) =
    record { kind = 2; serial = serial; seq = 0; gone_seq = 0; gone_count = 0 }

abbrev pub taken_out : Taken → TakenOut
taken_out t = record { seq = t.seq; count = t.count; chunk = t.chunk }

abbrev pub cut_out : CutDone → CutOut
cut_out d = record { chunk = d.chunk; packets = d.packets; records = d.records }

abbrev pub cleared_out : Cleared → ClearedOut
cleared_out c = record { packets = c.packets; records = c.records }

abbrev pub released_out : Released → ReleasedOut
released_out r = record { packets = r.packets; records = r.records; bytes = bounded r.bytes }

abbrev pub counts_out : Counts → CountsOut
counts_out c = record {
  offered = c.offered;
  discarded = c.discarded;
  overwritten = c.overwritten;
  overwritten_packets = c.overwritten_packets;
  in_ring = c.in_ring;
  consumed = c.consumed;
  in_chunks = c.in_chunks;
  cleared = c.cleared;
  withdrawn = c.withdrawn;
  cuts = c.cuts;
  current_bytes = c.current_bytes;
}

-- sums with one stream's counts more
abbrev pub sum_out : SumOut → Counts → SumOut
sum_out sum c = record {
  offered = bounded (sum.offered + c.offered);
  discarded = bounded (sum.discarded + c.discarded);
  overwritten = bounded (sum.overwritten + c.overwritten);
  cleared = bounded (sum.cleared + c.cleared);
  in_ring = bounded (sum.in_ring + c.in_ring);
  in_chunks = bounded (sum.in_chunks + c.in_chunks);
}

abbrev pub fate_out : Option Fate → FateOut
fate_out None = record { kind = 0; chunk = 0; seq = 0 }
fate_out (Some (fate.InRing seq)) = record { kind = 1; chunk = 0; seq = seq }
fate_out (Some (fate.InChunk chunk seq)) = record { kind = 2; chunk = chunk; seq = seq }
fate_out (Some fate.Discarded) = record { kind = 3; chunk = 0; seq = 0 }
fate_out (Some fate.Overwritten) = record { kind = 4; chunk = 0; seq = 0 }
fate_out (Some (fate.Cleared seq)) = record { kind = 5; chunk = 0; seq = seq }
fate_out (Some fate.Forgotten) = record { kind = 6; chunk = 0; seq = 0 }

-- the fate that has these numbers, if one has
abbrev pub fate_in : FateOut → Option (Option Fate)
fate_in out =
    if out.kind == 0 then Some None
    else (if out.kind == 1 then Some (Some (fate.InRing out.seq))
    else (if out.kind == 2 then Some (Some (fate.InChunk out.chunk out.seq))
    else (if out.kind == 3 then Some (Some fate.Discarded)
    else (if out.kind == 4 then Some (Some fate.Overwritten)
    else (if out.kind == 5 then Some (Some (fate.Cleared out.seq))
    else (if out.kind == 6 then Some (Some fate.Forgotten) else None))))))

abbrev pub part_out : PartState → PartOut
part_out p = record {
  packets = part_packets p;
  records = part_records p;
  bytes = bounded (part_bytes p);
  released = is_some p.released;
}

abbrev pub archive_out : Archive → ArchiveOut
archive_out a = record { id = a.id; begin = a.begin; end = a.end }

-- a number, as it is
abbrev pub number_out : ℕ → ℕ
number_out n = n

abbrev pub session_mode_out : SessionMode → ℕ
session_mode_out Local = 0
session_mode_out Snapshot = 1

abbrev pub state_out : State → ℕ
state_out New = 0
state_out Active = 1
state_out Inactive = 2

abbrev pub about_out : SessionBookState → AboutOut
about_out b = record {
  mode = session_mode_out b.mode;
  state = state_out b.state;
  channels = length b.channels;
  streams = length b.threads;
  archives = length b.archives;
  begin = b.begin;
  last = b.last;
  pending = is_some b.pending;
}

abbrev pub cause_out : Option Cause → ℕ
cause_out None = 0
cause_out (Some Timer) = 1
cause_out (Some Size) = 2

-- whether there is a number, and the number, or 0
abbrev pub left_out : Option ℕ → Bool
left_out n = is_some n

abbrev pub or_zero : Option ℕ → ℕ
or_zero n = unwrap_or n 0

abbrev pub shown_out : SnapState → ShownOut
shown_out s = record {
  stream = s.stream;
  offered = s.offered;
  lost = s.lost;
  records = records_of s.packets;
  bytes = bounded (length (packets_text s.packets));
  any = is_some (oldest_in s);
  oldest = or_zero (oldest_in s);
}
