-- The bars of a row: what neighbours are drawn as one.
use Rattle.std.specs.Prelude.{ℕ, ◌+◌, ◌-◌, nat_lt, length, if◌then◌else◌}
use Rattle.tr_chunk.specs.Audit.{capped_count}
use Rattle.tr_packet.specs.Packets.{Contents, packet_size}
use Rattle.tr_picture.specs.Frame.{column_of, greater}
use Rattle.tr_picture.specs.declared.bars.Bar.{Bar}
use Rattle.tr_picture.specs.declared.frame.Frame.{Frame}

-- the column after the last one between two: there is at least one
abbrev pub column_after : ℕ → ℕ → ℕ
column_after from to = if nat_lt from to then to else capped_count (from + 1)

-- a bar between two moments of an archive, of nothing yet
abbrev pub bar_between : Frame → ℕ → ℕ → ℕ → Bar
bar_between f archive begin end = record {
  from = column_of f begin;
  to = column_after (column_of f begin) (column_of f end);
  begin = begin;
  end = end;
  archive = archive;
  until = archive;
  first = 0;
  last = 0;
  packets = 0;
  records = 0;
  bytes = 0;
  absent = 0;
  lost = 0;
  faults = 0;
}

-- a packet of an archive
abbrev pub packet_bar : Frame → ℕ → Contents → Bar
packet_bar f archive p = record (bar_between f archive p.head.begin p.head.end) {
  first = p.head.seq;
  last = p.head.seq;
  packets = 1;
  records = length p.records;
  bytes = packet_size p;
}

-- numbers from the first one on that are absent
abbrev pub gap_bar : Frame → ℕ → ℕ → ℕ → ℕ → ℕ → Bar
gap_bar f archive begin end first count = record (bar_between f archive begin end) {
  first = first;
  last = capped_count (first + count) - 1;
  absent = count;
}

-- records that were discarded
abbrev pub lost_bar : Frame → ℕ → ℕ → ℕ → ℕ → Bar
lost_bar f archive begin end count = record (bar_between f archive begin end) { lost = count }

-- a fault
abbrev pub fault_bar : Frame → ℕ → ℕ → Bar
fault_bar f archive moment = record (bar_between f archive moment moment) { faults = 1 }

-- one bar for two, in the columns of the first
abbrev pub merged : Bar → Bar → Bar
merged a b = record {
  from = a.from;
  to = a.to;
  begin = a.begin;
  end = greater a.end b.end;
  archive = a.archive;
  until = b.until;
  first = a.first;
  last = b.last;
  packets = capped_count (a.packets + b.packets);
  records = capped_count (a.records + b.records);
  bytes = capped_count (a.bytes + b.bytes);
  absent = capped_count (a.absent + b.absent);
  lost = capped_count (a.lost + b.lost);
  faults = capped_count (a.faults + b.faults);
}

-- a bar in those of its columns that are beyond another
abbrev pub beyond : Bar → Bar → Bar
beyond a b = record b { from = greater a.to b.from }
