-- Sums over streams.
use Rattle.std.specs.Prelude.{◌+◌, ◌^◌, ◌<◌}
use Rattle.tr_book.specs.declared.counts.Counts.{Counts}
use Rattle.tr_pool.specs.declared.report.Report.{Report}

-- the sums with a stream's counts added
abbrev pub with_counts : Report → Counts → Report
with_counts r c = record {
  offered = r.offered + c.offered;
  discarded = r.discarded + c.discarded;
  overwritten = r.overwritten + c.overwritten;
  in_ring = r.in_ring + c.in_ring;
  in_chunks = r.in_chunks + c.in_chunks;
  cleared = r.cleared + c.cleared;
}

-- these sums fit
abbrev pub HasRoomFor : Report → Counts → Type 0
HasRoomFor r c = (r.offered + c.offered < 2 ^ 128) × (r.discarded + c.discarded < 2 ^ 128) × (r.overwritten + c.overwritten < 2 ^ 128)
    × (r.in_ring + c.in_ring < 2 ^ 128) × (r.in_chunks + c.in_chunks < 2 ^ 128)
    × (r.cleared + c.cleared < 2 ^ 128)
