-- What a stream counts, and the sums over all streams.
use Rattle.std.specs.Prelude.{◌+◌, List, length}
use Rattle.std.specs.List.{sum_by}
use Rattle.tr_seats.specs.declared.totals.Totals.{Totals}
use Rattle.tr_stream.specs.State.{StreamState}
use Rattle.tr_stream.specs.declared.answers.Offered.{Offered}
use Rattle.tr_stream.specs.declared.answers.Offered.TheVariants.{Stored, StoredOver, Discarded}

-- what a stream counts of what its threads and its workers do
abbrev pub totals_in : StreamState → Totals
totals_in s = record {
  offered = s.counters.offered;
  discarded = s.ring.discarded;
  overwritten = s.counters.overwritten;
  overwritten_packets = s.counters.overwritten_packets;
  consumed = s.counters.consumed;
  cuts = length s.parts.closed;
  cleared = s.counters.cleared;
}

-- the sums over all streams
abbrev pub totals_of : List StreamState → Totals
totals_of streams = record {
  offered = sum_by (λ (s : StreamState). (totals_in s).offered) streams;
  discarded = sum_by (λ (s : StreamState). (totals_in s).discarded) streams;
  overwritten = sum_by (λ (s : StreamState). (totals_in s).overwritten) streams;
  overwritten_packets = sum_by (λ (s : StreamState). (totals_in s).overwritten_packets) streams;
  consumed = sum_by (λ (s : StreamState). (totals_in s).consumed) streams;
  cuts = sum_by (λ (s : StreamState). (totals_in s).cuts) streams;
  cleared = sum_by (λ (s : StreamState). (totals_in s).cleared) streams;
}

-- what an accepted offer adds
abbrev pub totals_after_offer : Offered → Totals → Totals
totals_after_offer (Stored serial seq) t = record t { offered = t.offered + 1 }
totals_after_offer (StoredOver serial seq gone_seq gone_count) t = record t {
  offered = t.offered + 1;
  overwritten = t.overwritten + gone_count;
  overwritten_packets = t.overwritten_packets + 1;
}
totals_after_offer (Discarded serial) t = record t { offered = t.offered + 1; discarded = t.discarded + 1 }
