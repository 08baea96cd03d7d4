-- What feeders logged beside what their producers offered.
use Rattle.std.specs.Prelude.{◌≡◌, ℕ, ◌<◌, List, length, slice_index_or}
use Rattle.tr_pool.specs.declared.log.Log.{Log}
use Rattle.tr_seats.specs.Slots.{ProducerState}
use Rattle.tr_shared.specs.Feeds.{IsLogOf}

-- a log for each producer, in order, of its stream and of just its accepted offers
abbrev pub AreLogsOf : List ProducerState → List Log → Type 0
AreLogsOf producers logs = (length logs ≡ length producers) × ((k : ℕ) (p : ProducerState) (log : Log) → k < length producers
    → ((slice_index_or logs k log).stream ≡ (slice_index_or producers k p).number)
    × IsLogOf (slice_index_or producers k p) (slice_index_or logs k log).items)
