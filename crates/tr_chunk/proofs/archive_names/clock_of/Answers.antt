use Rattle.std.proofs.Common.{◌≡◌, pos, ◌/◌, ◌+ℤ◌, ◌*ℤ◌}
use Rattle.jiff.specs.Words.{civil_nanos, nanos_of_seconds, IsWithin}
use Rattle.tr_chunk.proofs.ArchiveNameLemmas.{clock_shows, whole_seconds, offset_seconds, civil_sum}
use Rattle.tr_chunk.proofs.archive_names.clock_of.Goals as goal

shown : (c : goal.After-to_datetime)
    → civil_nanos c.to_datetime.result
    ≡ nanos_of_seconds (pos (c.args.moment / 1000000000)) +ℤ nanos_of_seconds (c.args.offset *ℤ pos 60)
shown c =
    civil_sum _ _ _ _ _ _ _ c.to_datetime.ensures c.in-Ok-Ok.ensures.value
    (whole_seconds c.args.moment c.get.result c.get.ensures.value c.get.ensures.within) c.in-Ok-Ok.ensures'.value
    (offset_seconds c.args.offset c.get-2.result c.get-2.ensures.value c.get-2.ensures.within)

within : (c : goal.After-to_datetime) → IsWithin 1439 c.args.offset
within c = rw c.get-2.ensures.value at c.get-2.ensures.within

pub returns-clause-date : goal.returns-clause-date
returns-clause-date c = (clock_shows c.args.moment c.args.offset c.to_datetime.result (within c) (shown c)).0

pub returns-clause-time : goal.returns-clause-time
returns-clause-time c = (clock_shows c.args.moment c.args.offset c.to_datetime.result (within c) (shown c)).1
