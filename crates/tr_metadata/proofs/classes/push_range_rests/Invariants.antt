use Rattle.std.proofs.Common.{◌≡◌, ◌++◌, take}
use Rattle.std.specs.List.{flat_map}
use Rattle.std.specs.String.{string_bytes}
use Rattle.tr_metadata.specs.Metadata.{range_rest}
use Rattle.tr_metadata.proofs.classes.push_range_rests.Given as goal

abbrev pub invariant-loop-range : goal.invariant-loop-range
invariant-loop-range g l = string_bytes l.text ≡ string_bytes l.initial.text ++ flat_map range_rest (take l.range-index l.ranges)
