use Rattle.std.proofs.Common.{◌≡◌, map, take}
use Rattle.tr_survey.specs.Metadata.{uuid_named}
use Rattle.tr_survey.proofs.naming.most_named.Given as goal

abbrev pub invariant-loop-naming : goal.invariant-loop-naming
invariant-loop-naming l = l.uuids.items ≡ map uuid_named (take l.naming-index l.namings)
