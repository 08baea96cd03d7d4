use Rattle.std.proofs.Common.{◌≡◌, drop}
use Rattle.std.specs.List.{fold}
use Rattle.tr_survey.specs.Identifiers.{most_often, of_two}
use Rattle.tr_survey.proofs.identifiers.most_often.Given as goal

abbrev pub invariant-loop-other : goal.invariant-loop-other
invariant-loop-other l = fold (of_two l.uuids) l.first (drop l.other-index l.uuids) ≡ most_often l.uuids
