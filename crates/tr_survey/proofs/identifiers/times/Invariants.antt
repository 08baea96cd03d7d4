use Rattle.std.proofs.Common.{◌≡◌, ◌≤◌, take}
use Rattle.tr_survey.specs.Identifiers.{times}
use Rattle.tr_survey.proofs.identifiers.times.Given as goal

abbrev pub invariant-loop-own : goal.invariant-loop-own
invariant-loop-own l = record { is : l.count ≡ times (take l.own-index l.uuids) l.uuid; few : l.count ≤ l.own-index }
