use Rattle.std.proofs.Common.{◌≡◌}
use Rattle.tr_describe.specs.Flaws.{first_unfit}
use Rattle.tr_describe.proofs.flaws.first_unfit.Given as goal

-- the records that were looked at fit
abbrev pub invariant-loop-one : goal.invariant-loop-one
invariant-loop-one l = first_unfit l.events l.one-iterator ≡ first_unfit l.events l.fn.records
