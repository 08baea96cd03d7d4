use Rattle.std.proofs.Common.{◌≡◌, take}
use Rattle.tr_events.proofs.events.env_copied.Given as goal

abbrev pub invariant-loop-variable : goal.invariant-loop-variable
invariant-loop-variable g l = l.copies.items ≡ take l.variable-index l.env
