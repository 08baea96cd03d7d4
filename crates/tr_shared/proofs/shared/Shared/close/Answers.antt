use Rattle.std.proofs.Common.{arith}
use Rattle.std.proofs.lemmas.Grind.{common_steps}
use Rattle.tr_shared.proofs.shared.Shared.close.Goals as goal

pub loop-slot-init : goal.loop-slot-init
loop-slot-init g c = grind (arith, common_steps)

pub push_reserved-requires : goal.push_reserved-requires
push_reserved-requires g c = grind (arith, common_steps)

pub loop-slot-smaller : goal.loop-slot-smaller
loop-slot-smaller g c = grind (arith, common_steps)

pub loop-slot-preserved : goal.loop-slot-preserved
loop-slot-preserved g c = grind (arith, common_steps)

pub invariant_of-new : goal.invariant_of-new
invariant_of-new g c = grind (arith, common_steps)

pub invariant_of-result : goal.invariant_of-result
invariant_of-result g c = record {
  all_here = grind (arith, common_steps, c.reverse.ensures.len, c.loop-slot.invariant.all, c.in_default.ensures.variant);
  declared = c.requires.events;
}
