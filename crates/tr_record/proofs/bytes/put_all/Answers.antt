use Rattle.std.proofs.Common.{arith, ◌∙◌}
use Rattle.std.proofs.lemmas.Grind.{common_steps}
use Rattle.tr_record.proofs.ByteLemmas.{more_taken}
use Rattle.tr_record.proofs.bytes.put_all.Goals as goal

pub loop-at-preserved : goal.loop-at-preserved
loop-at-preserved g c =
    let count = rw c.in_ok-at.was at c.put.ensures.count in
    let bytes = rw c.in_ok-at.was at c.put.ensures.taken in
    let same = rw c.in_ok-at.was at c.put.ensures.ok in
    record {
      within = grind (arith, common_steps, count);
      taken = more_taken _ _ _ c.args.b.now c.loop-at.at c.in_ok-at.field-0 c.loop-at.invariant.taken (grind (arith, common_steps, bytes));
      failures = same ∙ c.loop-at.invariant.failures;
    }
