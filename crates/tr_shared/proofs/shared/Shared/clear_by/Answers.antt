use Rattle.std.proofs.Common.{◌≡◌, ◌∙◌, ◌+◌, List, Ok, arith, length, map, subst, sym}
use Rattle.std.proofs.lemmas.Grind.{common_steps}
use Rattle.std.specs.Prelude.{sum}
use Rattle.tr_operations.specs.declared.step.DeskStep.TheVariants.{Clear}
use Rattle.tr_seats.specs.Clears.{desk_clear_answer}
use Rattle.tr_seats.specs.Operators.{with_step, with_steps}
use Rattle.tr_shared.proofs.StepLemmas.{clear-here, clears-more}
use Rattle.tr_shared.proofs.shared.Shared.clear_by.Goals as goal
use Rattle.tr_shared.specs.Operators.{clears_from}
use Rattle.tr_stream.specs.declared.answers.Cleared.{Cleared}

pub overflow_add-records : goal.overflow_add-records
overflow_add-records g c = omega (arith, c.loop-i.invariant.few, c.from-records.ensures, c.loop-i-test.true)

pub loop-i-preserved : goal.loop-i-preserved
loop-i-preserved g c =
    let v = c.loop-i.invariant in
    let i = c.loop-i.i in
    let done = c.in_ok-cleared.cleared in
    let desk = c.deref_mut.result.now in
    let slot = c.deref_mut-in-loop-i.result.now in
    let answer : Ok done ≡ desk_clear_answer i desk slot = (c.in_ok-cleared.ensures.value (λ e. cc)).0 in
    let step : c.clear_by.new.operator ≡ with_step (Clear i (Ok done)) c.loop-i.operator =
    c.in_ok-cleared.ensures.steps ∙ clear-here i desk slot c.loop-i.operator done answer in
    record {
      allowed = grind (arith, common_steps);
      few = omega (arith, v.few, c.from-records.ensures);
      done = subst (λ n. (more : List Cleared) × (length more ≡ i + 1)
          × (c.loop-i.records + n ≡ sum (map (λ (d : Cleared). d.records) more))
          × (c.clear_by.new.operator ≡ with_steps (clears_from 0 more) c.args.operator.now)) (sym c.from-records.ensures)
          (clears-more i c.loop-i.records c.args.operator.now c.loop-i.operator c.clear_by.new.operator v.done.0 done v.done.1 v.done.2
          v.done.3 step);
    }
