use Rattle.std.proofs.Common.{◌<◌, ◌∙◌, ap, arith, below_more, get_or, length, subst, sym}
use Rattle.tr_seats.proofs.Joins.{put-back, read-same}
use Rattle.tr_seats.proofs.settling.audit_takes.Goals as goal
use Rattle.tr_seats.specs.Accounts.{IsTakenFrom}
use Rattle.tr_seats.specs.Drainers.{DrainerState, taken_at}
use Rattle.tr_seats.specs.Settling.{AreInPlace}
use Rattle.tr_seats.specs.Slots.{SlotState}

pub audit-requires-clause-here : goal.audit-requires-clause-here
audit-requires-clause-here g c =
    let v = c.loop-i.invariant in
    sym (subst AreInPlace (sym v.slots_same) c.requires.1 c.loop-i.i c.index-slots-i.result (subst (λ n. c.loop-i.i < n) (ap length (sym v.slots_same)) c.loop-i-test.true))

pub audit-requires-clause-there : goal.audit-requires-clause-there
audit-requires-clause-there g c = omega (arith, c.loop-i-test.true, c.requires.0)

pub loop-i-preserved : goal.loop-i-preserved
loop-i-preserved g c =
    let v = c.loop-i.invariant in
    let i = c.loop-i.i in
    let slots = c.args.slots.now in
    let there : i < length slots = c.loop-i-test.true in
    record {
      slots_same = put-back c.loop-i.slots i c.audit.new.slot c.index-slots-i.result c.audit.ensures.same.0 ∙ v.slots_same;
      drainer_same = c.audit.ensures.same.1 ∙ v.drainer_same;
      taken = λ k s.
          below_more (λ k. IsTakenFrom (taken_at c.args.drainer.now k) (get_or slots k s).stream) i
          (λ k lt. v.taken k s lt)
          (let slot = read-same c.loop-i.slots slots i c.index-slots-i.result s v.slots_same there in
          subst (λ (x : DrainerState × SlotState). IsTakenFrom (taken_at x.0 i) x.1.stream) (λ j. (v.drainer_same j, slot j))
          c.audit.ensures.taken)
          k;
    }

pub returns-clause-taken : goal.returns-clause-taken
returns-clause-taken g c = λ k s lt. c.loop-i.invariant.taken k s (omega (arith, lt, c.loop-i-test.false))
