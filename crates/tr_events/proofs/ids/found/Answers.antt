use Rattle.std.proofs.Common.{◌≡◌, ◌<◌, ◌/◌, ◌∷◌, ◌∙◌, ℕ, ap, arith, drop, length, sym}
use Rattle.tr_events.specs.Events.{event_with, ids_rise}
use Rattle.tr_events.proofs.FoundLemmas.{above_found, above_rise, below_found, below_rise, here_found}
use Rattle.tr_events.proofs.ids.found.Goals as goal

pub returns-then-id : goal.returns-then-id
returns-then-id g c =
    let half : ℕ = length c.loop-middle.rest.now / 2 in
    sym
    (c.loop-middle.invariant.same
    ∙ here_found c.args.id half c.loop-middle.rest.now c.in-Some.middle.now c.in-Some.above.now c.loop-middle.invariant.rise
    (sym c.split_at.ensures.back ∙ c.in-Some.ensures.cases.0) (sym c.id.ensures ∙ c.if-id.true))

pub loop-middle-preserved-then-id-2 : goal.loop-middle-preserved-then-id-2
loop-middle-preserved-then-id-2 g c =
    let half : ℕ = length c.loop-middle.rest.now / 2 in
    let at : drop half c.loop-middle.rest.now ≡ c.in-Some.middle.now ∷ c.in-Some.above.now = sym c.split_at.ensures.back ∙ c.in-Some.ensures.cases.0 in
    let under : c.in-Some.middle.now.id < c.args.id = omega (arith, c.id-in-loop-middle.ensures) in
    record {
      rise = above_rise half c.loop-middle.rest.now c.in-Some.middle.now c.in-Some.above.now c.loop-middle.invariant.rise at;
      same =
          c.loop-middle.invariant.same
          ∙ above_found c.args.id half c.loop-middle.rest.now c.in-Some.middle.now c.in-Some.above.now c.loop-middle.invariant.rise at under;
    }

pub loop-middle-preserved : goal.loop-middle-preserved
loop-middle-preserved g c =
    let half : ℕ = length c.loop-middle.rest.now / 2 in
    let at : drop half c.loop-middle.rest.now ≡ c.in-Some.middle.now ∷ c.in-Some.above.now = sym c.split_at.ensures.back ∙ c.in-Some.ensures.cases.0 in
    let over : c.args.id < c.in-Some.middle.now.id = omega (arith, c.id.ensures, c.id-in-loop-middle.ensures) in
    record {
      rise = ap (ids_rise 0) c.split_at.ensures.front ∙ below_rise half c.loop-middle.rest.now c.loop-middle.invariant.rise;
      same =
          c.loop-middle.invariant.same
          ∙ below_found c.args.id half c.loop-middle.rest.now c.in-Some.middle.now c.in-Some.above.now c.loop-middle.invariant.rise at over
          ∙ ap (event_with c.args.id) (sym c.split_at.ensures.front);
    }
