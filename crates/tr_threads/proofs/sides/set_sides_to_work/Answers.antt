use Rattle.std.proofs.Common.{rules, arith, ◌≡◌, ℕ, length, vec_len, ap, sym, ◌∙◌, subst}
use Rattle.std.proofs.lemmas.Grind.{common_steps}
use Rattle.std.specs.Prelude.{flat_map}
use Rattle.tr_threads.specs.Pools.{EachCame, IsKeptOr}
use Rattle.tr_threads.specs.Sides.{as_producer, as_drainer}
use Rattle.tr_threads.proofs.SideLemmas.{all_aside, all_kept_aside, producers_of_line, drainers_of_line}
use Rattle.tr_threads.proofs.sides.set_sides_to_work.Goals as goal

-- as many came back of each side as there were, so they have room
pub told_apart-requires-clause-room : goal.told_apart-requires-clause-room
told_apart-requires-clause-room g c =
    let came = all_aside (g.V.Work.did c.args.feeding.now) (g.W.Work.did c.args.draining.now) c.len-3.result c.args.producers.items c.args.drainers.items
    c.lined_up-line.result.0.items c.in-Ok-set_to_work.line.items c.lined_up-line.ensures.line (search rules) c.in-Ok-set_to_work.ensures.worked in
    let feeders : length c.args.producers.items ≡ vec_len c.args.producers = search rules in
    let workers : length c.args.drainers.items ≡ vec_len c.args.drainers = search rules in
    (omega (arith, came.0.0, feeders, c.lined_up-line.ensures.producers.1), omega (arith, came.1.0, workers, c.lined_up-line.ensures.drainers.1))

pub told_apart-producers-requires-clause-room : goal.told_apart-producers-requires-clause-room
told_apart-producers-requires-clause-room g c =
    let came = all_kept_aside (g.V.Work.did c.args.feeding.now) (g.W.Work.did c.args.draining.now) c.len-3.result c.args.producers.items c.args.drainers.items
    c.lined_up-line.result.0.items c.in-Err.field-0.seats.items c.lined_up-line.ensures.line (search rules) c.in-Err.ensures.came in
    let feeders : length c.args.producers.items ≡ vec_len c.args.producers = search rules in
    let workers : length c.args.drainers.items ≡ vec_len c.args.drainers = search rules in
    (omega (arith, came.0.0, feeders, c.lined_up-line.ensures.producers.1), omega (arith, came.1.0, workers, c.lined_up-line.ensures.drainers.1))

-- each of both sides was worked on
pub returns-in-Ok-set_to_work-clause-worked : goal.returns-in-Ok-set_to_work-clause-worked
returns-in-Ok-set_to_work-clause-worked g c =
    let came = all_aside (g.V.Work.did c.args.feeding.now) (g.W.Work.did c.args.draining.now) c.len-3.result c.args.producers.items c.args.drainers.items
    c.lined_up-line.result.0.items c.in-Ok-set_to_work.line.items c.lined_up-line.ensures.line (search rules) c.in-Ok-set_to_work.ensures.worked in (
      subst (EachCame (g.V.Work.did c.args.feeding.now) c.args.producers.items) (sym c.told_apart.ensures.producers) came.0,
      subst (EachCame (g.W.Work.did c.args.draining.now) c.args.drainers.items) (sym c.told_apart.ensures.drainers) came.1,
    )

-- or is as it was
pub returns-in-Err-clause-came : goal.returns-in-Err-clause-came
returns-in-Err-clause-came g c =
    let came = all_kept_aside (g.V.Work.did c.args.feeding.now) (g.W.Work.did c.args.draining.now) c.len-3.result c.args.producers.items c.args.drainers.items
    c.lined_up-line.result.0.items c.in-Err.field-0.seats.items c.lined_up-line.ensures.line (search rules) c.in-Err.ensures.came in (
      subst (EachCame (λ (i : ℕ). IsKeptOr (g.V.Work.did c.args.feeding.now i)) c.args.producers.items) (sym c.told_apart-producers.ensures.producers) came.0,
      subst (EachCame (λ (i : ℕ). IsKeptOr (g.W.Work.did c.args.draining.now i)) c.args.drainers.items) (sym c.told_apart-producers.ensures.drainers) came.1,
    )

-- where no thread was started, the row came back as it was
pub returns-in-Err-clause-memory : goal.returns-in-Err-clause-memory
returns-in-Err-clause-memory g c fault =
    let same = c.in-Err.ensures.memory fault in (
      c.told_apart-producers.ensures.producers ∙ ap (λ v. flat_map as_producer v.items) {y = c.lined_up-line.result.0} same
          ∙ ap (flat_map as_producer) c.lined_up-line.ensures.line ∙ producers_of_line c.args.producers.items c.args.drainers.items,
      c.told_apart-producers.ensures.drainers ∙ ap (λ v. flat_map as_drainer v.items) {y = c.lined_up-line.result.0} same
          ∙ ap (flat_map as_drainer) c.lined_up-line.ensures.line ∙ drainers_of_line c.args.producers.items c.args.drainers.items,
    )

pub returns-in_default-clause-came : goal.returns-in_default-clause-came
returns-in_default-clause-came g c = grind (arith, common_steps)

pub lined_up-line-requires-clause-empty : goal.lined_up-line-requires-clause-empty
lined_up-line-requires-clause-empty g c = grind (arith, common_steps)

pub lined_up-line-requires-clause-room : goal.lined_up-line-requires-clause-room
lined_up-line-requires-clause-room g c = grind (arith, common_steps)
