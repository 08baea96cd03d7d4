use Rattle.std.proofs.Common.{◌∙◌, ℕ, List, option_map, ap, refl, sym, subst}
use Rattle.tr_chunk.proofs.AuditLemmas.{front_within}
use Rattle.tr_describe.specs.Flaws.{first_unfit}
use Rattle.tr_describe.specs.Steps.{AreWrong, IsStep}
use Rattle.tr_describe.specs.declared.flaws.Flaw.TheVariants.{Unfit}
use Rattle.tr_describe.proofs.FlawLemmas.{bad_step, fit_alike, foreign_wrong, none_unfit, serial_of, unfit_wrong}
use Rattle.tr_record.specs.Records.{Entry}
use Rattle.tr_describe.proofs.flaws.judge_front.Goals as goal

pub returns-in-Err : goal.returns-in-Err
returns-in-Err c =
    subst (IsStep c.args.rule.now.events.now c.args.rule.now.uuid.now c.args.rule.now.stream c.args.bytes.now) (sym c.step_of.ensures)
    (bad_step c.args.rule.now.events.now c.args.rule.now.uuid.now c.args.rule.now.stream c.args.bytes.now c.in-Err.fault
    ((c.in-Err.ensures.fault c.in-Err.fault).0 refl))

pub returns-then-not-belongs : goal.returns-then-not-belongs
returns-then-not-belongs c =
    foreign_wrong c.args.rule.now.events.now c.args.rule.now.uuid.now c.args.rule.now.stream c.in-Ok.front.0 c.in-Ok.front.1 c.args.bytes.now
    c.in-Ok.ensures.found.0 c.in-Ok.ensures.found.1 (sym c.belongs.ensures ∙ c.if-not-belongs.true)

pub returns-in-Some : goal.returns-in-Some
returns-in-Some c =
    let first = serial_of (first_unfit c.args.rule.now.events.now c.in-Ok.front.0.records) c.in-Some.serial
    (sym c.in-Some.is ∙ c.first_unfit.ensures
    ∙ ap (λ (es : List Entry). option_map (λ (e : Entry). e.serial) (first_unfit c.args.rule.now.events.now es)) c.records.ensures.value) in
    subst (λ (n : ℕ). AreWrong c.args.rule.now.events.now c.args.rule.now.uuid.now c.args.rule.now.stream c.args.bytes.now (Unfit n)) first.2
    (unfit_wrong c.args.rule.now.events.now c.args.rule.now.uuid.now c.args.rule.now.stream c.in-Ok.front.0 c.in-Ok.front.1 c.args.bytes.now first.0
    c.in-Ok.ensures.found.0 c.in-Ok.ensures.found.1 (sym c.belongs.ensures ∙ c.if-not-belongs.false) first.1)

pub returns-in-None : goal.returns-in-None
returns-in-None c =
    let within = front_within c.in-Ok.front.0 c.in-Ok.front.1 c.args.bytes.now c.in-Ok.ensures.found.0 c.in-Ok.ensures.found.1 in (
      within.0,
      within.1,
      fit_alike c.args.rule.now.events.now c.args.rule.now.uuid.now c.args.rule.now.stream c.in-Ok.front.0 c.in-Ok.front.1 c.args.bytes.now
          c.in-Ok.ensures.found.0 c.in-Ok.ensures.found.1 (sym c.belongs.ensures ∙ c.if-not-belongs.false)
          (none_unfit (first_unfit c.args.rule.now.events.now c.in-Ok.front.0.records)
          (sym c.in-None.is ∙ c.first_unfit.ensures
          ∙ ap (λ (es : List Entry). option_map (λ (e : Entry). e.serial) (first_unfit c.args.rule.now.events.now es)) c.records.ensures.value)),
    )
