use Rattle.std.proofs.Common.{◌≡◌, ◌≢◌, ◌∙◌, ◌<◌, ℕ, Err, ap, arith, refl, rules, subst}
use Rattle.tr_session.proofs.SessionLemmas.{cut_first-more}
use Rattle.tr_session.proofs.session.Session.cut_all.Goals as goal
use Rattle.tr_session.specs.Steps.{cut_first}
use Rattle.tr_session.specs.declared.faults.StepFault.TheVariants.{Cut}
use Rattle.tr_stream.specs.Rules.{by_state}
use Rattle.tr_stream.specs.declared.answers.CutFault.TheVariants.{NoMemory}

pub cuts-init : goal.cuts-init
cuts-init g c = refl

pub returns-then-eq-clause-err : goal.returns-then-eq-clause-err
returns-then-eq-clause-err g c =
    let memory : c.cut.result ≡ Err (Cut NoMemory) = search rules in
    record {
      cuts = c.cuts.i;
      within = subst (λ (n : ℕ). c.cuts.i < n) c.streams-i-end.ensures.value c.cuts-test.true;
      is = c.cut.ensures.no_memory memory ∙ c.cuts.invariant;
    }

pub cuts-preserved : goal.cuts-preserved
cuts-preserved g c =
    let done : c.cut.result ≢ Err (Cut NoMemory) = search rules in
    cut_first-more by_state c.cuts.i c.args.self.now c.cuts.self c.cut.new.self c.cuts.invariant (c.cut.ensures.value done).1

pub returns-clause-ok : goal.returns-clause-ok
returns-clause-ok g c =
    let all : c.cuts.i ≡ c.streams-i-end.result = omega (arith, c.cuts-test.false, c.cuts.auto.i-end) in
    c.cuts.invariant ∙ ap (λ (n : ℕ). cut_first by_state n c.args.self.now) (all ∙ c.streams-i-end.ensures.value)
