use Rattle.std.proofs.Common.{rules, ◌≡◌, ◌≢◌, Err, subst}
use Rattle.tr_stream.proofs.ReleaseLemmas.{releases}
use Rattle.tr_stream.proofs.RunLemmas.{clear-answered, cut-answered, cut-let, release-answered}
use Rattle.tr_stream.proofs.run.step.Goals as goal
use Rattle.tr_stream.specs.declared.answers.ClearFault.TheVariants as clear
use Rattle.tr_stream.specs.declared.answers.CutFault.TheVariants as cut
use Rattle.tr_stream.specs.declared.answers.ReleaseFault.TheVariants as release
use Rattle.tr_stream.specs.Steps.{ReleasesSome}

pub returns-else-eq-2-clause-step : goal.returns-else-eq-2-clause-step
returns-else-eq-2-clause-step g c = λ h is.
    let ne : c.cut-answer.result ≢ Err cut.NoMemory = search rules in
    let step = c.cut-answer.ensures.step h is ne in
    rw c.in-Cut.is (cut-answered _ _ step.0, step.1)

pub returns-then-eq-2-clause-memory : goal.returns-then-eq-2-clause-memory
returns-then-eq-2-clause-memory g c = λ h _.
    let refused : c.cut-answer.result ≡ Err cut.NoMemory = search rules in
    rw c.in-Cut.is (cut-let _ _ _ _ (c.cut-answer.ensures.memory refused))

pub returns-else-eq-3-clause-step : goal.returns-else-eq-3-clause-step
returns-else-eq-3-clause-step g c = λ h is.
    let ne : c.clear-answer.result ≢ Err clear.NoMemory = search rules in
    let step = c.clear-answer.ensures.step h is ne in
    rw c.in-Clear.is (clear-answered _ _ step.0, step.1)

pub returns-else-eq-4-clause-step : goal.returns-else-eq-4-clause-step
returns-else-eq-4-clause-step g c = λ h is.
    let ne : c.release-answer.result ≢ Err release.NoMemory = search rules in
    let step = c.release-answer.ensures.step h is ne in
    rw c.in-Release.is (release-answered _ _ step.0, step.1)

pub returns-then-eq-4-clause-memory : goal.returns-then-eq-4-clause-memory
returns-then-eq-4-clause-memory g c = λ h is.
    let refused : c.release-answer.result ≡ Err release.NoMemory = search rules in
    rw c.in-Release.is
    (subst ReleasesSome (releases c.args.stream.now h c.in-Release.k is).0 (c.release-answer.ensures.memory refused))
