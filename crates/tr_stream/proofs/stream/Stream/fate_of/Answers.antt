use Rattle.std.proofs.Common.{rules, ◌≡◌, ◌∙◌, Some}
use Rattle.tr_stream.proofs.FateLemmas.{fates, losses-of}
use Rattle.tr_stream.proofs.stream.Stream.fate_of.Goals as goal
use Rattle.tr_stream.specs.Fates.{state_fate}

pub returns-in-Some-clause-step : goal.returns-in-Some-clause-step
returns-in-Some-clause-step g c = λ h is.
    let told : Some c.in-Some.fate ≡ state_fate c.args.serial c.args.self.now = search rules in
    told ∙ fates c.args.self.now h c.args.serial is (losses-of _ _ c.self.view_is c.self.invariant)

pub returns-in-None-clause-step : goal.returns-in-None-clause-step
returns-in-None-clause-step g c = λ h is.
    let told : Some c.loss.result ≡ state_fate c.args.serial c.args.self.now = search rules in
    told ∙ fates c.args.self.now h c.args.serial is (losses-of _ _ c.self.view_is c.self.invariant)
