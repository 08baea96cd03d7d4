use Rattle.std.proofs.Common.{◌≡◌, ◌++◌, List, ap, false, refl, rules}
use Rattle.tr_session.proofs.RunAgreement.{has-run}
use Rattle.tr_session.proofs.RunLemmas.{runs-end, runs-more}
use Rattle.tr_session.proofs.run.run_session.Goals as goal
use Rattle.tr_session.specs.Events.{session_answers}
use Rattle.tr_session.specs.Faults.{answer_wants_memory}
use Rattle.tr_session.specs.declared.events.Answer.{Answer}
use Rattle.tr_stream.specs.Rules.{by_state}

pub events-init : goal.events-init
events-init g c = record {
  told = ap (λ (before : List (Answer _)). before
      ++ session_answers by_state c.args.events.now c.in_ok-session.session) c.new-answers.ensures.items;
  leads = refl;
}

pub events-preserved : goal.events-preserved
events-preserved g c =
    let memory : answer_wants_memory c.step-answer.result ≡ false = search rules in
    let did = c.step-answer.ensures.value memory in
    runs-more by_state c.args.events.now c.in_ok-session.session c.events.event-index c.events.session
    c.step-answer.new.self c.events.answers.items c.push.new.self.items c.event-item.result c.step-answer.result
    c.events-test.true c.event-item.is c.events.invariant did.0 did.1 c.in_default.ensures.items

pub returns-clause-ran : goal.returns-clause-ran
returns-clause-ran g c =
    has-run c.args.config.now c.args.events.now c.in_ok-session.session c.events.session c.events.answers.items c.in_ok-session.ensures.ok
    (runs-end by_state c.args.events.now c.in_ok-session.session c.events.event-index c.events.session
    c.events.answers.items c.events-test.false c.events.invariant)
