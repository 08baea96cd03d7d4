use Rattle.std.proofs.Common.{Some, refl, sym, ◌≡◌}
use Rattle.tr_console.proofs.CallLemmas.{called_session, left_session, on_err}
use Rattle.tr_console.proofs.console.Console.clear.Goals as goal
use Rattle.tr_console.specs.World.{session_named, with_session}
use Rattle.tr_console.specs.commands.Clear.{IsClearedSomeNamed}
use Rattle.tr_replies.specs.OneLine.{cleared_text}
use Rattle.tr_session.specs.Steps.{session_after_clear_all, session_clear_all_answer}
use Rattle.tr_stream.specs.Rules.{by_state}

pub returns-clause-done : goal.returns-clause-done
returns-clause-done g c =
    let w = c.args.self.now in
    let name = c.args.session.now in
    let s = c.in-Some.found.now in
    let found : session_named name w ≡ Some s = sym c.in-Some.ensures.found in
    let t = c.clear.new.self in
    let said = c.cleared_reply.ensures in
    called_session w name cleared_text (session_after_clear_all by_state) s t found c.cleared_reply.result c.from_session.result said.text said.refused said.memory
    (session_clear_all_answer by_state) c.clear.result c.from_session.ensures (c.clear.ensures.value)

pub returns-clause-failed : goal.returns-clause-failed
returns-clause-failed g c =
    let w = c.args.self.now in
    let name = c.args.session.now in
    let s = c.in-Some.found.now in
    let found : session_named name w ≡ Some s = sym c.in-Some.ensures.found in
    let t = c.clear.new.self in
    on_err c.cleared_reply.result (left_session w name cleared_text (session_after_clear_all by_state) s t found (IsClearedSomeNamed by_state name w (with_session name w t))
    (session_clear_all_answer by_state) c.clear.result (c.clear.ensures.value) (λ e. record {
      before = s;
      after = t;
      found = found;
      cleared = c.clear.ensures.no_memory e;
      is = refl;
    }))
