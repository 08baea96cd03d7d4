use Rattle.std.proofs.Common.{Some, refl, sym, ◌≡◌}
use Rattle.tr_console.proofs.CallLemmas.{called_session, left_session, on_err}
use Rattle.tr_console.proofs.console.Console.release.Goals as goal
use Rattle.tr_console.specs.World.{session_named, with_session}
use Rattle.tr_console.specs.commands.Release.{IsReleasedSomeNamed}
use Rattle.tr_replies.specs.OneLine.{released_text}
use Rattle.tr_session.specs.Steps.{session_after_release_all, session_release_all_answer}
use Rattle.tr_stream.specs.Rules.{by_state}

pub returns-clause-done : goal.returns-clause-done
returns-clause-done g c =
    let w = c.args.self.now in
    let name = c.args.session.now in
    let k = c.args.archive in
    let s = c.in-Some.found.now in
    let found : session_named name w ≡ Some s = sym c.in-Some.ensures.found in
    let t = c.release.new.self in
    let said = c.released_reply.ensures in
    called_session w name (released_text k) (session_after_release_all by_state k) s t found c.released_reply.result
    c.from_session.result said.text said.refused said.memory
    (session_release_all_answer by_state k) c.release.result c.from_session.ensures (c.release.ensures.value)

pub returns-clause-failed : goal.returns-clause-failed
returns-clause-failed g c =
    let w = c.args.self.now in
    let name = c.args.session.now in
    let k = c.args.archive in
    let s = c.in-Some.found.now in
    let found : session_named name w ≡ Some s = sym c.in-Some.ensures.found in
    let t = c.release.new.self in
    on_err c.released_reply.result (left_session w name (released_text k) (session_after_release_all by_state k) s t found
    (IsReleasedSomeNamed by_state name k w (with_session name w t)) (session_release_all_answer by_state k) c.release.result
    (c.release.ensures.value) (λ e. record {
      before = s;
      after = t;
      found = found;
      released = c.release.ensures.no_memory e;
      is = refl;
    }))
