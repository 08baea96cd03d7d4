use Rattle.std.proofs.Common.{Some, sym, ◌≡◌}
use Rattle.tr_console.proofs.CallLemmas.{called_session, left_session, on_err, unchanged}
use Rattle.tr_console.proofs.console.Console.snapshot.Goals as goal
use Rattle.tr_console.specs.World.{session_named, with_session}
use Rattle.tr_console.specs.commands.Snapshot.{snapshot_text}
use Rattle.tr_session.specs.Steps.{session_after_snapshot, session_snapshot_answer}
use Rattle.tr_stream.specs.Rules.{by_state}

pub returns-clause-done : goal.returns-clause-done
returns-clause-done g c =
    let w = c.args.self.now in
    let name = c.args.session.now in
    let s = c.in-Some.found.now in
    let found : session_named name w ≡ Some s = sym c.in-Some.ensures.found in
    let t = c.snapshot.new.self in
    let said = c.snapshot_reply.ensures in
    called_session w name snapshot_text (session_after_snapshot c.args.moment) s t found c.snapshot_reply.result c.from_session.result said.text said.refused said.memory
    (session_snapshot_answer by_state c.args.moment) c.snapshot.result c.from_session.ensures (c.snapshot.ensures.value)

pub returns-clause-failed : goal.returns-clause-failed
returns-clause-failed g c =
    let w = c.args.self.now in
    let name = c.args.session.now in
    let s = c.in-Some.found.now in
    let found : session_named name w ≡ Some s = sym c.in-Some.ensures.found in
    let t = c.snapshot.new.self in
    on_err c.snapshot_reply.result (left_session w name snapshot_text (session_after_snapshot c.args.moment) s t found (with_session name w t ≡ w)
    (session_snapshot_answer by_state c.args.moment) c.snapshot.result (c.snapshot.ensures.value) (λ e. unchanged w name s t found (c.snapshot.ensures.no_memory e)))
