use Rattle.std.proofs.Common.{Some, refl, sym, ◌≡◌}
use Rattle.tr_console.proofs.CallLemmas.{called_step, cut_or_not, left_step, on_err, unchanged}
use Rattle.tr_console.proofs.console.Console.rotate_next.Goals as goal
use Rattle.tr_console.specs.World.{session_named, with_session}
use Rattle.tr_console.specs.commands.Rotate.{next_text}
use Rattle.tr_session.specs.Steps.{session_after_next, session_next_answer}
use Rattle.tr_session.specs.declared.faults.StepFault.TheVariants as step
use Rattle.tr_stream.specs.Rules.{by_state}
use Rattle.tr_stream.specs.declared.answers.CutFault.TheVariants as cut

pub returns-clause-done : goal.returns-clause-done
returns-clause-done g c =
    let w = c.args.self.now in
    let name = c.args.session.now in
    let s = c.in-Some.found.now in
    let found : session_named name w ≡ Some s = sym c.in-Some.ensures.found in
    let t = c.rotate_next.new.self in
    let said = c.next_reply.ensures in
    called_step w name next_text (session_after_next by_state) s t found c.next_reply.result c.from_step.result said.text said.refused said.memory
    (session_next_answer by_state) (step.Cut cut.NoMemory) c.rotate_next.result refl c.from_step.ensures (c.rotate_next.ensures.value)

pub returns-clause-failed : goal.returns-clause-failed
returns-clause-failed g c =
    let w = c.args.self.now in
    let name = c.args.session.now in
    let s = c.in-Some.found.now in
    let found : session_named name w ≡ Some s = sym c.in-Some.ensures.found in
    let t = c.rotate_next.new.self in
    on_err c.next_reply.result (left_step w name next_text (session_after_next by_state) s t found (with_session name w t ≡ w)
    (session_next_answer by_state) (step.Cut cut.NoMemory) c.rotate_next.result (cut_or_not c.rotate_next.result) (c.rotate_next.ensures.value) (λ e. unchanged w name s t found (c.rotate_next.ensures.no_memory e)))
