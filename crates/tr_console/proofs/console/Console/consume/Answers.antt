use Rattle.std.proofs.Common.{Some, refl, sym, ◌≡◌}
use Rattle.tr_console.proofs.CallLemmas.{called_step, left_step, on_err, take_or_not, unchanged}
use Rattle.tr_console.proofs.console.Console.consume.Goals as goal
use Rattle.tr_console.specs.World.{session_named, with_session}
use Rattle.tr_console.specs.commands.Consume.{taken_text}
use Rattle.tr_session.specs.Steps.{session_after_take, session_take_answer}
use Rattle.tr_session.specs.declared.faults.StepFault.TheVariants as step
use Rattle.tr_stream.specs.Rules.{by_state}
use Rattle.tr_stream.specs.declared.answers.TakeFault.TheVariants as take

pub returns-clause-done : goal.returns-clause-done
returns-clause-done g c =
    let w = c.args.self.now in
    let name = c.args.session.now in
    let s = c.in-Some.found.now in
    let found : session_named name w ≡ Some s = sym c.in-Some.ensures.found in
    let t = c.take.new.self in
    let said = c.taken_reply.ensures in
    called_step w name taken_text (session_after_take by_state c.args.stream) s t found c.taken_reply.result c.from_step.result said.text said.refused said.memory
    (session_take_answer by_state c.args.stream) (step.Take take.NoMemory) c.take.result refl c.from_step.ensures (c.take.ensures.value)

pub returns-clause-failed : goal.returns-clause-failed
returns-clause-failed g c =
    let w = c.args.self.now in
    let name = c.args.session.now in
    let s = c.in-Some.found.now in
    let found : session_named name w ≡ Some s = sym c.in-Some.ensures.found in
    let t = c.take.new.self in
    on_err c.taken_reply.result (left_step w name taken_text (session_after_take by_state c.args.stream) s t found (with_session name w t ≡ w)
    (session_take_answer by_state c.args.stream) (step.Take take.NoMemory) c.take.result (take_or_not c.take.result) (c.take.ensures.value) (λ e. unchanged w name s t found (c.take.ensures.no_memory e)))
