use Rattle.std.proofs.Common.{IfOk}
use Rattle.std.specs.Prelude.{ℤ}
use Rattle.tr_console.specs.commands.Create.{mode_asked}
use Rattle.tr_terms.specs.Offsets.{IsOffset}
use Rattle.tr_console.proofs.CreateLemmas.{as_passed}
use Rattle.tr_console.proofs.console.Console.answer_request.Goals as goal
use Rattle.tr_console.specs.commands.Create.{create_step}
use Rattle.tr_console.specs.Replies.{Does}

pub returns-in-Create : goal.returns-in-Create
returns-in-Create g c =
    let within : IsOffset c.in-Create.offset = rw c.in-Create.is at c.requires.offset in
    rw c.in-Create.is
    (as_passed (λ (z : ℤ). IfOk c.create.result
    (Does (create_step c.args.self.now c.in-Create.session.now c.in-Create.uuid.now z (mode_asked c.in-Create.snapshot))
    c.create.new.self)) c.in-Create.offset within (rw c.mode_of.ensures at c.create.ensures.done))
