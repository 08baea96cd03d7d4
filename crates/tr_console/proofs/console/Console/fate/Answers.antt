use Rattle.std.proofs.Common.{Some, ap, sym, ◌∙◌, ◌≡◌}
use Rattle.tr_console.proofs.CallLemmas.{asked}
use Rattle.tr_console.proofs.console.Console.fate.Goals as goal
use Rattle.tr_replies.specs.LineFaults.{from_step}
use Rattle.tr_console.specs.World.{session_named}
use Rattle.tr_replies.specs.OneLine.{fate_text}
use Rattle.tr_session.specs.Steps.{session_fate_answer}
use Rattle.tr_stream.specs.Rules.{by_state}

pub returns : goal.returns
returns g c =
    let w = c.args.self.now in
    let name = c.args.session.now in
    let s = c.in-Some.found.now in
    let found : session_named name w ≡ Some s = sym c.in-Some.ensures in
    let said = c.fate_reply.ensures in
    asked c.fate_reply.result w name fate_text (λ u. from_step (session_fate_answer by_state c.args.stream c.args.serial u)) s
    c.from_step.result found (c.from_step.ensures ∙ ap from_step c.fate_of.ensures) said.text said.refused
