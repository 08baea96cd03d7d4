use Rattle.std.proofs.Common.{◌≡◌, ◌∙◌, ◌∷◌, ◌++◌, [], Some, ap, refl, sym}
use Rattle.tr_console.proofs.CallLemmas.{at-some}
use Rattle.tr_console.proofs.console.Console.status.Goals as goal
use Rattle.tr_console.specs.Steps.{reply_step}
use Rattle.tr_replies.specs.Text.{Text}
use Rattle.tr_console.specs.World.{session_named}
use Rattle.tr_console.specs.commands.Status.{status_text}
use Rattle.tr_session.specs.Session.{SessionOf}
use Rattle.tr_stream.specs.Rules.{by_state}
use Rattle.tr_stream.specs.State.{StreamState}

pub returns : goal.returns
returns g c =
    let w = c.args.self.now in
    let name = c.args.session.now in
    let s = c.in-Some.found.now in
    let found : session_named name w ≡ Some s = sym c.in-Some.ensures in
    let step = at-some w name (λ (t : SessionOf StreamState). reply_step w (status_text by_state name t)) s found in
    rw step (
      c.done.ensures.text ∙ (rw c.in_ok-push_str.was at c.push_str.ensures.bytes)
          ∙ ap (λ (t : Text). t ++ 10 ∷ []) c.in_ok-text.ensures,
      c.done.ensures.done,
      refl,
    )
