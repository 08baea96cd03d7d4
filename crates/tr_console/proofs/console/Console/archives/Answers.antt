use Rattle.std.proofs.Common.{◌≡◌, ◌∙◌, Some, false, refl, sym}
use Rattle.tr_console.proofs.CallLemmas.{at-some}
use Rattle.tr_console.proofs.console.Console.archives.Goals as goal
use Rattle.tr_console.specs.World.{session_named}
use Rattle.tr_console.specs.commands.Archives.{archives_text}
use Rattle.tr_session.specs.Session.{SessionOf}
use Rattle.tr_stream.specs.Rules.{by_state}
use Rattle.tr_stream.specs.State.{StreamState}

pub returns : goal.returns
returns g c =
    let w = c.args.self.now in
    let name = c.args.session.now in
    let s = c.in-Some.found.now in
    let found : session_named name w ≡ Some s = sym c.in-Some.ensures in
    let step = at-some w name (λ (t : SessionOf StreamState).
    record { world = w; text = archives_text by_state t; is_refused = false }) s found in
    rw step (c.done.ensures.text ∙ c.in_ok-text.ensures, c.done.ensures.done, refl)
