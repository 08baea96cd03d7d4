use Rattle.std.proofs.Common.{◌∙◌, ap}
use Rattle.tr_console.proofs.SessionLemmas.{named-is}
use Rattle.tr_console.proofs.console.Console.find.Goals as goal
use Rattle.tr_console.specs.World.{session_named}

pub returns : goal.returns
returns g c =
    let name = c.args.name.now in
    c.get.ensures.value ∙ named-is name c.self.inside.sessions.entries c.self.inside.events ∙ ap (session_named name) c.self.view_is
