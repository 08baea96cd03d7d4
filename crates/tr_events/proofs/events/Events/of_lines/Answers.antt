use Rattle.std.proofs.Common.{◌∙◌, sym, map}
use Rattle.tr_events.proofs.DeclaredLemmas.{after_declared}
use Rattle.tr_events.proofs.events.Events.of_lines.Goals as goal

pub drafted-requires-in-Ok : goal.drafted-requires-in-Ok
drafted-requires-in-Ok c =
    after_declared (map (λ l. l.now) c.args.lines.now) c.in-Ok.draft (sym c.in_ok-draft.ensures ∙ c.in-Ok.is)
