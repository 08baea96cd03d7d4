use Rattle.std.proofs.Common.{◌≡◌, ◌∙◌, IfOk, ap₂, subst}
use Rattle.tr_events.specs.Events.{Declarations, declarations}
use Rattle.tr_events.proofs.events.Events.copy.Goals as goal

pub returns : goal.returns
returns g c =
    subst (λ (d : Declarations). IfOk c.of.result (λ events. events ≡ d))
    (ap₂ declarations (c.in_ok-env.ensures ∙ c.env.ensures) (c.in_ok-events_copied.ensures ∙ c.list.ensures.value))
    c.of.ensures
