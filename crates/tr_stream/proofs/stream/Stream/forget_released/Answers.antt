use Rattle.std.proofs.Common.{◌∙◌, ap, subst, sym}
use Rattle.tr_book.specs.Parts.{PartsState}
use Rattle.tr_stream.proofs.ForgetLemmas.{can-be-forgotten, kept-forgotten, released-list}
use Rattle.tr_stream.proofs.stream.Stream.forget_released.Goals as goal
use Rattle.tr_stream.specs.Kept.{IsKept}
use Rattle.tr_stream.specs.State.{StreamState}
use Rattle.tr_stream.specs.StateSteps.{state_forget_refusal}

pub forget-requires-clause-released : goal.forget-requires-clause-released
forget-requires-clause-released g c =
    let s : StreamState = record {
      config = c.self.inside.config;
      ring = c.self.inside.ring;
      parts = c.self.inside.parts;
      counters = c.self.inside.counters;
      active = c.self.inside.active;
    } in
    released-list c.args.k s (can-be-forgotten c.args.k s (ap (state_forget_refusal c.args.k) c.self.view_is ∙ c.requires))

pub invariant_of-self-2 : goal.invariant_of-self-2
invariant_of-self-2 g c =
    let s : StreamState = record {
      config = c.self.inside.config;
      ring = c.self.inside.ring;
      parts = c.self.inside.parts;
      counters = c.self.inside.counters;
      active = c.self.inside.active;
    } in
    let can = can-be-forgotten c.args.k s (ap (state_forget_refusal c.args.k) c.self.view_is ∙ c.requires) in
    subst (λ (parts : PartsState). IsKept (record s { parts = parts })) (sym c.in_ok-forget.ensures.ok)
    (kept-forgotten s c.args.k can.closed c.self.invariant)
