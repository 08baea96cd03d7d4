use Rattle.std.proofs.Common.{◌∙◌, List, ap, map}
use Rattle.tr_session.proofs.ResultLemmas.{if-ok}
use Rattle.tr_session.proofs.session.Session.current_sizes.Goals as goal
use Rattle.tr_session.specs.Session.{SessionOf}
use Rattle.tr_session.specs.Steps.{current_sizes}
use Rattle.tr_stream.specs.Rules.{by_state}
use Rattle.tr_stream.specs.State.{StreamState}
use Rattle.tr_stream.specs.StateSteps.{state_counts}

pub returns : goal.returns
returns g c =
    if-ok c.sizes_of.result (λ sizes is.
    is ∙ ap (λ (xs : List StreamState). map (λ (s : StreamState). (state_counts s).current_bytes) xs) c.deref.ensures.value
    ∙ ap (λ (s : SessionOf StreamState). current_sizes by_state s) c.self.view_is) c.sizes_of.ensures
