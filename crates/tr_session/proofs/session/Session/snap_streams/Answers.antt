use Rattle.std.proofs.Common.{◌∙◌, List, ap, map}
use Rattle.tr_session.proofs.ResultLemmas.{if-ok}
use Rattle.tr_session.proofs.session.Session.snap_streams.Goals as goal
use Rattle.tr_session.specs.Session.{SessionOf}
use Rattle.tr_stream.specs.State.{StreamState}
use Rattle.tr_stream.specs.StateSteps.{state_snap}

pub returns : goal.returns
returns g c =
    if-ok c.snap_all.result (λ snaps is.
    is ∙ ap (λ (xs : List StreamState). map (state_snap c.args.moment) xs) c.deref.ensures.value
    ∙ ap (λ (s : SessionOf StreamState). map (state_snap c.args.moment) s.streams) c.self.view_is) c.snap_all.ensures
