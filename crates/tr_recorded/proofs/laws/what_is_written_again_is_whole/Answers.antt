use Rattle.tr_recorded.proofs.AgainLemmas.{whole-again}
use Rattle.tr_recorded.proofs.laws.what_is_written_again_is_whole.Goals as goal

pub returns : goal.returns
returns g c =
    let is = c.every_session_is_within.ensures in
    whole-again c.args.session.now is.book is.begin is.offset (λ short. (is.read short, is.declared short)) is.archives is.streams is.own
