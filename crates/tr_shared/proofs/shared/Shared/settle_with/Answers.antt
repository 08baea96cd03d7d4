use Rattle.std.proofs.Common.{refl}
use Rattle.std.proofs.lemmas.Result.{IfOk-weaker}
use Rattle.tr_shared.proofs.shared.Shared.settle_with.Goals as goal

pub returns-clause-lent : goal.returns-clause-lent
returns-clause-lent g c =
    IfOk-weaker c.settle_opened.result _ _ (λ r is yes. record { many = refl; in_order = (is.0 yes).in_order }) c.settle_opened.ensures.lent
