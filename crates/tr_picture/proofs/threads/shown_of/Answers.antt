use Rattle.std.proofs.Common.{◌≡◌, ◌∙◌, sym, take}
use Rattle.std.proofs.lemmas.List.{take_all}
use Rattle.std.proofs.lemmas.Result.{IfOk-weaker}
use Rattle.tr_picture.proofs.threads.shown_of.Goals as goal

pub returns-then-name-le-MOST_SHOWN : goal.returns-then-name-le-MOST_SHOWN
returns-then-name-le-MOST_SHOWN c =
    let name = c.args.name.now in
    IfOk-weaker c.bytes_of.result (λ copy. copy.items ≡ name) (λ shown. shown.items ≡ take 64 name)
    (λ copy same. same ∙ sym (take_all 64 name c.if-name-le-MOST_SHOWN.true)) c.bytes_of.ensures
