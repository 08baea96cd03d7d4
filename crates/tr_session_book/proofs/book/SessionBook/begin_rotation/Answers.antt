use Rattle.std.proofs.Common.{◌∙◌, ap, arith, rules}
use Rattle.tr_session_book.proofs.TimeLemmas.{chained-begun}
use Rattle.tr_session_book.proofs.book.SessionBook.begin_rotation.Goals as goal
use Rattle.tr_session_book.specs.Book.{SessionBookState}

pub invariant_of-self-2 : goal.invariant_of-self-2
invariant_of-self-2 g c =
    let kept = c.self.invariant.1 in
    let none = ap (λ (b : SessionBookState). b.pending) c.self.view_is ∙ c.requires.none in
    let chained = chained-begun c.self.inside.archives.items c.reserve.new.self.items c.self.inside.pending c.self.inside.begin
    c.later-end.result c.args.id kept.5.0 none c.in_ok-reserve.ensures.items (omega (arith, kept.5.1, c.later-end.ensures.value)) in
    (search rules, (kept.0, search rules, search rules, search rules, kept.4, (chained, omega arith)))
