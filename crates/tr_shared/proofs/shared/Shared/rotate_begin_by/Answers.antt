use Rattle.std.proofs.Common.{rules, ◌≡◌}
use Rattle.tr_shared.proofs.ModeLemmas.{begin-mode}
use Rattle.tr_shared.proofs.shared.Shared.rotate_begin_by.Goals as goal

pub returns-clause-mode : goal.returns-clause-mode
returns-clause-mode g c =
    let planned = g.N.Names.plan.session.book in
    let book = c.deref_mut.result.now.book in
    let mode : book.mode ≡ planned.mode = search rules in
    begin-mode planned.mode book c.rotate_begin_by.result mode (λ not. (c.rotate_begin_by.ensures.value not).0) c.rotate_begin_by.ensures.memory
