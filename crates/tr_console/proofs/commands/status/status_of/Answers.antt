use Rattle.std.proofs.Common.{rules, ◌≡◌, ◌∙◌, ◌∷◌, ◌++◌, ℕ, Some, ap}
use Rattle.std.specs.Prelude.{slice_get}
use Rattle.std.specs.String.{string_bytes}
use Rattle.tr_console.proofs.StatusLemmas.{begins, goes_on, ends}
use Rattle.tr_console.proofs.commands.status.status_of.Goals as goal
use Rattle.tr_replies.specs.Status.{status_head, status_line}
use Rattle.tr_session_book.specs.Book.{SessionBookState}

pub rows-init : goal.rows-init
rows-init g c =
    begins c.args.session.now c.args.name.now (string_bytes c.in_ok-text.text) (c.in_ok-text.ensures
    ∙ ap (λ (b : SessionBookState). status_line c.args.name.now b c.cleared.result ++ (10 ∷ status_head)) c.book.ensures
    ∙ ap (λ (n : ℕ). status_line c.args.name.now c.args.session.now.book n ++ (10 ∷ status_head)) c.cleared.ensures)

pub rows-preserved : goal.rows-preserved
rows-preserved g c =
    let got : slice_get c.args.session.now.streams c.rows.i ≡ Some c.in-Some.stream.now = search rules in
    goes_on c.args.session.now.streams c.rows.i c.in-Some.stream.now (string_bytes c.rows.text)
    (string_bytes c.push_row.new.text) _ got c.rows.invariant (rw c.counts.ensures.value at c.in_ok-push_row.ensures)

pub returns : goal.returns
returns g c = ends c.args.session.now.streams c.rows.i _ _ (search rules) c.rows.invariant
