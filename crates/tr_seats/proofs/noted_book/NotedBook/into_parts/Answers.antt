use Rattle.std.proofs.Common.{get_or, subst}
use Rattle.tr_seats.proofs.HistoryLemmas.{desk-alone}
use Rattle.tr_seats.proofs.OperatorLemmas.{done-by-all}
use Rattle.tr_seats.proofs.noted_book.NotedBook.into_parts.Goals as goal
use Rattle.tr_seats.specs.Books.{books_at}
use Rattle.tr_seats.specs.Desks.{NotedState}
use Rattle.tr_seats.specs.Histories.{operations_in}
use Rattle.tr_seats.specs.Operators.{HaveDone}

pub returns-clause-streams : goal.returns-clause-streams
returns-clause-streams g c =
    let books = g.N.Names.plan.books in
    let seats = c.self.inside.streams.items in
    let is = c.self.invariant in
    record {
      many = is.many;
      each = λ i d lt. (desk-alone (books_at books i).journal (get_or seats i d) (is.each i d lt).seat_is).0;
      taken = λ i d lt. (desk-alone (books_at books i).journal (get_or seats i d) (is.each i d lt).seat_is).1;
    }

pub returns-clause-done : goal.returns-clause-done
returns-clause-done g c =
    let plan = g.N.Names.plan in
    let old = c.self.inside in
    let all = c.audit_operators-all in
    subst (λ (b : NotedState). HaveDone plan.session.book c.args.operators.now all.result b.book (operations_in old.streams.items))
    c.self.view_is
    (done-by-all plan old.operators old.book old.journal old.streams.items c.args.operators.now all.result c.self.invariant all.ensures.own
    all.ensures.none_missing)
