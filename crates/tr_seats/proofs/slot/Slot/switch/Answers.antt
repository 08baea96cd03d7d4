use Rattle.std.proofs.Common.{subst, sym}
use Rattle.tr_seats.proofs.AccountLemmas.{kept-switch}
use Rattle.tr_seats.proofs.slot.Slot.switch.Goals as goal
use Rattle.tr_seats.specs.Books.{AreBooksOf, IsPlanned, books_at}
use Rattle.tr_stream.specs.State.{StreamState}

pub invariant_of-self : goal.invariant_of-self
invariant_of-self g c =
    let old = c.self.inside in
    let books = books_at g.N.Names.plan.books old.number in
    let is = c.self.invariant in
    let same = c.set_active.ensures.value in (
      is.0,
      subst (λ (t : StreamState). AreBooksOf books t old.consumed.made old.offered old.discarded old.overwritten
          old.overwritten_packets old.consumed old.cuts old.cleared) (sym same) (record {
            offered_is = is.1.offered_is;
            discarded_is = is.1.discarded_is;
            overwritten_is = is.1.overwritten_is;
            packets_is = is.1.packets_is;
            consumed_is = is.1.consumed_is;
            cuts_is = is.1.cuts_is;
            cleared_is = is.1.cleared_is;
          }),
      subst (λ (t : StreamState). IsPlanned g.N.Names.plan old.number t.config) (sym same) is.2,
      kept-switch books.journal old.stream old.consumed.made old.account c.note_switch.new.self is.3 c.set_active.new.self c.args.desk.now.who c.args.active
          c.requires.1 same c.note_switch.ensures.account,
    )
