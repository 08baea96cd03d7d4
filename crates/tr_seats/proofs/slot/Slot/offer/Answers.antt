use Rattle.std.proofs.Common.{rules, ◌≡◌, ◌∙◌, ◌+◌, ℕ, Ok, ap, arith, subst, sym}
use Rattle.std.proofs.lemmas.Grind.{common_steps}
use Rattle.tr_ledger.specs.Ledgers.{LedgerState, seat_state}
use Rattle.tr_seats.proofs.AccountLemmas.{kept-offer}
use Rattle.tr_seats.proofs.CountLemmas.{few-counted, offer-serial, offer-totals}
use Rattle.tr_seats.proofs.SlotLemmas.{books-discarded, books-stored, books-stored_over, offered-here, whole-before}
use Rattle.tr_seats.proofs.slot.Slot.offer.Goals as goal
use Rattle.tr_seats.specs.Books.{AreBooksOf, IsPlanned, books_at}
use Rattle.tr_seats.specs.Slots.{ProducerState, slot_state}
use Rattle.tr_seats.specs.Sums.{totals_in}
use Rattle.tr_seats.specs.declared.totals.Totals.{Totals}
use Rattle.tr_stream.specs.State.{StreamState}
use Rattle.tr_stream.specs.StateSteps.{state_after_offer, state_offer_answer}
use Rattle.tr_stream.specs.declared.answers.Offered.TheVariants.{Stored, StoredOver, Discarded}

pub invariant_of-self-in-Stored : goal.invariant_of-self-in-Stored
invariant_of-self-in-Stored g c =
    let old = c.self.inside in
    let after : c.offer-answer.new.self ≡ state_after_offer c.args.moment c.args.id c.args.payload.now old.stream = search rules in
    let answer : Ok (Stored c.in-Stored.serial c.in-Stored.seq)
    ≡ state_offer_answer c.args.moment c.args.id c.args.payload.now old.stream = search rules in
    let more = ap totals_in after ∙ offer-totals c.args.moment c.args.id c.args.payload.now old.stream _ answer in
    let planned = subst (IsPlanned g.N.Names.plan old.number) (sym c.in-Ok.ensures.config) c.self.invariant.2 in (
      c.self.invariant.0,
      books-stored (books_at g.N.Names.plan.books old.number) old.stream c.offer-answer.new.self old.consumed.made old.offered
          old.discarded old.overwritten old.overwritten_packets old.consumed old.cuts old.cleared c.self.invariant.1
          c.raise_by_one.new.self c.in-Stored.serial c.in-Stored.seq more c.raise_by_one.ensures.ledger,
      planned,
      kept-offer (books_at g.N.Names.plan.books old.number).journal old.stream old.consumed.made old.account c.note_offer.new.self c.self.invariant.3
          c.offer-answer.new.self c.producer.inside.account.who c.args.moment c.args.id c.args.payload.now c.offer-answer.result
          c.producer.invariant.3.1 c.shows_kept.ensures.kept c.offer-answer.ensures.value.0 c.offer-answer.ensures.value.1
          c.note_offer.ensures.account,
    )

pub invariant_of-self-in-StoredOver : goal.invariant_of-self-in-StoredOver
invariant_of-self-in-StoredOver g c =
    let old = c.self.inside in
    let arm = c.in-StoredOver in
    let after : c.offer-answer.new.self ≡ state_after_offer c.args.moment c.args.id c.args.payload.now old.stream = search rules in
    let answer : Ok (StoredOver arm.serial arm.seq arm.gone_seq arm.gone_count)
    ≡ state_offer_answer c.args.moment c.args.id c.args.payload.now old.stream = search rules in
    let more = ap totals_in after ∙ offer-totals c.args.moment c.args.id c.args.payload.now old.stream _ answer in
    let planned = subst (IsPlanned g.N.Names.plan old.number) (sym c.in-Ok.ensures.config) c.self.invariant.2 in (
      c.self.invariant.0,
      books-stored_over (books_at g.N.Names.plan.books old.number) old.stream c.offer-answer.new.self old.consumed.made old.offered
          old.discarded old.overwritten old.overwritten_packets old.consumed old.cuts old.cleared c.self.invariant.1
          c.raise_by_one.new.self c.raise.new.self c.raise_by_one-in-StoredOver.new.self arm.serial arm.seq arm.gone_seq
          arm.gone_count more c.raise_by_one.ensures.ledger c.raise.ensures.ledger c.raise_by_one-in-StoredOver.ensures.ledger,
      planned,
      kept-offer (books_at g.N.Names.plan.books old.number).journal old.stream old.consumed.made old.account c.note_offer.new.self c.self.invariant.3
          c.offer-answer.new.self c.producer.inside.account.who c.args.moment c.args.id c.args.payload.now c.offer-answer.result
          c.producer.invariant.3.1 c.shows_kept.ensures.kept c.offer-answer.ensures.value.0 c.offer-answer.ensures.value.1
          c.note_offer.ensures.account,
    )

pub raise_by_one-requires-in-Discarded-clause-room : goal.raise_by_one-requires-in-Discarded-clause-room
raise_by_one-requires-in-Discarded-clause-room g c =
    let old = c.self.inside in
    let after : c.offer-answer.new.self ≡ state_after_offer c.args.moment c.args.id c.args.payload.now old.stream = search rules in
    let answer : Ok (Discarded c.in-Discarded.serial)
    ≡ state_offer_answer c.args.moment c.args.id c.args.payload.now old.stream = search rules in
    let more = ap totals_in after ∙ offer-totals c.args.moment c.args.id c.args.payload.now old.stream _ answer in
    let few = (few-counted c.offer-answer.new.self c.shows_kept-2.ensures.kept.sound).discarded in
    let one : (totals_in c.offer-answer.new.self).discarded ≡ (totals_in old.stream).discarded + 1 = ap (λ (t : Totals). t.discarded) more in
    let total : old.discarded.total ≡ (totals_in old.stream).discarded = ap (λ (l : LedgerState). l.total) c.self.invariant.1.discarded_is in
    omega (arith, few, one, total)

pub invariant_of-self-in-Discarded : goal.invariant_of-self-in-Discarded
invariant_of-self-in-Discarded g c =
    let old = c.self.inside in
    let after : c.offer-answer.new.self ≡ state_after_offer c.args.moment c.args.id c.args.payload.now old.stream = search rules in
    let answer : Ok (Discarded c.in-Discarded.serial)
    ≡ state_offer_answer c.args.moment c.args.id c.args.payload.now old.stream = search rules in
    let more = ap totals_in after ∙ offer-totals c.args.moment c.args.id c.args.payload.now old.stream _ answer in
    let planned = subst (IsPlanned g.N.Names.plan old.number) (sym c.in-Ok.ensures.config) c.self.invariant.2 in (
      c.self.invariant.0,
      books-discarded (books_at g.N.Names.plan.books old.number) old.stream c.offer-answer.new.self old.consumed.made old.offered
          old.discarded old.overwritten old.overwritten_packets old.consumed old.cuts old.cleared c.self.invariant.1
          c.raise_by_one.new.self c.raise_by_one-in-Discarded.new.self c.in-Discarded.serial more c.raise_by_one.ensures.ledger
          c.raise_by_one-in-Discarded.ensures.ledger,
      planned,
      kept-offer (books_at g.N.Names.plan.books old.number).journal old.stream old.consumed.made old.account c.note_offer.new.self c.self.invariant.3
          c.offer-answer.new.self c.producer.inside.account.who c.args.moment c.args.id c.args.payload.now c.offer-answer.result
          c.producer.invariant.3.1 c.shows_kept.ensures.kept c.offer-answer.ensures.value.0 c.offer-answer.ensures.value.1
          c.note_offer.ensures.account,
    )

pub returns-in-Stored-clause-value : goal.returns-in-Stored-clause-value
returns-in-Stored-clause-value g c =
    let old = c.args.self.now in
    let same : c.args.producer.now.number ≡ old.number = search rules in
    let answer : Ok c.in-Ok.offered ≡ state_offer_answer c.args.moment c.args.id c.args.payload.now old.stream = search rules in
    let after : c.offer-answer.new.self ≡ state_after_offer c.args.moment c.args.id c.args.payload.now old.stream = search rules in
    let now : slot_state c.self.inside.number c.offer-answer.new.self c.self.inside.consumed.made
    ≡ record old { stream = state_after_offer c.args.moment c.args.id c.args.payload.now old.stream } =
    λ k. slot_state (c.self.view_is k).number (after k) (c.self.view_is k).made in
    offered-here c.args.producer.now.number c.args.moment c.args.id c.args.payload.now old _ _ same answer now

pub returns-in-StoredOver-clause-value : goal.returns-in-StoredOver-clause-value
returns-in-StoredOver-clause-value g c =
    let old = c.args.self.now in
    let same : c.args.producer.now.number ≡ old.number = search rules in
    let answer : Ok (StoredOver c.in-StoredOver.serial c.in-StoredOver.seq c.in-StoredOver.gone_seq c.in-StoredOver.gone_count)
    ≡ state_offer_answer c.args.moment c.args.id c.args.payload.now old.stream = search rules in
    let after : c.offer-answer.new.self ≡ state_after_offer c.args.moment c.args.id c.args.payload.now old.stream = search rules in
    let now : slot_state c.self.inside.number c.offer-answer.new.self c.self.inside.consumed.made
    ≡ record old { stream = state_after_offer c.args.moment c.args.id c.args.payload.now old.stream } =
    λ k. slot_state (c.self.view_is k).number (after k) (c.self.view_is k).made in
    offered-here c.args.producer.now.number c.args.moment c.args.id c.args.payload.now old _ _ same answer now

pub returns-in-Discarded-clause-value : goal.returns-in-Discarded-clause-value
returns-in-Discarded-clause-value g c =
    let old = c.args.self.now in
    let same : c.args.producer.now.number ≡ old.number = search rules in
    let answer : Ok c.in-Ok.offered ≡ state_offer_answer c.args.moment c.args.id c.args.payload.now old.stream = search rules in
    let after : c.offer-answer.new.self ≡ state_after_offer c.args.moment c.args.id c.args.payload.now old.stream = search rules in
    let now : slot_state c.self.inside.number c.offer-answer.new.self c.self.inside.consumed.made
    ≡ record old { stream = state_after_offer c.args.moment c.args.id c.args.payload.now old.stream } =
    λ k. slot_state (c.self.view_is k).number (after k) (c.self.view_is k).made in
    offered-here c.args.producer.now.number c.args.moment c.args.id c.args.payload.now old _ _ same answer now

pub returns-in-Stored-clause-serial : goal.returns-in-Stored-clause-serial
returns-in-Stored-clause-serial g c =
    let old = c.self.inside in
    let answer : Ok c.in-Ok.offered ≡ state_offer_answer c.args.moment c.args.id c.args.payload.now old.stream = search rules in
    let same : old.number ≡ c.producer.inside.number = search rules in
    let books = books_at g.N.Names.plan.books old.number in
    let seat : c.producer.inside.offered ≡ seat_state books.offered c.producer.inside.offered.amount 1 =
    c.producer.invariant.1.offered_is ∙ ap (λ (n : ℕ). seat_state (books_at g.N.Names.plan.books n).offered c.producer.inside.offered.amount 1)
    (sym same) in
    let whole = whole-before old.offered c.raise_by_one.new.self c.producer.inside.offered c.raise_by_one.new.seat books.offered
    (totals_in old.stream).offered c.self.invariant.1.offered_is seat c.raise_by_one.ensures.ledger c.raise_by_one.ensures.seat
    c.raise_by_one.ensures.share in
    offer-serial c.args.moment c.args.id c.args.payload.now old.stream _ answer ∙ sym whole
    ∙ ap (λ (p : ProducerState). p.offered) c.producer.view_is

pub returns-in-StoredOver-clause-serial : goal.returns-in-StoredOver-clause-serial
returns-in-StoredOver-clause-serial g c =
    let old = c.self.inside in
    let arm = c.in-StoredOver in
    let answer : Ok (StoredOver arm.serial arm.seq arm.gone_seq arm.gone_count)
    ≡ state_offer_answer c.args.moment c.args.id c.args.payload.now old.stream = search rules in
    let same : old.number ≡ c.producer.inside.number = search rules in
    let books = books_at g.N.Names.plan.books old.number in
    let seat : c.producer.inside.offered ≡ seat_state books.offered c.producer.inside.offered.amount 1 =
    c.producer.invariant.1.offered_is ∙ ap (λ (n : ℕ). seat_state (books_at g.N.Names.plan.books n).offered c.producer.inside.offered.amount 1)
    (sym same) in
    let whole = whole-before old.offered c.raise_by_one.new.self c.producer.inside.offered c.raise_by_one.new.seat books.offered
    (totals_in old.stream).offered c.self.invariant.1.offered_is seat c.raise_by_one.ensures.ledger c.raise_by_one.ensures.seat
    c.raise_by_one.ensures.share in
    offer-serial c.args.moment c.args.id c.args.payload.now old.stream _ answer ∙ sym whole
    ∙ ap (λ (p : ProducerState). p.offered) c.producer.view_is

pub returns-in-Discarded-clause-serial : goal.returns-in-Discarded-clause-serial
returns-in-Discarded-clause-serial g c =
    let old = c.self.inside in
    let answer : Ok c.in-Ok.offered ≡ state_offer_answer c.args.moment c.args.id c.args.payload.now old.stream = search rules in
    let same : old.number ≡ c.producer.inside.number = search rules in
    let books = books_at g.N.Names.plan.books old.number in
    let seat : c.producer.inside.offered ≡ seat_state books.offered c.producer.inside.offered.amount 1 =
    c.producer.invariant.1.offered_is ∙ ap (λ (n : ℕ). seat_state (books_at g.N.Names.plan.books n).offered c.producer.inside.offered.amount 1)
    (sym same) in
    let whole = whole-before old.offered c.raise_by_one.new.self c.producer.inside.offered c.raise_by_one.new.seat books.offered
    (totals_in old.stream).offered c.self.invariant.1.offered_is seat c.raise_by_one.ensures.ledger c.raise_by_one.ensures.seat
    c.raise_by_one.ensures.share in
    offer-serial c.args.moment c.args.id c.args.payload.now old.stream _ answer ∙ sym whole
    ∙ ap (λ (p : ProducerState). p.offered) c.producer.view_is

pub returns-in-Err-clause-value : goal.returns-in-Err-clause-value
returns-in-Err-clause-value g c = grind (arith, common_steps)

pub invariant_of-self : goal.invariant_of-self
invariant_of-self g c =
    let old = c.self.inside in
    let books = books_at g.N.Names.plan.books old.number in
    let is = c.self.invariant in
    let same : c.offer-answer.new.self ≡ old.stream = search rules in (
      is.0,
      subst (λ (t : StreamState). AreBooksOf books t old.consumed.made old.offered old.discarded old.overwritten
          old.overwritten_packets old.consumed old.cuts old.cleared) (sym same) is.1,
      subst (λ (t : StreamState). IsPlanned g.N.Names.plan old.number t.config) (sym same) is.2,
      kept-offer books.journal old.stream old.consumed.made old.account c.note_offer.new.self is.3 c.offer-answer.new.self
          c.producer.inside.account.who c.args.moment c.args.id c.args.payload.now c.offer-answer.result
          c.producer.invariant.3.1 c.shows_kept.ensures.kept c.offer-answer.ensures.value.0 c.offer-answer.ensures.value.1
          c.note_offer.ensures.account,
    )
