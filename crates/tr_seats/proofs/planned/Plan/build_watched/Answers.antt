use Rattle.std.proofs.Common.{rules, ◌≡◌, ◌∙◌, ◌+◌, ◌≤◌, ℕ, List, ap, arith, drop, length, subst, sym, vec_len}
use Rattle.std.proofs.lemmas.List.{length-map}
use Rattle.tr_seats.proofs.NameLemmas.{drop-none}
use Rattle.tr_seats.proofs.Rows.{drop-front}
use Rattle.tr_seats.proofs.TellerLemmas.{tellers-front}
use Rattle.tr_seats.proofs.planned.Plan.build_watched.Goals as goal
use Rattle.tr_seats.specs.Books.{IsPlan, PlanState}
use Rattle.tr_seats.specs.Plans.{AreTellersFrom, AreUnused, PlannedState, books_in, opened_of, streams_in, tellers_in}
use Rattle.tr_seats.specs.Slots.{AreNew}
use Rattle.tr_tally.specs.Tallies.{TellerState, new_watchers}

pub loop-planned-init : goal.loop-planned-init
loop-planned-init g c =
    let plan = g.N.Names.plan in
    let is = c.self.view_is ∙ c.requires in
    let start : c.none-named.result ≡ 0 = c.none-named.ensures in
    let rest : c.into_iter-planned-iterator.result.rest.items ≡ c.self.inside.streams.items = search rules in (
      tt,
      tt,
      ap (λ (n : ℕ). drop n plan.books) start ∙ sym (ap (λ (p : PlanState). p.books) is) ∙ ap books_in (sym rest),
      ap (λ (n : ℕ). drop n plan.session.streams) start ∙ sym (ap (λ (p : PlanState). p.session.streams) is)
          ∙ ap streams_in (sym rest),
      subst (λ (n : ℕ). n ≤ length plan.books) (sym start) (omega arith),
      subst (λ (x : ℕ × PlanState × List TellerState). AreTellersFrom x.0 x.1.tally.table x.2)
          (λ j. (sym start j, is j, ap tellers_in (sym rest) j)) c.self.invariant.2,
    )

pub with-requires-clause-stream : goal.with-requires-clause-stream
with-requires-clause-stream g c =
    let k = c.loop-planned.named in
    let p = c.in-Some.planned in
    (drop-front g.N.Names.plan.session.streams k p.stream (streams_in c.next.new.self.rest.items)
    (c.loop-planned.invariant.3 ∙ ap streams_in c.in-Some.ensures.steps.0)).0

pub with-requires-clause-books : goal.with-requires-clause-books
with-requires-clause-books g c =
    let k = c.loop-planned.named in
    let p = c.in-Some.planned in
    (drop-front g.N.Names.plan.books k p.books (books_in c.next.new.self.rest.items)
    (c.loop-planned.invariant.2 ∙ ap books_in c.in-Some.ensures.steps.0)).0

pub with-requires-clause-teller : goal.with-requires-clause-teller
with-requires-clause-teller g c =
    let k = c.loop-planned.named in
    (tellers-front k g.N.Names.plan.tally.table c.in-Some.planned.teller (tellers_in c.next.new.self.rest.items)
    (subst (AreTellersFrom k g.N.Names.plan.tally.table) (ap tellers_in c.in-Some.ensures.steps.0) c.loop-planned.invariant.5)).0

pub loop-planned-preserved : goal.loop-planned-preserved
loop-planned-preserved g c =
    let plan = g.N.Names.plan in
    let k = c.loop-planned.named in
    let p = c.in-Some.planned in
    let rest = c.next.new.self.rest.items in
    let t = drop-front plan.session.streams k p.stream (streams_in rest)
    (c.loop-planned.invariant.3 ∙ ap streams_in c.in-Some.ensures.steps.0) in
    let b = drop-front plan.books k p.books (books_in rest) (c.loop-planned.invariant.2 ∙ ap books_in c.in-Some.ensures.steps.0) in
    let e : c.in_ok-named.named ≡ k + 1 = c.in_ok-named.ensures in (
      tt,
      tt,
      ap (λ (n : ℕ). drop n plan.books) e ∙ b.1,
      ap (λ (n : ℕ). drop n plan.session.streams) e ∙ t.1,
      subst (λ (n : ℕ). n ≤ length plan.books) (sym e) b.2,
      subst (λ (n : ℕ). AreTellersFrom n plan.tally.table (tellers_in rest)) (sym e)
          (tellers-front k plan.tally.table p.teller (tellers_in rest)
          (subst (AreTellersFrom k plan.tally.table) (ap tellers_in c.in-Some.ensures.steps.0) c.loop-planned.invariant.5)).1,
    )

pub finish-opened-requires-clause-all : goal.finish-opened-requires-clause-all
finish-opened-requires-clause-all g c =
    let left = c.loop-planned.planned-iterator.rest in
    let none : length left.items ≡ 0 = sym left.ok.0 ∙ c.in-None.ensures.steps.0 in
    drop-none g.N.Names.plan.books (books_in left.items) c.loop-planned.named c.loop-planned.invariant.2
    (length-map left.items (λ (p : PlannedState). p.books) ∙ none) c.loop-planned.invariant.4

pub finish-opened-requires-clause-plan : goal.finish-opened-requires-clause-plan
finish-opened-requires-clause-plan g c =
    let is = c.self.view_is ∙ c.requires in
    (subst IsPlan is c.self.invariant.0, subst (λ (p : PlanState). AreUnused p.session.streams) is c.self.invariant.1)

pub finish-opened-requires-clause-book : goal.finish-opened-requires-clause-book
finish-opened-requires-clause-book g c =
    let is = ap (λ (p : PlanState). p.session.book) (c.self.view_is ∙ c.requires) in
    search (rules, is)

pub finish-opened-requires-clause-journal : goal.finish-opened-requires-clause-journal
finish-opened-requires-clause-journal g c =
    (ap (λ (p : PlanState). p.desk) (c.self.view_is ∙ c.requires), c.self.invariant.4, c.self.invariant.5)

pub finish-opened-requires-clause-room : goal.finish-opened-requires-clause-room
finish-opened-requires-clause-room g c =
    let is = c.self.view_is ∙ c.requires in
    let wide : length (books_in c.self.inside.streams.items) ≡ length c.self.inside.streams.items =
    length-map c.self.inside.streams.items (λ (p : PlannedState). p.books) in
    let books : length (books_in c.self.inside.streams.items) ≡ length g.N.Names.plan.books = ap (λ (p : PlanState). length p.books) is in
    let none : vec_len c.in_ok-room.room ≡ 0 = c.in_ok-room.ensures.len in
    let room = c.in_ok-room.ensures.capacity in
    let n = c.len.ensures in
    (none, omega (arith, wide, books, room, n))

pub returns-clause-opened : goal.returns-clause-opened
returns-clause-opened g c = c.finish-opened.ensures.opened ∙ ap opened_of (sym c.requires)

pub returns-clause-producers : goal.returns-clause-producers
returns-clause-producers g c =
    subst (λ (p : PlanState). AreNew (length p.books) c.finish-opened.result.1.items) (sym c.requires) c.finish-opened.ensures.producers

pub returns-clause-watchers : goal.returns-clause-watchers
returns-clause-watchers g c =
    let tally = c.self.inside.tally in
    c.self.invariant.3 ∙ ap (λ (n : ℕ). new_watchers tally.table n tally.watchers) c.self.invariant.0.tally
    ∙ ap (λ (p : PlanState). new_watchers p.tally.table (length p.books) p.tally.watchers) c.self.view_is
