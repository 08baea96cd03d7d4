use Rattle.std.proofs.Common.{◌≡◌, ℕ, ◌+◌, ◌<◌, List, [], ap, arith, get_or, length, refl, subst, sym, ◌∙◌}
use Rattle.std.specs.List.{AllByRecursion}
use Rattle.std.specs.Prelude.{IsTrue, ◌↔◌}
use Rattle.std.proofs.lemmas.Grind.{common_steps}
use Rattle.std.proofs.lemmas.List.{length-map}
use Rattle.tr_accounts.specs.declared.step.StreamStep.{StreamStep}
use Rattle.tr_journal.specs.Journals as noted
use Rattle.tr_ledger.specs.Ledgers.{SeatState}
use Rattle.tr_seats.proofs.AllTotals.{AreWithin, have-cleared, have-consumed, their-accounts, their-packets, theirs}
use Rattle.tr_seats.proofs.HistoryLemmas.{desk-whole, operations-kept, their-histories}
use Rattle.tr_seats.proofs.Joins.{tables-length, written-back, written-over, written-twice}
use Rattle.tr_seats.proofs.PlannedLemmas.{planned-mode}
use Rattle.tr_seats.proofs.SettledLemmas.{settled-planned, settled-streams}
use Rattle.tr_seats.proofs.settling.settle_all.Goals as goal
use Rattle.tr_seats.specs.Accounts.{IsAccountOf, IsTakenFrom}
use Rattle.tr_seats.specs.Books.{Books, IsPlanned, PlanState, cleared_books, consumed_books, cut_books, no_table}
use Rattle.tr_seats.specs.Desks.{DeskState}
use Rattle.tr_seats.specs.Drainers.{DrainerState, taken_at}
use Rattle.tr_seats.specs.Histories.{AreDeskWith, IsHistoryOf, operations_in, takes_joined}
use Rattle.tr_seats.specs.Operators.{AreAllOperators, HaveDone}
use Rattle.tr_seats.specs.Settling.{AddUp, AreInPlace, HaveCleared, HaveConsumed, IsOneEach, IsSessionOf, WereConsumed, streams_of, taken_of, totals_of_seats}
use Rattle.tr_seats.specs.Slots.{AreSeatsOf, IsOwn, ProducerState, SlotState, amounts_of}
use Rattle.tr_seats.specs.Sums.{totals_in, totals_of}
use Rattle.tr_session.specs.Session.{HasItsStreams, session_of}
use Rattle.tr_session.specs.Sizes.{HoldsItsParts}
use Rattle.tr_session_book.specs.Book.{SessionBookState}
use Rattle.tr_stream.specs.State.{StreamState}
use Rattle.tr_terms.specs.declared.session_mode.SessionMode.TheVariants.{Snapshot}

abbrev ArePlanned : PlanState → List SlotState → Type 0
ArePlanned plan slots = (k : ℕ) (s : SlotState) → k < length slots → IsPlanned plan k (get_or slots k s).stream.config

abbrev AreCutAs : List SeatState × List SlotState → Type 0
AreCutAs x =
    (k : ℕ) (d : SeatState) (s : SlotState) → k < length x.1 → (get_or x.0 k d).amount ≡ (totals_in (get_or x.1 k s).stream).cuts

pub join_all-requires-clause-producers : goal.join_all-requires-clause-producers
join_all-requires-clause-producers g c =
    let slots : c.as_mut_slice.result.now ≡ c.args.slots.items = c.as_mut_slice.ensures.value in
    let producers : c.as_mut_slice-2.result.now ≡ c.args.producers.items = c.as_mut_slice-2.ensures.value in
    subst (λ (x : ℕ × List ProducerState). IsOneEach x.0 x.1) (λ j. (length (sym slots j), sym producers j)) c.requires.may.one_each

pub join_all-requires-clause-mine : goal.join_all-requires-clause-mine
join_all-requires-clause-mine g c =
    subst (AreSeatsOf (consumed_books g.N.Names.plan.books)) (sym c.as_mut_slice-3.ensures.value) c.desk.invariant.consumed_are

pub join_all-requires-clause-cuts : goal.join_all-requires-clause-cuts
join_all-requires-clause-cuts g c =
    subst (AreSeatsOf (cut_books g.N.Names.plan.books)) (sym c.as_mut_slice-4.ensures.value) c.desk.invariant.cuts_are

pub join_all-requires-clause-cleared : goal.join_all-requires-clause-cleared
join_all-requires-clause-cleared g c =
    subst (AreSeatsOf (cleared_books g.N.Names.plan.books)) (sym c.as_mut_slice-5.ensures.value) c.desk.invariant.cleared_are

pub streams_out-streams-requires : goal.streams_out-streams-requires
streams_out-streams-requires g c =
    let same = c.join_all.ensures.slots ∙ c.as_mut_slice.ensures.value in
    let back = written-twice c.args.slots.items c.join_all.new.slots c.join_producers.new.slots c.args.slots.len same c.args.slots.ok.0
    (c.join_producers.ensures.slots ∙ c.as_mut_slice-7.ensures.value) in
    (c.requires.room.0, omega (arith, ap length back, c.requires.slots, c.requires.room.1))

pub from_parts-requires : goal.from_parts-requires
from_parts-requires g c =
    let plan = g.N.Names.plan in
    let all = c.args.slots.items in
    let slots : c.as_mut_slice.result.now ≡ all = c.as_mut_slice.ensures.value in
    let cuts : c.as_mut_slice-4.result.now ≡ c.desk.inside.cuts.items = c.as_mut_slice-4.ensures.value in
    let back = written-twice all c.join_all.new.slots c.join_producers.new.slots c.args.slots.len (c.join_all.ensures.slots ∙ slots)
    c.args.slots.ok.0 (c.join_producers.ensures.slots ∙ c.as_mut_slice-7.ensures.value) in
    let items : c.streams_out-streams.result.items ≡ streams_of all = c.streams_out-streams.ensures.streams ∙ ap streams_of back in
    let planned : ArePlanned plan all = subst (ArePlanned plan) slots c.join_all.ensures.planned in
    let cut : AreCutAs (c.desk.inside.cuts.items, all) = subst AreCutAs (λ j. (cuts j, slots j)) c.join_all.ensures.cut in
    subst (λ (x : SessionBookState × List StreamState). HasItsStreams (session_of x.0 x.1)) (λ j. (sym c.into_parts-book.ensures.book j, sym items j))
    (settled-streams plan c.desk.inside.book.book c.desk.inside.consumed.items c.desk.inside.cuts.items c.desk.inside.cleared.items all c.desk.invariant c.requires.slots planned
    cut (subst (AllByRecursion HoldsItsParts) items c.streams_out-streams.ensures.held))

pub returns-clause-planned : goal.returns-clause-planned
returns-clause-planned g c =
    let plan = g.N.Names.plan in
    let all = c.args.slots.items in
    let slots : c.as_mut_slice.result.now ≡ all = c.as_mut_slice.ensures.value in
    let cuts : c.as_mut_slice-4.result.now ≡ c.desk.inside.cuts.items = c.as_mut_slice-4.ensures.value in
    let back = written-twice all c.join_all.new.slots c.join_producers.new.slots c.args.slots.len (c.join_all.ensures.slots ∙ slots)
    c.args.slots.ok.0 (c.join_producers.ensures.slots ∙ c.as_mut_slice-7.ensures.value) in
    let items : c.streams_out-streams.result.items ≡ streams_of all = c.streams_out-streams.ensures.streams ∙ ap streams_of back in
    let planned : ArePlanned plan all = subst (ArePlanned plan) slots c.join_all.ensures.planned in
    let cut : AreCutAs (c.desk.inside.cuts.items, all) = subst AreCutAs (λ j. (cuts j, slots j)) c.join_all.ensures.cut in
    let made : c.of.result ≡ session_of c.desk.inside.book.book (streams_of all) =
    c.of.ensures ∙ c.from_parts.ensures ∙ (λ j. session_of (c.into_parts-book.ensures.book j) (items j)) in
    subst (IsSessionOf plan) (sym made)
    (settled-planned plan c.desk.inside.book.book c.desk.inside.consumed.items c.desk.inside.cuts.items c.desk.inside.cleared.items all c.desk.invariant c.requires.slots planned
    cut (subst (AllByRecursion HoldsItsParts) items c.streams_out-streams.ensures.held))

pub returns-clause-session : goal.returns-clause-session
returns-clause-session g c =
    let same = c.join_all.ensures.slots ∙ c.as_mut_slice.ensures.value in
    let back = written-twice c.args.slots.items c.join_all.new.slots c.join_producers.new.slots c.args.slots.len same c.args.slots.ok.0
    (c.join_producers.ensures.slots ∙ c.as_mut_slice-7.ensures.value) in
    let items : c.streams_out-streams.result.items ≡ streams_of c.args.slots.items = c.streams_out-streams.ensures.streams ∙ ap streams_of back in
    let book : c.into_parts-book.result.0 ≡ c.args.desk.book = c.into_parts-book.ensures.book ∙ ap (λ (d : DeskState). d.book) c.desk.view_is in
    c.of.ensures ∙ c.from_parts.ensures ∙ (λ j. session_of (book j) (items j))

pub returns-clause-totals : goal.returns-clause-totals
returns-clause-totals g c = c.sums-totals.ensures.value ∙ ap (λ (l : List SlotState). totals_of (streams_of l)) c.deref.ensures.value

pub returns-clause-seats : goal.returns-clause-seats
returns-clause-seats g c =
    let desk = c.args.desk in
    let slots = c.deref.ensures.value ∙ sym c.as_mut_slice.ensures.value in
    let consumed : desk.consumed ≡ amounts_of c.as_mut_slice-3.result.now =
    sym (ap (λ (d : DeskState). d.consumed) c.desk.view_is) ∙ ap amounts_of (sym c.as_mut_slice-3.ensures.value) in
    let cuts : desk.cuts ≡ amounts_of c.as_mut_slice-4.result.now =
    sym (ap (λ (d : DeskState). d.cuts) c.desk.view_is) ∙ ap amounts_of (sym c.as_mut_slice-4.ensures.value) in
    let cleared : desk.cleared ≡ amounts_of c.as_mut_slice-5.result.now =
    sym (ap (λ (d : DeskState). d.cleared) c.desk.view_is) ∙ ap amounts_of (sym c.as_mut_slice-5.ensures.value) in
    c.sums-totals.ensures.value ∙ ap (λ (l : List SlotState). totals_of (streams_of l)) slots
    ∙ c.join_all.ensures.add_up desk consumed cuts cleared
    ∙ ap (λ (l : List ProducerState). totals_of_seats l c.args.drainers.items desk) c.as_mut_slice-2.ensures.value

pub returns-clause-places : goal.returns-clause-places
returns-clause-places g c =
    subst (λ (l : List SlotState). AddUp c.sums-totals.result (streams_of l)) c.deref.ensures.value c.sums-totals.ensures.places

pub returns-clause-consumed : goal.returns-clause-consumed
returns-clause-consumed g c =
    subst (λ (l : List SlotState). WereConsumed c.sums-totals.result (streams_of l)) c.deref.ensures.value c.sums-totals.ensures.consumed

pub join_all-requires-clause-whole : goal.join_all-requires-clause-whole
join_all-requires-clause-whole g c = grind (arith, common_steps)

abbrev AreOwn : List ProducerState × List SlotState → Type 0
AreOwn x =
    (k : ℕ) (p : ProducerState) (s : SlotState) → k < length x.0
    → IsOwn (get_or x.0 k p) (totals_in (get_or x.1 (get_or x.0 k p).number s).stream)

pub returns-clause-own : goal.returns-clause-own
returns-clause-own g c =
    let all = c.args.slots.items in
    let slots : c.as_mut_slice.result.now ≡ all = c.as_mut_slice.ensures.value in
    let producers : c.as_mut_slice-2.result.now ≡ c.args.producers.items = c.as_mut_slice-2.ensures.value in
    let n = length g.N.Names.plan.books in
    let there : AreWithin n c.args.producers.items = subst (AreWithin n) producers c.join_all.ensures.there in
    let own : AreOwn (c.args.producers.items, all) = subst AreOwn (λ j. (producers j, slots j)) c.join_all.ensures.own in
    theirs n c.args.producers.items all c.requires.slots there own

abbrev AreTakenAs : List DrainerState → List SeatState × List SlotState → Type 0
AreTakenAs drainers x = (k : ℕ) (d : SeatState) (s : SlotState) → k < length x.1
    → (totals_in (get_or x.1 k s).stream).consumed ≡ (get_or x.0 k d).amount + taken_of drainers k

pub returns-clause-taken : goal.returns-clause-taken
returns-clause-taken g c =
    let all = c.args.slots.items in
    let drainers = c.args.drainers.items in
    let mine = c.desk.inside.consumed.items in
    let books = g.N.Names.plan.books in
    let slots : c.as_mut_slice.result.now ≡ all = c.as_mut_slice.ensures.value in
    let row : c.as_mut_slice-3.result.now ≡ mine = c.as_mut_slice-3.ensures.value in
    let wide = tables-length (consumed_books books) mine c.desk.invariant.consumed_are.0 ∙ length-map books (λ (b : Books). b.consumed) in
    let taken : AreTakenAs drainers (mine, all) = subst (AreTakenAs drainers) (λ j. (row j, slots j)) c.join_all.ensures.taken in
    subst (λ (l : List ℕ). HaveConsumed l drainers (streams_of all)) (ap (λ (d : DeskState). d.consumed) c.desk.view_is)
    (have-consumed mine drainers all (wide ∙ sym c.requires.slots) taken)

abbrev AreClearedAs : List SeatState × List SlotState → Type 0
AreClearedAs x =
    (k : ℕ) (d : SeatState) (s : SlotState) → k < length x.1 → (get_or x.0 k d).amount ≡ (totals_in (get_or x.1 k s).stream).cleared

pub returns-clause-cleared : goal.returns-clause-cleared
returns-clause-cleared g c =
    let all = c.args.slots.items in
    let mine = c.desk.inside.cleared.items in
    let books = g.N.Names.plan.books in
    let slots : c.as_mut_slice.result.now ≡ all = c.as_mut_slice.ensures.value in
    let row : c.as_mut_slice-5.result.now ≡ mine = c.as_mut_slice-5.ensures.value in
    let wide = tables-length (cleared_books books) mine c.desk.invariant.cleared_are.0 ∙ length-map books (λ (b : Books). b.cleared) in
    let gone : AreClearedAs (mine, all) = subst AreClearedAs (λ j. (row j, slots j)) c.join_all.ensures.clear in
    subst (λ (l : List ℕ). HaveCleared l (streams_of all)) (ap (λ (d : DeskState). d.cleared) c.desk.view_is)
    (have-cleared mine all (wide ∙ sym c.requires.slots) gone)

pub returns-clause-snapshot_session : goal.returns-clause-snapshot_session
returns-clause-snapshot_session g c = λ snapshot.
    let plan = g.N.Names.plan in
    let all = c.args.slots.items in
    let slots : c.as_mut_slice.result.now ≡ all = c.as_mut_slice.ensures.value in
    let seen : c.deref.result.now ≡ all = c.deref.ensures.value in
    let planned : ArePlanned plan all = subst (ArePlanned plan) slots c.join_all.ensures.planned in
    c.sums-totals.ensures.snapshot_session
    (λ k s lt.
    let there : k < length all = subst (λ (l : List SlotState). k < length l) seen lt in
    subst (λ (l : List SlotState). (get_or l k s).stream.config.session ≡ Snapshot) (sym seen)
    (planned-mode plan c.desk.invariant.planned k (get_or all k s).stream.config (planned k s there) ∙ snapshot))

abbrev AreAccountedIn : List ProducerState × List SlotState → Type 0
AreAccountedIn x =
    (k : ℕ) (p : ProducerState) (s : SlotState) → k < length x.0
    → IsAccountOf (get_or x.0 k p).steps (get_or x.1 (get_or x.0 k p).number s).stream

pub returns-clause-accounts : goal.returns-clause-accounts
returns-clause-accounts g c =
    let all = c.args.slots.items in
    let slots : c.as_mut_slice.result.now ≡ all = c.as_mut_slice.ensures.value in
    let producers : c.as_mut_slice-2.result.now ≡ c.args.producers.items = c.as_mut_slice-2.ensures.value in
    let n = length g.N.Names.plan.books in
    let there : AreWithin n c.args.producers.items = subst (AreWithin n) producers c.join_all.ensures.there in
    let own : AreAccountedIn (c.args.producers.items, all) =
    subst AreAccountedIn (λ j. (producers j, slots j)) c.join_all.ensures.accounts in
    their-accounts n c.args.producers.items all c.requires.slots there own

abbrev ArePacketsIn : List DrainerState → List SlotState → Type 0
ArePacketsIn drainers slots = (k i : ℕ) (d : DrainerState) (s : SlotState) → k < length drainers → i < length slots
    → IsTakenFrom (taken_at (get_or drainers k d) i) (get_or slots i s).stream

pub returns-clause-packets : goal.returns-clause-packets
returns-clause-packets g c =
    let all = c.args.slots.items in
    let drainers = c.args.drainers.items in
    let slots : c.as_mut_slice.result.now ≡ all = c.as_mut_slice.ensures.value in
    let packets : ArePacketsIn drainers all = subst (ArePacketsIn drainers) slots c.join_all.ensures.packets in
    their-packets drainers all packets

pub join_all-requires-clause-noted : goal.join_all-requires-clause-noted
join_all-requires-clause-noted g c =
    subst (AreDeskWith g.N.Names.plan.books []) (sym c.as_mut_slice-6.ensures.value) c.into_parts-book.ensures.streams

pub join_producers-requires-clause-slots : goal.join_producers-requires-clause-slots
join_producers-requires-clause-slots g c =
    let same = c.join_all.ensures.slots ∙ c.as_mut_slice.ensures.value in
    let back = written-back c.args.slots.items c.join_all.new.slots c.args.slots.len same c.args.slots.ok.0 in
    let now : c.as_mut_slice-7.result.now ≡ c.args.slots.items = c.as_mut_slice-7.ensures.value ∙ back in
    (ap length now ∙ c.requires.slots, subst AreInPlace (sym now) c.requires.may.whole.in_place)

-- the desk's seats after the drainers' were joined
pub join_producers-requires-clause-many : goal.join_producers-requires-clause-many
join_producers-requires-clause-many g c =
    let seats = c.into_parts-book.result.1 in
    let long = c.join_all.ensures.noted.many ∙ sym c.into_parts-book.ensures.streams.many in
    let now : c.as_mut_slice-8.result.now ≡ c.join_all.new.noted =
    c.as_mut_slice-8.ensures.value ∙ written-over seats.items c.join_all.new.noted seats.len long seats.ok.0 in
    ap length now ∙ c.join_all.ensures.noted.many

pub join_producers-requires-clause-desk : goal.join_producers-requires-clause-desk
join_producers-requires-clause-desk g c =
    let books = g.N.Names.plan.books in
    let seats = c.into_parts-book.result.1 in
    let long = c.join_all.ensures.noted.many ∙ sym c.into_parts-book.ensures.streams.many in
    let now : c.as_mut_slice-8.result.now ≡ c.join_all.new.noted =
    c.as_mut_slice-8.ensures.value ∙ written-over seats.items c.join_all.new.noted seats.len long seats.ok.0 in
    (subst (AreDeskWith books c.args.drainers.items) (sym now) c.join_all.ensures.noted).each

pub join_producers-requires-clause-all : goal.join_producers-requires-clause-all
join_producers-requires-clause-all g c =
    let books = g.N.Names.plan.books in
    let seats = c.into_parts-book.result.1 in
    let drainers = c.args.drainers.items in
    let all = c.args.slots.items in
    let long = c.join_all.ensures.noted.many ∙ sym c.into_parts-book.ensures.streams.many in
    let now : c.as_mut_slice-8.result.now ≡ c.join_all.new.noted =
    c.as_mut_slice-8.ensures.value ∙ written-over seats.items c.join_all.new.noted seats.len long seats.ok.0 in
    let same = c.join_all.ensures.slots ∙ c.as_mut_slice.ensures.value in
    let slots : c.as_mut_slice-7.result.now ≡ all =
    c.as_mut_slice-7.ensures.value ∙ written-back all c.join_all.new.slots c.args.slots.len same c.args.slots.ok.0 in
    subst (λ (x : List (noted.SeatState StreamStep) × List SlotState). (i : ℕ) (d : noted.SeatState StreamStep) (s : SlotState) → i < length books
    → length (get_or x.0 i d).joined ≡ (get_or x.1 i s).made)
    (λ j. (sym now j, sym slots j))
    (desk-whole books drainers c.join_all.new.noted all c.join_all.ensures.noted c.requires.may.whole.made c.requires.slots)

pub join_producers-requires-clause-once : goal.join_producers-requires-clause-once
join_producers-requires-clause-once g c =
    let all = c.args.slots.items in
    let same = c.join_all.ensures.slots ∙ c.as_mut_slice.ensures.value in
    let slots : c.as_mut_slice-7.result.now ≡ all =
    c.as_mut_slice-7.ensures.value ∙ written-back all c.join_all.new.slots c.args.slots.len same c.args.slots.ok.0 in
    let producers = written-back c.args.producers.items c.join_all.new.producers c.args.producers.len
    (c.join_all.ensures.producers ∙ c.as_mut_slice-2.ensures.value) c.args.producers.ok.0 in
    subst (λ (x : List SlotState × List ProducerState). IsOneEach (length x.0) x.1) (λ j. (sym slots j, sym producers j)) c.requires.may.one_each

abbrev HaveHistoriesIn : List ProducerState × List (noted.SeatState StreamStep) × List SlotState → Type 0
HaveHistoriesIn x =
    (k : ℕ) (p : ProducerState) (d : noted.SeatState StreamStep) (s : SlotState) → k < length x.0
    → IsHistoryOf (get_or x.0 k p).steps (takes_joined (get_or x.1 (get_or x.0 k p).number d))
    (get_or x.1 (get_or x.0 k p).number d).own (get_or x.2 (get_or x.0 k p).number s).stream

abbrev AreOperationsOf : ℕ → List (noted.SeatState StreamStep) → List (noted.SeatState StreamStep) → Type 0
AreOperationsOf n new old = (i : ℕ) (d : noted.SeatState StreamStep) → i < n → (get_or new i d).own ≡ (get_or old i d).own

pub returns-clause-lent : goal.returns-clause-lent
returns-clause-lent g c =
    subst (λ (d : DeskState). IsTrue c.into_parts-book.result.2 ↔ AreAllOperators d.operators c.args.operators.now) c.desk.view_is
    c.into_parts-book.ensures.lent

pub returns-clause-histories : goal.returns-clause-histories
returns-clause-histories g c =
    let plan = g.N.Names.plan in
    let books = plan.books in
    let n = length books in
    let seats = c.into_parts-book.result.1 in
    let drainers = c.args.drainers.items in
    let all = c.args.slots.items in
    let now = c.join_all.new.noted in
    let mine = c.into_parts-book.ensures.streams in
    let long = c.join_all.ensures.noted.many ∙ sym mine.many in
    let over : c.as_mut_slice-8.result.now ≡ now = c.as_mut_slice-8.ensures.value ∙ written-over seats.items now seats.len long seats.ok.0 in
    let same = c.join_all.ensures.slots ∙ c.as_mut_slice.ensures.value in
    let slots : c.as_mut_slice-7.result.now ≡ all =
    c.as_mut_slice-7.ensures.value ∙ written-back all c.join_all.new.slots c.args.slots.len same c.args.slots.ok.0 in
    let producers = written-back c.args.producers.items c.join_all.new.producers c.args.producers.len
    (c.join_all.ensures.producers ∙ c.as_mut_slice-2.ensures.value) c.args.producers.ok.0 in
    let there : AreWithin n c.args.producers.items = subst (AreWithin n) c.as_mut_slice-2.ensures.value c.join_all.ensures.there in
    let own : HaveHistoriesIn (c.args.producers.items, now, all) =
    subst HaveHistoriesIn (λ j. (producers j, over j, slots j)) c.join_producers.ensures.histories in
    let kept : AreOperationsOf n now seats.items =
    subst (AreOperationsOf n now) c.as_mut_slice-6.ensures.value c.join_all.ensures.operations in
    let operations = operations_in seats.items in
    record {
      operations = operations;
      many = length-map seats.items (λ (s : noted.SeatState StreamStep). s.own) ∙ mine.many ∙ sym c.requires.slots
          ∙ sym (length-map all (λ (s : SlotState). s.stream));
      done = subst (λ (d : DeskState). HaveDone plan.session.book c.args.operators.now c.into_parts-book.result.2 d.book operations) c.desk.view_is
          c.into_parts-book.ensures.done;
      histories = their-histories n books c.args.producers.items drainers operations now all c.requires.slots refl c.join_all.ensures.noted
          (noted.new_seat no_table 0) (operations-kept n seats.items now mine.many kept) there own;
    }
