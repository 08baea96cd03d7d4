use Rattle.std.proofs.Common.{◌≡◌, ℕ, ◌+◌, ◌<◌, ◌≤◌, List, length, take, drop, get_or, [], ◌∷◌, ◌++◌, ap, ◌∙◌, below_more, refl, rules, subst, sym, arith}
use Rattle.std.specs.Prelude.{sum}
use Rattle.std.specs.List.{sum_by}
use Rattle.std.proofs.lemmas.List.{get_or-map, get_or_default, length-drop, length-map, length_push, take_all, take_more}
use Rattle.std.proofs.lemmas.List.Sums.{sum_by_push}
use Rattle.std.proofs.lemmas.Option.{get_or_from_slice_get}
use Rattle.tr_accounts.specs.declared.step.StreamStep.{StreamStep}
use Rattle.tr_journal.specs.Journals as journal
use Rattle.tr_ledger.specs.Ledgers.{SeatState}
use Rattle.tr_seats.proofs.HistoryLemmas.{desk-more}
use Rattle.tr_seats.proofs.Joins.{tables-length}
use Rattle.tr_seats.proofs.Rows.{drop-front}
use Rattle.tr_seats.proofs.settling.join_drainers.Goals as goal
use Rattle.tr_seats.specs.Books.{Books, consumed_books}
use Rattle.tr_seats.specs.Accounts.{IsTakenFrom, taken_by}
use Rattle.tr_seats.specs.Drainers.{DrainerState, taken_at}
use Rattle.tr_seats.specs.Histories.{AreDeskWith}
use Rattle.tr_seats.specs.Settling.{AreInPlace, taken_of}
use Rattle.tr_seats.specs.Slots.{AreJoined, SlotState, amounts_of}

abbrev all_taken : DrainerState → ℕ
all_taken d = sum d.amounts

pub loop-drainer-init : goal.loop-drainer-init
loop-drainer-init g c = (
  tt,
  tt,
  record {
    slots_same = refl;
    left = search rules;
    within = omega arith;
    seats = c.requires.seats;
    amounts = omega arith;
    each = λ k d lt. omega arith;
    noted = c.requires.noted;
    operations = λ i d lt. refl;
    packets = λ k i d s lt wide. absurd (omega (arith, lt));
  },
)

pub loop-drainer-preserved : goal.loop-drainer-preserved
loop-drainer-preserved g c =
    let books = g.N.Names.plan.books in
    let v = c.loop-drainer.invariant.2 in
    let all = c.args.drainers.items in
    let i = length c.loop-drainer.yielded in
    let x = c.in-Some.drainer in
    let front = drop-front all i x c.next.new.self.rest.items (v.left ∙ c.in-Some.ensures.steps.0) in
    let next : length (c.loop-drainer.yielded ++ x ∷ []) ≡ i + 1 = length_push c.loop-drainer.yielded x in
    let r = c.join_row.ensures in
    let now = c.join_row.new.seats in
    let wide : length now ≡ length books =
    tables-length (consumed_books books) now r.tables ∙ length-map books (λ (b : Books). b.consumed) in
    let was : length c.loop-drainer.seats ≡ length books =
    tables-length (consumed_books books) c.loop-drainer.seats v.seats.0 ∙ length-map books (λ (b : Books). b.consumed) in
    let there : get_or all i x ≡ x = get_or_from_slice_get all i x x front.0 in
    let within : i < length all = omega (arith, front.2) in
    let more : sum_by all_taken (take (i + 1) all) ≡ sum_by all_taken (take i all) + all_taken x =
    ap (sum_by all_taken) (take_more all i x within ∙ (λ k. take i all ++ there k ∷ [])) ∙ sum_by_push all_taken (take i all) x in
    let base = sum (amounts_of c.args.seats.now) in
    let grown : (base + sum_by all_taken (take i all)) + all_taken x ≡ base + sum_by all_taken (take (i + 1) all) = omega (arith, more) in
    let audited = c.audit_takes.ensures.same in
    let given : sum (amounts_of c.drainer.inside.seats.items) ≡ all_taken x = ap all_taken (c.drainer.view_is ∙ audited.1) in
    let theirs = c.drainer.inside.seats.items in
    let many : length theirs ≡ length books =
    tables-length (consumed_books books) theirs c.drainer.invariant.0.0 ∙ length-map books (λ (b : Books). b.consumed) in (
      tt,
      tt,
      record {
        slots_same = c.join_takes.ensures.slots ∙ r.slots ∙ audited.0 ∙ v.slots_same;
        left = ap (λ n. drop n all) next ∙ front.1;
        within = subst (λ n. n ≤ length all) (sym next) front.2;
        seats = (
          r.tables,
          λ k d lt.
              r.marks k d (omega (arith, lt, wide)) ∙ ap (λ n. n + 1) (v.seats.1 k d (omega (arith, lt, wide, was)) ∙ sym next),
        );
        amounts = r.amounts ∙ (λ k. v.amounts k + given k) ∙ grown ∙ ap (λ n. base + sum_by all_taken (take n all)) (sym next);
        each = λ k d lt.
            let was = get_or c.args.seats.now k d in
            let has : (get_or theirs k d).amount ≡ get_or x.amounts k 0 =
            sym (get_or-map (λ (s : SeatState). s.amount) theirs k d 0 (omega (arith, lt, many)))
            ∙ ap (λ (l : DrainerState). get_or l.amounts k 0) (c.drainer.view_is ∙ audited.1) in
            let more : taken_of (take (i + 1) all) k ≡ taken_of (take i all) k + get_or x.amounts k 0 =
            ap (λ (l : List DrainerState). taken_of l k) (take_more all i x within ∙ (λ k. take i all ++ there k ∷ []))
            ∙ sum_by_push (λ (l : DrainerState). get_or l.amounts k 0) (take i all) x in
            let now : (get_or c.join_row.new.seats k d).amount ≡ was.amount + taken_of (take (i + 1) all) k =
            omega (arith, r.each k d d lt, v.each k d lt, has, more) in
            now ∙ ap (λ n. was.amount + taken_of (take n all) k) (sym next);
        noted =
            let took : x.taken ≡ taken_by c.drainer.inside.takes.items =
            ap (λ (d : DrainerState). d.taken) (sym (c.drainer.view_is ∙ audited.1)) in
            subst (λ (ds : List DrainerState). AreDeskWith books ds c.join_takes.new.desk)
            (sym (take_more all i x within ∙ (λ k. take i all ++ there k ∷ [])) ∙ ap (λ n. take n all) (sym next))
            (desk-more books (take i all) x c.loop-drainer.noted c.join_takes.new.desk c.drainer.inside.takes.items v.noted
            c.drainer.invariant.1 took c.join_takes.ensures.many c.join_takes.ensures.joined);
        operations = λ k d lt.
            ap (λ (s : journal.SeatState StreamStep). s.own) (c.join_takes.ensures.joined k d d lt) ∙ v.operations k d lt;
        packets = λ k j d s lt wide.
            below_more (λ k. IsTakenFrom (taken_at (get_or all k d) j) (get_or c.args.slots.now j s).stream) i
            (λ k lt. v.packets k j d s lt wide)
            (let wide_now : j < length c.loop-drainer.slots = omega (arith, wide, ap length v.slots_same) in
            let mine : x ≡ get_or all i d = sym there ∙ get_or_default all i x d within in
            subst (λ (y : DrainerState × List SlotState). IsTakenFrom (taken_at y.0 j) (get_or y.1 j s).stream)
            (λ q. (mine q, v.slots_same q)) (c.audit_takes.ensures.taken j s wide_now))
            k (subst (λ n. k < n) next lt);
      },
    )

abbrev AreThere : ℕ → List SlotState → Type 0
AreThere n slots = (length slots ≡ n) × AreInPlace slots

pub audit_takes-requires : goal.audit_takes-requires
audit_takes-requires g c =
    subst (AreThere (length g.N.Names.plan.books)) (sym c.loop-drainer.invariant.2.slots_same) c.requires.slots

pub join_row-requires-clause-slots : goal.join_row-requires-clause-slots
join_row-requires-clause-slots g c =
    subst (AreThere (length g.N.Names.plan.books)) (sym (c.audit_takes.ensures.same.0 ∙ c.loop-drainer.invariant.2.slots_same))
    c.requires.slots

pub join_takes-requires-clause-slots : goal.join_takes-requires-clause-slots
join_takes-requires-clause-slots g c =
    subst (AreThere (length g.N.Names.plan.books))
    (sym (c.join_row.ensures.slots ∙ c.audit_takes.ensures.same.0 ∙ c.loop-drainer.invariant.2.slots_same)) c.requires.slots

pub join_takes-requires-clause-many : goal.join_takes-requires-clause-many
join_takes-requires-clause-many g c = c.loop-drainer.invariant.2.noted.many

pub join_takes-requires-clause-desk : goal.join_takes-requires-clause-desk
join_takes-requires-clause-desk g c = λ i d lt. (c.loop-drainer.invariant.2.noted.each i d lt).table_is

pub join_takes-requires-clause-theirs : goal.join_takes-requires-clause-theirs
join_takes-requires-clause-theirs g c = c.drainer.invariant.1

pub returns-clause-noted : goal.returns-clause-noted
returns-clause-noted g c =
    let v = c.loop-drainer.invariant.2 in
    let drainers = c.args.drainers.items in
    let i = length c.loop-drainer.yielded in
    let none : length c.loop-drainer.drainer-iterator.rest.items ≡ 0 =
    sym c.loop-drainer.drainer-iterator.rest.ok.0 ∙ c.in-None.ensures.steps.0 in
    let all : length drainers ≤ i = omega (arith, length-drop i drainers, ap length v.left, none, v.within) in
    subst (λ (l : List DrainerState). AreDeskWith g.N.Names.plan.books l c.loop-drainer.noted) (take_all i drainers all) v.noted

pub returns-clause-packets : goal.returns-clause-packets
returns-clause-packets g c = λ k j d s lt wide.
    let v = c.loop-drainer.invariant.2 in
    let drainers = c.args.drainers.items in
    let i = length c.loop-drainer.yielded in
    let none : length c.loop-drainer.drainer-iterator.rest.items ≡ 0 =
    sym c.loop-drainer.drainer-iterator.rest.ok.0 ∙ c.in-None.ensures.steps.0 in
    let all : i ≡ length drainers = omega (arith, length-drop i drainers, ap length v.left, none, v.within) in
    v.packets k j d s (subst (λ n. k < n) (sym all) lt) wide

pub returns-clause-seats : goal.returns-clause-seats
returns-clause-seats g c =
    let v = c.loop-drainer.invariant.2 in
    let drainers = c.args.drainers.items in
    let i = length c.loop-drainer.yielded in
    let none : length c.loop-drainer.drainer-iterator.rest.items ≡ 0 =
    sym c.loop-drainer.drainer-iterator.rest.ok.0 ∙ c.in-None.ensures.steps.0 in
    let all : i ≡ length drainers = omega (arith, length-drop i drainers, ap length v.left, none, v.within) in
    subst (λ n. AreJoined (n + 1) (consumed_books g.N.Names.plan.books) c.loop-drainer.seats) all v.seats

pub returns-clause-amounts : goal.returns-clause-amounts
returns-clause-amounts g c =
    let v = c.loop-drainer.invariant.2 in
    let drainers = c.args.drainers.items in
    let i = length c.loop-drainer.yielded in
    let none : length c.loop-drainer.drainer-iterator.rest.items ≡ 0 =
    sym c.loop-drainer.drainer-iterator.rest.ok.0 ∙ c.in-None.ensures.steps.0 in
    let all : length drainers ≤ i = omega (arith, length-drop i drainers, ap length v.left, none, v.within) in
    v.amounts ∙ ap (λ (l : List DrainerState). sum (amounts_of c.args.seats.now) + sum_by all_taken l) (take_all i drainers all)

pub returns-clause-each : goal.returns-clause-each
returns-clause-each g c = λ k d lt.
    let v = c.loop-drainer.invariant.2 in
    let drainers = c.args.drainers.items in
    let i = length c.loop-drainer.yielded in
    let none : length c.loop-drainer.drainer-iterator.rest.items ≡ 0 =
    sym c.loop-drainer.drainer-iterator.rest.ok.0 ∙ c.in-None.ensures.steps.0 in
    let all : length drainers ≤ i = omega (arith, length-drop i drainers, ap length v.left, none, v.within) in
    v.each k d lt ∙ ap (λ (l : List DrainerState). (get_or c.args.seats.now k d).amount + taken_of l k) (take_all i drainers all)
