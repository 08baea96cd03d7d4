use Rattle.std.proofs.Common.{◌≡◌, ℕ, ◌+◌, ◌<◌, length, get_or, List, ◌∙◌, subst, sym}
use Rattle.tr_ledger.specs.Ledgers.{SeatState}
use Rattle.tr_seats.proofs.AllTotals.{all-add_up, cleared-whole, cuts-whole, row-taken}
use Rattle.tr_seats.proofs.settling.join_all.Goals as goal
use Rattle.tr_seats.specs.Accounts.{IsTakenFrom}
use Rattle.tr_seats.specs.Books.{IsPlanned}
use Rattle.tr_seats.specs.Drainers.{DrainerState, taken_at}
use Rattle.tr_seats.specs.Settling.{AreInPlace}
use Rattle.tr_seats.specs.Slots.{SlotState}
use Rattle.tr_seats.specs.Sums.{totals_in}

-- the seats of a row that are whole have what the streams count
abbrev AreConsumed : List SeatState → List SlotState → Type 0
AreConsumed seats slots =
    (k : ℕ) (d : SeatState) (s : SlotState) → k < length slots → (get_or seats k d).mark ≡ (get_or slots k s).made + 1
    → (get_or seats k d).amount ≡ (totals_in (get_or slots k s).stream).consumed

abbrev AreCut : List SeatState → List SlotState → Type 0
AreCut seats slots =
    (k : ℕ) (d : SeatState) (s : SlotState) → k < length slots → (get_or seats k d).mark ≡ 1
    → (get_or seats k d).amount ≡ (totals_in (get_or slots k s).stream).cuts

abbrev AreCleared : List SeatState → List SlotState → Type 0
AreCleared seats slots =
    (k : ℕ) (d : SeatState) (s : SlotState) → k < length slots → (get_or seats k d).mark ≡ 1
    → (get_or seats k d).amount ≡ (totals_in (get_or slots k s).stream).cleared

abbrev AreThere : ℕ → List SlotState → Type 0
AreThere n slots = (length slots ≡ n) × AreInPlace slots

pub returns-clause-add_up : goal.returns-clause-add_up
returns-clause-add_up g c =
    let slots = c.args.slots.now in
    let joined = c.join_drainers.new.seats in
    let cuts = c.args.cuts.now in
    let cleared = c.args.cleared.now in
    let after_drainers = c.join_drainers.ensures.slots ∙ c.audit_producers.ensures.same.0 in
    let after_consumed = c.audit_consumed.ensures.same.0 ∙ after_drainers in
    let whole : AreConsumed joined slots = subst (AreConsumed joined) after_drainers c.audit_consumed.ensures.whole in
    let cut_whole : AreCut cuts slots = subst (AreCut cuts) after_consumed c.audit_cuts.ensures.whole in
    let after_cuts = c.audit_cuts.ensures.same.0 ∙ after_consumed in
    let cleared_whole : AreCleared cleared slots = subst (AreCleared cleared) after_cuts c.audit_cleared.ensures.whole in
    all-add_up g.N.Names.plan.books slots c.requires.slots c.args.producers.now c.args.drainers.items c.args.mine.now joined cuts
    cleared c.requires.producers c.audit_producers.ensures.there c.audit_producers.ensures.own c.join_drainers.ensures.seats
    c.join_drainers.ensures.amounts c.requires.whole.made whole c.requires.cuts cut_whole c.requires.cleared cleared_whole

pub returns-clause-cut : goal.returns-clause-cut
returns-clause-cut g c =
    let after = c.audit_consumed.ensures.same.0 ∙ c.join_drainers.ensures.slots ∙ c.audit_producers.ensures.same.0 in
    let cut_whole : AreCut c.args.cuts.now c.args.slots.now = subst (AreCut c.args.cuts.now) after c.audit_cuts.ensures.whole in
    cuts-whole g.N.Names.plan.books c.args.slots.now c.requires.slots c.args.cuts.now c.requires.cuts cut_whole

pub returns-clause-clear : goal.returns-clause-clear
returns-clause-clear g c =
    let after = c.audit_cuts.ensures.same.0 ∙ c.audit_consumed.ensures.same.0 ∙ c.join_drainers.ensures.slots
    ∙ c.audit_producers.ensures.same.0 in
    let whole : AreCleared c.args.cleared.now c.args.slots.now = subst (AreCleared c.args.cleared.now) after c.audit_cleared.ensures.whole in
    cleared-whole g.N.Names.plan.books c.args.slots.now c.requires.slots c.args.cleared.now c.requires.cleared whole

pub returns-clause-planned : goal.returns-clause-planned
returns-clause-planned g c =
    let after = c.audit_consumed.ensures.same.0 ∙ c.join_drainers.ensures.slots ∙ c.audit_producers.ensures.same.0 in
    subst (λ (x : List SlotState). (k : ℕ) (s : SlotState) → k < length x → IsPlanned g.N.Names.plan k (get_or x k s).stream.config)
    after c.audit_cuts.ensures.planned

pub join_drainers-requires-clause-slots : goal.join_drainers-requires-clause-slots
join_drainers-requires-clause-slots g c =
    subst (AreThere (length g.N.Names.plan.books)) (sym c.audit_producers.ensures.same.0) (c.requires.slots, c.requires.whole.in_place)

pub audit_consumed-requires-clause-slots : goal.audit_consumed-requires-clause-slots
audit_consumed-requires-clause-slots g c =
    subst (AreThere (length g.N.Names.plan.books)) (sym (c.join_drainers.ensures.slots ∙ c.audit_producers.ensures.same.0))
    (c.requires.slots, c.requires.whole.in_place)

pub audit_cuts-requires-clause-slots : goal.audit_cuts-requires-clause-slots
audit_cuts-requires-clause-slots g c =
    let after = c.audit_consumed.ensures.same.0 ∙ c.join_drainers.ensures.slots ∙ c.audit_producers.ensures.same.0 in
    subst (AreThere (length g.N.Names.plan.books)) (sym after) (c.requires.slots, c.requires.whole.in_place)

pub audit_cleared-requires-clause-slots : goal.audit_cleared-requires-clause-slots
audit_cleared-requires-clause-slots g c =
    let after = c.audit_cuts.ensures.same.0 ∙ c.audit_consumed.ensures.same.0 ∙ c.join_drainers.ensures.slots
    ∙ c.audit_producers.ensures.same.0 in
    subst (AreThere (length g.N.Names.plan.books)) (sym after) (c.requires.slots, c.requires.whole.in_place)

pub returns-clause-own : goal.returns-clause-own
returns-clause-own g c = c.audit_producers.ensures.own

pub returns-clause-taken : goal.returns-clause-taken
returns-clause-taken g c =
    let slots = c.args.slots.now in
    let joined = c.join_drainers.new.seats in
    let after = c.join_drainers.ensures.slots ∙ c.audit_producers.ensures.same.0 in
    let whole : AreConsumed joined slots = subst (AreConsumed joined) after c.audit_consumed.ensures.whole in
    row-taken g.N.Names.plan.books slots c.requires.slots c.args.drainers.items c.args.mine.now joined c.join_drainers.ensures.seats
    c.join_drainers.ensures.each c.requires.whole.made whole

pub returns-clause-there : goal.returns-clause-there
returns-clause-there g c = c.audit_producers.ensures.there

pub returns-clause-accounts : goal.returns-clause-accounts
returns-clause-accounts g c = c.audit_producers.ensures.accounts

pub returns-clause-packets : goal.returns-clause-packets
returns-clause-packets g c =
    subst (λ (l : List SlotState). (k i : ℕ) (d : DrainerState) (s : SlotState) → k < length c.args.drainers.items → i < length l
    → IsTakenFrom (taken_at (get_or c.args.drainers.items k d) i) (get_or l i s).stream)
    c.audit_producers.ensures.same.0 c.join_drainers.ensures.packets

pub returns-clause-producers : goal.returns-clause-producers
returns-clause-producers g c = c.audit_producers.ensures.same.1

pub returns-clause-noted : goal.returns-clause-noted
returns-clause-noted g c = c.join_drainers.ensures.noted

pub join_drainers-requires-clause-noted : goal.join_drainers-requires-clause-noted
join_drainers-requires-clause-noted g c = c.requires.noted
