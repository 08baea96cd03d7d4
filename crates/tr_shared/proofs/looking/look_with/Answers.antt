use Rattle.std.proofs.Common.{◌≡◌, ◌∙◌, ℕ, ap, subst, sym}
use Rattle.tr_accounts.specs.StreamSteps.{accepted_in}
use Rattle.tr_book.specs.Snaps.{SnapState}
use Rattle.tr_seats.specs.Accounts.{IsAccountOf}
use Rattle.tr_seats.specs.Slots.{IsOwn, SlotState}
use Rattle.tr_seats.specs.Sums.{totals_in}
use Rattle.tr_shared.proofs.ShownLemmas.{shown-offered}
use Rattle.tr_shared.proofs.looking.look_with.Goals as goal
use Rattle.tr_shared.specs.Shown.{IsLookAt, IsShownFrom}

pub returns-clause-own : goal.returns-clause-own
returns-clause-own g c =
    let p = c.args.producer.now in
    let slot = c.args.slot.now in
    let snap = c.in_ok-snap.snap in
    let is = c.in_ok-snap.ensures in
    let value : snap.offered ≡ slot.stream.counters.offered = ap (λ (s : SnapState). s.offered) is.value in
    let own : IsOwn p (totals_in slot.stream) = subst (λ (t : SlotState). IsOwn p (totals_in t.stream)) is.same c.audit.ensures.own in
    let accounts = subst (λ (t : SlotState). IsAccountOf p.steps t.stream) is.same c.audit.ensures.accounts in
    record {
      stream = slot.stream;
      own = own;
      look = subst (λ (i : ℕ). IsLookAt g.N.Names.plan i c.args.moment slot.stream snap) c.stream.ensures.number is.look;
      offered = value ∙ sym own.0;
      from = subst (λ (n : ℕ). IsShownFrom n snap) (sym own.2) is.from;
      records = shown-offered (accepted_in p.steps) slot.stream snap accounts.holds is.records;
    }
