use Rattle.std.proofs.Common.{◌≡◌, ℕ, ◌<◌}
use Rattle.std.specs.Prelude.{count_by, ◌==◌}
use Rattle.tr_seats.specs.Slots.{ProducerState}
use Rattle.tr_seats.proofs.settling.has_one_each.Given as goal

abbrev pub invariant-loop-i : goal.invariant-loop-i
invariant-loop-i g l = (k : ℕ) → k < l.i → count_by (λ (p : ProducerState). p.number == k) l.producers ≡ 1
