use Rattle.std.proofs.Common.{rules, ◌≡◌, ◌∙◌, ℕ, ◌+◌, ◌-◌, ◌^◌, min}
use Rattle.std.specs.List.{fold}
use Rattle.tr_schedule.proofs.TotalLemmas.{stopped_sum}
use Rattle.tr_schedule.proofs.schedule.total.Goals as goal

pub returns : goal.returns
returns c =
    let run : c.fold.result ≡ fold (λ (n : ℕ) (x : ℕ). min (n + x) (2 ^ 64 - 1)) 0 c.args.sizes.now = search rules in
    run ∙ stopped_sum (2 ^ 64 - 1) c.args.sizes.now
