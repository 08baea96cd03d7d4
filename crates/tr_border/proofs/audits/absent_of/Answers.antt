use Rattle.std.proofs.Common.{rules, ◌≡◌, ◌∙◌, ℕ, ◌+◌, ◌-◌, ◌^◌, min}
use Rattle.std.specs.List.{fold}
use Rattle.tr_border.proofs.AbsentLemmas.{stopped_lengths}
use Rattle.tr_border.proofs.audits.absent_of.Goals as goal

pub returns : goal.returns
returns c =
    let run : c.fold.result ≡ fold (λ (n : ℕ) (gap : ℕ × ℕ). min (n + gap.1) (2 ^ 64 - 1)) 0 c.args.gaps.now = search rules in
    run ∙ stopped_lengths (2 ^ 64 - 1) c.args.gaps.now
