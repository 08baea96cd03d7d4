use Rattle.std.proofs.Common.{◌∙◌, ap, sym}
use Rattle.std.specs.Str.{bytes_eq}
use Rattle.clap.specs.Walk.{Row}
use Rattle.tr_command.specs.Ordinary.{row_of_use}
use Rattle.tr_command.proofs.LineLemmas.{any-here}
use Rattle.tr_command.proofs.uses.is_used.Goals as goal

pub returns-then-is_same : goal.returns-then-is_same
returns-then-is_same c = sym (c.uses.invariant ∙ any-here row_of_use (λ (r : Row). bytes_eq r.id c.args.name.now) c.args.uses.now c.uses.used-index _ c.uses-test.true
    (ap (λ id. bytes_eq id c.args.name.now) (sym c.name.ensures) ∙ sym c.is_same.ensures ∙ c.if-is_same.true))
