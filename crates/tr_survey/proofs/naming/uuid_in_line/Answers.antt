use Rattle.std.proofs.Common.{◌≡◌, Option, Some, None, refl, ap, ◌∙◌}
use Rattle.std.specs.Option.{option_and_then}
use Rattle.uuid.specs.Text.{parsed}
use Rattle.tr_survey.specs.Metadata.{quoted}
use Rattle.tr_survey.proofs.naming.uuid_in_line.Goals as goal

none_by : {X : Type 0} (o : Option X) → ((x : X) × (o ≡ Some x) → ⊥) → None ≡ o
none_by None none = refl
none_by (Some x) none = absurd (none (x, refl))

pub returns-in-Err : goal.returns-in-Err
returns-in-Err c =
    none_by (parsed c.in-Some.text.now) (λ h. absurd (let e = c.in-Err.ensures.ok.1 h in cc))
    ∙ ap (option_and_then parsed) (c.in-Some.ensures ∙ ap quoted c.without_indent.ensures)
