use Rattle.std.proofs.Common.{◌≡◌, ◌∙◌, ℕ, List, None, Option, Some, ap, false, option_map, refl, sym, true}
use Rattle.tr_program.specs.Runs.{wanted_by}
use Rattle.tr_program.proofs.running.wanted_by.Goals as goal
use Rattle.uuid.specs.Text.{parsed}

never : false ≡ true → ⊥
never e = cc

none : (p : Option (List ℕ)) → (((u : List ℕ) × (p ≡ Some u)) → false ≡ true) → p ≡ None
none None some = refl
none (Some u) some = absurd (never (some (u, refl)))

pub returns-in-Err : goal.returns-in-Err
returns-in-Err c =
    sym
    (ap (λ u. wanted_by (option_map (λ t. t.now) u)) c.in-Some.is
    ∙ ap (option_map Some) (none (parsed c.in-Some.text.now) c.in-Err.ensures.ok.1))
