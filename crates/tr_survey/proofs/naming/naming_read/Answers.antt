use Rattle.std.proofs.Common.{◌≡◌, ◌<◌, ℕ, length, take, ap, ◌∙◌, false, true, subst}
use Rattle.tr_survey.proofs.MetadataLemmas.{read_broken, read_whole}
use Rattle.tr_survey.proofs.naming.naming_read.Goals as goal

pub returns-in_ok-naming_by-in-Ok-clause-naming : goal.returns-in_ok-naming_by-in-Ok-clause-naming
returns-in_ok-naming_by-in-Ok-clause-naming g c file known =
    read_whole file c.split_at.result.0.now _
    (c.split_at.ensures.front ∙ c.in-Ok.ensures.front file known ∙ ap (λ (n : ℕ). take n file.bytes) c.requires)
    (subst (λ (n : ℕ). length file.bytes < n → file.breaks ≡ false) c.requires (c.in-Ok.ensures.whole file known))
    c.in_ok-naming_by-in-Ok.ensures

pub returns-in-Err-Unreadable-clause-naming : goal.returns-in-Err-Unreadable-clause-naming
returns-in-Err-Unreadable-clause-naming g c file known =
    read_broken file (subst (λ (n : ℕ). (length file.bytes < n) × (file.breaks ≡ true)) c.requires (c.in-Err-Unreadable.ensures.broken c.in-Err-Unreadable.field-0-is file known))
