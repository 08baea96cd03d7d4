use Rattle.std.proofs.Common.{◌≡◌, ◌<◌, ℕ, length, take, ap, ◌∙◌, false, true, subst}
use Rattle.tr_describe.proofs.FileLemmas.{declares_front, declares_none}
use Rattle.tr_describe.proofs.declarations.declarations_read.Goals as goal

pub returns-in_ok-declarations_in-in-Ok-clause-declares : goal.returns-in_ok-declarations_in-in-Ok-clause-declares
returns-in_ok-declarations_in-in-Ok-clause-declares g c file known =
    declares_front file c.split_at.result.0.now _
    (c.split_at.ensures.front ∙ c.in-Ok.ensures.front file known ∙ ap (λ (n : ℕ). take n file.bytes) c.requires)
    (subst (λ (n : ℕ). length file.bytes < n → file.breaks ≡ false) c.requires (c.in-Ok.ensures.whole file known))
    c.in_ok-declarations_in-in-Ok.ensures

pub returns-in-Err-Unreadable-clause-declares : goal.returns-in-Err-Unreadable-clause-declares
returns-in-Err-Unreadable-clause-declares g c file known =
    declares_none file (subst (λ (n : ℕ). (length file.bytes < n) × (file.breaks ≡ true)) c.requires (c.in-Err-Unreadable.ensures.broken c.in-Err-Unreadable.field-0-is file known))
