use Rattle.std.proofs.Common.{◌≡◌, ◌<◌, ◌∙◌, ℕ, true, false, length, take, ap, subst}
use Rattle.tr_survey.proofs.DeclaringLemmas.{events_broken, events_whole}
use Rattle.tr_survey.proofs.declaring.events_read.Goals as goal

pub returns-in_ok-events_in_text-in-Ok-clause-events : goal.returns-in_ok-events_in_text-in-Ok-clause-events
returns-in_ok-events_in_text-in-Ok-clause-events g c file known =
    events_whole file c.split_at.result.0.now _
    (c.split_at.ensures.front ∙ c.in-Ok.ensures.front file known ∙ ap (λ (n : ℕ). take n file.bytes) c.requires)
    (subst (λ (n : ℕ). length file.bytes < n → file.breaks ≡ false) c.requires (c.in-Ok.ensures.whole file known))
    c.in_ok-events_in_text-in-Ok.ensures

pub returns-in-Err-Unreadable-clause-events : goal.returns-in-Err-Unreadable-clause-events
returns-in-Err-Unreadable-clause-events g c file known =
    ap (λ d. d.events) c.none.ensures
    ∙ events_broken file (subst (λ (n : ℕ). (length file.bytes < n) × (file.breaks ≡ true)) c.requires (c.in-Err-Unreadable.ensures.broken c.in-Err-Unreadable.field-0-is file known))
