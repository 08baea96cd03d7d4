-- Why a session isn't settled.
use Rattle.std.proofs.Common.{◌≡◌, ℕ, List, length, refl}
use Rattle.tr_seats.specs.Settling.{IsOneEach, IsWhy, OpenedState}
use Rattle.tr_seats.specs.Slots.{ProducerState}
use Rattle.tr_seats.specs.declared.settling.SettleError.{SettleError}
use Rattle.tr_seats.specs.declared.settling.SettleError.TheVariants.{ProducerMissing, DrainerMissing, Misplaced}

-- a producer is missing if and only if that is the answer
pub why-missing : (error : SettleError) (producers : List ProducerState) (drainers : ℕ) (s : OpenedState)
    → IsWhy error producers drainers s
    → (error ≡ ProducerMissing → ¬ IsOneEach (length s.slots) producers) × ((¬ IsOneEach (length s.slots) producers) → error ≡ ProducerMissing)
why-missing ProducerMissing producers drainers s why = (λ same. why, λ none. refl)
why-missing DrainerMissing producers drainers s why = (λ same. absurd cc, λ none. absurd (none why.0))
why-missing Misplaced producers drainers s why = (λ same. absurd cc, λ none. absurd (none why.0))
