-- What a plan says of its streams' configurations.
use Rattle.std.proofs.Common.{◌≡◌, ◌∙◌, ℕ, Option, Some, None, ap, refl, sym}
use Rattle.std.specs.Prelude.{option_map, slice_get}
use Rattle.tr_seats.specs.Books.{IsPlan, IsPlanned, PlanState}
use Rattle.tr_stream.specs.State.{StreamState}
use Rattle.tr_stream.specs.declared.config.StreamConfig.{StreamConfig}

-- what a list has at a place that is mapped to a value
pub mapped : {X Y : Type 0} → (f : X → Y) (x : Option X) (y : Y) → option_map f x ≡ Some y → (a : X) × (x ≡ Some a) × (f a ≡ y)
mapped f None y is = cc
mapped f (Some a) y is = (a, refl, cc)

-- each stream that was planned is of its session's mode
pub planned-mode : (plan : PlanState) → IsPlan plan → (i : ℕ) (config : StreamConfig) → IsPlanned plan i config
    → config.session ≡ plan.session.book.mode
planned-mode plan is i config planned =
    let was = mapped (λ (t : StreamState). t.config) (slice_get plan.session.streams i) config planned in
    let of = is.session.are i was.0 was.1 in
    sym (ap (λ (c : StreamConfig). c.session) was.2) ∙ ap (λ (c : StreamConfig). c.session) of.config
