-- If no part of an archive is released, each stream's part of it is held.
use Rattle.std.proofs.Common.{◌≡◌, ℕ, zero, suc, List, [], ◌∷◌, Option, Some, None, arith, refl, subst}
use Rattle.std.proofs.lemmas.List.Sums.{sum_by-cons}
use Rattle.std.specs.List.{sum_by}
use Rattle.std.specs.Option.{option_map_or}
use Rattle.std.specs.Prelude.{slice_get}
use Rattle.tr_book.specs.Parts.{PartState, Rest, part_at}
use Rattle.tr_session.specs.Session.{SessionOf}
use Rattle.tr_session.specs.Sizes.{archive_released, part_released}
use Rattle.tr_stream.specs.Rules.{by_state}
use Rattle.tr_stream.specs.State.{StreamState}

-- a sum of nothing is one of nothings
none-of : {X : Type 0} (f : X → ℕ) (xs : List X) (i : ℕ) (x : X) → sum_by f xs ≡ 0 → slice_get xs i ≡ Some x → f x ≡ 0
none-of f [] i x none at = cc
none-of f (y ∷ ys) zero x none at =
    let is : y ≡ x = cc in
    let first : f y ≡ 0 = omega (arith, none, sum_by-cons f y ys) in
    subst (λ z. f z ≡ 0) is first
none-of f (y ∷ ys) (suc i) x none at =
    let rest : sum_by f ys ≡ 0 = omega (arith, none, sum_by-cons f y ys) in
    none-of f ys i x rest at

unreleased : (p : PartState) (r : Option Rest) → p.released ≡ r → part_released p ≡ 0 → p.released ≡ None
unreleased p None is none = is
unreleased p (Some rest) is none =
    let one : part_released p ≡ 1 = rw is refl in
    absurd (omega (arith, one, none))

pub part-held : (id i : ℕ) (s : SessionOf StreamState) (t : StreamState) (p : PartState) → archive_released by_state id s ≡ 0
    → slice_get s.streams i ≡ Some t → part_at id t.parts ≡ Some p → p.released ≡ None
part-held id i s t p none at part =
    let own : option_map_or part_released (part_at id t.parts) 0 ≡ 0 =
    none-of (λ (u : StreamState). option_map_or part_released (part_at id u.parts) 0) s.streams i t none at in
    let held : part_released p ≡ 0 = subst (λ (o : Option PartState). option_map_or part_released o 0 ≡ 0) part own in
    unreleased p p.released refl held
