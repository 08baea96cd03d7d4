-- The parts of a stream are the history's chunks.
use Rattle.std.proofs.Common.{◌≡◌, ℕ, ◌+◌, zero, suc, cond, eqb, leb, List, [], ◌∷◌, ◌++◌, length, Some, None, refl, arith, ap, sym, Bool, true, false, ◌∙◌}
use Rattle.std.proofs.lemmas.Bool.Decides.{nat_tests}
use Rattle.std.proofs.lemmas.Grind.{common_steps}
use Rattle.std.specs.Prelude.{slice_get}
use Rattle.tr_book.specs.Parts.{PartState, part_at}
use Rattle.tr_stream.proofs.TakeLemmas.{length-parts_below}
use Rattle.tr_stream.specs.Chunks.{part_in, parts_below, closed_part}
use Rattle.tr_stream.specs.History.{History}
use Rattle.tr_stream.specs.StandsFor.{StandsFor}
use Rattle.tr_stream.specs.State.{StreamState}
use Rattle.tr_stream.specs.declared.config.StreamConfig.{StreamConfig}
use Rattle.tr_stream.proofs.ReleaseForms.{current-held}

pub get-push : (xs : List PartState) (x : PartState) (k : ℕ) → slice_get (xs ++ x ∷ []) k ≡ cond (eqb k (length xs)) (Some x) (slice_get xs k)
get-push [] x zero = refl
get-push [] x (suc k) = grind (arith, nat_tests)
get-push (y ∷ xs) x zero = grind (arith, nat_tests, common_steps)
get-push (y ∷ xs) x (suc k) = grind (arith, nat_tests, common_steps, get-push xs x k)

pub below-is : (c : StreamConfig) (n k : ℕ) (h : History)
    → slice_get (parts_below c n h) k ≡ cond (leb (k + 1) n) (Some (closed_part c k h)) None
below-is c zero k h = grind (arith, nat_tests)
below-is c (suc n) k h =
    by_test (eqb k n) refl (get-push (parts_below c n h) (closed_part c n h) k
    ∙ ap (λ (m : ℕ). cond (eqb k m) (Some (closed_part c n h)) (slice_get (parts_below c n h) k)) (length-parts_below c n h))
    (below-is c n k h)
  where
    by_test : (b : Bool) → eqb k n ≡ b
        → slice_get (parts_below c (suc n) h) k ≡ cond (eqb k n) (Some (closed_part c n h)) (slice_get (parts_below c n h) k)
        → slice_get (parts_below c n h) k ≡ cond (leb (k + 1) n) (Some (closed_part c k h)) None
        → slice_get (parts_below c (suc n) h) k ≡ cond (leb (k + 1) (suc n)) (Some (closed_part c k h)) None
    by_test true e pushed below =
        let same : n ≡ k = grind (arith, nat_tests, e) in
        let within : leb (k + 1) (suc n) ≡ true = grind (arith, nat_tests, same) in
        pushed ∙ ap (λ (b : Bool). cond b (Some (closed_part c n h)) (slice_get (parts_below c n h) k)) e
        ∙ ap (λ (m : ℕ). Some (closed_part c m h)) same
        ∙ sym (ap (λ (b : Bool). cond b (Some (closed_part c k h)) None) within)
    by_test false e pushed below =
        let within : leb (k + 1) n ≡ leb (k + 1) (suc n) = grind (arith, nat_tests, e) in
        pushed ∙ ap (λ (b : Bool). cond b (Some (closed_part c n h)) (slice_get (parts_below c n h) k)) e
        ∙ below ∙ ap (λ (b : Bool). cond b (Some (closed_part c k h)) None) within

-- a part by its place
pub part-is : (s : StreamState) (h : History) (k : ℕ) → StandsFor s h → part_at k s.parts ≡ part_in s.config k h
part-is s h k is =
    by_test (eqb k h.cuts) refl (leb k h.cuts) refl
    (ap (λ (n : ℕ). cond (eqb k n) (Some s.parts.current) (slice_get s.parts.closed k)) cuts)
    (ap (λ (ps : List PartState). slice_get ps k) is.closed ∙ below-is s.config h.cuts k h)
  where
    cuts : length s.parts.closed ≡ h.cuts
    cuts = ap length is.closed ∙ length-parts_below s.config h.cuts h

    by_test : (here : Bool) → eqb k h.cuts ≡ here → (within : Bool) → leb k h.cuts ≡ within
        → part_at k s.parts ≡ cond (eqb k h.cuts) (Some s.parts.current) (slice_get s.parts.closed k)
        → slice_get s.parts.closed k ≡ cond (leb (k + 1) h.cuts) (Some (closed_part s.config k h)) None
        → part_at k s.parts ≡ part_in s.config k h
    by_test true e within f at below =
        let same : h.cuts ≡ k = grind (arith, nat_tests, e) in
        let holds : leb k h.cuts ≡ true = grind (arith, nat_tests, same) in
        at ∙ ap (λ (b : Bool). cond b (Some s.parts.current) (slice_get s.parts.closed k)) e
        ∙ ap (λ (p : PartState). Some p) (is.current ∙ sym (current-held s.config h is.model))
        ∙ ap (λ (m : ℕ). Some (closed_part s.config m h)) same
        ∙ sym (ap (λ (b : Bool). cond b (Some (closed_part s.config k h)) None) holds)
    by_test false e within f at below =
        let more : leb (k + 1) h.cuts ≡ leb k h.cuts = grind (arith, nat_tests, e) in
        at ∙ ap (λ (b : Bool). cond b (Some s.parts.current) (slice_get s.parts.closed k)) e
        ∙ below ∙ ap (λ (b : Bool). cond b (Some (closed_part s.config k h)) None) more
