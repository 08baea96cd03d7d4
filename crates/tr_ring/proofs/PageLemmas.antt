-- The pages of a ring, and the sub-buffers in them.
use Rattle.std.proofs.Common.{◌≡◌, ℕ, Bool, true, false, List, [], ◌∷◌, Some, Result, Ok, Err, IfOk, ap, refl, set, suc, sym, zero, ◌∙◌}
use Rattle.std.specs.Prelude.{slice_get}
use Rattle.tr_record.specs.Records.{has_serial}
use Rattle.tr_ring.specs.Pages.{SealedPage, closed_in, seq_in_pages}
use Rattle.tr_ring.specs.Ring.{seq_waiting}

-- the page of a record has its sub-buffer's number
pub seq_of_pages : (n : ℕ) (pages : List SealedPage) → seq_in_pages n pages ≡ seq_waiting n (closed_in pages)
seq_of_pages n [] = refl
seq_of_pages n (p ∷ ps) = by_test (has_serial n p.closed.records) refl (seq_of_pages n ps)
  where
    by_test : (here : Bool) → has_serial n p.closed.records ≡ here → seq_in_pages n ps ≡ seq_waiting n (closed_in ps)
        → seq_in_pages n (p ∷ ps) ≡ seq_waiting n (closed_in (p ∷ ps))
    by_test true is others = rw is refl
    by_test false is others = rw is others

-- what was found, written back, changes nothing
pub set-found : {X : Type 0} (xs : List X) (i : ℕ) (x y : X) → slice_get xs i ≡ Some x → y ≡ x → set xs i y ≡ xs
set-found [] i x y at is = refl
set-found (z ∷ xs) zero x y at is = let same : z ≡ x = cc in ap (λ w. w ∷ xs) (is ∙ sym same)
set-found (z ∷ xs) (suc i) x y at is = ap (λ ys. z ∷ ys) (set-found xs i x y at is)

pub if-ok : {X F : Type 0} (P Q : X → Type 0) (r : Result X F) → ((x : X) → P x → Q x) → IfOk r P → IfOk r Q
if-ok P Q (Ok x) h is = h x is
if-ok P Q (Err fault) h is = tt
