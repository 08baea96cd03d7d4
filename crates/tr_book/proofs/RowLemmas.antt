-- The runs of records whose serials follow each other.
use Rattle.std.proofs.Common.{◌≡◌, ℕ, ◌+◌, Bool, true, cond, eqb, List, [], ◌∷◌, length, ◌∙◌, ap, subst, arith}
use Rattle.std.proofs.lemmas.Bool.Decides.{nat_tests}
use Rattle.std.proofs.lemmas.Grind.{common_steps}
use Rattle.tr_book.specs.Runs.{AreInRow, SerialsFollow, run_of, runs_of, runs_on}
use Rattle.tr_record.specs.Records.{Entry}

follow-on : (seq first count : ℕ) (es : List Entry) → SerialsFollow (first + count) es
    → runs_on seq first count es ≡ run_of seq first (count + length es) ∷ []
follow-on seq first count [] follow = ap (λ (n : ℕ). run_of seq first n ∷ []) (omega arith)
follow-on seq first count (e ∷ es) follow =
    let same : eqb e.serial (first + count) ≡ true = grind (arith, nat_tests, follow.0) in
    let one : first + count + 1 ≡ first + (count + 1) = omega arith in
    let more = follow-on seq first (count + 1) es (subst (λ (n : ℕ). SerialsFollow n es) one follow.1) in
    ap (λ (b : Bool). cond b (runs_on seq first (count + 1) es) (run_of seq first count ∷ runs_on seq e.serial 1 es)) same
    ∙ more ∙ ap (λ (n : ℕ). run_of seq first n ∷ []) (grind (arith, common_steps))

-- they are one run
pub row-runs : (seq : ℕ) (e : Entry) (es : List Entry) → AreInRow (e ∷ es)
    → runs_of seq (e ∷ es) ≡ run_of seq e.serial (length (e ∷ es)) ∷ []
row-runs seq e es row = follow-on seq e.serial 1 es row ∙ ap (λ (n : ℕ). run_of seq e.serial n ∷ []) (grind (arith, common_steps))
