-- Feeders whose whole work was accepted.
use Rattle.std.proofs.Common.{◌≡◌, ◌≤◌, ◌<◌, ◌+◌, ◌*◌, ◌==◌, ℕ, suc, List, [], ◌∷◌, ◌++◌, Bool, true, false, Option, Some, Result, Ok, Err, IfOk, find, length, slice_get, sum_by, cond, if◌then◌else◌, ap, refl, sym, ◌∙◌, subst, append_assoc, append-nil, arith, add_comm, suc-mul, zero-mul}
use Rattle.std.proofs.lemmas.List.{length-append}
use Rattle.std.proofs.lemmas.List.Sums.{sum_by-cons}
use Rattle.std.specs.List.{FoldsTo}
use Rattle.std.specs.Prelude.{is_ok}
use Rattle.tr_load.specs.Loads.{AllHave, IsJudged}
use Rattle.tr_pool.specs.declared.log.Log.{Log}
use Rattle.tr_pool.specs.declared.report.Mismatch.{Mismatch}
use Rattle.tr_pool.specs.declared.report.Report.{Report}
use Rattle.tr_threads.specs.Feeding.{IsFed, OffersOne}
use Rattle.tr_threads.specs.declared.items.Item.{Item}
use Rattle.tr_stream.specs.State.{StreamState}
use Rattle.tr_stream.specs.declared.answers.OfferFault.{OfferFault}
use Rattle.tr_stream.specs.declared.answers.Offered.{Offered}

one_longer : {A : Type 0} (b : Bool) (xs : List A) (x : A) → length (if b then xs ++ x ∷ [] else xs) ≤ length xs + 1
one_longer true xs x = omega (arith, length-append xs (x ∷ []))
one_longer false xs x = omega arith

-- the log has at most one item more for each offer
at_most : {S : Type 0} (offers : S → ℕ → ℕ → List ℕ → Result Offered OfferFault → S → Type 0) (before after : S × List Item) (work : List Item)
    → FoldsTo (OffersOne offers) before work after → length after.1 ≤ length before.1 + length work
at_most offers before after [] did = omega (arith, ap (λ s. length s.1) did)
at_most offers before after (item ∷ work) did =
    let logged : length did.0.1 ≤ length before.1 + 1 =
    subst (λ xs. length xs ≤ length before.1 + 1) (sym did.1.2) (one_longer (is_ok did.1.0) before.1 item) in
    omega (arith, logged, at_most offers did.0 after work did.2)

-- if the log is as long as the work, the item was logged, and the others too
was_logged : {A : Type 0} (b : Bool) (before log after work : List A) (item : A) → log ≡ (if b then before ++ item ∷ [] else before)
    → length after ≤ length log + length work → (length after ≡ length log + length work → after ≡ log ++ work)
    → length after ≡ length before + length (item ∷ work) → after ≡ before ++ item ∷ work
was_logged true before log after work item is most all many =
    all (omega (arith, many, ap length is, length-append before (item ∷ [])))
    ∙ ap (λ xs. xs ++ work) is ∙ append_assoc before (item ∷ []) work
was_logged false before log after work item is most all many = absurd (omega (arith, many, most, ap length is))

all_logged : {S : Type 0} (offers : S → ℕ → ℕ → List ℕ → Result Offered OfferFault → S → Type 0) (before after : S × List Item) (work : List Item)
    → FoldsTo (OffersOne offers) before work after → length after.1 ≡ length before.1 + length work
    → after.1 ≡ before.1 ++ work
all_logged offers before after [] did many = sym (ap (λ s. s.1) did) ∙ sym (append-nil before.1)
all_logged offers before after (item ∷ work) did many =
    was_logged (is_ok did.1.0) before.1 did.0.1 after.1 work item did.1.2 (at_most offers did.0 after work did.2)
    (all_logged offers did.0 after work did.2) many

-- a log that is as long as the work is the work
pub whole_work : {S : Type 0} (offers : S → ℕ → ℕ → List ℕ → Result Offered OfferFault → S → Type 0) (before after : S) (work log : List Item)
    → IsFed offers before work after log → length log ≡ length work → log ≡ work
whole_work offers before after work log fed many = all_logged offers (before, []) (after, log) work fed (omega (arith, many))

-- ---- what all offered

one_found : (P : Log → Type 0) (b : Bool) (log found : Log) (rest : Option Log) → cond b (Some log) rest ≡ Some found → P log
    → (rest ≡ Some found → P found) → P found
one_found P true log found rest is first others = let same : log ≡ found = cc in subst P same first
one_found P false log found rest is first others = others is

found_has : (records : ℕ) (test : Log → Bool) (logs : List Log) (found : Log) → AllHave records logs → find test logs ≡ Some found
    → length found.items ≡ records
found_has records test [] found have is = absurd cc
found_has records test (log ∷ logs) found have is =
    one_found (λ (l : Log). length l.items ≡ records) (test log) log found (find test logs) is (have 0 log (omega arith))
    (λ other. found_has records test logs found (λ k d low. have (suc k) d (omega (arith, low))) other)

pub sum_same : {A : Type 0} (f : A → ℕ) (xs : List A) (n : ℕ) → ((i : ℕ) (x : A) → i < length xs → slice_get xs i ≡ Some x → f x ≡ n)
    → sum_by f xs ≡ length xs * n
sum_same f [] n each = sym (zero-mul n)
sum_same f (x ∷ xs) n each =
    sum_by-cons f x xs ∙ ap (λ k. k + sum_by f xs) (each 0 x (omega arith) refl)
    ∙ ap (λ k. n + k) (sum_same f xs n (λ i y low is. each (suc i) y (omega (arith, low)) is))
    ∙ add_comm n (length xs * n) ∙ sym (suc-mul (length xs) n)

-- if the streams agree with logs of as many items each, all was offered
pub all_offered : (threads records : ℕ) (logs : List Log) (streams : List StreamState) (outcome : Result Report Mismatch)
    → AllHave records logs → length streams ≡ threads → IsJudged logs streams outcome
    → IfOk outcome (λ (report : Report). report.offered ≡ threads * records)
all_offered threads records logs streams (Ok report) have many judged =
    ap (λ (r : Report). r.offered) judged.1
    ∙ sum_same (λ (s : StreamState). s.counters.offered) streams records
    (λ i s low is.
    let agrees = judged.0 i s low is in
    sym agrees.1.1 ∙ found_has records (λ (l : Log). l.stream == i) logs agrees.0 have agrees.1.0)
    ∙ ap (λ n. n * records) many
all_offered threads records logs streams (Err mismatch) have many judged = tt
