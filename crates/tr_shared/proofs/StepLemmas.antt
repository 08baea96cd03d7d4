-- The steps that an operator has more after a call.
use Rattle.std.proofs.Common.{◌≡◌, ◌∙◌, ◌==◌, ◌+◌, ℕ, suc, Bool, true, false, List, [], ◌∷◌, ◌++◌, Ok, Err, ap, append_assoc, arith, length, map, refl, subst, sym}
use Rattle.std.specs.Prelude.{sum}
use Rattle.std.specs.List.{AllByRecursion}
use Rattle.std.proofs.lemmas.List.{append-nil, length_push, map-append}
use Rattle.std.proofs.lemmas.List.Sums.{sum_by_push}
use Rattle.tr_accounts.proofs.Lists.{all-both}
use Rattle.tr_operations.specs.declared.step.DeskStep.{DeskStep}
use Rattle.tr_operations.specs.declared.step.DeskStep.TheVariants.{Cut, Clear}
use Rattle.tr_seats.specs.Clears.{desk_clear_answer}
use Rattle.tr_seats.specs.Desks.{DeskState}
use Rattle.tr_seats.specs.Operators.{OperatorState, operator_after_clear, operator_state, with_step, with_steps}
use Rattle.tr_seats.specs.Slots.{SlotState}
use Rattle.tr_session.specs.declared.rotation.Next.{Next}
use Rattle.tr_session.specs.declared.rotation.Next.TheVariants as next
use Rattle.tr_session_book.specs.declared.faults.SessionFault.{SessionFault}
use Rattle.tr_shared.specs.Operators.{AreCutsOf, IsCut, IsNextOf, clears_from}
use Rattle.tr_stream.specs.declared.answers.Cleared.{Cleared}

-- no steps more
pub with-none : (operator : OperatorState) → operator ≡ with_steps [] operator
with-none operator = ap (operator_state operator.number) (sym (append-nil operator.steps))

-- steps more, and then others
pub with-more : (operator : OperatorState) (first then : List DeskStep) → with_steps then (with_steps first operator) ≡ with_steps (first ++ then) operator
with-more operator first then = ap (operator_state operator.number) (append_assoc operator.steps first then)

-- ---- rotations

-- one cut more, or none
pub cuts-more : (before mid after : OperatorState) (cuts : List DeskStep) (done : Next) → AllByRecursion IsCut cuts → mid ≡ with_steps cuts before
    → IsNextOf mid (Ok done) after → (more : List DeskStep) × AllByRecursion IsCut more × (after ≡ with_steps more before)
cuts-more before mid after cuts (next.Cut stream records) all was is = (
  cuts ++ Cut stream (Ok is.0) ∷ [],
  all-both IsCut cuts (Cut stream (Ok is.0) ∷ []) all (tt, tt),
  is.2 ∙ ap (with_step (Cut stream (Ok is.0))) was ∙ with-more before cuts (Cut stream (Ok is.0) ∷ []),
)
cuts-more before mid after cuts next.AllCut all was is = (cuts, all, is ∙ was)

-- no cut follows a refusal
pub cuts-stopped : (before mid after : OperatorState) (cuts : List DeskStep) (fault : SessionFault) → AllByRecursion IsCut cuts
    → mid ≡ with_steps cuts before → IsNextOf mid (Err fault) after → AreCutsOf before (Err fault) after
cuts-stopped before mid after cuts fault all was is = (cuts, all, subst (λ (o : OperatorState). IsNextOf o (Err fault) after) was is)

-- ---- clears

pub clear-here : (i : ℕ) (desk : DeskState) (slot : SlotState) (operator : OperatorState) (done : Cleared)
    → Ok done ≡ desk_clear_answer i desk slot → operator_after_clear (Ok done) i slot operator ≡ with_step (Clear i (Ok done)) operator
clear-here i desk slot operator done answer = go (i == slot.number) refl
  where
    go : (here : Bool) → (i == slot.number) ≡ here → operator_after_clear (Ok done) i slot operator ≡ with_step (Clear i (Ok done)) operator
    go true at = cc
    go false at = cc

clears-push : (n i : ℕ) (dones : List Cleared) (done : Cleared) → i ≡ n + length dones
    → clears_from n (dones ++ done ∷ []) ≡ clears_from n dones ++ Clear i (Ok done) ∷ []
clears-push n i [] done at = ap (λ (k : ℕ). Clear k (Ok done) ∷ []) (omega (arith, at))
clears-push n i (d ∷ dones) done at = ap (λ (l : List DeskStep). Clear n (Ok d) ∷ l) (clears-push (suc n) i dones done (omega (arith, at)))

-- one stream more
pub clears-more : (i records : ℕ) (before mid after : OperatorState) (dones : List Cleared) (done : Cleared) → length dones ≡ i
    → records ≡ sum (map (λ (d : Cleared). d.records) dones) → mid ≡ with_steps (clears_from 0 dones) before
    → after ≡ with_step (Clear i (Ok done)) mid
    → (more : List Cleared) × (length more ≡ i + 1) × (records + done.records ≡ sum (map (λ (d : Cleared). d.records) more))
    × (after ≡ with_steps (clears_from 0 more) before)
clears-more i records before mid after dones done many are was is = (
  dones ++ done ∷ [],
  length_push dones done ∙ ap (λ n. n + 1) many,
  ap (λ n. n + done.records) are ∙ sym (ap sum (map-append (λ (d : Cleared). d.records) dones (done ∷ []))
      ∙ sum_by_push (λ (n : ℕ). n) (map (λ (d : Cleared). d.records) dones) done.records),
  is ∙ ap (with_step (Clear i (Ok done))) was ∙ with-more before (clears_from 0 dones) (Clear i (Ok done) ∷ [])
      ∙ ap (λ (l : List DeskStep). with_steps l before) (sym (clears-push 0 i dones done (omega (arith, many)))),
)
