-- What a cut keeps of a well-formed history.
use Rattle.std.proofs.Common.{◌≡◌, ℕ, ◌+◌, ◌≤◌, ◌<◌, false, List, [], ◌∷◌, ◌++◌, length, refl, arith}
use Rattle.std.proofs.lemmas.Bool.Decides.{nat_tests}
use Rattle.std.proofs.lemmas.Grind.{common_steps}
use Rattle.tr_stream.specs.Chunks.{buffers_where}
use Rattle.tr_stream.specs.History.{Status, Waiting, Dropped, Kept, Cleared, Closed, is_dropped, is_kept_in}
use Rattle.tr_stream.specs.Steps.{keep_waiting}
use Rattle.tr_stream.specs.WellFormed.{WaitLast, IsWithin, AllWithinCuts, Covers, LastHeld}

pub WaitLast-keep_waiting : (k : ℕ) (cs : List Closed) → WaitLast (keep_waiting k cs)
WaitLast-keep_waiting k [] = tt
WaitLast-keep_waiting k (c ∷ cs) = grind (arith, common_steps, WaitLast-keep_waiting k cs)

pub AllWithinCuts-keep_waiting : (cuts k : ℕ) (cs : List Closed) → k ≤ cuts → AllWithinCuts cuts cs → AllWithinCuts cuts (keep_waiting k cs)
AllWithinCuts-keep_waiting cuts k [] new old = tt
AllWithinCuts-keep_waiting cuts k (c ∷ cs) new old = grind (arith, common_steps, AllWithinCuts-keep_waiting cuts k cs new old.1)

-- more cuts
within_more : (cuts more : ℕ) (status : Status) → cuts ≤ more → IsWithin cuts status → IsWithin more status
within_more cuts more Waiting le old = tt
within_more cuts more Dropped le old = tt
within_more cuts more (Kept k) le old = omega arith
within_more cuts more (Cleared c) le old = tt

pub AllWithinCuts-more : (cuts more : ℕ) (cs : List Closed) → cuts ≤ more → AllWithinCuts cuts cs → AllWithinCuts more cs
AllWithinCuts-more cuts more [] le old = tt
AllWithinCuts-more cuts more (c ∷ cs) le old = (within_more cuts more c.status le old.0, AllWithinCuts-more cuts more cs le old.1)

not_kept_above : (cuts k : ℕ) (status : Status) → cuts < k → IsWithin cuts status → is_kept_in k status ≡ false
not_kept_above cuts k Waiting le old = refl
not_kept_above cuts k Dropped le old = refl
not_kept_above cuts k (Kept j) le old = grind (arith, nat_tests)
not_kept_above cuts k (Cleared c) le old = refl

-- a chunk that wasn't begun is empty
pub none_above : (cuts k discarded : ℕ) (cs : List Closed) → cuts < k → AllWithinCuts cuts cs → buffers_where (is_kept_in k) discarded cs ≡ []
none_above cuts k discarded [] lt old = refl
none_above cuts k discarded (c ∷ cs) lt old =
    grind (
      arith,
      common_steps,
      not_kept_above cuts k c.status lt old.0,
      none_above cuts k (discarded + length c.block.discarded) cs lt old.1,
    )

pub LastHeld-keep_waiting : (k : ℕ) (cs : List Closed) → LastHeld cs → LastHeld (keep_waiting k cs)
LastHeld-keep_waiting k [] old = tt
LastHeld-keep_waiting k (c ∷ []) old = grind (arith, common_steps, old)
LastHeld-keep_waiting k (c ∷ d ∷ ds) old = LastHeld-keep_waiting k (d ∷ ds) old

pub LastHeld-push : (cs : List Closed) (c : Closed) → is_dropped c.status ≡ false → LastHeld (cs ++ c ∷ [])
LastHeld-push [] c new = new
LastHeld-push (d ∷ []) c new = new
LastHeld-push (d ∷ e ∷ es) c new = LastHeld-push (e ∷ es) c new

pub Covers-none : (low number : ℕ) → Covers low (record { number = number; records = []; discarded = [] })
Covers-none low number = record { starts = refl; rise = tt; within = omega arith }
