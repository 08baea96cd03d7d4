-- Feeders and workers side by side: what comes back of each.
use Rattle.std.proofs.Common.{◌≡◌, ℕ, zero, suc, ◌+◌, ◌-◌, ◌<◌, List, [], ◌∷◌, ◌++◌, length, map, get_or, refl, sym, ap, subst, arith, inl, inr}
use Rattle.std.specs.Prelude.{flat_map}
use Rattle.tr_threads.specs.Pools.{EachCame, IsKeptOr}
use Rattle.tr_threads.specs.Sides.{DidAside, as_producer, as_drainer}
use Rattle.tr_threads.specs.declared.sides.Side.{Side}
use Rattle.tr_threads.specs.declared.sides.Side.TheVariants.{Producer, Drainer}

-- what comes back of none
none_came : {S U : Type 0} (R : ℕ → S → U → Type 0) → EachCame R [] []
none_came R = (refl, λ i s u low. absurd (omega (arith, low)))

-- what comes back of the first
head_came : {S U : Type 0} (R : ℕ → S → U → Type 0) (x : S) (xs : List S) (y : U) (ys : List U) → EachCame R (x ∷ xs) (y ∷ ys) → R 0 x y
head_came R x xs y ys came = came.1 0 x y (omega (arith))

-- and of those after it
tail_came : {S U : Type 0} (R : ℕ → S → U → Type 0) (x : S) (xs : List S) (y : U) (ys : List U) → EachCame R (x ∷ xs) (y ∷ ys)
    → EachCame (λ (i : ℕ). R (suc i)) xs ys
tail_came R x xs y ys came = (omega (arith, came.0), λ i s u low. came.1 (suc i) s u (omega (arith, low)))

-- what comes back of the first and of those after it
both_came : {S U : Type 0} (R : ℕ → S → U → Type 0) (x : S) (xs : List S) (y : U) (ys : List U) → R 0 x y
    → EachCame (λ (i : ℕ). R (suc i)) xs ys → EachCame R (x ∷ xs) (y ∷ ys)
both_came {S} {U} R x xs y ys first others = (ap suc others.0, at)
  where
    at : (i : ℕ) (s : S) (u : U) → i < length (x ∷ xs) → R i (get_or (x ∷ xs) i s) (get_or (y ∷ ys) i u)
    at zero s u low = first
    at (suc i) s u low = others.1 i s u (omega (arith, low))

-- what is weaker comes back too
weaker_came : {S U : Type 0} (R Q : ℕ → S → U → Type 0) (xs : List S) (ys : List U)
    → ((i : ℕ) (x : S) (y : U) → R i x y → Q i x y) → EachCame R xs ys → EachCame Q xs ys
weaker_came R Q xs ys weaker came = (came.0, λ i s u low. weaker i (get_or xs i s) (get_or ys i u) (came.1 i s u low))

drainers_of_came : {S U : Type 0} (P : ℕ → S → S → Type 0) (Q : ℕ → U → U → Type 0) (ys : List U) (back : List (Side S U))
    → EachCame (λ (i : ℕ). DidAside (P i) (Q i)) (map Drainer ys) back
    → (flat_map as_producer back ≡ []) × EachCame Q ys (flat_map as_drainer back)
drainers_of_came P Q [] [] came = (refl, none_came Q)
drainers_of_came P Q [] (b ∷ bs) came = absurd (omega (arith, came.0))
drainers_of_came P Q (y ∷ ys) [] came = absurd (omega (arith, came.0))
drainers_of_came P Q (y ∷ ys) (Producer b ∷ bs) came =
    absurd (head_came (λ (i : ℕ). DidAside (P i) (Q i)) (Drainer y) (map Drainer ys) (Producer b) bs came)
drainers_of_came P Q (y ∷ ys) (Drainer b ∷ bs) came =
    let others = drainers_of_came (λ (i : ℕ). P (suc i)) (λ (i : ℕ). Q (suc i)) ys bs
    (tail_came (λ (i : ℕ). DidAside (P i) (Q i)) (Drainer y) (map Drainer ys) (Drainer b) bs came) in (
      others.0,
      both_came Q y ys b (flat_map as_drainer bs)
          (head_came (λ (i : ℕ). DidAside (P i) (Q i)) (Drainer y) (map Drainer ys) (Drainer b) bs came) others.1,
    )

-- those of each side come back as their own work says; the workers' numbers begin after the feeders'
sides_came : {S U : Type 0} (P : ℕ → S → S → Type 0) (Q E : ℕ → U → U → Type 0) (xs : List S) (ys : List U) (back : List (Side S U))
    → ((i : ℕ) (x y : U) → Q (length xs + i) x y → E i x y)
    → EachCame (λ (i : ℕ). DidAside (P i) (Q i)) (map Producer xs ++ map Drainer ys) back
    → EachCame P xs (flat_map as_producer back) × EachCame E ys (flat_map as_drainer back)
sides_came {S} {U} P Q E [] ys back own came =
    let drainers = drainers_of_came P Q ys back came in
    (subst (λ bs. EachCame P [] bs) (sym drainers.0) (none_came P), weaker_came Q E ys (flat_map as_drainer back) (λ i x y did. own i x y (subst (λ k. Q k x y) (omega (arith)) did)) drainers.1)
sides_came P Q E (x ∷ xs) ys [] own came = absurd (omega (arith, came.0))
sides_came P Q E (x ∷ xs) ys (Drainer b ∷ bs) own came =
    absurd (head_came (λ (i : ℕ). DidAside (P i) (Q i)) (Producer x) (map Producer xs ++ map Drainer ys) (Drainer b) bs came)
sides_came P Q E (x ∷ xs) ys (Producer b ∷ bs) own came =
    let others = sides_came (λ (i : ℕ). P (suc i)) (λ (i : ℕ). Q (suc i)) E xs ys bs
    (λ i y z did. own i y z (subst (λ k. Q k y z) (omega (arith)) did))
    (tail_came (λ (i : ℕ). DidAside (P i) (Q i)) (Producer x) (map Producer xs ++ map Drainer ys) (Producer b) bs came) in (
      both_came P x xs b (flat_map as_producer bs)
          (head_came (λ (i : ℕ). DidAside (P i) (Q i)) (Producer x) (map Producer xs ++ map Drainer ys) (Producer b) bs came) others.0,
      others.1,
    )

-- a seat that is as it was, or whose work was done, is so by its side
kept_aside : {S U : Type 0} (P : S → S → Type 0) (Q : U → U → Type 0) (x y : Side S U)
    → IsKeptOr (DidAside P Q) x y → DidAside (IsKeptOr P) (IsKeptOr Q) x y
kept_aside {S} {U} P Q x y (inl kept) = subst (λ z. DidAside (IsKeptOr P) (IsKeptOr Q) x z) (sym kept) (same x)
  where
    same : (z : Side S U) → DidAside (IsKeptOr P) (IsKeptOr Q) z z
    same (Producer s) = inl refl
    same (Drainer u) = inl refl
kept_aside P Q (Producer s) (Producer t) (inr did) = inr did
kept_aside P Q (Producer s) (Drainer u) (inr did) = absurd did
kept_aside P Q (Drainer u) (Producer s) (inr did) = absurd did
kept_aside P Q (Drainer u) (Drainer v) (inr did) = inr did

-- what comes back of a row of both sides: the first `n` are the feeders'
pub all_aside : {S U : Type 0} (P : ℕ → S → S → Type 0) (E : ℕ → U → U → Type 0) (n : ℕ) (xs : List S) (ys : List U) (line back : List (Side S U))
    → line ≡ map Producer xs ++ map Drainer ys → length xs ≡ n
    → EachCame (λ (i : ℕ). DidAside (P i) (E (i - n))) line back
    → EachCame P xs (flat_map as_producer back) × EachCame E ys (flat_map as_drainer back)
all_aside P E n xs ys line back is many came =
    sides_came P (λ (i : ℕ). E (i - n)) E xs ys back
    (λ i x y did. subst (λ k. E k x y) (omega (arith, many)) did)
    (subst (λ zs. EachCame (λ (i : ℕ). DidAside (P i) (E (i - n))) zs back) is came)

pub all_kept_aside : {S U : Type 0} (P : ℕ → S → S → Type 0) (E : ℕ → U → U → Type 0) (n : ℕ) (xs : List S) (ys : List U) (line back : List (Side S U))
    → line ≡ map Producer xs ++ map Drainer ys → length xs ≡ n
    → EachCame (λ (i : ℕ). IsKeptOr (DidAside (P i) (E (i - n)))) line back
    → EachCame (λ (i : ℕ). IsKeptOr (P i)) xs (flat_map as_producer back) × EachCame (λ (i : ℕ). IsKeptOr (E i)) ys (flat_map as_drainer back)
all_kept_aside P E n xs ys line back is many came =
    all_aside (λ (i : ℕ). IsKeptOr (P i)) (λ (i : ℕ). IsKeptOr (E i)) n xs ys line back is many
    (weaker_came (λ (i : ℕ). IsKeptOr (DidAside (P i) (E (i - n)))) (λ (i : ℕ). DidAside (IsKeptOr (P i)) (IsKeptOr (E (i - n)))) line back
    (λ i. kept_aside (P i) (E (i - n))) came)

-- a row of both sides has those of each
pub producers_of_line : {S U : Type 0} (xs : List S) (ys : List U) → flat_map as_producer (map Producer xs ++ map Drainer ys) ≡ xs
producers_of_line [] [] = refl
producers_of_line [] (y ∷ ys) = producers_of_line [] ys
producers_of_line (x ∷ xs) ys = ap (λ zs. x ∷ zs) (producers_of_line xs ys)

pub drainers_of_line : {S U : Type 0} (xs : List S) (ys : List U) → flat_map as_drainer (map Producer xs ++ map Drainer ys) ≡ ys
drainers_of_line [] [] = refl
drainers_of_line [] (y ∷ ys) = ap (λ zs. y ∷ zs) (drainers_of_line [] ys)
drainers_of_line (x ∷ xs) ys = drainers_of_line xs ys
