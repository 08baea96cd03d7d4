-- What says only of blocks, and not of their statuses, stays while statuses change.
use Rattle.std.proofs.Common.{◌≡◌, ℕ, ◌+◌, List, [], ◌∷◌, length, map, refl, ap, sym, ◌∙◌, arith}
use Rattle.std.proofs.lemmas.Grind.{common_steps}
use Rattle.std.proofs.lemmas.List.{length-map}
use Rattle.std.proofs.lemmas.List.Sums.{sum_by-cons}
use Rattle.std.specs.Prelude.{sum_by}
use Rattle.tr_stream.specs.History.{Status, Block, Closed, offers_in}
use Rattle.tr_stream.specs.Steps.{settle_first, keep_waiting, clear_blocks}
use Rattle.tr_stream.specs.WellFormed.{NumberedFrom, CoversFrom, AllUsed}

abbrev pub blocks_of : List Closed → List Block
blocks_of cs = map (λ (c : Closed). c.block) cs

pub blocks_of-settle_first : (status : Status) (cs : List Closed) → blocks_of (settle_first status cs) ≡ blocks_of cs
blocks_of-settle_first status [] = refl
blocks_of-settle_first status (c ∷ cs) = grind (arith, common_steps, blocks_of-settle_first status cs)

pub blocks_of-keep_waiting : (k : ℕ) (cs : List Closed) → blocks_of (keep_waiting k cs) ≡ blocks_of cs
blocks_of-keep_waiting k [] = refl
blocks_of-keep_waiting k (c ∷ cs) = grind (arith, common_steps, blocks_of-keep_waiting k cs)

pub blocks_of-cleared : (k : ℕ) (cs : List Closed) → blocks_of (clear_blocks k cs) ≡ blocks_of cs
blocks_of-cleared k [] = refl
blocks_of-cleared k (c ∷ cs) = ap (λ (bs : List Block). c.block ∷ bs) (blocks_of-cleared k cs)

sum-of_blocks : (f : Block → ℕ) (cs : List Closed) → sum_by (λ (c : Closed). f c.block) cs ≡ sum_by f (blocks_of cs)
sum-of_blocks f [] = refl
sum-of_blocks f (c ∷ cs) =
    grind (
      arith,
      sum-of_blocks f cs,
      sum_by-cons (λ (c : Closed). f c.block) c cs,
      sum_by-cons f c.block (blocks_of cs),
    )

pub sum-same : (f : Block → ℕ) (ds cs : List Closed) → blocks_of ds ≡ blocks_of cs
    → sum_by (λ (c : Closed). f c.block) ds ≡ sum_by (λ (c : Closed). f c.block) cs
sum-same f ds cs same = sum-of_blocks f ds ∙ ap (sum_by f) same ∙ sym (sum-of_blocks f cs)

pub length-same : (ds cs : List Closed) → blocks_of ds ≡ blocks_of cs → length ds ≡ length cs
length-same ds cs same = sym (length-map ds (λ (c : Closed). c.block)) ∙ ap length same ∙ length-map cs (λ (c : Closed). c.block)

pub NumberedFrom-same : (n : ℕ) (ds cs : List Closed) → blocks_of ds ≡ blocks_of cs → NumberedFrom n cs → NumberedFrom n ds
NumberedFrom-same n [] cs same old = tt
NumberedFrom-same n (d ∷ ds) [] same old = absurd (cc)
NumberedFrom-same n (d ∷ ds) (c ∷ cs) same old =
    let b : d.block ≡ c.block = cc in
    let rest : blocks_of ds ≡ blocks_of cs = cc in
    rw b (old.0, NumberedFrom-same (n + 1) ds cs rest old.1)

pub CoversFrom-same : (low : ℕ) (ds cs : List Closed) → blocks_of ds ≡ blocks_of cs → CoversFrom low cs → CoversFrom low ds
CoversFrom-same low [] cs same old = tt
CoversFrom-same low (d ∷ ds) [] same old = absurd (cc)
CoversFrom-same low (d ∷ ds) (c ∷ cs) same old =
    let b : d.block ≡ c.block = cc in
    let rest : blocks_of ds ≡ blocks_of cs = cc in
    rw b (old.0, CoversFrom-same (low + offers_in c.block) ds cs rest old.1)

pub AllUsed-same : (ds cs : List Closed) → blocks_of ds ≡ blocks_of cs → AllUsed cs → AllUsed ds
AllUsed-same [] cs same old = tt
AllUsed-same (d ∷ ds) [] same old = absurd (cc)
AllUsed-same (d ∷ ds) (c ∷ cs) same old =
    let b : d.block ≡ c.block = cc in
    let rest : blocks_of ds ≡ blocks_of cs = cc in
    rw b (old.0, AllUsed-same ds cs rest old.1)
