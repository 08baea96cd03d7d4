-- What comes back from threads.
use Rattle.std.specs.Prelude.{◌≡◌, ◌⊎◌, ℕ, ◌<◌, List, length, slice_index_or}

-- what holds of each that was given and of what came back in its place, by their number; there are as many
abbrev pub EachCame : {S U : Type 0} → (ℕ → S → U → Type 0) → List S → List U → Type 0
EachCame {S} {U} came given back = (length back ≡ length given)
    × ((i : ℕ) (s : S) (u : U) → i < length given → came i (slice_index_or given i s) (slice_index_or back i u))

-- a seat is as it was, or its work was done
abbrev pub IsKeptOr : {S : Type 0} → (S → S → Type 0) → S → S → Type 0
IsKeptOr did before after = (after ≡ before) ⊎ did before after
