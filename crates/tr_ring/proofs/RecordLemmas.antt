-- The records of a ring, one sub-buffer after another.
use Rattle.std.proofs.Common.{◌≡◌, ap, arith, sym, ◌∙◌, ℕ, ◌+◌, ◌<◌, zero, suc, List, [], ◌∷◌, ◌++◌, length, refl, slice_get}
use Rattle.std.proofs.lemmas.Grind.{common_steps}
use Rattle.std.specs.List.{flat_map}
use Rattle.tr_record.specs.Records.{Entry}
use Rattle.tr_ring.specs.ClosedBuffer.{ClosedBuffer}

-- the records of closed sub-buffers, and those of the current one after them
abbrev pub records_from : List ClosedBuffer → List Entry → List Entry
records_from waiting current = flat_map (λ (b : ClosedBuffer). b.records) waiting ++ current

in-front : (xs ys : List Entry) (k : ℕ) → k < length xs → slice_get (xs ++ ys) k ≡ slice_get xs k
in-front [] ys k within = absurd (omega (arith, within))
in-front (x ∷ xs) ys zero within = refl
in-front (x ∷ xs) ys (suc k) within = in-front xs ys k (grind (arith, common_steps, within))

past : (xs ys : List Entry) (k j : ℕ) → k ≡ length xs + j → slice_get (xs ++ ys) k ≡ slice_get ys j
past [] ys k j is = let same : k ≡ j = omega (arith, is) in ap (slice_get ys) same
past (x ∷ xs) ys zero j is = absurd (omega (arith, is))
past (x ∷ xs) ys (suc k) j is = past xs ys k j (grind (arith, common_steps, is))

in-three : (xs ys zs : List Entry) → (xs ++ ys) ++ zs ≡ xs ++ (ys ++ zs)
in-three [] ys zs = refl
in-three (x ∷ xs) ys zs = ap (λ (rest : List Entry). x ∷ rest) (in-three xs ys zs)

-- one sub-buffer's records, and those from the next one on
from-next : (b : ClosedBuffer) (rest : List ClosedBuffer) (current : List Entry)
    → records_from (b ∷ rest) current ≡ b.records ++ records_from rest current
from-next b rest current = in-three b.records (flat_map (λ (y : ClosedBuffer). y.records) rest) current

pub found-here : (b : ClosedBuffer) (rest : List ClosedBuffer) (current : List Entry) (k : ℕ)
    → k < length b.records → slice_get b.records k ≡ slice_get (records_from (b ∷ rest) current) k
found-here b rest current k within =
    sym (in-front b.records (records_from rest current) k within)
    ∙ ap (λ (es : List Entry). slice_get es k) (sym (from-next b rest current))

pub found-later : (b : ClosedBuffer) (rest : List ClosedBuffer) (current : List Entry) (k j : ℕ) → k ≡ length b.records + j
    → slice_get (records_from rest current) j ≡ slice_get (records_from (b ∷ rest) current) k
found-later b rest current k j is =
    sym (past b.records (records_from rest current) k j is)
    ∙ ap (λ (es : List Entry). slice_get es k) (sym (from-next b rest current))
