-- Which serials each part of a stream may have: parts began one after another, and so did their serials.
use Rattle.std.specs.Prelude.{◌≡◌, ℕ, ◌≤◌, ◌<◌, List, [], ◌∷◌, Some}
use Rattle.std.specs.List.{AllByRecursion}
use Rattle.tr_book.specs.Parts.{PartState, seq_in_part}
use Rattle.tr_record.specs.Records.{Entry}
use Rattle.tr_ring.specs.ClosedBuffer.{ClosedBuffer}
use Rattle.tr_ring.specs.Ring.{RingState}
use Rattle.tr_stream.specs.Fates.{all_parts}
use Rattle.tr_stream.specs.State.{StreamState}

-- the serials of a part's records are these or later ones, below those
abbrev pub IsBetween : ℕ → ℕ → PartState → Type 0
IsBetween low high p = (n seq : ℕ) → seq_in_part n p ≡ Some seq → (low ≤ n) × (n < high)

-- the first part began at `low`, each other one where the one before it ended, and the last one goes on below `high`
abbrev pub ArePlaced : ℕ → List ℕ → ℕ → List PartState → Type 0
ArePlaced low starts high [] = ⊥
ArePlaced low [] high (p ∷ ps) = (ps ≡ []) × IsBetween low high p
ArePlaced low (s ∷ starts) high (p ∷ ps) = (low ≤ s) × IsBetween low s p × ArePlaced s starts high ps

-- where the last part began
abbrev pub last_start : ℕ → List ℕ → ℕ
last_start low [] = low
last_start low (s ∷ starts) = last_start s starts

abbrev pub IsEntryBetween : ℕ → ℕ → Entry → Type 0
IsEntryBetween low high e = (low ≤ e.serial) × (e.serial < high)

abbrev pub IsBufferBetween : ℕ → ℕ → ClosedBuffer → Type 0
IsBufferBetween low high b = AllByRecursion (IsEntryBetween low high) b.records

-- and so are those of a ring's records
abbrev pub IsRingBetween : ℕ → ℕ → RingState → Type 0
IsRingBetween low high r =
    AllByRecursion (IsBufferBetween low high) r.waiting × AllByRecursion (IsEntryBetween low high) r.current

-- the parts in order, and the ring after where the current part began
pub record IsPlaced (s : StreamState) : Type 0 where
  pub parts : ArePlaced 0 s.parts.starts s.counters.offered (all_parts s.parts)
  pub begun : last_start 0 s.parts.starts ≤ s.counters.offered
  pub ring : IsRingBetween (last_start 0 s.parts.starts) s.counters.offered s.ring
