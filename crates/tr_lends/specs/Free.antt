-- The producers that no thread has.
use Rattle.std.specs.Prelude.{◌≡◌, ℕ, ◌+◌, ◌-◌, ◌<◌, ◌≤◌, ◌==◌, List, [], ◌∷◌, ◌++◌, All, count_by, length}
use Rattle.tr_seats.specs.Slots.{ProducerState}

-- those that are free, the longest free first, and how many are away
pub record FreeState : Type 0 where
  pub free : List ProducerState
  pub away : ℕ

abbrev pub free_state : List ProducerState → ℕ → FreeState
free_state free away = record { free = free; away = away }

-- all producers of n streams are free or away, and no two that are free are of one stream
pub record IsPool (n : ℕ) (s : FreeState) : Type 0 where
  pub all : length s.free + s.away ≡ n
  pub below : All (λ (p : ProducerState). p.number < n) s.free
  pub apart : (i : ℕ) → count_by (λ (p : ProducerState). p.number == i) s.free ≤ 1

-- the first one was lent
abbrev pub IsLent : ProducerState → FreeState → FreeState → Type 0
IsLent producer before after = (before.free ≡ producer ∷ after.free) × (after.away ≡ before.away + 1)

-- one that is given is of a stream whose producer is away
pub record MayGive (producer : ProducerState) (s : FreeState) : Type 0 where
  pub away : 0 < s.away
  pub none : count_by (λ (p : ProducerState). p.number == producer.number) s.free ≡ 0

-- after this one was given
abbrev pub after_give : ProducerState → FreeState → FreeState
after_give producer s = free_state (s.free ++ producer ∷ []) (s.away - 1)
