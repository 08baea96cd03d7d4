-- Which stream a worker takes from at which turn, and what it did.
use Rattle.std.specs.Prelude.{◌≡◌, ◌⊎◌, ℕ, zero, suc, ◌+◌, ◌<◌, ◌≤◌, Bool, true, false, Result, if◌then◌else◌, nat_lt}
use Rattle.tr_terms.specs.declared.limits.TheConstants.{MOST_TURNS}
use Rattle.tr_stream.specs.declared.answers.TakeFault.{TakeFault}
use Rattle.tr_stream.specs.declared.answers.Taken.{Taken}

-- the worker's stream after this one: the one that is as many above as there are workers, or else its first again
abbrev pub next_stream : (streams workers worker i : ℕ) → ℕ
next_stream streams workers worker i = if nat_lt (i + workers) streams then i + workers else worker

-- the stream of a turn: the worker's streams in rounds, from its own number on
abbrev pub stream_of : (streams workers worker turn : ℕ) → ℕ
stream_of streams workers worker zero = worker
stream_of streams workers worker (suc turn) = next_stream streams workers worker (stream_of streams workers worker turn)

-- a seat after the first n turns
abbrev pub AfterTurns : {S : Type 0} → (ℕ → S → S → Type 0) → ℕ → S → S → Type 0
AfterTurns turn zero p q = p ≡ q
AfterTurns {S} turn (suc n) p q = (j : S) × AfterTurns turn n p j × turn n j q

-- a take from a stream, whatever it answered
abbrev pub Takes : {S : Type 0} → (ℕ → S → Result Taken TakeFault → S → Type 0) → ℕ → S → S → Type 0
Takes takes i p q = (answer : Result Taken TakeFault) × takes i p answer q

-- a worker made its turns: each after the gate let it, until the gate didn't, or all were made
pub record HasWorked {S : Type 0} (takes : ℕ → S → Result Taken TakeFault → S → Type 0) (lets : ℕ → ℕ → Bool → Type 0)
    (streams workers worker : ℕ) (before after : S) : Type 0 where
  pub turns : ℕ
  pub within : turns ≤ MOST_TURNS
  pub let_in : (turn : ℕ) → turn < turns → lets worker turn true
  pub ended : (turns ≡ MOST_TURNS) ⊎ lets worker turns false
  pub took : AfterTurns (λ (turn : ℕ) (p q : S). Takes takes (stream_of streams workers worker turn) p q) turns before after

-- a worker that has streams made its turns; one that has none did nothing
abbrev pub IsWorked : {S : Type 0} → (ℕ → S → Result Taken TakeFault → S → Type 0) → (ℕ → ℕ → Bool → Type 0)
    → (streams workers worker : ℕ) → (before after : S) → Type 0
IsWorked takes lets streams workers worker before after =
    (worker < streams → HasWorked takes lets streams workers worker before after)
    × (streams ≤ worker → after ≡ before)
