-- A stream's counters.
use Rattle.std.specs.Prelude.{ℕ, ◌+◌}

-- how many offers were accepted; how many records, of how many packets, were overwritten; how many records were consumed;
-- how many were cleared, and how many of these had been consumed; the last stored moment
pub record CountersState : Type 0 where
  pub offered : ℕ
  pub overwritten : ℕ
  pub overwritten_packets : ℕ
  pub consumed : ℕ
  pub cleared : ℕ
  pub withdrawn : ℕ
  pub last : ℕ

abbrev pub counters_state : ℕ → ℕ → ℕ → ℕ → ℕ → ℕ → ℕ → CountersState
counters_state offered overwritten overwritten_packets consumed cleared withdrawn last =
    record {
      offered = offered;
      overwritten = overwritten;
      overwritten_packets = overwritten_packets;
      consumed = consumed;
      cleared = cleared;
      withdrawn = withdrawn;
      last = last;
    }

abbrev pub new_counters : CountersState
new_counters = counters_state 0 0 0 0 0 0 0

-- an offer is accepted at this moment
abbrev pub with_offer : ℕ → CountersState → CountersState
with_offer moment b = record b { offered = b.offered + 1; last = moment }

-- a packet of this number of records is overwritten
abbrev pub with_overwritten : ℕ → CountersState → CountersState
with_overwritten count b =
    record b { overwritten = b.overwritten + count; overwritten_packets = b.overwritten_packets + 1 }

-- this number of records is consumed
abbrev pub with_consumed : ℕ → CountersState → CountersState
with_consumed count b = record b { consumed = b.consumed + count }

-- this number of records is cleared, and some of them had been consumed
abbrev pub with_cleared : ℕ → ℕ → CountersState → CountersState
with_cleared count consumed b = record b { cleared = b.cleared + count; withdrawn = b.withdrawn + consumed }

-- something was done at this moment
abbrev pub at_moment : ℕ → CountersState → CountersState
at_moment moment b = record b { last = moment }
