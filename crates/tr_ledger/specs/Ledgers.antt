-- A ledger and its seats as contracts see them.
use Rattle.std.specs.Prelude.{ℕ, List, [], ◌∷◌}
use Rattle.atomic_table.specs.Seated.{TableId}
use Rattle.tr_ledger.specs.declared.rule.View.{View}
use Rattle.tr_ledger.specs.Views.{IsShare, seat_view}

-- which table a ledger is, its total, and how many seats were made beside the first
pub record LedgerState : Type 0 where
  pub table : TableId
  pub total : ℕ
  pub made : ℕ

abbrev pub ledger_state : TableId → ℕ → ℕ → LedgerState
ledger_state table total made = record { table = table; total = total; made = made }

-- which table a seat is of, its amount, and how many seats are joined in it
pub record SeatState : Type 0 where
  pub table : TableId
  pub amount : ℕ
  pub mark : ℕ

abbrev pub seat_state : TableId → ℕ → ℕ → SeatState
seat_state table amount mark = record { table = table; amount = amount; mark = mark }

-- how a seat relates to its ledger: it has at most the total, and the total itself if it is whole, with all seats in it
abbrev pub IsSeatOf : LedgerState → SeatState → Type 0
IsSeatOf ledger seat = IsShare seat.amount seat.mark ledger.total ledger.made

-- the one view in the list
abbrev pub view_of : List View → View
view_of [] = seat_view 0 0
view_of (v ∷ views) = v
