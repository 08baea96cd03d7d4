-- What the tokens of a ledger's table know, and the rule of one ledger.
use Rattle.std.specs.Prelude.{◌≡◌, ℕ, ◌+◌, ◌≤◌, List, All}
use Rattle.std.specs.List.{sum_by}
use Rattle.tr_ledger.specs.declared.rule.View.{View}

-- the book's view: its total, how many seats were made beside the first, and what is joined to it
abbrev pub book_view : ℕ → ℕ → ℕ → ℕ → View
book_view total made amount mark = record { books = 1; total = total; made = made; amount = amount; mark = mark }

-- a seat's view
abbrev pub seat_view : ℕ → ℕ → View
seat_view amount mark = record { books = 0; total = 0; made = 0; amount = amount; mark = mark }

-- one more seat is made
abbrev pub with_one_more : View → View
with_one_more v = record v { made = v.made + 1 }

-- nothing is joined any more
abbrev pub without_seat : View → View
without_seat v = record v { amount = 0; mark = 0 }

-- what is joined to a view, as a seat's view
abbrev pub seat_of : View → View
seat_of v = seat_view v.amount v.mark

-- a seat's view is joined
abbrev pub with_seat : View → View → View
with_seat v seat = record v { amount = v.amount + seat.amount; mark = v.mark + seat.mark }

-- the total and the amount have risen by n
abbrev pub raised : ℕ → View → View
raised n v = record v { total = v.total + n; amount = v.amount + n }

-- an amount is at most the total, and is the total if every seat is joined in it
abbrev pub IsShare : (amount mark total made : ℕ) → Type 0
IsShare amount mark total made = (amount ≤ total) × (mark ≤ made + 1) × (mark ≡ made + 1 → amount ≡ total)

abbrev pub IsWithin : View → Type 0
IsWithin v = IsShare v.amount v.mark v.total v.made

-- only the book's view has a total and makes seats
abbrev pub IsBookAlone : View → Type 0
IsBookAlone v = v.books ≡ 0 → (v.total ≡ 0) × (v.made ≡ 0)

-- a view without a mark has no amount
abbrev pub IsMarked : View → Type 0
IsMarked v = v.mark ≡ 0 → v.amount ≡ 0

-- there is one book; the amounts add up to its total, and the marks to the number of its seats
pub record AreCounted (views : List View) : Type 0 where
  pub one_book : sum_by (λ (v : View). v.books) views ≡ 1
  pub amounts : sum_by (λ (v : View). v.amount) views ≡ sum_by (λ (v : View). v.total) views
  pub marks : sum_by (λ (v : View). v.mark) views ≡ sum_by (λ (v : View). v.made) views + 1
  pub books : All IsBookAlone views
  pub marked : All IsMarked views
