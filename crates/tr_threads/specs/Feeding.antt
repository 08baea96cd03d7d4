-- What a feeder does with its work.
use Rattle.std.specs.Prelude.{◌≡◌, ℕ, List, [], ◌∷◌, ◌++◌, Result, is_ok, if◌then◌else◌}
use Rattle.std.specs.List.{FoldsTo}
use Rattle.tr_threads.specs.declared.items.Item.{Item}
use Rattle.tr_stream.specs.declared.answers.OfferFault.{OfferFault}
use Rattle.tr_stream.specs.declared.answers.Offered.{Offered}

-- an item is offered, at its moment, with its id and its payload, and the item is logged if the answer accepts it; what an
-- offer may answer, and make of the seat, is the intake's to say
abbrev pub OffersOne : {S : Type 0} → (S → ℕ → ℕ → List ℕ → Result Offered OfferFault → S → Type 0)
    → S × List Item → Item → S × List Item → Type 0
OffersOne offers p item q = (answer : Result Offered OfferFault)
    × offers p.0 item.moment item.id item.payload answer q.0
    × (q.1 ≡ (if is_ok answer then p.1 ++ item ∷ [] else p.1))

-- the work was offered in order, and the log has its items in order without those that were refused
abbrev pub IsFed : {S : Type 0} → (S → ℕ → ℕ → List ℕ → Result Offered OfferFault → S → Type 0)
    → S → List Item → S → List Item → Type 0
IsFed offers before work after log = FoldsTo (OffersOne offers) (before, []) work (after, log)

-- the work was offered, and its log is gone
abbrev pub WasFed : {S : Type 0} → (S → ℕ → ℕ → List ℕ → Result Offered OfferFault → S → Type 0)
    → List Item → S → S → Type 0
WasFed offers work before after = (log : List Item) × IsFed offers before work after log
