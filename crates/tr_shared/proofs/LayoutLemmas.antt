-- No stream refuses an offer for its layout.
use Rattle.std.proofs.Common.{◌≡◌, ◌∙◌, ℕ, Bool, true, false, List, length, Option, Some, None, Result, Ok, Err, refl, sym}
use Rattle.std.specs.Prelude.{◌==◌, if◌then◌else◌, nat_le, nat_lt, not}
use Rattle.tr_seats.specs.Slots.{SlotState, slot_offer_answer}
use Rattle.tr_stream.specs.State.{StreamState}
use Rattle.tr_stream.specs.StateSteps.{state_answer_unless, state_entry, state_offer_answer}
use Rattle.tr_stream.specs.declared.answers.OfferFault.{OfferFault}
use Rattle.tr_stream.specs.declared.answers.OfferFault.TheVariants.{Inactive, TooBig, Spent, Misplaced, OtherLayout}
use Rattle.tr_stream.specs.declared.answers.Offered.{Offered}
use Rattle.tr_record.specs.Records.{Entry}

by_tests : (off big spent : Bool) (e : Entry) (s : StreamState)
    → state_answer_unless (if off then Some Inactive else (if big then Some TooBig else (if spent then Some Spent else None))) e s ≡ Err OtherLayout → ⊥
by_tests true big spent e s is = cc
by_tests false true spent e s is = cc
by_tests false false true e s is = cc
by_tests false false false e s is = cc

by_stream : (moment id : ℕ) (payload : List ℕ) (s : StreamState) → state_offer_answer moment id payload s ≡ Err OtherLayout → ⊥
by_stream moment id payload s is = by_tests (not s.active) _ _ (state_entry moment id payload s) s is

by_place : (here : Bool) (moment id : ℕ) (payload : List ℕ) (s : StreamState)
    → (if here then state_offer_answer moment id payload s else Err Misplaced) ≡ Err OtherLayout → ⊥
by_place true moment id payload s is = by_stream moment id payload s is
by_place false moment id payload s is = cc

pub never-other : (number moment id : ℕ) (payload : List ℕ) (slot : SlotState) (answer : Result Offered OfferFault)
    → answer ≡ slot_offer_answer number moment id payload slot → answer ≡ Err OtherLayout → ⊥
never-other number moment id payload slot answer told is = by_place (number == slot.number) moment id payload slot.stream (sym told ∙ is)
