-- A stream under its lock, and the seats that its calls move.
use Rattle.std.specs.Prelude.{◌≡◌, ℕ, ◌+◌, ◌<◌, ◌==◌, List, [], ◌∷◌, ◌++◌, map, length, Result, Ok, Err, All, slice_index_or, if◌then◌else◌, nat_le}
use Rattle.atomic_table.specs.Seated.{TableId}
use Rattle.tr_accounts.specs.StreamSteps.{offer_step}
use Rattle.tr_accounts.specs.declared.step.StreamStep.{StreamStep}
use Rattle.tr_ledger.specs.Ledgers.{SeatState, seat_state}
use Rattle.tr_seats.specs.Books.{Books, books_at}
use Rattle.tr_seats.specs.declared.totals.Totals.{Totals}
use Rattle.tr_terms.specs.declared.limits.TheConstants.{MOST_DRAINERS}
use Rattle.tr_session_book.specs.declared.faults.SessionFault.{SessionFault}
use Rattle.tr_session_book.specs.declared.faults.SessionFault.TheVariants as session_fault
use Rattle.tr_stream.specs.State.{StreamState}
use Rattle.tr_stream.specs.StateSteps.{state_after_offer, state_after_take, state_offer_answer, state_take_answer}
use Rattle.tr_stream.specs.declared.answers.OfferFault.{OfferFault}
use Rattle.tr_stream.specs.declared.answers.OfferFault.TheVariants as offer_fault
use Rattle.tr_stream.specs.declared.answers.Offered.{Offered}
use Rattle.tr_stream.specs.declared.answers.Offered.TheVariants.{Stored, StoredOver, Discarded}
use Rattle.tr_stream.specs.declared.answers.TakeFault.{TakeFault}
use Rattle.tr_stream.specs.declared.answers.TakeFault.TheVariants as take_fault
use Rattle.tr_stream.specs.declared.answers.Taken.{Taken}

-- a stream's number, the stream, and how many seats of its consumed records were made beside the first
pub record SlotState : Type 0 where
  pub number : ℕ
  pub stream : StreamState
  pub made : ℕ

abbrev pub slot_state : ℕ → StreamState → ℕ → SlotState
slot_state number stream made = record { number = number; stream = stream; made = made }

-- what a producer's seats say of the offers to its stream, how many of these its teller has published, and all its offers with
-- their answers, refused ones too
pub record ProducerState : Type 0 where
  pub number : ℕ
  pub offered : ℕ
  pub discarded : ℕ
  pub overwritten : ℕ
  pub overwritten_packets : ℕ
  pub published : ℕ
  pub steps : List StreamStep

abbrev pub producer_state : (number offered discarded overwritten overwritten_packets published : ℕ) → List StreamStep → ProducerState
producer_state number offered discarded overwritten overwritten_packets published steps = record {
  number = number;
  offered = offered;
  discarded = discarded;
  overwritten = overwritten;
  overwritten_packets = overwritten_packets;
  published = published;
  steps = steps;
}

-- the producer of a stream to which nothing was offered
abbrev pub new_producer : ℕ → ProducerState
new_producer number = producer_state number 0 0 0 0 0 []

-- ---- offers

-- an offer by the producer of this number: another stream's is refused, before all else
abbrev pub slot_offer_answer : ℕ → ℕ → ℕ → List ℕ → SlotState → Result Offered OfferFault
slot_offer_answer number moment id payload slot =
    if number == slot.number then state_offer_answer moment id payload slot.stream else Err offer_fault.Misplaced

abbrev pub slot_after_offer : ℕ → ℕ → ℕ → List ℕ → SlotState → SlotState
slot_after_offer number moment id payload slot =
    if number == slot.number then record slot { stream = state_after_offer moment id payload slot.stream } else slot

-- what an accepted offer does to the producer's totals
abbrev pub totals_moved : Offered → ProducerState → ProducerState
totals_moved (Stored serial seq) p = record p { offered = p.offered + 1 }
totals_moved (StoredOver serial seq gone_seq gone_count) p = record p {
  offered = p.offered + 1;
  overwritten = p.overwritten + gone_count;
  overwritten_packets = p.overwritten_packets + 1;
}
totals_moved (Discarded serial) p = record p { offered = p.offered + 1; discarded = p.discarded + 1 }

-- one offer more is the producer's
abbrev pub with_offer : ℕ → ℕ → List ℕ → Result Offered OfferFault → ProducerState → ProducerState
with_offer moment id payload answer p = record p { steps = p.steps ++ offer_step moment id payload answer ∷ [] }

-- what an offer does to the producer: it is noted with its answer, unless the slot has another stream or the stream wasn't
-- asked, and the totals move if it was accepted
abbrev pub producer_after : ℕ → ℕ → List ℕ → Result Offered OfferFault → ProducerState → ProducerState
producer_after moment id payload (Ok offered) p = totals_moved offered (with_offer moment id payload (Ok offered) p)
producer_after moment id payload (Err offer_fault.Misplaced) p = p
producer_after moment id payload (Err offer_fault.OtherLayout) p = p
producer_after moment id payload (Err fault) p = with_offer moment id payload (Err fault) p

-- its teller publishes how many records were offered
abbrev pub with_all_published : ProducerState → ProducerState
with_all_published p = record p { published = p.offered }

-- the serial that an accepted offer got
abbrev pub serial_of : Offered → ℕ
serial_of (Stored serial seq) = serial
serial_of (StoredOver serial seq gone_seq gone_count) = serial
serial_of (Discarded serial) = serial

-- a producer's numbers are the stream's own
abbrev pub IsOwn : ProducerState → Totals → Type 0
IsOwn p t = (p.offered ≡ t.offered) × (p.discarded ≡ t.discarded) × (p.overwritten ≡ t.overwritten)
    × (p.overwritten_packets ≡ t.overwritten_packets)

-- ---- takes

-- a take from the stream of this number: another stream is refused, before all else
abbrev pub slot_take_answer : ℕ → SlotState → Result Taken TakeFault
slot_take_answer i slot = if i == slot.number then state_take_answer slot.stream else Err take_fault.Misplaced

abbrev pub slot_after_take : ℕ → SlotState → SlotState
slot_after_take i slot = if i == slot.number then record slot { stream = state_after_take slot.stream } else slot

-- ---- seats

-- a seat more of what is consumed from the stream of this number: none if that is another stream, or if as many drainers
-- were made as are allowed
abbrev pub slot_split_answer : List Books → ℕ → SlotState → Result SeatState SessionFault
slot_split_answer books i slot =
    if i == slot.number
    then (if nat_le MOST_DRAINERS slot.made then Err session_fault.TooMany
    else Ok (seat_state (books_at books slot.number).consumed 0 1))
    else Err session_fault.Misplaced

abbrev pub slot_after_split : ℕ → SlotState → SlotState
slot_after_split i slot =
    if i == slot.number
    then (if nat_le MOST_DRAINERS slot.made then slot else record slot { made = slot.made + 1 })
    else slot

-- a seat of each of these tables, each joined from `mark` seats
abbrev pub AreJoined : ℕ → List TableId → List SeatState → Type 0
AreJoined mark tables seats =
    (map (λ (s : SeatState). s.table) seats ≡ tables) × All (λ (s : SeatState). s.mark ≡ mark) seats

-- one seat of each of these tables
abbrev pub AreSeatsOf : List TableId → List SeatState → Type 0
AreSeatsOf tables seats = AreJoined 1 tables seats

abbrev pub amounts_of : List SeatState → List ℕ
amounts_of seats = map (λ (s : SeatState). s.amount) seats

-- one producer for each of the first n streams, in order, with nothing offered
abbrev pub AreNew : ℕ → List ProducerState → Type 0
AreNew n producers = (length producers ≡ n)
    × ((i : ℕ) (p : ProducerState) → i < n → slice_index_or producers i p ≡ new_producer i)
