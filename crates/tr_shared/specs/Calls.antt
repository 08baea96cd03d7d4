-- What the calls of a shared session answer, as far as those who hold no lock can tell.
use Rattle.std.specs.Prelude.{◌≡◌, ◌≢◌, ◌≤◌, ◌<◌, ◌⊎◌, ◌+◌, ℕ, false, List, Result, Err, IfOk, length, slice_index_or, sum}
use Rattle.std.specs.List.{sum_by}
use Rattle.tr_events.specs.Events.{fits_declared}
use Rattle.tr_seats.specs.Books.{IsPlanned, IsTooBig, PlanState}
use Rattle.tr_seats.specs.Drainers.{DrainerState, drainer_after}
use Rattle.tr_seats.specs.Settling.{taken_of}
use Rattle.tr_seats.specs.Slots.{ProducerState, producer_after, serial_of, with_all_published}
use Rattle.tr_seats.specs.Sums.{totals_in}
use Rattle.tr_seats.specs.declared.totals.Totals.{Totals}
use Rattle.tr_session_book.specs.declared.faults.SessionFault.{SessionFault}
use Rattle.tr_session_book.specs.declared.faults.SessionFault.TheVariants.{AlreadyActive, Misplaced, NoMemory, NotActive, RotationPending, TooMany}
use Rattle.tr_stream.specs.State.{StreamState}
use Rattle.tr_stream.specs.declared.answers.OfferFault.{OfferFault}
use Rattle.tr_stream.specs.declared.answers.OfferFault.TheVariants as offer_fault
use Rattle.tr_stream.specs.declared.answers.Offered.{Offered}
use Rattle.tr_stream.specs.declared.answers.TakeFault.{TakeFault}
use Rattle.tr_stream.specs.declared.answers.TakeFault.TheVariants.{SnapshotMode}
use Rattle.tr_stream.specs.declared.answers.TakeFault.TheVariants as take_fault
use Rattle.tr_stream.specs.declared.answers.Taken.{Taken}
use Rattle.tr_stream.specs.declared.config.StreamConfig.{StreamConfig}
use Rattle.tr_terms.specs.declared.limits.TheConstants.{MOST_OFFERS}
use Rattle.tr_terms.specs.declared.session_mode.SessionMode.{SessionMode}
use Rattle.tr_terms.specs.declared.session_mode.SessionMode.TheVariants.{Local, Snapshot}

-- the totals have just what the producers offered, and what the drainers consumed is within them: the rest is the desk's
pub record AreOffersOf (producers : List ProducerState) (drainers : List DrainerState) (t : Totals) : Type 0 where
  pub offered : t.offered ≡ sum_by (λ (p : ProducerState). p.offered) producers
  pub discarded : t.discarded ≡ sum_by (λ (p : ProducerState). p.discarded) producers
  pub overwritten : t.overwritten ≡ sum_by (λ (p : ProducerState). p.overwritten) producers
  pub overwritten_packets : t.overwritten_packets ≡ sum_by (λ (p : ProducerState). p.overwritten_packets) producers
  pub consumed : sum_by (λ (d : DrainerState). sum d.amounts) drainers ≤ t.consumed

-- what the drainers took from each stream is within what was consumed of it: the rest is the desk's
abbrev pub HaveTaken : List DrainerState → List StreamState → Type 0
HaveTaken drainers streams = (k : ℕ) (t : StreamState) → k < length streams
    → taken_of drainers k ≤ (totals_in (slice_index_or streams k t)).consumed

abbrev pub IsDrainerFault : SessionFault → Type 0
IsDrainerFault fault = (fault ≡ TooMany) ⊎ (fault ≡ NoMemory) ⊎ (fault ≡ Misplaced)

abbrev pub IsStartFault : SessionFault → Type 0
IsStartFault fault = (fault ≡ RotationPending) ⊎ (fault ≡ AlreadyActive) ⊎ (fault ≡ Misplaced)

abbrev pub IsStopFault : SessionFault → Type 0
IsStopFault fault = (fault ≡ RotationPending) ⊎ (fault ≡ NotActive) ⊎ (fault ≡ Misplaced)

-- a take from a stream of a shared session: the drainer has just this packet more, if it got one, and each packet has a record
abbrev pub IsTaken : ℕ → DrainerState → Result Taken TakeFault → DrainerState → Type 0
IsTaken i before answer after = (after ≡ drainer_after answer i before) × IfOk answer (λ (taken : Taken). 1 ≤ taken.count)

-- the mode of a session decides what a take may answer: in a snapshot session nothing is consumed
abbrev pub IsTakeOf : SessionMode → Result Taken TakeFault → Type 0
IsTakeOf Local answer = answer ≢ Err SnapshotMode
IsTakeOf Snapshot answer = (answer ≡ Err SnapshotMode) ⊎ (answer ≡ Err take_fault.Misplaced)

-- an offer to a shared session: the producer has just this offer more, with its answer, moves as the answer says, and publishes
-- what it has offered then; and an accepted record gets the next serial
abbrev pub IsOffered : ProducerState → ℕ → ℕ → List ℕ → Result Offered OfferFault → ProducerState → Type 0
IsOffered before moment id payload answer after = (after ≡ with_all_published (producer_after moment id payload answer before))
    × IfOk answer (λ (offered : Offered). serial_of offered ≡ before.offered)

-- what an offer answers to the owner of a producer, and makes of it, in a session of this plan
pub record IsOfferTo (plan : PlanState) (before : ProducerState) (moment id : ℕ) (payload : List ℕ) (answer : Result Offered OfferFault)
    (after : ProducerState) : Type 0 where
  pub seats : after ≡ with_all_published (producer_after moment id payload answer before)
  pub serial : IfOk answer (λ (offered : Offered). serial_of offered ≡ before.offered)
  pub too_big : answer ≡ Err offer_fault.TooBig → IsTooBig plan before.number (length payload)
  pub spent : answer ≡ Err offer_fault.Spent → MOST_OFFERS ≤ before.offered
  -- just an offer that doesn't fit as declared is refused for its layout
  pub other : answer ≡ Err offer_fault.OtherLayout → fits_declared plan.session.book.events id payload ≡ false
  pub fits : fits_declared plan.session.book.events id payload ≡ false → answer ≡ Err offer_fault.OtherLayout

-- what a take from the stream of this number answers to the owner of a drainer, and makes of it, in a session of this plan: the
-- drainer has just this packet more, if it got one
pub record IsTakeFrom (plan : PlanState) (before : DrainerState) (i : ℕ) (answer : Result Taken TakeFault) (after : DrainerState) : Type 0 where
  pub seats : after ≡ drainer_after answer i before
  pub some : IfOk answer (λ (taken : Taken). 1 ≤ taken.count)
  pub mode : (config : StreamConfig) → IsPlanned plan i config → IsTakeOf config.session answer

-- a producer has offered so many records more, still offers to the same stream, and has published what it offered, if it had
-- before
pub record HasOffered (count : ℕ) (before after : ProducerState) : Type 0 where
  pub offered : after.offered ≡ before.offered + count
  pub number : after.number ≡ before.number
  pub published : before.published ≡ before.offered → after.published ≡ after.offered
