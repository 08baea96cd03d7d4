-- The steps of a stream: calls, each with what it answered.
use Rattle.std.specs.Global.{Global}
use Rattle.std.specs.Prelude.{ℕ, Bool, List, Option, Some, None, Result, Ok, filter_map, map, if◌then◌else◌}
use Rattle.tr_book.specs.Snaps.{SnapState}
use Rattle.tr_stream.specs.declared.answers.ClearFault.{ClearFault}
use Rattle.tr_stream.specs.declared.answers.Cleared.{Cleared}
use Rattle.tr_stream.specs.declared.answers.CutDone.{CutDone}
use Rattle.tr_stream.specs.declared.answers.CutFault.{CutFault}
use Rattle.tr_stream.specs.declared.answers.OfferFault.{OfferFault}
use Rattle.tr_stream.specs.declared.answers.Offered.{Offered}
use Rattle.tr_stream.specs.declared.answers.Offered.TheVariants.{Stored, StoredOver, Discarded}
use Rattle.tr_stream.specs.declared.answers.ReleaseFault.{ReleaseFault}
use Rattle.tr_stream.specs.declared.answers.Released.{Released}
use Rattle.tr_stream.specs.declared.answers.TakeFault.{TakeFault}
use Rattle.tr_stream.specs.declared.answers.Taken.{Taken}
use Rattle.tr_stream.specs.declared.events.StreamAnswer.{StreamAnswer}
use Rattle.tr_stream.specs.declared.events.StreamAnswer.TheVariants as answer
use Rattle.tr_stream.specs.declared.events.StreamEvent.{StreamEvent}
use Rattle.tr_stream.specs.declared.events.StreamEvent.TheVariants.{Offer, Take, Cut, Clear, Release, Peek, Start, Stop}
use Rattle.tr_accounts.specs.declared.step.StreamStep.{StreamStep}

abbrev pub stream_step : StreamEvent Global → StreamAnswer Global → StreamStep
stream_step call answer = record { call = call; answer = answer }

abbrev pub offer_step : ℕ → ℕ → List ℕ → Result Offered OfferFault → StreamStep
offer_step moment id payload told = stream_step (Offer moment id payload) (answer.Offer told)

abbrev pub take_step : Result Taken TakeFault → StreamStep
take_step told = stream_step Take (answer.Take told)

abbrev pub cut_step : ℕ → Result CutDone CutFault → StreamStep
cut_step moment told = stream_step (Cut moment) (answer.Cut told)

abbrev pub clear_step : Result Cleared ClearFault → StreamStep
clear_step told = stream_step Clear (answer.Clear told)

abbrev pub release_step : ℕ → Result Released ReleaseFault → StreamStep
release_step k told = stream_step (Release k) (answer.Release told)

abbrev pub look_step : ℕ → SnapState → StreamStep
look_step moment snap = stream_step (Peek moment) (answer.Peek (Ok snap))

abbrev pub switch_step : Bool → StreamStep
switch_step active = if active then stream_step Start answer.Start else stream_step Stop answer.Stop

-- ---- what is among steps, in order

abbrev pub calls_in : List StreamStep → List (StreamEvent Global)
calls_in steps = map (λ step. step.call) steps

abbrev pub answers_in : List StreamStep → List (StreamAnswer Global)
answers_in steps = map (λ step. step.answer) steps

-- the serial that an accepted offer got
abbrev pub serial_of : Offered → ℕ
serial_of (Stored serial seq) = serial
serial_of (StoredOver serial seq gone_seq gone_count) = serial
serial_of (Discarded serial) = serial

-- an accepted offer: the moment that was given, the id, the payload, and what it answered
pub record AcceptedOffer : Type 0 where
  pub moment : ℕ
  pub id : ℕ
  pub payload : List ℕ
  pub answer : Offered

abbrev pub accepted_of : StreamEvent Global → StreamAnswer Global → Option AcceptedOffer
accepted_of (Offer moment id payload) (answer.Offer (Ok offered)) =
    Some (record { moment = moment; id = id; payload = payload; answer = offered })
accepted_of call told = None

abbrev pub accepted_in : List StreamStep → List AcceptedOffer
accepted_in steps = filter_map (λ step. accepted_of step.call step.answer) steps

-- the packets that were taken
abbrev pub taken_of : StreamAnswer Global → Option Taken
taken_of (answer.Take (Ok taken)) = Some taken
taken_of told = None

abbrev pub taken_in : List StreamStep → List Taken
taken_in steps = filter_map (λ step. taken_of step.answer) steps
