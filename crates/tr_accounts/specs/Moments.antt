-- The moment that each record of a stream has.
use Rattle.std.specs.Global.{Global}
use Rattle.std.specs.Prelude.{◌≡◌, ℕ, max, List, [], ◌∷◌, ◌++◌, Option, Some, None, Ok, filter_map, length}
use Rattle.std.specs.List.{AllByRecursion}
use Rattle.tr_record.specs.Records.{Entry, entry}
use Rattle.tr_stream.specs.State.{StreamState}
use Rattle.tr_stream.specs.declared.events.StreamAnswer.{StreamAnswer}
use Rattle.tr_stream.specs.declared.events.StreamAnswer.TheVariants as answer
use Rattle.tr_stream.specs.declared.events.StreamEvent.{StreamEvent}
use Rattle.tr_stream.specs.declared.events.StreamEvent.TheVariants.{Offer, Cut}
use Rattle.tr_accounts.specs.Holds.{held_records}
use Rattle.tr_accounts.specs.StreamSteps.{AcceptedOffer, accepted_in, offer_step}
use Rattle.tr_accounts.specs.declared.step.StreamStep.{StreamStep}

-- the moment that was given to a stream: by an accepted offer, or by a cut that was done
abbrev pub given_of : StreamEvent Global → StreamAnswer Global → Option ℕ
given_of (Offer moment id payload) (answer.Offer (Ok offered)) = Some moment
given_of (Cut moment) (answer.Cut (Ok done)) = Some moment
given_of call told = None

abbrev pub given_in : List StreamStep → List ℕ
given_in steps = filter_map (λ step. given_of step.call step.answer) steps

-- the greatest of these moments, or 0 if there is none
abbrev pub greatest : List ℕ → ℕ
greatest [] = 0
greatest (m ∷ ms) = max m (greatest ms)

-- the step of an accepted offer
abbrev pub as_step : AcceptedOffer → StreamStep
as_step o = offer_step o.moment o.id o.payload (Ok o.answer)

-- a record is an accepted offer among these steps, with its id and its payload: its serial is how many were accepted before,
-- and its moment the greatest that was given up to then, by offers and cuts
pub record IsStored (steps : List StreamStep) (e : Entry) : Type 0 where
  pub before : List StreamStep
  pub offer : AcceptedOffer
  pub after : List StreamStep
  pub among : steps ≡ before ++ as_step offer ∷ after
  pub is : e ≡ entry (length (accepted_in before)) (greatest (given_in (before ++ as_step offer ∷ []))) offer.id offer.payload

-- the last moment that a stream stored is the greatest that these steps gave, and each record that it holds was stored so
pub record StoresMoments (steps : List StreamStep) (s : StreamState) : Type 0 where
  pub last : s.counters.last ≡ greatest (given_in steps)
  pub held : AllByRecursion (IsStored steps) (held_records s)
