-- The history that a stream's steps lead to.
use Rattle.std.specs.Prelude.{◌≡◌, List}
use Rattle.tr_stream.specs.History.{History}
use Rattle.tr_stream.specs.Runs.{history_after_events, history_answers}
use Rattle.tr_stream.specs.StandsFor.{StandsFor}
use Rattle.tr_stream.specs.State.{StreamState}
use Rattle.tr_stream.specs.Steps.{new_history}
use Rattle.tr_stream.specs.declared.config.StreamConfig.{StreamConfig}
use Rattle.tr_accounts.specs.Holds.{HoldsOffers}
use Rattle.tr_accounts.specs.Moments.{StoresMoments}
use Rattle.tr_accounts.specs.StreamSteps.{accepted_in, answers_in, calls_in}
use Rattle.tr_accounts.specs.declared.step.StreamStep.{StreamStep}

-- the history that steps' calls lead to
abbrev pub history_of : StreamConfig → List StreamStep → History
history_of c steps = history_after_events c (calls_in steps) new_history

-- a stream stands for the history of just these steps' calls, each answered as it does in that history, and the stream holds
-- what was offered and nothing else, each record with the moment that the steps before it make it
pub record IsAccounted (steps : List StreamStep) (s : StreamState) : Type 0 where
  pub stands : StandsFor s (history_of s.config steps)
  pub answered : answers_in steps ≡ history_answers s.config (calls_in steps) new_history
  pub holds : HoldsOffers (accepted_in steps) s
  pub moments : StoresMoments steps s
