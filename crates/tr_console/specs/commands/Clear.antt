-- `clear`: what rings and current parts hold is removed.
use Rattle.std.specs.Prelude.{Some, ◌≡◌, ◌⊎◌}
use Rattle.tr_replies.specs.LineFaults.{from_session}
use Rattle.tr_console.specs.Steps.{Step, call_step, session_step}
use Rattle.tr_replies.specs.OneLine.{cleared_text}
use Rattle.tr_replies.specs.Text.{Text}
use Rattle.tr_console.specs.World.{World, session_named, with_session}
use Rattle.tr_session.specs.Session.{SessionOf}
use Rattle.tr_session.specs.Steps.{IsClearedSome, session_after_clear_all, session_clear_all_answer}
use Rattle.tr_stream.specs.Rules.{StreamRules}

abbrev pub clear_step : {S : Type 0} → StreamRules S → World S → Text → Step S
clear_step rules w name =
    session_step w name (λ s. call_step w name cleared_text (from_session (session_clear_all_answer rules s))
    (session_after_clear_all rules s))

-- ---- what it leaves if an allocation fails

-- some streams of the session of this name are cleared: the other sessions are as they were
pub record IsClearedSomeNamed {S : Type 0} (rules : StreamRules S) (name : Text) (w new : World S) : Type 0 where
  pub before : SessionOf S
  pub after : SessionOf S
  pub found : session_named name w ≡ Some before
  pub cleared : IsClearedSome rules before after
  pub is : new ≡ with_session name w after

-- some are cleared, or all is as the line leaves it
abbrev pub IsClearedSomeOrAfter : {S : Type 0} → StreamRules S → Text → Step S → World S → World S → Type 0
IsClearedSomeOrAfter rules name step w new = IsClearedSomeNamed rules name w new ⊎ (new ≡ step.world)
