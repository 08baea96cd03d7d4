-- `release`: an archive gives up its bytes.
use Rattle.std.specs.Prelude.{Some, ℕ, ◌≡◌, ◌⊎◌}
use Rattle.tr_replies.specs.LineFaults.{from_session}
use Rattle.tr_console.specs.Steps.{Step, call_step, session_step}
use Rattle.tr_replies.specs.OneLine.{released_text}
use Rattle.tr_replies.specs.Text.{Text}
use Rattle.tr_console.specs.World.{World, session_named, with_session}
use Rattle.tr_session.specs.Session.{SessionOf}
use Rattle.tr_session.specs.Steps.{IsReleasedSome, session_after_release_all, session_release_all_answer}
use Rattle.tr_stream.specs.Rules.{StreamRules}

abbrev pub release_step : {S : Type 0} → StreamRules S → World S → Text → ℕ → Step S
release_step rules w name archive =
    session_step w name (λ s. call_step w name (released_text archive)
    (from_session (session_release_all_answer rules archive s)) (session_after_release_all rules archive s))

-- ---- what it leaves if an allocation fails

-- some parts of that archive of the session of this name are released: the other sessions are as they were
pub record IsReleasedSomeNamed {S : Type 0} (rules : StreamRules S) (name : Text) (archive : ℕ) (w new : World S) : Type 0 where
  pub before : SessionOf S
  pub after : SessionOf S
  pub found : session_named name w ≡ Some before
  pub released : IsReleasedSome rules archive before after
  pub is : new ≡ with_session name w after

-- some are released, or all is as the line leaves it
abbrev pub IsReleasedSomeOrAfter : {S : Type 0} → StreamRules S → Text → ℕ → Step S → World S → World S → Type 0
IsReleasedSomeOrAfter rules name archive step w new = IsReleasedSomeNamed rules name archive w new ⊎ (new ≡ step.world)
