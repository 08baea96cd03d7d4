-- The sessions of a console by what their streams hold, and by those streams' histories.
use Rattle.std.specs.Prelude.{◌≡◌, List, [], ◌∷◌}
use Rattle.tr_replies.specs.Text.{Text}
use Rattle.tr_console.specs.World.{World}
use Rattle.tr_session.specs.Agreement.{SessionsAgree}
use Rattle.tr_session.specs.Session.{SessionOf}
use Rattle.tr_stream.specs.Rules.{Traced}
use Rattle.tr_stream.specs.State.{StreamState}

-- the same names in the same order, and sessions that agree
abbrev pub AllAgreeByName : List (Text × SessionOf StreamState) → List (Text × SessionOf Traced) → Type 0
AllAgreeByName [] [] = Unit {0}
AllAgreeByName [] (f ∷ fs) = ⊥
AllAgreeByName (e ∷ es) [] = ⊥
AllAgreeByName (e ∷ es) (f ∷ fs) = (e.0 ≡ f.0) × SessionsAgree e.1 f.1 × AllAgreeByName es fs

-- and the same events
pub record WorldsAgree (v : World StreamState) (w : World Traced) : Type 0 where
  pub sessions : AllAgreeByName v.sessions w.sessions
  pub events : v.events ≡ w.events
