use Rattle.std.proofs.Common.{◌≡◌, ◌<◌, ℕ, Some}
use Rattle.std.specs.Prelude.{slice_get}
use Rattle.tr_recorded.proofs.laws.every_session_is_one.Given as goal
use Rattle.tr_stream.specs.Kept.{IsKept}
use Rattle.tr_stream.specs.State.{StreamState}

-- the earlier streams are kept
abbrev pub invariant-each : goal.invariant-each
invariant-each g l = (j : ℕ) (t : StreamState) → j < l.i → slice_get l.session.streams j ≡ Some t → IsKept t
