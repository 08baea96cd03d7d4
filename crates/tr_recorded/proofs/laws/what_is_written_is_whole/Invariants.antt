use Rattle.std.proofs.Common.{◌≡◌, ◌<◌, ℕ, Some}
use Rattle.std.specs.Prelude.{slice_get}
use Rattle.tr_recorded.proofs.SessionLemmas.{Keeps}
use Rattle.tr_recorded.proofs.laws.what_is_written_is_whole.Given as goal
use Rattle.tr_stream.specs.State.{StreamState}

-- the earlier streams keep what they took
abbrev pub invariant-streams : goal.invariant-streams
invariant-streams g l = (j : ℕ) (t : StreamState) → j < l.i → slice_get l.session.streams j ≡ Some t → Keeps t
