use Rattle.std.proofs.Common.{◌≡◌, ◌∙◌, ℕ, Some, ap, arith, subst, sym}
use Rattle.std.proofs.lemmas.Option.{slice_get_within}
use Rattle.std.specs.Prelude.{option_copied, slice_get}
use Rattle.tr_recorded.proofs.HeldLemmas.{held-archives}
use Rattle.tr_recorded.proofs.SessionLemmas.{Keeps, never-there, next-too, no-session, same-in-some, whole-session}
use Rattle.tr_recorded.proofs.laws.what_is_written_is_whole.Goals as goal
use Rattle.tr_recorded.proofs.laws.what_is_written_is_whole.Goals.{in-Some, in_default}
use Rattle.tr_stream.specs.State.{StreamState}

pub returns-clause-whole : goal.returns-clause-whole
returns-clause-whole g c =
    let s = c.args.session.now in
    let is = c.every_session_is_within.ensures in
    let end = c.streams-i-end.ensures.value in
    let keeps : (j : ℕ) (t : StreamState) → slice_get s.streams j ≡ Some t → Keeps t =
    λ j t at. let below = slice_get_within s.streams j t at in c.streams.invariant j t (omega (arith, below, end, c.streams-test.false)) at in
    whole-session s is.book is.begin is.offset (λ short. (is.read short, is.declared short)) is.archives is.streams is.own keeps

pub returns-clause-none : goal.returns-clause-none
returns-clause-none g c = no-session c.args.session.now

pub returns-clause-held : goal.returns-clause-held
returns-clause-held g c = held-archives c.args.session.now

pub streams-preserved : goal.streams-preserved
streams-preserved g c =
    let streams = c.args.session.now.streams in
    let this : (t : StreamState) → slice_get streams c.streams.i ≡ Some t → Keeps t =
    elim c.match-stream.branch [
      | in-Some w ↦ λ t at. subst Keeps (same-in-some w.in-Some.stream.now t (sym (ap option_copied w.in-Some.is) ∙ c.stream.ensures.value ∙ at))
          w.every_stream_is_recorded.ensures
      | in_default w ↦ λ t at. never-there t (sym (ap option_copied w.in_default.is) ∙ c.stream.ensures.value ∙ at)
    ] in
    next-too Keeps streams c.streams.i c.streams.invariant this
