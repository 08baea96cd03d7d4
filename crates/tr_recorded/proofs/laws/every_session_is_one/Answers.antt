use Rattle.std.proofs.Common.{◌≡◌, ◌∙◌, ap, arith, Some, subst, sym}
use Rattle.std.proofs.lemmas.Option.{slice_get_within}
use Rattle.std.specs.Prelude.{option_copied, slice_get}
use Rattle.tr_recorded.proofs.SessionLemmas.{never-there, next-too, same-in-some}
use Rattle.tr_recorded.proofs.laws.every_session_is_one.Goals as goal
use Rattle.tr_recorded.proofs.laws.every_session_is_one.Goals.{in-Some, in_default}
use Rattle.tr_stream.specs.Kept.{IsKept}
use Rattle.tr_stream.specs.State.{StreamState}

pub returns : goal.returns
returns g c =
    let s = c.args.session.now in
    let end = c.streams-i-end.ensures.value in
    record {
      book = c.every_session_is_within.ensures.book;
      streams = c.every_session_is_within.ensures.own;
      kept = λ j t at. let below = slice_get_within s.streams j t at in c.each.invariant j t (omega (arith, below, end, c.each-test.false)) at;
    }

pub each-preserved : goal.each-preserved
each-preserved g c =
    let streams = c.args.session.now.streams in
    let this : (t : StreamState) → slice_get streams c.each.i ≡ Some t → IsKept t =
    elim c.match-stream.branch [
      | in-Some w ↦ λ t at. subst IsKept (same-in-some w.in-Some.stream.now t (sym (ap option_copied w.in-Some.is) ∙ c.stream.ensures.value ∙ at))
          w.config.ensures.kept
      | in_default w ↦ λ t at. never-there t (sym (ap option_copied w.in_default.is) ∙ c.stream.ensures.value ∙ at)
    ] in
    next-too IsKept streams c.each.i c.each.invariant this
