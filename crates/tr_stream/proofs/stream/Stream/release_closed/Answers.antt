use Rattle.std.proofs.Common.{◌∙◌, ap, subst, sym}
use Rattle.tr_book.specs.Parts.{PartsState}
use Rattle.tr_stream.proofs.ReleaseLemmas.{kept-released, releasable}
use Rattle.tr_stream.proofs.GapLemmas.{part-gaps}
use Rattle.tr_stream.proofs.stream.Stream.release_closed.Goals as goal
use Rattle.tr_stream.specs.Kept.{IsKept}
use Rattle.tr_stream.specs.State.{StreamState}
use Rattle.tr_stream.specs.StateSteps.{state_release_answer}

pub invariant_of-self-2 : goal.invariant_of-self-2
invariant_of-self-2 g c =
    let s : StreamState = record {
      config = c.self.inside.config;
      ring = c.self.inside.ring;
      parts = c.self.inside.parts;
      counters = c.self.inside.counters;
      active = c.self.inside.active;
    } in
    let can = releasable c.args.k s c.args.released (ap (state_release_answer c.args.k) c.self.view_is ∙ c.requires) in
    subst (λ (parts : PartsState). IsKept (record s { parts = parts })) (sym c.in_ok-release_out.ensures.ok)
    (kept-released s c.args.k can.part can.at can.held c.self.invariant)

pub release_out-requires-clause-gaps : goal.release_out-requires-clause-gaps
release_out-requires-clause-gaps g c = λ part at.
    let s : StreamState = record {
      config = c.self.inside.config;
      ring = c.self.inside.ring;
      parts = c.self.inside.parts;
      counters = c.self.inside.counters;
      active = c.self.inside.active;
    } in
    part-gaps s c.args.k part c.self.invariant at
