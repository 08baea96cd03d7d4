use Rattle.std.proofs.Common.{sym, ap, subst, ◌∙◌}
use Rattle.tr_stream.proofs.ForgetLemmas.{part-known-is}
use Rattle.tr_stream.proofs.stream.Stream.part.Goals as goal
use Rattle.tr_stream.specs.Chunks.{part_known_in}
use Rattle.tr_stream.specs.StandsFor.{StandsFor}
use Rattle.tr_stream.specs.State.{StreamState}

pub returns-clause-step : goal.returns-clause-step
returns-clause-step g c = λ h is.
    let s : StreamState = record {
      config = c.self.inside.config;
      ring = c.self.inside.ring;
      parts = c.self.inside.parts;
      counters = c.self.inside.counters;
      active = c.self.inside.active;
    } in
    c.part.ensures ∙ part-known-is s h c.args.k (subst (λ (t : StreamState). StandsFor t h) (sym c.self.view_is) is)
    ∙ ap (λ (t : StreamState). part_known_in t.config c.args.k h) c.self.view_is
