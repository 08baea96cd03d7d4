use Rattle.std.proofs.Common.{sym, subst}
use Rattle.tr_stream.proofs.KeptLemmas.{kept-switched}
use Rattle.tr_stream.proofs.Refinement.{stands-switched}
use Rattle.tr_stream.proofs.stream.Stream.set_active.Goals as goal
use Rattle.tr_stream.specs.StandsFor.{StandsFor}
use Rattle.tr_stream.specs.State.{StreamState}

pub returns-clause-step : goal.returns-clause-step
returns-clause-step g c = λ h is.
    let s : StreamState = record {
      config = c.self.inside.config;
      ring = c.self.inside.ring;
      parts = c.self.inside.parts;
      counters = c.self.inside.counters;
      active = c.self.inside.active;
    } in
    stands-switched s h c.args.active (subst (λ (s : StreamState). StandsFor s h) (sym c.self.view_is) is)

pub invariant_of-self : goal.invariant_of-self
invariant_of-self g c =
    let s : StreamState = record {
      config = c.self.inside.config;
      ring = c.self.inside.ring;
      parts = c.self.inside.parts;
      counters = c.self.inside.counters;
      active = c.self.inside.active;
    } in
    kept-switched s c.args.active c.self.invariant
