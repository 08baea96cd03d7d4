use Rattle.std.proofs.Common.{rules, Some, None}
use Rattle.tr_stream.proofs.Consistency.{runs-rise}
use Rattle.tr_stream.proofs.FateLemmas.{held-gone, held-part, held-ring}
use Rattle.tr_stream.proofs.GapLemmas.{ring-gaps}
use Rattle.tr_stream.proofs.OrderLemmas.{ring-few, ring-ordered}
use Rattle.tr_stream.proofs.stream.Stream.held_fate.Goals as goal
use Rattle.tr_stream.specs.State.{StreamState}

pub returns-in-Some : goal.returns-in-Some
returns-in-Some g c = held-part c.args.serial c.args.self.now c.in-Some.fate (search rules)

pub returns-in-Some-seq_cleared : goal.returns-in-Some-seq_cleared
returns-in-Some-seq_cleared g c =
    let s : StreamState = record {
      config = c.self.inside.config;
      ring = c.self.inside.ring;
      parts = c.self.inside.parts;
      counters = c.self.inside.counters;
      active = c.self.inside.active;
    } in
    let found = c.seq_cleared.ensures (runs-rise s c.self.invariant.history.0 c.self.invariant.history.1) in
    held-gone c.args.serial c.args.self.now c.in-Some-seq_cleared.seq (search rules) (search (rules, found))

pub returns-in-Some-seq_in_ring : goal.returns-in-Some-seq_in_ring
returns-in-Some-seq_in_ring g c =
    let s : StreamState = record {
      config = c.self.inside.config;
      ring = c.self.inside.ring;
      parts = c.self.inside.parts;
      counters = c.self.inside.counters;
      active = c.self.inside.active;
    } in
    let found = c.seq_cleared.ensures (runs-rise s c.self.invariant.history.0 c.self.invariant.history.1) in
    held-ring c.args.serial c.args.self.now (Some c.in-Some-seq_in_ring.seq) (search rules) (search (rules, found)) (search rules)

pub returns-in-None : goal.returns-in-None
returns-in-None g c =
    let s : StreamState = record {
      config = c.self.inside.config;
      ring = c.self.inside.ring;
      parts = c.self.inside.parts;
      counters = c.self.inside.counters;
      active = c.self.inside.active;
    } in
    let found = c.seq_cleared.ensures (runs-rise s c.self.invariant.history.0 c.self.invariant.history.1) in
    held-ring c.args.serial c.args.self.now None (search rules) (search (rules, found)) (search rules)

pub seq_in_ring-requires-clause-few : goal.seq_in_ring-requires-clause-few
seq_in_ring-requires-clause-few g c =
    let s : StreamState = record {
      config = c.self.inside.config;
      ring = c.self.inside.ring;
      parts = c.self.inside.parts;
      counters = c.self.inside.counters;
      active = c.self.inside.active;
    } in
    ring-few s c.self.invariant

pub seq_in_ring-requires-clause-rise : goal.seq_in_ring-requires-clause-rise
seq_in_ring-requires-clause-rise g c =
    let s : StreamState = record {
      config = c.self.inside.config;
      ring = c.self.inside.ring;
      parts = c.self.inside.parts;
      counters = c.self.inside.counters;
      active = c.self.inside.active;
    } in
    ring-ordered s c.self.invariant

pub seq_in_ring-requires-clause-gaps : goal.seq_in_ring-requires-clause-gaps
seq_in_ring-requires-clause-gaps g c =
    let s : StreamState = record {
      config = c.self.inside.config;
      ring = c.self.inside.ring;
      parts = c.self.inside.parts;
      counters = c.self.inside.counters;
      active = c.self.inside.active;
    } in
    ring-gaps s c.self.invariant
