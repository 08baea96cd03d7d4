use Rattle.std.proofs.Common.{rules, ◌≡◌, ◌+◌, ◌∙◌, ap, arith}
use Rattle.tr_stream.proofs.CallLemmas.{clear-is, clear-packets, clear-told, kept-clear_now}
use Rattle.tr_stream.proofs.GapLemmas.{current-gaps, ring-gaps}
use Rattle.tr_stream.proofs.stream.Stream.clear_ring.Goals as goal
use Rattle.tr_book.specs.Parts.{part_packets}
use Rattle.tr_stream.specs.State.{StreamState}
use Rattle.tr_stream.specs.StateSteps.{state_cleared, state_clear_ring}

pub overflow_add-cleared : goal.overflow_add-cleared
overflow_add-cleared g c =
    let s : StreamState = record {
      config = c.self.inside.config;
      ring = c.self.inside.ring;
      parts = c.self.inside.parts;
      counters = c.self.inside.counters;
      active = c.self.inside.active;
    } in
    let len_is : c.packet_count.result ≡ part_packets s.parts.current = search rules in
    omega (arith, len_is, clear-packets s c.used.result c.self.invariant c.used.ensures.few)

pub invariant_of-self-2 : goal.invariant_of-self-2
invariant_of-self-2 g c =
    let s : StreamState = record {
      config = c.self.inside.config;
      ring = c.self.inside.ring;
      parts = c.self.inside.parts;
      counters = c.self.inside.counters;
      active = c.self.inside.active;
    } in
    kept-clear_now s c.in_ok-runs.runs (c.records-consumed.result + c.in_ring.result) c.records-consumed.result
    c.clear.new.self c.clear_out.new.self c.note_cleared.new.self (search rules) c.self.invariant c.in_ok-runs.ensures
    (search rules) (search rules) (search rules) (search rules) (search rules)

pub returns-clause-answer : goal.returns-clause-answer
returns-clause-answer g c =
    let s : StreamState = record {
      config = c.self.inside.config;
      ring = c.self.inside.ring;
      parts = c.self.inside.parts;
      counters = c.self.inside.counters;
      active = c.self.inside.active;
    } in
    clear-told s c.packet_count.result c.used.result c.records-consumed.result c.in_ring.result (search rules)
    c.used.ensures.value (search rules) (search rules)
    ∙ ap state_cleared c.self.view_is

pub returns-clause-ok : goal.returns-clause-ok
returns-clause-ok g c =
    let s : StreamState = record {
      config = c.self.inside.config;
      ring = c.self.inside.ring;
      parts = c.self.inside.parts;
      counters = c.self.inside.counters;
      active = c.self.inside.active;
    } in
    clear-is s c.in_ok-runs.runs (c.records-consumed.result + c.in_ring.result) c.records-consumed.result
    c.clear.new.self c.clear_out.new.self c.note_cleared.new.self c.in_ok-runs.ensures (search rules) (search rules)
    (search rules) (search rules) (search rules) ∙ ap state_clear_ring c.self.view_is

pub ring_runs-requires : goal.ring_runs-requires
ring_runs-requires g c =
    let s : StreamState = record {
      config = c.self.inside.config;
      ring = c.self.inside.ring;
      parts = c.self.inside.parts;
      counters = c.self.inside.counters;
      active = c.self.inside.active;
    } in
    ring-gaps s c.self.invariant

pub clear_out-requires : goal.clear_out-requires
clear_out-requires g c =
    let s : StreamState = record {
      config = c.self.inside.config;
      ring = c.self.inside.ring;
      parts = c.self.inside.parts;
      counters = c.self.inside.counters;
      active = c.self.inside.active;
    } in
    current-gaps s c.self.invariant
