use Rattle.std.proofs.Common.{rules, refl, ◌≤◌, ◌∙◌, ap, map, sym, arith}
use Rattle.std.proofs.lemmas.Grind.{common_steps}
use Rattle.std.proofs.lemmas.List.{length-map}
use Rattle.tr_stream.proofs.CallLemmas.{cut-fits, cut-told, cut-is, kept-cut_now}
use Rattle.tr_stream.proofs.SoundLemmas.{closing-is_packet}
use Rattle.tr_stream.proofs.stream.Stream.cut_ring.Goals as goal
use Rattle.tr_stream.specs.Chunks.{packet_of, ring_buffers}
use Rattle.tr_stream.specs.State.{StreamState}
use Rattle.tr_stream.specs.StateSteps.{cut_done, state_cut_ring}

pub cut_into_part-requires-clause-current : goal.cut_into_part-requires-clause-current
cut_into_part-requires-clause-current g c = λ used.
    let s : StreamState = record {
      config = c.self.inside.config;
      ring = c.self.inside.ring;
      parts = c.self.inside.parts;
      counters = c.self.inside.counters;
      active = c.self.inside.active;
    } in
    let later : s.counters.last ≤ c.args.end = search rules in
    closing-is_packet s c.args.end c.self.invariant.sound used later (omega arith)

pub cut_into_part-requires-clause-few : goal.cut_into_part-requires-clause-few
cut_into_part-requires-clause-few g c =
    let s : StreamState = record {
      config = c.self.inside.config;
      ring = c.self.inside.ring;
      parts = c.self.inside.parts;
      counters = c.self.inside.counters;
      active = c.self.inside.active;
    } in
    cut-fits s c.args.end (map (packet_of s.config) (ring_buffers c.args.end s.ring)) c.self.invariant refl

pub invariant_of-self-2 : goal.invariant_of-self-2
invariant_of-self-2 g c =
    let s : StreamState = record {
      config = c.self.inside.config;
      ring = c.self.inside.ring;
      parts = c.self.inside.parts;
      counters = c.self.inside.counters;
      active = c.self.inside.active;
    } in
    let later : s.counters.last ≤ c.args.end = search rules in
    kept-cut_now s c.args.end c.in_ring.result (map (packet_of s.config) (ring_buffers c.args.end s.ring)) c.cut_into_part.new.ring
    c.cut_into_part.new.parts c.note_consumed.new.self c.note_moment.new.self (search rules) c.self.invariant later (omega arith)
    refl (search rules) (search rules) (search rules) (search rules) (search rules)

pub returns-clause-answer : goal.returns-clause-answer
returns-clause-answer g c =
    let s : StreamState = record {
      config = c.self.inside.config;
      ring = c.self.inside.ring;
      parts = c.self.inside.parts;
      counters = c.self.inside.counters;
      active = c.self.inside.active;
    } in
    cut-told s c.args.end c.id.result c.used.result c.in_ring.result (map (packet_of s.config) (ring_buffers c.args.end s.ring))
    refl (search rules) (c.used.ensures.value c.args.end ∙ sym (length-map (ring_buffers c.args.end s.ring) (packet_of s.config)))
    (search rules)
    ∙ ap (cut_done c.args.end) c.self.view_is

pub returns-clause-ok : goal.returns-clause-ok
returns-clause-ok g c =
    let s : StreamState = record {
      config = c.self.inside.config;
      ring = c.self.inside.ring;
      parts = c.self.inside.parts;
      counters = c.self.inside.counters;
      active = c.self.inside.active;
    } in
    cut-is s c.args.end c.in_ring.result (map (packet_of s.config) (ring_buffers c.args.end s.ring)) c.cut_into_part.new.ring
    c.cut_into_part.new.parts c.note_consumed.new.self c.note_moment.new.self refl (search rules) (search rules)
    (search rules) (search rules) (search rules) ∙ ap (state_cut_ring c.args.end) c.self.view_is

pub invariant_of-self : goal.invariant_of-self
invariant_of-self g c = grind (arith, common_steps)
