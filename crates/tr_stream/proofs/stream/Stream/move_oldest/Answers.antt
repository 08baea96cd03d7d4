use Rattle.std.proofs.Common.{rules, ◌≡◌, ◌∙◌, Some, ap, slice_get, sym, arith}
use Rattle.std.proofs.lemmas.Grind.{common_steps}
use Rattle.tr_stream.proofs.CallLemmas.{oldest-is_packet, oldest-fits, moved-local, kept-moved}
use Rattle.tr_stream.proofs.stream.Stream.move_oldest.Goals as goal
use Rattle.tr_stream.specs.State.{StreamState}
use Rattle.tr_stream.specs.StateSteps.{state_after_take}

pub move_to_part-requires-clause-packet : goal.move_to_part-requires-clause-packet
move_to_part-requires-clause-packet g c = λ b first.
    let s : StreamState = record {
      config = c.self.inside.config;
      ring = c.self.inside.ring;
      parts = c.self.inside.parts;
      counters = c.self.inside.counters;
      active = c.self.inside.active;
    } in
    oldest-is_packet s b c.self.invariant first

pub move_to_part-requires-clause-few : goal.move_to_part-requires-clause-few
move_to_part-requires-clause-few g c = λ b first.
    let s : StreamState = record {
      config = c.self.inside.config;
      ring = c.self.inside.ring;
      parts = c.self.inside.parts;
      counters = c.self.inside.counters;
      active = c.self.inside.active;
    } in
    oldest-fits s b c.self.invariant first

pub invariant_of-self-2 : goal.invariant_of-self-2
invariant_of-self-2 g c =
    let s : StreamState = record {
      config = c.self.inside.config;
      ring = c.self.inside.ring;
      parts = c.self.inside.parts;
      counters = c.self.inside.counters;
      active = c.self.inside.active;
    } in
    let first : slice_get s.ring.waiting 0 ≡ Some c.in-Some.oldest = sym (search rules) in
    kept-moved s c.in-Some.oldest c.move_to_part.new.ring c.move_to_part.new.parts c.note_consumed.new.self (search rules)
    c.self.invariant first c.in_ok-move_to_part.ensures.ring (c.in_ok-move_to_part.ensures.parts c.in-Some.oldest first) (search rules)

pub returns-clause-ok : goal.returns-clause-ok
returns-clause-ok g c =
    let s : StreamState = record {
      config = c.self.inside.config;
      ring = c.self.inside.ring;
      parts = c.self.inside.parts;
      counters = c.self.inside.counters;
      active = c.self.inside.active;
    } in
    let first : slice_get s.ring.waiting 0 ≡ Some c.in-Some.oldest = sym (search rules) in
    moved-local s c.in-Some.oldest c.move_to_part.new.ring c.move_to_part.new.parts c.note_consumed.new.self (search rules)
    first c.in_ok-move_to_part.ensures.ring (c.in_ok-move_to_part.ensures.parts c.in-Some.oldest first) (search rules)
    ∙ ap state_after_take c.self.view_is

pub invariant_of-self : goal.invariant_of-self
invariant_of-self g c = grind (arith, common_steps)

pub note_consumed-requires : goal.note_consumed-requires
note_consumed-requires g c = grind (arith, common_steps)
