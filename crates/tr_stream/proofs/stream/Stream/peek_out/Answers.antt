use Rattle.std.proofs.Common.{rules, ◌≤◌, arith}
use Rattle.tr_stream.proofs.LookLemmas.{look-some, on-err}
use Rattle.tr_stream.proofs.SoundLemmas.{closing-is_packet}
use Rattle.tr_stream.proofs.stream.Stream.peek_out.Goals as goal
use Rattle.tr_stream.specs.State.{StreamState}

pub packets_out-requires-clause-current : goal.packets_out-requires-clause-current
packets_out-requires-clause-current g c = λ used.
    let s : StreamState = record {
      config = c.self.inside.config;
      ring = c.self.inside.ring;
      parts = c.self.inside.parts;
      counters = c.self.inside.counters;
      active = c.self.inside.active;
    } in
    let later : s.counters.last ≤ c.stored_moment-end.result = search rules in
    closing-is_packet s c.stored_moment-end.result c.self.invariant.sound used later (omega arith)

pub returns-in_err-packets-clause-memory : goal.returns-in_err-packets-clause-memory
returns-in_err-packets-clause-memory g c =
    let s : StreamState = record {
      config = c.self.inside.config;
      ring = c.self.inside.ring;
      parts = c.self.inside.parts;
      counters = c.self.inside.counters;
      active = c.self.inside.active;
    } in
    on-err c.from_residual.result
    (look-some s c.args.self.now c.args.moment c.stored_moment-end.result c.self.view_is (search rules)
    c.in_err-packets.ensures.memory)
