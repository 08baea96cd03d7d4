use Rattle.std.proofs.Common.{rules, ◌≡◌, ◌≢◌, length, arith}
use Rattle.std.proofs.lemmas.Grind.{common_steps}
use Rattle.tr_stream.proofs.CallLemmas.{packed-waiting, packed-all}
use Rattle.tr_stream.proofs.LookLemmas.{on-err}
use Rattle.tr_stream.proofs.PageLemmas.{some-buffers}
use Rattle.tr_stream.proofs.packing.ring_packets.Goals as goal

pub returns-then-is_empty-2-clause-packets : goal.returns-then-is_empty-2-clause-packets
returns-then-is_empty-2-clause-packets g c =
    let none : length c.args.ring.now.current ≡ 0 = search rules in
    packed-waiting c.args.config c.args.ring.now c.args.end c.in_ok-packets.packets.items c.in_ok-packets.ensures none

pub returns-clause-packets : goal.returns-clause-packets
returns-clause-packets g c =
    let some : length c.args.ring.now.current ≢ 0 = search rules in
    packed-all c.args.config c.args.ring.now c.args.end c.in_ok-packets.packets.items c.push.new.self.items c.in_ok-copy_current.field-0
    c.in_ok-packets.ensures some c.in_ok-copy_current.ensures c.in_ok-push.ensures.items

pub returns-then-is_empty-clause-packets : goal.returns-then-is_empty-clause-packets
returns-then-is_empty-clause-packets g c = grind (arith, common_steps)

pub returns-in_err-packets-clause-memory : goal.returns-in_err-packets-clause-memory
returns-in_err-packets-clause-memory g c = grind (arith, common_steps)

pub returns-in_err-push-clause-memory : goal.returns-in_err-push-clause-memory
returns-in_err-push-clause-memory g c =
    let some : length c.args.ring.now.current ≢ 0 = search rules in
    on-err c.from_residual-in_err-push.result (some-buffers c.args.ring.now c.args.end some)
