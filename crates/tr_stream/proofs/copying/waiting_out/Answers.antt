use Rattle.std.proofs.Common.{◌≡◌, ◌+◌, ◌∙◌, ◌∷◌, ◌++◌, [], List, Some, ap, arith, map, slice_get, subst, sym}
use Rattle.std.proofs.lemmas.List.{take_all}
use Rattle.tr_packet.specs.Packets.{Contents, IsPacket}
use Rattle.tr_ring.specs.ClosedBuffer.{ClosedBuffer}
use Rattle.tr_ring.specs.Ring.{RingState}
use Rattle.tr_stream.proofs.CopyLemmas.{packet-at, packet-by, packets-next}
use Rattle.tr_stream.proofs.copying.waiting_out.Goals as goal
use Rattle.tr_stream.specs.Chunks.{packet_of}

pub copied_out-requires-clause-packet : goal.copied_out-requires-clause-packet
copied_out-requires-clause-packet g c = λ b there.
    let at : slice_get c.args.ring.now.waiting c.loop-i.i ≡ Some b =
    ap (λ (r : RingState). slice_get r.waiting c.loop-i.i) (sym c.loop-i.invariant.1) ∙ there in
    let same : c.in-Some.buffer ≡ b = cc in
    let head = c.head_of-head.ensures ∙ ap (λ (x : ClosedBuffer). (packet_of c.args.config.now x).head) same in
    subst IsPacket (sym (packet-by c.args.config.now b c.head_of-head.result head))
    (packet-at c.args.config.now c.args.ring.now.waiting c.loop-i.i b at c.requires)

pub loop-i-preserved : goal.loop-i-preserved
loop-i-preserved g c =
    let found : slice_get c.loop-i.ring.waiting c.loop-i.i ≡ Some c.in-Some.buffer = sym c.item.ensures ∙ c.in-Some.is in
    let at : slice_get c.args.ring.now.waiting c.loop-i.i ≡ Some c.in-Some.buffer =
    ap (λ (r : RingState). slice_get r.waiting c.loop-i.i) (sym c.loop-i.invariant.1) ∙ found in
    let copied = c.in_ok-copied_out.ensures.packet c.in-Some.buffer found
    ∙ packet-by c.args.config.now c.in-Some.buffer c.head_of-head.result c.head_of-head.ensures in (
      c.in_ok-push.ensures.items ∙ ap (λ (ps : List Contents). ps ++ c.in_ok-copied_out.field-0 ∷ []) c.loop-i.invariant.0
          ∙ packets-next c.args.config.now c.args.ring.now.waiting c.loop-i.i (c.loop-i.i + 1) c.in-Some.buffer c.in_ok-copied_out.field-0
          at copied (omega arith),
      c.in_ok-copied_out.ensures.same ∙ c.loop-i.invariant.1,
    )

pub returns-clause-packets : goal.returns-clause-packets
returns-clause-packets g c =
    c.loop-i.invariant.0 ∙ ap (map (packet_of c.args.config.now))
    (take_all c.loop-i.i c.args.ring.now.waiting (omega (arith, c.loop-i-test.false, c.waiting-i-end.ensures.count)))
