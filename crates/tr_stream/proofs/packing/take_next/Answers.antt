use Rattle.std.proofs.Common.{◌≡◌, Some, slice_get, subst, sym, ◌∙◌}
use Rattle.tr_packet.specs.Packets.{IsPacket}
use Rattle.tr_ring.specs.Ring.{RingState}
use Rattle.tr_stream.proofs.PageLemmas.{first-packet, given-packet, given-page, rest-packets}
use Rattle.tr_stream.proofs.packing.take_next.Goals as goal
use Rattle.tr_stream.specs.Sound.{ArePackets}

pub into_packet-requires : goal.into_packet-requires
into_packet-requires g c =
    let ring = c.args.ring.now in
    let first : slice_get ring.waiting 0 ≡ Some c.in-Some.oldest = sym c.front.ensures ∙ c.in-Some.is in
    let page = given-page ring.origin ring.size ring.waiting c.in-Some.oldest c.take_front-page.result first c.take_front-page.ensures.page in
    subst IsPacket (sym (given-packet c.args.config.now c.in-Some.oldest c.head_of-head.result ring.origin ring.size c.take_front-page.result c.head_of-head.ensures page))
    (first-packet c.args.config.now ring.waiting c.in-Some.oldest first c.requires.packets)

pub returns-clause-left : goal.returns-clause-left
returns-clause-left g c =
    subst (λ (r : RingState). ArePackets c.args.config.now r.waiting) (sym c.take_front-page.ensures.after)
    (rest-packets c.args.config.now c.args.ring.now.waiting c.requires.packets)
