use Rattle.std.proofs.Common.{rules, ◌≡◌, ◌≢◌, List, ◌++◌, length, map, ap, ◌∙◌}
use Rattle.tr_packet.specs.Packets.{Contents, contents}
use Rattle.tr_packet.specs.declared.head.Head.{Head}
use Rattle.tr_ring.specs.Ring.{closed_current, current_buffer, take_current}
use Rattle.tr_stream.proofs.CallLemmas.{packed-all}
use Rattle.tr_stream.proofs.PageLemmas.{taken-clear}
use Rattle.tr_stream.proofs.packing.take_all.Goals as goal
use Rattle.tr_stream.specs.Chunks.{packet_of}
use Rattle.tr_subbuf.specs.SubBuffer.{SubBuffer}

pub returns-clause-packets : goal.returns-clause-packets
returns-clause-packets g c =
    let ring = c.args.ring.now in
    let some : length ring.current ≢ 0 = search rules in
    let page : c.take_current-page.result ≡ current_buffer ring =
    c.take_current-page.ensures.page ∙ ap current_buffer c.take_waiting-2.ensures.ring in
    let last : c.into_packet.result ≡ packet_of c.args.config.now (closed_current c.args.end ring) =
    c.into_packet.ensures
    ∙ ap (λ (b : SubBuffer). contents c.head_of_current-head.result b.records) page
    ∙ ap (λ (h : Head). contents h ring.current) c.head_of_current-head.ensures in
    let waiting : c.take_waiting-2.new.packets.items ≡ map (packet_of c.args.config.now) ring.waiting =
    c.take_waiting-2.ensures.packets
    ∙ ap (λ (ps : List Contents). ps ++ map (packet_of c.args.config.now) ring.waiting) c.in_ok-packets-2.ensures.items in
    packed-all c.args.config.now ring c.args.end c.take_waiting-2.new.packets.items c.push_reserved-2.new.self.items c.into_packet.result
    waiting some last c.push_reserved-2.ensures.items

pub returns-clause-ok : goal.returns-clause-ok
returns-clause-ok g c =
    let some : length c.args.ring.now.current ≢ 0 = search rules in
    c.take_current-page.ensures.after ∙ ap take_current c.take_waiting-2.ensures.ring ∙ taken-clear c.args.ring.now some
