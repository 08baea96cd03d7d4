use Rattle.std.proofs.Common.{rules, ◌≡◌, [], List, ℕ, Ok, Result, sym, ap, ◌∙◌, append-nil}
use Rattle.tr_packet.specs.Decoding.{Begins}
use Rattle.tr_packet.specs.Packets.{Contents, contents, packet_text, packet_size}
use Rattle.tr_packet.specs.declared.faults.PacketFault.{PacketFault}
use Rattle.tr_packet.specs.declared.head.Head.{Head}
use Rattle.tr_record.specs.Records.{Entry}
use Rattle.tr_inner_tests.proofs.packing.text_of.Goals as goal

read_is : (x y : Contents × ℕ) (answer : Result (Contents × ℕ) PacketFault) → answer ≡ Ok x → answer ≡ Ok y → y.0 ≡ x.0
read_is x y answer first second = let same : y ≡ x = cc in ap (λ (z : Contents × ℕ). z.0) same

pub returns : goal.returns
returns g c =
    let p = c.args.packet.now in
    let view = c.expect-view.result.0 in
    let bytes : c.deref.result.now ≡ packet_text p = search rules in
    let begins : Begins p [] c.deref.result.now = record { packet = c.head-2.ensures.packet; parts = bytes ∙ sym (append-nil (packet_text p)) } in
    let read : view ≡ p =
    read_is (p, packet_size p) c.expect-view.result c.decode_packet.result (c.decode_packet.ensures.only p [] begins) c.expect-view.ensures in
    let written : c.expect.result ≡ contents c.head-3.result c.records.result = search rules in
    written ∙ ap (λ (h : Head). contents h c.records.result) c.head-3.ensures.value
    ∙ ap (λ (es : List Entry). contents view.head es) c.records.ensures.value ∙ read
