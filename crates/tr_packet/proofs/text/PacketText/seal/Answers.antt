use Rattle.std.proofs.Common.{rules, ◌≡◌, ◌*◌, ◌++◌, List, ℕ, ap, drop, length, sym, subst, take, ◌∙◌, arith}
use Rattle.std.proofs.lemmas.List.{take_at}
use Rattle.tr_packet.specs.Packets.{Contents, header_text, context_text}
use Rattle.tr_packet.specs.Texts.{IsTextOf, packet_in}
use Rattle.tr_packet.proofs.SealLemmas.{sealed, sealed_small}
use Rattle.tr_packet.proofs.text.PacketText.seal.Goals as goal
use Rattle.tr_terms.specs.declared.limits.TheConstants.{PACKET_HEADER}

pub overflow_mul-size : goal.overflow_mul-size
overflow_mul-size g c =
    let long : length c.args.bytes.items ≡ c.args.bytes.len = sym (ap length c.deref_mut.ensures.value) ∙ c.deref_mut.ensures.len in
    omega (
      arith,
      long,
      c.len-size.ensures,
      c.requires.packet.records.small,
      sealed_small c.args.head c.args.bytes.items c.requires.room c.requires.packet c.requires.whole,
    )

pub invariant_of-result : goal.invariant_of-result
invariant_of-result g c =
    let bytes = c.args.bytes.items in
    let out = c.write_head.new.bytes in
    let long : length bytes ≡ c.args.bytes.len = sym (ap length c.deref_mut.ensures.value) ∙ c.deref_mut.ensures.len in
    let same : length out ≡ c.args.bytes.len = search rules in
    let all : take c.args.bytes.len (out ++ drop (length out) bytes) ≡ out = take_at out (drop (length out) bytes) c.args.bytes.len same in
    let written : out ≡ (header_text c.args.head ++ context_text c.args.head (8 * length bytes)) ++ drop PACKET_HEADER bytes =
    c.write_head.ensures ∙ ap (λ (n : ℕ). (header_text c.args.head ++ context_text c.args.head (8 * n)) ++ drop PACKET_HEADER c.deref_mut.result.now) (c.len-size.ensures ∙ sym long)
    ∙ ap (λ (t : List ℕ). (header_text c.args.head ++ context_text c.args.head (8 * length bytes)) ++ drop PACKET_HEADER t) c.deref_mut.ensures.value in
    subst (IsTextOf c.args.head c.args.count) (sym all)
    (sealed c.args.head c.args.count bytes out c.requires.room c.requires.packet c.requires.whole c.requires.count written).0

pub returns : goal.returns
returns g c =
    let bytes = c.args.bytes.items in
    let out = c.write_head.new.bytes in
    let long : length bytes ≡ c.args.bytes.len = sym (ap length c.deref_mut.ensures.value) ∙ c.deref_mut.ensures.len in
    let same : length out ≡ c.args.bytes.len = search rules in
    let all : take c.args.bytes.len (out ++ drop (length out) bytes) ≡ out = take_at out (drop (length out) bytes) c.args.bytes.len same in
    let written : out ≡ (header_text c.args.head ++ context_text c.args.head (8 * length bytes)) ++ drop PACKET_HEADER bytes =
    c.write_head.ensures ∙ ap (λ (n : ℕ). (header_text c.args.head ++ context_text c.args.head (8 * n)) ++ drop PACKET_HEADER c.deref_mut.result.now) (c.len-size.ensures ∙ sym long)
    ∙ ap (λ (t : List ℕ). (header_text c.args.head ++ context_text c.args.head (8 * length bytes)) ++ drop PACKET_HEADER t) c.deref_mut.ensures.value in
    ap (packet_in c.args.head) all
    ∙ (sealed c.args.head c.args.count bytes out c.requires.room c.requires.packet c.requires.whole c.requires.count written).1
