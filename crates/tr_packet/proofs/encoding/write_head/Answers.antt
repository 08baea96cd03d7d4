use Rattle.std.proofs.Common.{rules, ◌≡◌, ◌++◌, ap, ◌∙◌, List, ℕ, drop, arith}
use Rattle.std.proofs.lemmas.List.{drop-drop}
use Rattle.tr_packet.specs.Packets.{header_text, context_text}
use Rattle.tr_packet.proofs.TextLemmas.{head_over}
use Rattle.tr_packet.proofs.encoding.write_head.Goals as goal
use Rattle.tr_terms.specs.declared.limits.TheConstants.{PACKET_HEADER}

pub returns : goal.returns
returns c =
    let old = c.args.bytes.now in
    let tail : c.split_at_mut-numbers.result.1.now ≡ drop PACKET_HEADER old =
    c.split_at_mut-numbers.ensures.back ∙ ap (drop 60) (c.split_at_mut-uuid.ensures.back ∙ ap (drop 16) c.split_at_mut-magic.ensures.back)
    ∙ ap (drop 60) (drop-drop 16 4 old) ∙ drop-drop 60 20 old in
    head_over c.args.head.now c.args.bits (c.copy_from_slice.new.self ++ (c.copy_from_slice-2.new.self ++ (c.copy_from_slice-3.new.self ++ c.split_at_mut-numbers.result.1.now)))
    c.split_at_mut-numbers.result.1.now c.copy_from_slice-2.new.self c.copy_from_slice-3.new.self
    (c.copy_from_slice-2.ensures.after ∙ c.as_bytes.ensures) (c.copy_from_slice-3.ensures.after ∙ c.numbers_of.ensures)
    (ap (λ (t : List ℕ). t ++ (c.copy_from_slice-2.new.self ++ (c.copy_from_slice-3.new.self ++ c.split_at_mut-numbers.result.1.now))) c.copy_from_slice.ensures.after)
    ∙ ap (λ (t : List ℕ). (header_text c.args.head.now ++ context_text c.args.head.now c.args.bits) ++ t) tail
