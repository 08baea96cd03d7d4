use Rattle.std.proofs.Common.{◌∙◌, arith, sym}
use Rattle.tr_image.proofs.MemoryLemmas.{content_told, nothing_stands}
use Rattle.tr_image.proofs.image.packet_at.Goals as goal

pub returns-in_default : goal.returns-in_default
returns-in_default c =
    sym (nothing_stands c.args.uuid.now c.args.memory.now (λ i. omega (arith, c.type_inv.memory i)) c.in_default.ensures.none)

pub packet_of-requires : goal.packet_of-requires
packet_of-requires c =
    let told =
    content_told c.args.uuid.now c.args.memory.now c.in_ok-bytes.bytes.items c.commit.new.bytes.items c.in-Some.bits
    (λ i. omega (arith, c.type_inv.memory i)) c.in-Some.ensures.bits c.in-Some.ensures.low c.in-Some.ensures.there
    (c.in_ok-bytes.ensures.items_if_clones_equal (λ x y e. e) ∙ c.split_at.ensures.front) c.commit.ensures in
    record { size = told.0; small = told.1 }

pub returns : goal.returns
returns c =
    c.packet_of.ensures
    ∙ (content_told c.args.uuid.now c.args.memory.now c.in_ok-bytes.bytes.items c.commit.new.bytes.items c.in-Some.bits
    (λ i. omega (arith, c.type_inv.memory i)) c.in-Some.ensures.bits c.in-Some.ensures.low c.in-Some.ensures.there
    (c.in_ok-bytes.ensures.items_if_clones_equal (λ x y e. e) ∙ c.split_at.ensures.front) c.commit.ensures).2
