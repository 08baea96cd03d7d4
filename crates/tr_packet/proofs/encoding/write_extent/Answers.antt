use Rattle.std.proofs.Common.{rules, ◌≡◌, ℕ, List, ◌++◌, ap, ◌∙◌, drop}
use Rattle.std.specs.Int.{w64, to_le_bytes}
use Rattle.std.proofs.lemmas.List.{drop-drop}
use Rattle.tr_packet.specs.Stores.{with_extent}
use Rattle.tr_packet.proofs.StoreLemmas.{three_parts}
use Rattle.tr_packet.proofs.encoding.write_extent.Goals as goal

pub returns : goal.returns
returns c =
    let old = c.args.bytes.now in
    let fields : c.copy_from_slice.new.self ≡ to_le_bytes w64 c.args.end ++ (to_le_bytes w64 c.args.bits ++ to_le_bytes w64 c.args.bits) = search rules in
    three_parts c.split_at_mut-rest.ensures.front fields
    (c.split_at_mut-fields.ensures.back ∙ ap (drop 24) c.split_at_mut-rest.ensures.back ∙ drop-drop 24 40 old)
