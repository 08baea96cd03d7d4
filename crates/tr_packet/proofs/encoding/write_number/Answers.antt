use Rattle.std.proofs.Common.{◌≡◌, ℕ, List, ◌++◌, ap, ◌∙◌, drop}
use Rattle.std.proofs.lemmas.List.{drop-drop}
use Rattle.tr_packet.specs.Stores.{with_number}
use Rattle.tr_packet.proofs.StoreLemmas.{three_parts}
use Rattle.tr_packet.proofs.encoding.write_number.Goals as goal

pub returns : goal.returns
returns c =
    let old = c.args.bytes.now in
    three_parts c.split_at_mut-rest.ensures.front (c.copy_from_slice.ensures.after ∙ c.to_le_bytes.ensures)
    (c.split_at_mut-field.ensures.back ∙ ap (drop 8) c.split_at_mut-rest.ensures.back ∙ drop-drop 8 c.args.at old)
