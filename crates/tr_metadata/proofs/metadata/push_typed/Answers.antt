use Rattle.std.specs.String.{string_bytes}
use Rattle.tr_packet.proofs.MetadataLemmas.{three_if_ok}
use Rattle.tr_metadata.proofs.metadata.push_typed.Goals as goal

pub returns : goal.returns
returns g c =
    three_if_ok c.push_back.result (string_bytes c.args.text.now) _ _ _ (string_bytes c.push_front.new.text) (string_bytes c.push_middle.new.text)
    (string_bytes c.push_back.new.text) c.in_ok-push_front.ensures c.in_ok-push_middle.ensures c.push_back.ensures
