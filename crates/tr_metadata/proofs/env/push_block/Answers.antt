use Rattle.std.specs.String.{string_bytes}
use Rattle.tr_packet.proofs.MetadataLemmas.{three_if_ok}
use Rattle.tr_metadata.proofs.env.push_block.Goals as goal

pub returns : goal.returns
returns g c =
    three_if_ok c.push-2.result (string_bytes c.args.text.now) _ _ _ (string_bytes c.push.new.text) (string_bytes c.push_variables.new.text)
    (string_bytes c.push-2.new.text) c.in_ok-push.ensures c.in_ok-push_variables.ensures c.push-2.ensures
