use Rattle.std.specs.String.{string_bytes}
use Rattle.tr_packet.proofs.MetadataLemmas.{three_if_ok}
use Rattle.tr_metadata.proofs.classes.push_enum.Goals as goal

pub returns : goal.returns
returns g c =
    three_if_ok c.push.result (string_bytes c.args.text.now) _ _ _ (string_bytes c.push_label_text.new.text) (string_bytes c.push_label_text_rests.new.text)
    (string_bytes c.push.new.text) c.in_ok-push_label_text.ensures c.in_ok-push_label_text_rests.ensures c.push.ensures
