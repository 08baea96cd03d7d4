use Rattle.std.specs.String.{string_bytes}
use Rattle.tr_packet.proofs.MetadataLemmas.{three_if_ok}
use Rattle.tr_events.proofs.words.push_labels.Goals as goal

pub returns : goal.returns
returns g c =
    three_if_ok c.push.result (string_bytes c.args.text.now) _ _ _ (string_bytes c.push_label_first.new.text) (string_bytes c.push_label_rests.new.text)
    (string_bytes c.push.new.text) c.in_ok-push_label_first.ensures c.in_ok-push_label_rests.ensures c.push.ensures
