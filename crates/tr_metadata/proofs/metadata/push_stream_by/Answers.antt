use Rattle.std.specs.String.{string_bytes}
use Rattle.tr_packet.proofs.MetadataLemmas.{three_if_ok}
use Rattle.tr_metadata.proofs.metadata.push_stream_by.Goals as goal

pub returns : goal.returns
returns g c =
    three_if_ok c.push-2.result (string_bytes c.args.text.now) _ _ _ (string_bytes c.push.new.text) (string_bytes c.push_ranges.new.text)
    (string_bytes c.push-2.new.text) c.in_ok-push.ensures c.in_ok-push_ranges.ensures c.push-2.ensures
