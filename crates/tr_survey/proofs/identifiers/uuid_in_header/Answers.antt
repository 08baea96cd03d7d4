use Rattle.tr_survey.proofs.IdentifierLemmas.{short_header}
use Rattle.tr_survey.proofs.identifiers.uuid_in_header.Goals as goal

pub returns-then-bytes-lt-PACKET_HEADER : goal.returns-then-bytes-lt-PACKET_HEADER
returns-then-bytes-lt-PACKET_HEADER c = short_header c.args.bytes.now c.if-bytes-lt-PACKET_HEADER.true
