use Rattle.tr_packet.proofs.LawLemmas.{one_in_front, none_begins_another}
use Rattle.tr_packet.proofs.laws.texts_are_prefix_free.Goals as goal

pub returns-clause-prefix_free : goal.returns-clause-prefix_free
returns-clause-prefix_free c = none_begins_another

pub returns-clause-one_packet : goal.returns-clause-one_packet
returns-clause-one_packet c = one_in_front
