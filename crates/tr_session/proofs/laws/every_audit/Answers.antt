use Rattle.tr_session.proofs.AuditLemmas.{passes, packets-are, packets-left, last-is, gaps-removed, gaps-within}
use Rattle.tr_session.proofs.PrefixLemmas.{front-gaps, front-left, front-packets, front-passes}
use Rattle.tr_session.proofs.laws.every_audit.Goals as goal

pub returns : goal.returns
returns g c = record {
  passes = passes;
  left = packets-left;
  packets = packets-are;
  last = last-is _;
  gaps_of_histories = gaps-within g.row.A.Denot;
  gaps = gaps-removed;
  first_pass = front-passes;
  first_left = front-left;
  first_packets = front-packets;
  first_gaps = front-gaps g.row.A.Denot;
}
