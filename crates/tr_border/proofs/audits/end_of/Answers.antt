use Rattle.std.proofs.Common.{ap, ◌∙◌}
use Rattle.tr_border.specs.Audits.{audited_out}
use Rattle.tr_border.proofs.audits.end_of.Goals as goal

pub returns-in-Ok-clause-found : goal.returns-in-Ok-clause-found
returns-in-Ok-clause-found c = record {
  found = λ uuid stream done piece read.
      let packets = c.in-Ok.ensures.found uuid stream done piece read in
      (packets.0, packets.1, c.audited_out.ensures ∙ ap audited_out packets.2);
}
