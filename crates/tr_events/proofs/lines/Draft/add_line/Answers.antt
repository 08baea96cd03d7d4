use Rattle.std.proofs.Common.{sym}
use Rattle.tr_lines.proofs.LineLemmas.{printable_is_text}
use Rattle.tr_events.proofs.lines.Draft.add_line.Goals as goal

pub returns-in_default : goal.returns-in_default
returns-in_default c = absurd (c.in_default.ensures.cases.0 (printable_is_text c.args.line.now (sym c.if-not-has_only_printable.ensures)))
