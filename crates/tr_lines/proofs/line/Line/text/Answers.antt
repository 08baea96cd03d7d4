use Rattle.std.proofs.Common.{sym, subst}
use Rattle.std.specs.Str.{IsUtf8}
use Rattle.tr_lines.proofs.LineLemmas.{printable_is_text}
use Rattle.tr_lines.proofs.line.Line.text.Goals as goal

pub from_utf8_unchecked-requires : goal.from_utf8_unchecked-requires
from_utf8_unchecked-requires g c =
    subst IsUtf8 (sym c.as_slice.ensures.value) (printable_is_text c.self.inside.text.items c.self.invariant.0)
