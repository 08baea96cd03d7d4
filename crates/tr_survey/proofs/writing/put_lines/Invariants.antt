use Rattle.std.proofs.Common.{◌≡◌, ℕ, List, Option, drop}
use Rattle.tr_folders.specs.Tree.{by_text}
use Rattle.tr_record.specs.Bytes.{and_then_bytes}
use Rattle.tr_survey.specs.Prefix.{IsPrefixOut}
use Rattle.tr_survey.specs.Told.{text_of_lines}
use Rattle.tr_survey.proofs.writing.put_lines.Given as goal

abbrev pub invariant-loop-line : goal.invariant-loop-line
invariant-loop-line g l = record {
  failures : g.K.ByteSink.failures l.sink ≡ g.K.ByteSink.failures l.initial.sink;
  taken : and_then_bytes (g.K.ByteSink.taken l.sink) (text_of_lines (by_text (drop l.line-index l.lines)))
      ≡ and_then_bytes (g.K.ByteSink.taken l.initial.sink) (text_of_lines (by_text l.lines));
  front : (now : Option (List ℕ)) → IsPrefixOut (text_of_lines (by_text (drop l.line-index l.lines))) (g.K.ByteSink.taken l.sink) now
      → IsPrefixOut (text_of_lines (by_text l.lines)) (g.K.ByteSink.taken l.initial.sink) now;
}
