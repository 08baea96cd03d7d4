use Rattle.std.proofs.Common.{◌≡◌, ◌+◌, ◌++◌, List, ℕ, drop, sym, ap, ◌∙◌, string_bytes, arith, rules}
use Rattle.std.proofs.lemmas.Grind.{common_steps}
use Rattle.tr_folders.specs.Tree.{by_text}
use Rattle.tr_survey.specs.Told.{text_of_lines}
use Rattle.tr_survey.proofs.PrefixLemmas.{at_err, front_cut, front_step, from_place}
use Rattle.tr_survey.proofs.writing.put_lines.Goals as goal

pub returns-in_err-put_line-clause-err : goal.returns-in_err-put_line-clause-err
returns-in_err-put_line-clause-err g c =
    let i = c.loop-line.line-index in
    let rest = text_of_lines (by_text (drop (i + 1) c.args.lines.now)) in
    let parts : text_of_lines (by_text (drop i c.args.lines.now)) ≡ c.as_str.result.now ++ rest =
    ap text_of_lines (from_place string_bytes c.args.lines.now i c.line-item.result c.loop-line-test.true c.line-item.is)
    ∙ ap (λ (l : List ℕ). l ++ rest) (sym c.as_str.ensures.value) in
    at_err c.from_residual.result
    (c.loop-line.invariant.front _ (front_cut _ c.as_str.result.now rest _ _ parts c.in_err-put_line.ensures.err))

pub loop-line-preserved : goal.loop-line-preserved
loop-line-preserved g c =
    let i = c.loop-line.line-index in
    let rest = text_of_lines (by_text (drop (i + 1) c.args.lines.now)) in
    let parts : text_of_lines (by_text (drop i c.args.lines.now)) ≡ c.as_str.result.now ++ rest =
    ap text_of_lines (from_place string_bytes c.args.lines.now i c.line-item.result c.loop-line-test.true c.line-item.is)
    ∙ ap (λ (l : List ℕ). l ++ rest) (sym c.as_str.ensures.value) in
    record {
      failures = search rules;
      taken = grind (arith, common_steps);
      front = λ now front.
          c.loop-line.invariant.front now (front_step _ c.as_str.result.now rest _ _ now parts c.in_ok-put_line.ensures.ok front);
    }

pub returns-clause-ok : goal.returns-clause-ok
returns-clause-ok g c = grind (arith, common_steps)

pub returns-in_err-put_line-clause-writes : goal.returns-in_err-put_line-clause-writes
returns-in_err-put_line-clause-writes g c = grind (arith, common_steps)
