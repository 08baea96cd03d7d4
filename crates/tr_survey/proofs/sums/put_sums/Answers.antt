use Rattle.std.proofs.Common.{◌≡◌, ◌+◌, ◌<◌, ◌≤◌, ◌++◌, drop, length, map, sym, ap, ◌∙◌, arith, rules}
use Rattle.std.proofs.lemmas.Grind.{common_steps}
use Rattle.tr_record.specs.Bytes.{and_then_bytes}
use Rattle.tr_record.proofs.ByteLemmas.{and_then_bytes-none}
use Rattle.tr_survey.specs.Listing.{key_of}
use Rattle.tr_survey.specs.Sums.{sums_lines}
use Rattle.tr_survey.proofs.PrefixLemmas.{at_err, front_cut, front_nothing, front_step}
use Rattle.tr_survey.proofs.SumLemmas.{line_step, lines_end}
use Rattle.tr_survey.proofs.sums.put_sums.Goals as goal

pub returns-in_err-line-clause-err : goal.returns-in_err-line-clause-err
returns-in_err-line-clause-err g c = at_err c.from_residual.result (c.loop-at.invariant.front _ (front_nothing _ _))

pub returns-in_err-put_line-clause-err : goal.returns-in_err-put_line-clause-err
returns-in_err-put_line-clause-err g c =
    let i = c.loop-at.at in
    let rest = sums_lines (map key_of (drop (i + 1) c.args.archives.now)) (drop (i + 1) c.args.sums.now) in
    let fits : i < length c.args.sums.now = omega arith in
    let parts : sums_lines (map key_of (drop i c.args.archives.now)) (drop i c.args.sums.now) ≡ c.as_str.result.now ++ rest =
    line_step c.args.archives.now c.args.sums.now i c.index-archives-at.result _ c.as_str.result.now c.loop-at-test.true fits c.index-archives-at.is
    (c.as_str.ensures.value ∙ c.in_ok-line.ensures) in
    at_err c.from_residual-in_err-put_line.result
    (c.loop-at.invariant.front _ (front_cut _ c.as_str.result.now rest _ _ parts c.in_err-put_line.ensures.err))

pub loop-at-preserved : goal.loop-at-preserved
loop-at-preserved g c =
    let i = c.loop-at.at in
    let rest = sums_lines (map key_of (drop (i + 1) c.args.archives.now)) (drop (i + 1) c.args.sums.now) in
    let fits : i < length c.args.sums.now = omega arith in
    let parts : sums_lines (map key_of (drop i c.args.archives.now)) (drop i c.args.sums.now) ≡ c.as_str.result.now ++ rest =
    line_step c.args.archives.now c.args.sums.now i c.index-archives-at.result _ c.as_str.result.now c.loop-at-test.true fits c.index-archives-at.is
    (c.as_str.ensures.value ∙ c.in_ok-line.ensures) in
    record {
      failures = search rules;
      taken = grind (arith, common_steps);
      front = λ now front.
          c.loop-at.invariant.front now (front_step _ c.as_str.result.now rest _ _ now parts c.in_ok-put_line.ensures.ok front);
    }

pub returns-clause-ok : goal.returns-clause-ok
returns-clause-ok g c =
    let past : length c.args.archives.now ≤ c.loop-at.at = omega arith in
    sym (and_then_bytes-none _) ∙ ap (and_then_bytes (g.K.ByteSink.taken c.loop-at.sink)) (sym (lines_end c.args.archives.now c.args.sums.now c.loop-at.at past))
    ∙ c.loop-at.invariant.taken
