use Rattle.std.proofs.Common.{◌≡◌, ◌+◌, ◌∷◌, ◌≤◌, ◌∙◌, ℕ, List, Option, None, drop, length, ap, sym, string_bytes, arith, rules}
use Rattle.std.proofs.lemmas.Grind.{common_steps}
use Rattle.std.proofs.lemmas.List.{drop_all}
use Rattle.tr_folders.specs.Tree.{by_text}
use Rattle.tr_survey.specs.Sessions.{name_told, names_told}
use Rattle.tr_survey.proofs.PrefixLemmas.{at_err, from_place, front_longer, goes_end, goes_start, goes_to}
use Rattle.tr_survey.proofs.TellLemmas.{goes_next}
use Rattle.tr_survey.proofs.surveying.tell_names.Goals as goal

pub loop-name-init : goal.loop-name-init
loop-name-init g c = record {
  room = search rules;
  tree = search rules;
  reads = search rules;
  writes = search rules;
  goes = λ t known. goes_start (names_told c.args.asked t c.args.dir.now None (by_text c.args.names.now)) (g.K.ByteSink.taken c.args.sink.now);
}

pub returns-in_err-faults-clause-err : goal.returns-in_err-faults-clause-err
returns-in_err-faults-clause-err g c =
    at_err c.from_residual.result (λ t known.
    let i = c.loop-name.name-index in
    let rest = by_text (drop (i + 1) c.args.names.now) in
    let here : by_text (drop i c.args.names.now) ≡ c.as_str.result.now ∷ rest =
    from_place string_bytes c.args.names.now i c.name-item.result c.loop-name-test.true c.name-item.is
    ∙ ap (λ (l : List ℕ). l ∷ rest) (sym c.as_str.ensures.value) in
    (goes_to (names_told c.args.asked t c.args.dir.now None (by_text c.args.names.now)) _ (names_told c.args.asked t c.args.dir.now c.loop-name.faults (c.as_str.result.now ∷ rest)) _ _
    (ap (names_told c.args.asked t c.args.dir.now c.loop-name.faults) here) (c.loop-name.invariant.goes t known)).front _
    (front_longer (name_told c.args.asked t c.args.dir.now c.loop-name.faults c.as_str.result.now).text _ _ _ (c.in_err-faults.ensures.err t (c.loop-name.invariant.tree ∙ known))))

pub loop-name-preserved : goal.loop-name-preserved
loop-name-preserved g c = record {
  room = grind (arith, common_steps);
  tree = grind (arith, common_steps);
  reads = grind (arith, common_steps);
  writes = grind (arith, common_steps);
  goes = λ t known.
      let i = c.loop-name.name-index in
      let rest = by_text (drop (i + 1) c.args.names.now) in
      let here : by_text (drop i c.args.names.now) ≡ c.as_str.result.now ∷ rest =
      from_place string_bytes c.args.names.now i c.name-item.result c.loop-name-test.true c.name-item.is
      ∙ ap (λ (l : List ℕ). l ∷ rest) (sym c.as_str.ensures.value) in
      goes_next (names_told c.args.asked t c.args.dir.now None (by_text c.args.names.now)) (name_told c.args.asked t c.args.dir.now c.loop-name.faults c.as_str.result.now)
      (λ (n : Option ℕ). names_told c.args.asked t c.args.dir.now n rest)
      _ _ (g.K.ByteSink.taken c.loop-name.sink) _
      (goes_to (names_told c.args.asked t c.args.dir.now None (by_text c.args.names.now)) _ (names_told c.args.asked t c.args.dir.now c.loop-name.faults (c.as_str.result.now ∷ rest)) _ _
      (ap (names_told c.args.asked t c.args.dir.now c.loop-name.faults) here) (c.loop-name.invariant.goes t known))
      (c.in_ok-faults.ensures.ok t (c.loop-name.invariant.tree ∙ known));
}

pub returns-clause-ok : goal.returns-clause-ok
returns-clause-ok g c t known =
    let past : length c.args.names.now ≤ c.loop-name.name-index = omega arith in
    goes_end (names_told c.args.asked t c.args.dir.now None (by_text c.args.names.now)) _ _ c.loop-name.faults
    (goes_to _ _ _ _ _ (ap (λ l. names_told c.args.asked t c.args.dir.now c.loop-name.faults (by_text l)) (drop_all c.loop-name.name-index c.args.names.now past)) (c.loop-name.invariant.goes t known))
