use Rattle.std.proofs.Common.{◌+◌, ◌<◌, ◌≤◌, ◌∙◌, List, drop, map, length, sym, subst, arith}
use Rattle.std.proofs.lemmas.Grind.{common_steps}
use Rattle.std.proofs.lemmas.List.{drop_all, length-set}
use Rattle.tr_survey.specs.Listing.{key_of}
use Rattle.tr_survey.specs.Paths.{file_in}
use Rattle.tr_survey.specs.Prefix.{GoesOn}
use Rattle.tr_survey.specs.Streams.{file_told, files_told, place_of}
use Rattle.tr_survey.specs.declared.names.Numbered as value
use Rattle.tr_survey.specs.declared.tally.Tally.{Tally}
use Rattle.tr_survey.proofs.PrefixLemmas.{at_err, front_longer, goes_end, goes_to}
use Rattle.tr_survey.proofs.SumLemmas.{sums_end, sums_step}
use Rattle.tr_survey.proofs.TellLemmas.{files_at, goes_next}
use Rattle.tr_survey.proofs.streams.tell_files.Goals as goal

pub returns-in_err-tell_archive-clause-err : goal.returns-in_err-tell_archive-clause-err
returns-in_err-tell_archive-clause-err g c =
    at_err c.from_residual.result (λ t known.
    let i = c.loop-at.at in
    let stream = key_of c.args.stream.now in
    (goes_to _ _ _ _ _ (files_at t c.args.folder.now c.args.trace.now stream c.loop-at.tally c.args.archives.now i c.index-archives-at.result c.loop-at-test.true c.index-archives-at.is)
    (c.loop-at.invariant.goes t known)).front _
    (front_longer _ _ _ _ (c.in_err-tell_archive.ensures.err t (c.loop-at.invariant.tree ∙ known))))

pub loop-at-preserved : goal.loop-at-preserved
loop-at-preserved g c = record {
  room = grind (arith, common_steps);
  len = length-set c.loop-at.sums c.loop-at.at c.with_rises.result ∙ c.loop-at.invariant.len;
  tree = grind (arith, common_steps);
  reads = grind (arith, common_steps);
  writes = grind (arith, common_steps);
  goes = λ t known.
      let i = c.loop-at.at in
      let stream = key_of c.args.stream.now in
      goes_next _ (file_told (place_of c.args.trace.now stream.number (key_of c.index-archives-at.result)) c.loop-at.tally (file_in t c.args.folder.now stream (key_of c.index-archives-at.result)))
      (λ (s : Tally). files_told t c.args.folder.now c.args.trace.now stream s (map key_of (drop (i + 1) c.args.archives.now)))
      c.tell_archive.new.tally _ (g.K.ByteSink.taken c.loop-at.sink) _
      (goes_to _ _ _ _ _ (files_at t c.args.folder.now c.args.trace.now stream c.loop-at.tally c.args.archives.now i c.index-archives-at.result c.loop-at-test.true c.index-archives-at.is)
      (c.loop-at.invariant.goes t known))
      (c.in_ok-tell_archive.ensures.ok t (c.loop-at.invariant.tree ∙ known));
  sums = λ t known.
      let fits : c.loop-at.at < length c.loop-at.sums = omega (arith, c.loop-at-test.true, c.loop-at.invariant.len, c.requires.sums) in
      sums_step t c.args.folder.now c.args.trace.now (key_of c.args.stream.now) c.loop-at.tally c.tell_archive.new.tally c.args.archives.now c.loop-at.sums c.loop-at.at
      c.index-archives-at.result _ c.with_rises.result c.loop-at-test.true fits c.index-archives-at.is c.with_rises.ensures
      (c.in_ok-tell_archive.ensures.ok t (c.loop-at.invariant.tree ∙ known)).state_is
      ∙ c.loop-at.invariant.sums t known;
}

pub returns-clause-ok : goal.returns-clause-ok
returns-clause-ok g c t known =
    let past : length c.args.archives.now ≤ c.loop-at.at = omega arith in
    goes_end _ _ _ _
    (subst (λ (l : List value.Numbered). GoesOn (files_told t c.args.folder.now c.args.trace.now (key_of c.args.stream.now) c.args.tally.now (map key_of c.args.archives.now))
    (files_told t c.args.folder.now c.args.trace.now (key_of c.args.stream.now) c.loop-at.tally (map key_of l)) (g.K.ByteSink.taken c.args.sink.now) (g.K.ByteSink.taken c.loop-at.sink))
    (drop_all c.loop-at.at c.args.archives.now past) (c.loop-at.invariant.goes t known))

pub returns-clause-sums : goal.returns-clause-sums
returns-clause-sums g c t known =
    let past : length c.loop-at.sums ≤ c.loop-at.at = omega (arith, c.loop-at.invariant.len, c.requires.sums) in
    sym (sums_end t c.args.folder.now c.args.trace.now (key_of c.args.stream.now) c.loop-at.tally c.args.archives.now c.loop-at.sums c.loop-at.at past)
    ∙ c.loop-at.invariant.sums t known
