use Rattle.std.proofs.Common.{◌+◌, ◌≤◌, ◌∙◌, ℕ, List, drop, map, length, sym, ap, subst, arith}
use Rattle.std.proofs.lemmas.Grind.{common_steps}
use Rattle.std.proofs.lemmas.List.{drop_all}
use Rattle.tr_survey.specs.Listing.{key_of}
use Rattle.tr_survey.specs.Order.{Numbered}
use Rattle.tr_survey.specs.Prefix.{GoesOn}
use Rattle.tr_survey.specs.Streams.{no_tally, stream_told, streams_told}
use Rattle.tr_survey.specs.Sums.{sums_after_files, sums_after_streams}
use Rattle.tr_survey.specs.declared.names.Numbered as value
use Rattle.tr_survey.proofs.PrefixLemmas.{at_err, from_place, front_longer, goes_end, goes_to}
use Rattle.tr_survey.proofs.TellLemmas.{goes_next, streams_at}
use Rattle.tr_survey.proofs.streams.tell_streams.Goals as goal

pub returns-in_err-count-clause-err : goal.returns-in_err-count-clause-err
returns-in_err-count-clause-err g c =
    at_err c.from_residual.result (λ t known.
    let i = c.loop-stream.stream-index in
    (goes_to _ _ _ _ _ (streams_at t c.args.folder.now c.args.trace.now (map key_of c.args.archives.now) c.loop-stream.count c.args.streams.now i c.stream-item.result c.loop-stream-test.true c.stream-item.is)
    (c.loop-stream.invariant.goes t known)).front _
    (front_longer _ _ _ _ (c.in_err-count.ensures.err t (c.loop-stream.invariant.tree ∙ known))))

pub loop-stream-preserved : goal.loop-stream-preserved
loop-stream-preserved g c = record {
  room = grind (arith, common_steps);
  len = grind (arith, common_steps);
  tree = grind (arith, common_steps);
  reads = grind (arith, common_steps);
  writes = grind (arith, common_steps);
  goes = λ t known.
      let i = c.loop-stream.stream-index in
      let archives = map key_of c.args.archives.now in
      goes_next _ (stream_told t c.args.folder.now c.args.trace.now archives c.loop-stream.count (key_of c.stream-item.result))
      (λ (n : ℕ). streams_told t c.args.folder.now c.args.trace.now archives n (map key_of (drop (i + 1) c.args.streams.now)))
      _ _ (g.K.ByteSink.taken c.loop-stream.sink) _
      (goes_to _ _ _ _ _ (streams_at t c.args.folder.now c.args.trace.now archives c.loop-stream.count c.args.streams.now i c.stream-item.result c.loop-stream-test.true c.stream-item.is)
      (c.loop-stream.invariant.goes t known))
      (c.in_ok-count.ensures.ok t (c.loop-stream.invariant.tree ∙ known));
  sums = λ t known.
      let i = c.loop-stream.stream-index in
      let archives = map key_of c.args.archives.now in
      let rest = map key_of (drop (i + 1) c.args.streams.now) in
      let now = c.loop-stream.invariant.tree ∙ known in
      ap (sums_after_streams t c.args.folder.now c.args.trace.now archives c.in_ok-count.count rest) (c.in_ok-count.ensures.sums t now)
      ∙ ap (λ (n : ℕ). sums_after_streams t c.args.folder.now c.args.trace.now archives n rest
      (sums_after_files t c.args.folder.now c.args.trace.now (key_of c.stream-item.result) (no_tally c.loop-stream.count) archives c.loop-stream.sums))
      (c.in_ok-count.ensures.ok t now).state_is
      ∙ ap (λ (l : List Numbered). sums_after_streams t c.args.folder.now c.args.trace.now archives c.loop-stream.count l c.loop-stream.sums)
      (sym (from_place key_of c.args.streams.now i c.stream-item.result c.loop-stream-test.true c.stream-item.is))
      ∙ c.loop-stream.invariant.sums t known;
}

pub returns-clause-ok : goal.returns-clause-ok
returns-clause-ok g c t known =
    let past : length c.args.streams.now ≤ c.loop-stream.stream-index = omega arith in
    goes_end _ _ _ _
    (subst (λ (l : List value.Numbered). GoesOn (streams_told t c.args.folder.now c.args.trace.now (map key_of c.args.archives.now) c.args.faults (map key_of c.args.streams.now))
    (streams_told t c.args.folder.now c.args.trace.now (map key_of c.args.archives.now) c.loop-stream.count (map key_of l)) (g.K.ByteSink.taken c.args.sink.now) (g.K.ByteSink.taken c.loop-stream.sink))
    (drop_all c.loop-stream.stream-index c.args.streams.now past) (c.loop-stream.invariant.goes t known))

pub returns-clause-sums : goal.returns-clause-sums
returns-clause-sums g c t known =
    let past : length c.args.streams.now ≤ c.loop-stream.stream-index = omega arith in
    ap (λ (l : List value.Numbered). sums_after_streams t c.args.folder.now c.args.trace.now (map key_of c.args.archives.now) c.loop-stream.count (map key_of l) c.loop-stream.sums)
    (sym (drop_all c.loop-stream.stream-index c.args.streams.now past))
    ∙ c.loop-stream.invariant.sums t known
