use Rattle.std.proofs.Common.{◌-◌, ◌+◌, ◌++◌, ◌∷◌, [], arith, refl, ◌∙◌}
use Rattle.tr_export.proofs.MakingLemmas.{OnErr-always, front_after, front_before, made_after}
use Rattle.tr_recover.specs.Archive.{files_made, stream_file, streams_below}
use Rattle.tr_recover.proofs.PartLemmas.{empty_files, empty_more, files_within, none_made}
use Rattle.tr_recover.proofs.writing.write_below.Goals as goal

pub streams-init : goal.streams-init
streams-init g c = record {
  made = ([], none_made (g.D.Disk.made c.args.disk.now), refl);
  works = λ n e. e;
}

pub streams-preserved : goal.streams-preserved
streams-preserved g c =
    let before = c.streams.invariant.made in
    let file = stream_file c.args.folder.now c.streams.number [] ∷ [] in
    record {
      made = (
        before.0 ++ file,
        made_after (g.D.Disk.made c.args.disk.now) (g.D.Disk.made c.streams.disk) (g.D.Disk.made c.write_stream.new.disk) before.0 file before.1
            c.in_ok-write_stream.ensures.ok,
        empty_more c.args.folder.now c.args.next c.args.stream c.streams.number before.0 c.streams-test.true before.2,
      );
      works = λ n e. c.in_ok-write_stream.ensures.failures n (c.streams.invariant.works n e);
    }

pub returns-in_err-write_stream-clause-err : goal.returns-in_err-write_stream-clause-err
returns-in_err-write_stream-clause-err g c =
    let before = c.streams.invariant.made in
    let folder = c.args.folder.now in
    let file = stream_file folder c.streams.number [] ∷ [] in
    let rest = empty_files folder (c.streams.number + 1) (c.args.stream - (c.streams.number + 1)) in
    let start = g.D.Disk.made c.args.disk.now in
    let after = g.D.Disk.made c.write_stream.new.disk in
    OnErr-always c.from_residual.result
    (front_before start after (before.0 ++ file) rest (files_made folder (streams_below c.args.next c.args.stream))
    (files_within folder c.args.next c.args.stream (omega (arith, c.if-stream.false))
    ∙ empty_more folder c.args.next c.args.stream c.streams.number before.0 c.streams-test.true before.2)
    (front_after start (g.D.Disk.made c.streams.disk) after before.0 file (before.0 ++ file) refl before.1 c.in_err-write_stream.ensures.err))
