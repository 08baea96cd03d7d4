use Rattle.tr_program.specs.declared.ending.Ending.TheVariants.{NoMemory}
use Rattle.std.specs.Vec.Iter.{into_iter_items}
use Rattle.tr_command.specs.Invocation.{job_asked, words_of}
use Rattle.tr_program.specs.Runs.{outside_of}
use Rattle.tr_program.proofs.RunLemmas.{ends_without_memory}
use Rattle.tr_program.proofs.running.run_arguments.Goals as goal

pub returns-in_default-clause-ends : goal.returns-in_default-clause-ends
returns-in_default-clause-ends g c = record {
  ending = NoMemory;
  says = c.tell.ensures.status;
  line = c.tell.ensures.told;
  ends =
      ends_without_memory (job_asked (words_of (into_iter_items c.args.given)))
      (outside_of g.S.ByteSource g.K.ByteSink g.D.Disk g.F.Folders g.T.Texts c.args.input.now c.args.out.now c.args.disk.now c.args.folders.now c.args.texts.now);
}

pub returns-clause-ends : goal.returns-clause-ends
returns-clause-ends g c = record {
  ending = NoMemory;
  says = c.tell-in-Err.ensures.status;
  line = c.tell-in-Err.ensures.told;
  ends =
      ends_without_memory (job_asked (words_of (into_iter_items c.args.given)))
      (outside_of g.S.ByteSource g.K.ByteSink g.D.Disk g.F.Folders g.T.Texts c.args.input.now c.args.out.now c.args.disk.now c.args.folders.now c.args.texts.now);
}
