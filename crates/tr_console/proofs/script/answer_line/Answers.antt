use Rattle.tr_console.proofs.GatheringLemmas.{WentInPart-front}
use Rattle.tr_console.proofs.script.answer_line.Goals as goal

pub returns-in_err-put_out-clause-write : goal.returns-in_err-put_out-clause-write
returns-in_err-put_out-clause-write g c _ = WentInPart-front _ _ c.args.outbox.now _ c.in_err-put_out.ensures.err
