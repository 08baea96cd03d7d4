use Rattle.std.proofs.Common.{refl, sym, arith}
use Rattle.std.proofs.lemmas.Grind.{common_steps}
use Rattle.tr_export.proofs.HeldLemmas.{part-held}
use Rattle.tr_export.proofs.MakingLemmas.{front_none, OnErr-always}
use Rattle.tr_export.specs.Archives.{stream_file}
use Rattle.tr_export.proofs.writing.write_stream.Goals as goal

pub write_file-requires : goal.write_file-requires
write_file-requires g c =
    part-held c.args.id c.args.i c.args.session.now c.in-Some-stream.stream.now c.in-Some-kept_part.part.now c.requires
    (sym c.in-Some-stream.ensures.value) (sym c.in-Some-kept_part.ensures)

pub returns-in_err-name-clause-err : goal.returns-in_err-name-clause-err
returns-in_err-name-clause-err g c =
    OnErr-always c.from_residual.result
    (front_none (g.D.Disk.made c.args.disk.now) (g.D.Disk.made c.args.disk.now)
    (stream_file c.args.folder.now c.args.id c.args.session.now c.args.i) refl)

pub returns-in_err-path-clause-err : goal.returns-in_err-path-clause-err
returns-in_err-path-clause-err g c =
    OnErr-always c.from_residual-in_err-path.result
    (front_none (g.D.Disk.made c.args.disk.now) (g.D.Disk.made c.args.disk.now)
    (stream_file c.args.folder.now c.args.id c.args.session.now c.args.i) refl)

pub returns-in_err-name-clause-ok : goal.returns-in_err-name-clause-ok
returns-in_err-name-clause-ok g c = grind (arith, common_steps)
