use Rattle.std.proofs.Common.{◌∷◌, [], refl}
use Rattle.tr_export.proofs.MakingLemmas.{OnErr-always, front_none}
use Rattle.tr_export.specs.Content.{content_text}
use Rattle.tr_recover.specs.Archive.{stream_file}
use Rattle.tr_recover.proofs.writing.write_stream.Goals as goal

pub returns-in_err-name-clause-err : goal.returns-in_err-name-clause-err
returns-in_err-name-clause-err g c =
    OnErr-always c.from_residual.result
    (front_none (g.D.Disk.made c.args.disk.now) (g.D.Disk.made c.args.disk.now) (stream_file c.args.folder.now c.args.stream (content_text c.args.content.now) ∷ []) refl)

pub returns-in_err-path-clause-err : goal.returns-in_err-path-clause-err
returns-in_err-path-clause-err g c =
    OnErr-always c.from_residual-in_err-path.result
    (front_none (g.D.Disk.made c.args.disk.now) (g.D.Disk.made c.args.disk.now) (stream_file c.args.folder.now c.args.stream (content_text c.args.content.now) ∷ []) refl)
