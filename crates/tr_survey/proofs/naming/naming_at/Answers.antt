use Rattle.std.proofs.Common.{◌≡◌, ◌∙◌, sym, ap, Some}
use Rattle.std.proofs.lemmas.Result.{IfOk-weaker}
use Rattle.tr_folders.proofs.ReadLemmas.{closed, opened}
use Rattle.tr_folders.specs.Tree.{File, Tree}
use Rattle.tr_survey.specs.Metadata.{naming_in}
use Rattle.tr_survey.proofs.naming.naming_at.Goals as goal

pub returns-in-Ok-true-clause-naming : goal.returns-in-Ok-true-clause-naming
returns-in-Ok-true-clause-naming g c =
    IfOk-weaker c.naming_read.result
    (λ naming. (file : File) → g.F.Folders.left c.open.new.self ≡ Some file → naming ≡ naming_in (Some file))
    (λ naming. (t : Tree) → g.F.Folders.tree c.args.folders.now ≡ Some t → naming ≡ naming_in (t.file c.args.path.now))
    (λ naming is t known.
    let file = opened _ _ _ c.in-Ok-true.field-0-test (c.in-Ok-true.ensures.opens t known) in
    is file.0 file.2 ∙ ap naming_in (sym file.1))
    c.naming_read.ensures.naming

pub returns-in-Ok-false-clause-naming : goal.returns-in-Ok-false-clause-naming
returns-in-Ok-false-clause-naming g c t known =
    ap naming_in (sym (closed _ _ _ c.in-Ok-false.field-0-test (c.in-Ok-false.ensures.opens t known)))
