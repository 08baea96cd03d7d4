use Rattle.std.proofs.Common.{◌≡◌, ◌∙◌, sym, ap, Some}
use Rattle.std.proofs.lemmas.Result.{IfOk-weaker}
use Rattle.tr_folders.proofs.ReadLemmas.{closed, opened}
use Rattle.tr_folders.specs.Tree.{File, Tree}
use Rattle.tr_describe.specs.Files.{as_read, declaring}
use Rattle.tr_describe.proofs.declarations.declarations_at.Goals as goal

pub returns-in-Ok-true-clause-declares : goal.returns-in-Ok-true-clause-declares
returns-in-Ok-true-clause-declares g c =
    IfOk-weaker c.declarations_read.result
    (λ d. (file : File) → g.F.Folders.left c.open.new.self ≡ Some file → as_read d ≡ declaring (Some file))
    (λ d. (t : Tree) → g.F.Folders.tree c.args.folders.now ≡ Some t → as_read d ≡ declaring (t.file c.args.path.now))
    (λ d is t known.
    let file = opened _ _ _ c.in-Ok-true.field-0-test (c.in-Ok-true.ensures.opens t known) in
    is file.0 file.2 ∙ ap declaring (sym file.1))
    c.declarations_read.ensures.declares

pub returns-in-Ok-false-clause-declares : goal.returns-in-Ok-false-clause-declares
returns-in-Ok-false-clause-declares g c t known =
    ap declaring (sym (closed _ _ _ c.in-Ok-false.field-0-test (c.in-Ok-false.ensures.opens t known)))
