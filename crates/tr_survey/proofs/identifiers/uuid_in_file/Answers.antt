use Rattle.std.proofs.Common.{◌≡◌, ◌∙◌, sym, ap, Some}
use Rattle.std.proofs.lemmas.Result.{IfOk-weaker}
use Rattle.tr_folders.proofs.ReadLemmas.{closed, opened}
use Rattle.tr_folders.specs.Tree.{File, Tree}
use Rattle.tr_survey.specs.Identifiers.{uuid_in_file}
use Rattle.tr_survey.specs.Listing.{key_of}
use Rattle.tr_survey.specs.Paths.{file_in}
use Rattle.tr_survey.proofs.identifiers.uuid_in_file.Goals as goal

pub returns-in-Ok-true-clause-uuid : goal.returns-in-Ok-true-clause-uuid
returns-in-Ok-true-clause-uuid g c =
    IfOk-weaker c.uuid_read.result
    (λ uuid. (file : File) → g.F.Folders.left c.open.new.self ≡ Some file → uuid ≡ uuid_in_file (Some file))
    (λ uuid. (t : Tree) → g.F.Folders.tree c.args.folders.now ≡ Some t
    → uuid ≡ uuid_in_file (file_in t c.args.folder.now (key_of c.args.stream.now) (key_of c.args.archive.now)))
    (λ uuid is t known.
    let file = opened _ _ _ c.in-Ok-true.field-0-test (c.in-Ok-true.ensures.opens t known) in
    is file.0 file.2 ∙ ap uuid_in_file (sym file.1 ∙ ap t.file (c.as_str.ensures.value ∙ c.in_ok-path.ensures)))
    c.uuid_read.ensures.uuid

pub returns-in-Ok-false-clause-uuid : goal.returns-in-Ok-false-clause-uuid
returns-in-Ok-false-clause-uuid g c t known =
    ap uuid_in_file (sym (closed _ _ _ c.in-Ok-false.field-0-test (c.in-Ok-false.ensures.opens t known)) ∙ ap t.file (c.as_str.ensures.value ∙ c.in_ok-path.ensures))
