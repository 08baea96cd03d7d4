use Rattle.std.proofs.Common.{◌≡◌, ◌∙◌, sym, ap, Some}
use Rattle.std.proofs.lemmas.Result.{IfOk-weaker}
use Rattle.tr_describe.specs.Flaws.{file_flaw}
use Rattle.tr_folders.proofs.ReadLemmas.{closed, opened}
use Rattle.tr_folders.specs.Tree.{File, Tree}
use Rattle.tr_describe.proofs.files.judge_path.Goals as goal

pub returns-in-Ok-true-clause-flaw : goal.returns-in-Ok-true-clause-flaw
returns-in-Ok-true-clause-flaw g c =
    IfOk-weaker c.judge_file.result
    (λ flaw. (file : File) → g.F.Folders.left c.open.new.self ≡ Some file
    → flaw ≡ file_flaw c.args.rule.now.events.now c.args.rule.now.uuid.now c.args.rule.now.stream (Some file))
    (λ flaw. (t : Tree) → g.F.Folders.tree c.args.folders.now ≡ Some t
    → flaw ≡ file_flaw c.args.rule.now.events.now c.args.rule.now.uuid.now c.args.rule.now.stream (t.file c.args.path.now))
    (λ flaw is t known.
    let file = opened _ _ _ c.in-Ok-true.field-0-test (c.in-Ok-true.ensures.opens t known) in
    is file.0 file.2 ∙ ap (file_flaw c.args.rule.now.events.now c.args.rule.now.uuid.now c.args.rule.now.stream) (sym file.1))
    c.judge_file.ensures.flaw

pub returns-in-Ok-false-clause-flaw : goal.returns-in-Ok-false-clause-flaw
returns-in-Ok-false-clause-flaw g c t known =
    ap (file_flaw c.args.rule.now.events.now c.args.rule.now.uuid.now c.args.rule.now.stream)
    (sym (closed _ _ _ c.in-Ok-false.field-0-test (c.in-Ok-false.ensures.opens t known)))
