use Rattle.std.proofs.Common.{◌≡◌, ◌∙◌, sym, ap, Some}
use Rattle.std.proofs.lemmas.Result.{IfOk-weaker}
use Rattle.tr_folders.proofs.ReadLemmas.{closed, opened}
use Rattle.tr_folders.specs.Tree.{File, Tree}
use Rattle.tr_survey.specs.Declaring.{events_in}
use Rattle.tr_survey.proofs.declaring.events_at.Goals as goal

pub returns-in-Ok-true-clause-events : goal.returns-in-Ok-true-clause-events
returns-in-Ok-true-clause-events g c =
    IfOk-weaker c.events_read.result
    (λ events. (file : File) → g.F.Folders.left c.open.new.self ≡ Some file → events.events ≡ events_in (Some file))
    (λ events. (t : Tree) → g.F.Folders.tree c.args.folders.now ≡ Some t → events.events ≡ events_in (t.file c.args.path.now))
    (λ events is t known.
    let file = opened _ _ _ c.in-Ok-true.field-0-test (c.in-Ok-true.ensures.opens t known) in
    is file.0 file.2 ∙ ap events_in (sym file.1))
    c.events_read.ensures.events

pub returns-in-Ok-false-clause-events : goal.returns-in-Ok-false-clause-events
returns-in-Ok-false-clause-events g c t known =
    ap (λ d. d.events) c.none.ensures ∙ ap events_in (sym (closed _ _ _ c.in-Ok-false.field-0-test (c.in-Ok-false.ensures.opens t known)))
