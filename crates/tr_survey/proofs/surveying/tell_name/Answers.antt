use Rattle.std.proofs.Common.{◌≡◌, ℕ, Option, Some, sym, subst}
use Rattle.std.proofs.lemmas.Result.{IfOk-weaker}
use Rattle.tr_folders.specs.Tree.{Tree}
use Rattle.tr_survey.specs.Prefix.{IsTold}
use Rattle.tr_survey.specs.Sessions.{able_told, name_told}
use Rattle.tr_survey.specs.Told.{Told}
use Rattle.tr_survey.proofs.NameLemmas.{taken}
use Rattle.tr_survey.proofs.SurveyLemmas.{name_able}
use Rattle.tr_survey.proofs.surveying.tell_name.Goals as goal

pub returns-clause-ok : goal.returns-clause-ok
returns-clause-ok g c =
    IfOk-weaker c.tell_able.result
    (λ n. (t : Tree) → g.F.Folders.tree c.args.folders.now ≡ Some t
    → IsTold (able_told c.args.asked t c.args.dir.now c.args.faults c.args.name.now) (g.K.ByteSink.taken c.args.sink.now) (g.K.ByteSink.taken c.tell_able.new.sink) n)
    (λ n. (t : Tree) → g.F.Folders.tree c.args.folders.now ≡ Some t
    → IsTold (name_told c.args.asked t c.args.dir.now c.args.faults c.args.name.now) (g.K.ByteSink.taken c.args.sink.now) (g.K.ByteSink.taken c.tell_able.new.sink) n)
    (λ n tells t known.
    subst (λ (o : Told (Option ℕ)). IsTold o (g.K.ByteSink.taken c.args.sink.now) (g.K.ByteSink.taken c.tell_able.new.sink) n)
    (sym (name_able c.args.asked t c.args.dir.now c.args.faults c.args.name.now
    (taken c.new.result c.is_none.result _ c.new.ensures.succeeds.0 c.is_none.ensures c.if-is_none.false)))
    (tells t known))
    c.tell_able.ensures.ok
