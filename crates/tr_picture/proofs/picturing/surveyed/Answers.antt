use Rattle.std.proofs.Common.{◌≡◌, ℕ, Some, None, false, refl}
use Rattle.std.specs.Prelude.{Result, Ok, Err}
use Rattle.std.proofs.lemmas.Result.{IfOk-weaker}
use Rattle.tr_folders.specs.Tree.{Tree}
use Rattle.tr_survey.specs.Failures.{writes_after}
use Rattle.tr_survey.specs.Sessions.{TellsFolder, survey_of}
use Rattle.tr_survey.specs.declared.faults.SurveyFault.{SurveyFault}
use Rattle.tr_survey.specs.declared.faults.SurveyFault.TheVariants.{TooMuch, Write, NoMemory}
use Rattle.tr_picture.proofs.picturing.surveyed.Goals as goal

never : ◌≡◌ {A = ℕ} 0 1 → ⊥
never e = cc

writes_none : {R : Type 0} (r : Result R SurveyFault) → 0 ≡ writes_after r 0 → (n : ℕ) → writes_after r n ≡ n
writes_none (Ok done) none n = refl
writes_none (Err TooMuch) none n = refl
writes_none (Err Write) none n = absurd (never none)
writes_none (Err NoMemory) none n = refl

pub returns-clause-said : goal.returns-clause-said
returns-clause-said g c =
    IfOk-weaker c.survey.result
    (λ said. (t : Tree) → g.F.Folders.tree c.args.folders.now ≡ Some t → TellsFolder false t c.args.dir.now said None None)
    (λ said. (t : Tree) → g.F.Folders.tree c.args.folders.now ≡ Some t → said ≡ (survey_of false t c.args.dir.now).state)
    (λ said tells t known. (tells t known).state_is)
    c.survey.ensures.tells

pub returns-clause-writes : goal.returns-clause-writes
returns-clause-writes g c = writes_none c.survey.result c.survey.ensures.writes
