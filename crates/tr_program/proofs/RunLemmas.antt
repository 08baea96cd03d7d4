-- How runs end that read and wrote nothing, and audits that found no session.
use Rattle.std.proofs.Common.{◌≡◌, ◌⊎◌, ◌∙◌, ℕ, Bool, false, zero, suc, refl, sym, ap, subst, inl, inr, List, [], append-nil, Option, Some, None, Result, Ok, Err}
use Rattle.tr_events.specs.Events.{nothing}
use Rattle.tr_folders.specs.Tree.{Tree}
use Rattle.tr_load.specs.declared.loaded.LoadFault.TheVariants as load
use Rattle.tr_chunk.specs.Files.{Sunk}
use Rattle.tr_picture.specs.Picture.{picture_of, pictured}
use Rattle.tr_record.specs.Bytes.{once_more}
use Rattle.tr_survey.proofs.PrefixLemmas.{front_nothing}
use Rattle.tr_survey.proofs.SurveyLemmas.{said_no_session, said_unlisted}
use Rattle.tr_survey.specs.Failures.{reads_after, writes_after}
use Rattle.tr_survey.specs.Sessions.{sessions_of, survey_of}
use Rattle.tr_survey.specs.declared.faults.SurveyFault.{SurveyFault}
use Rattle.tr_survey.specs.declared.faults.SurveyFault.TheVariants as survey
use Rattle.tr_survey.specs.declared.faults.Surveyed.{Surveyed}
use Rattle.tr_survey.specs.declared.faults.Surveyed.TheVariants as surveyed
use Rattle.tr_command.specs.Invocation.{Script, Load, Audit, Describe, Picture, Recover, Task}
use Rattle.tr_describe.specs.Files.{declaring}
use Rattle.tr_describe.specs.Put.{Text, and_then_put}
use Rattle.tr_describe.specs.Telling.{declared_text, puts_by, text_by}
use Rattle.tr_describe.specs.declared.faults.DescribeFault.TheVariants as describe
use Rattle.tr_program.specs.Endings.{ending_of_survey}
use Rattle.tr_program.proofs.RecoverLemmas.{wanted_without_memory}
use Rattle.tr_program.specs.Runs.{CannotBeRead, EndsSo, FoldersState, HasAudited, HasCause, HasNoSession, HasPictured, Host, Outside, TellsAudit, TellsPicture, wanted_by}
use Rattle.tr_program.specs.declared.ending.Ending.{Ending}
use Rattle.tr_program.specs.declared.ending.Ending.TheVariants.{NoSession, NoMemory, ReadOrWrite}

put_nothing : (known : Option (List Text)) → and_then_put known [] ≡ known
put_nothing None = refl
put_nothing (Some texts) = ap Some (append-nil texts)

-- without memory nothing was begun
pub ends_without_memory : (asked : Option Task) (o : Outside) → EndsSo o o asked NoMemory
ends_without_memory None o = (inr refl, (refl, refl, refl))
ends_without_memory (Some (Script None dir)) o = inl (nothing, refl, inl (refl, refl, refl))
ends_without_memory (Some (Script (Some file) dir)) o = inr ((λ t known. front_nothing (declared_text (declaring (t.file file))) o.host.taken), refl, refl)
ends_without_memory (Some (Load threads records workers watch dir)) o = (refl, inr ((load.NoMemory, refl), (refl, refl, refl)))
ends_without_memory (Some (Audit dir archives)) o = record {
  audited = record { result = Err survey.NoMemory; ends = refl; tells = λ t known. front_nothing (survey_of archives t dir).text o.host.taken; reads = refl; writes = refl };
  given = refl;
  made = refl;
  inputs = refl;
  disks = refl;
}
ends_without_memory (Some (Describe file dir)) o = record {
  described = record {
    result = Err describe.NoMemory;
    ends = refl;
    tells = λ t known. (
      record { front = []; rest = puts_by t dir (declaring (t.file file)); parts = refl; put = sym (put_nothing o.texts.written) },
      front_nothing (text_by t dir (declaring (t.file file))) o.host.taken,
    );
    reads = refl;
    failures = (refl, refl);
  };
  given = refl;
  made = refl;
  inputs = refl;
  disks = refl;
}
ends_without_memory (Some (Picture dir)) o = record {
  pictured = record { result = Err survey.NoMemory; ends = refl; tells = λ t known. front_nothing (picture_of t dir).text o.host.taken; reads = refl; writes = refl };
  given = refl;
  made = refl;
  inputs = refl;
  disks = refl;
}
ends_without_memory (Some (Recover uuid image dir)) o = wanted_without_memory (wanted_by uuid) image dir o.host o.folders

-- what failed after a file of declarations was read
pub cause_after : (old new : Host) (taken : Option (List ℕ)) (failures : ℕ) → taken ≡ old.taken → failures ≡ old.output_failures
    → HasCause (record old { taken = taken; output_failures = failures }) new → HasCause old new
cause_after old new taken failures same none cause =
    subst (λ (x : Option (List ℕ)). HasCause (record old { taken = x }) new) same
    (subst (λ (n : ℕ). HasCause (record old { taken = taken; output_failures = n }) new) none cause)

found_none : (t : Tree) (dir : List ℕ) (archives : Bool) (result : Result Surveyed SurveyFault) (before now : Option (List ℕ)) → NoSession ≡ ending_of_survey result
    → TellsAudit t dir archives result before now → sessions_of t dir ≡ []
found_none t dir archives (Ok surveyed.Unlisted) before now e tells = absurd cc
found_none t dir archives (Ok surveyed.NoSession) before now e tells = said_no_session archives t dir tells.state_is
found_none t dir archives (Ok (surveyed.Faults zero)) before now e tells = absurd cc
found_none t dir archives (Ok (surveyed.Faults (suc n))) before now e tells = absurd cc
found_none t dir archives (Err survey.TooMuch) before now e tells = absurd cc
found_none t dir archives (Err survey.Write) before now e tells = absurd cc
found_none t dir archives (Err survey.NoMemory) before now e tells = absurd cc

pub no_session : (dir : List ℕ) (archives : Bool) (folders folders_now : FoldersState) (out out_now : Sunk) (ending : Ending)
    → HasAudited dir archives folders folders_now out out_now ending → ending ≡ NoSession → HasNoSession dir folders.tree
no_session dir archives folders folders_now out out_now ending audited is t known =
    found_none t dir archives audited.result out.taken out_now.taken (rw is at audited.ends) (audited.tells t known)

-- why an audit ends as if reading or writing failed
abbrev Why : List ℕ → FoldersState → FoldersState → Sunk → Sunk → Type 0
Why dir folders folders_now out out_now =
    (out_now.failures ≡ once_more out.failures) ⊎ ((folders_now.failures ≡ once_more folders.failures) ⊎ CannotBeRead dir folders.tree)

why : (dir : List ℕ) (archives : Bool) (folders folders_now : FoldersState) (out out_now : Sunk) (result : Result Surveyed SurveyFault) → ReadOrWrite ≡ ending_of_survey result
    → ((t : Tree) → folders.tree ≡ Some t → TellsAudit t dir archives result out.taken out_now.taken)
    → folders_now.failures ≡ reads_after result folders.failures → out_now.failures ≡ writes_after result out.failures
    → Why dir folders folders_now out out_now
why dir archives folders folders_now out out_now (Ok surveyed.Unlisted) e tells reads writes =
    inr (inr (λ t known. said_unlisted archives t dir (tells t known).state_is))
why dir archives folders folders_now out out_now (Ok surveyed.NoSession) e tells reads writes = absurd cc
why dir archives folders folders_now out out_now (Ok (surveyed.Faults zero)) e tells reads writes = absurd cc
why dir archives folders folders_now out out_now (Ok (surveyed.Faults (suc n))) e tells reads writes = absurd cc
why dir archives folders folders_now out out_now (Err survey.TooMuch) e tells reads writes = inr (inl reads)
why dir archives folders folders_now out out_now (Err survey.Write) e tells reads writes = inl writes
why dir archives folders folders_now out out_now (Err survey.NoMemory) e tells reads writes = absurd cc

pub audit_fault : (dir : List ℕ) (archives : Bool) (folders folders_now : FoldersState) (out out_now : Sunk) (ending : Ending)
    → HasAudited dir archives folders folders_now out out_now ending → ending ≡ ReadOrWrite → Why dir folders folders_now out out_now
audit_fault dir archives folders folders_now out out_now ending audited is =
    why dir archives folders folders_now out out_now audited.result (rw is at audited.ends) audited.tells audited.reads audited.writes

-- ---- pictures: what one says is what the survey says

said_as_surveyed : (t : Tree) (dir : List ℕ) (said : Surveyed) → (pictured t dir said).state ≡ said
said_as_surveyed t dir surveyed.Unlisted = refl
said_as_surveyed t dir surveyed.NoSession = refl
said_as_surveyed t dir (surveyed.Faults n) = refl

none_pictured : (t : Tree) (dir : List ℕ) (result : Result Surveyed SurveyFault) (before now : Option (List ℕ)) → NoSession ≡ ending_of_survey result
    → TellsPicture t dir result before now → sessions_of t dir ≡ []
none_pictured t dir (Ok surveyed.Unlisted) before now e tells = absurd cc
none_pictured t dir (Ok surveyed.NoSession) before now e tells =
    said_no_session false t dir (tells.state_is ∙ said_as_surveyed t dir (survey_of false t dir).state)
none_pictured t dir (Ok (surveyed.Faults zero)) before now e tells = absurd cc
none_pictured t dir (Ok (surveyed.Faults (suc n))) before now e tells = absurd cc
none_pictured t dir (Err survey.TooMuch) before now e tells = absurd cc
none_pictured t dir (Err survey.Write) before now e tells = absurd cc
none_pictured t dir (Err survey.NoMemory) before now e tells = absurd cc

pub nothing_pictured : (dir : List ℕ) (folders folders_now : FoldersState) (out out_now : Sunk) (ending : Ending)
    → HasPictured dir folders folders_now out out_now ending → ending ≡ NoSession → HasNoSession dir folders.tree
nothing_pictured dir folders folders_now out out_now ending has is t known =
    none_pictured t dir has.result out.taken out_now.taken (rw is at has.ends) (has.tells t known)

why_not_drawn : (dir : List ℕ) (folders folders_now : FoldersState) (out out_now : Sunk) (result : Result Surveyed SurveyFault) → ReadOrWrite ≡ ending_of_survey result
    → ((t : Tree) → folders.tree ≡ Some t → TellsPicture t dir result out.taken out_now.taken)
    → folders_now.failures ≡ reads_after result folders.failures → out_now.failures ≡ writes_after result out.failures
    → Why dir folders folders_now out out_now
why_not_drawn dir folders folders_now out out_now (Ok surveyed.Unlisted) e tells reads writes =
    inr (inr (λ t known. said_unlisted false t dir ((tells t known).state_is ∙ said_as_surveyed t dir (survey_of false t dir).state)))
why_not_drawn dir folders folders_now out out_now (Ok surveyed.NoSession) e tells reads writes = absurd cc
why_not_drawn dir folders folders_now out out_now (Ok (surveyed.Faults zero)) e tells reads writes = absurd cc
why_not_drawn dir folders folders_now out out_now (Ok (surveyed.Faults (suc n))) e tells reads writes = absurd cc
why_not_drawn dir folders folders_now out out_now (Err survey.TooMuch) e tells reads writes = inr (inl reads)
why_not_drawn dir folders folders_now out out_now (Err survey.Write) e tells reads writes = inl writes
why_not_drawn dir folders folders_now out out_now (Err survey.NoMemory) e tells reads writes = absurd cc

pub picture_fault : (dir : List ℕ) (folders folders_now : FoldersState) (out out_now : Sunk) (ending : Ending)
    → HasPictured dir folders folders_now out out_now ending → ending ≡ ReadOrWrite → Why dir folders folders_now out out_now
picture_fault dir folders folders_now out out_now ending has is =
    why_not_drawn dir folders folders_now out out_now has.result (rw is at has.ends) has.tells has.reads has.writes
