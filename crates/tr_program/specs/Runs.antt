-- What a run of the program does.
use Rattle.std.specs.Prelude.{◌≡◌, ◌⊎◌, ℕ, Bool, is_some, [], List, Option, Some, None, true, option_map, Result, Ok, Err}
use Rattle.tr_console.specs.World.{World}
use Rattle.tr_chunk.specs.Files.{Sunk, WentOut}
use Rattle.tr_console.specs.Runs.{AnsweredSome, BrokeOff, Ran, WentTooFar, WroteSome}
use Rattle.tr_describe.specs.Failures as describe
use Rattle.tr_describe.specs.Files.{declaring}
use Rattle.tr_describe.specs.Put.{Text}
use Rattle.tr_describe.specs.Telling.{FailedSo, TellsTree, declared_text, refused_text}
use Rattle.tr_describe.specs.declared.faults.DescribeFault.{DescribeFault}
use Rattle.tr_describe.specs.declared.telling.Outcome.{Outcome}
use Rattle.tr_describe.specs.declared.texts.Texts as Texts
use Rattle.tr_events.specs.Events.{Declarations, nothing}
use Rattle.tr_events.specs.declared.faults.LineFault.{LineFault}
use Rattle.tr_export.specs.Failures.{HasFailed, HasNotFailed}
use Rattle.tr_export.specs.Making.{MadePrefix, Makings}
use Rattle.tr_export.specs.declared.disk.Disk as Disk
use Rattle.tr_export.specs.declared.faults.ExportFault.{ExportFault}
use Rattle.tr_folders.specs.Tree.{File, Tree}
use Rattle.tr_folders.specs.declared.folders.Folders as Folders
use Rattle.tr_load.specs.Loads.{IsLoaded}
use Rattle.tr_load.specs.Telling.{DiskState, TellsLoad}
use Rattle.tr_load.specs.declared.loaded.LoadFault.{LoadFault}
use Rattle.tr_pool.specs.declared.report.Mismatch.{Mismatch}
use Rattle.tr_pool.specs.declared.report.Report.{Report}
use Rattle.tr_picture.specs.Picture.{picture_of}
use Rattle.tr_record.specs.Bytes.{and_then_bytes, once_more}
use Rattle.tr_record.specs.declared.bytes.ByteSink as Sink
use Rattle.tr_record.specs.declared.bytes.ByteSource as Source
use Rattle.tr_recover.specs.Recovering as recovering
use Rattle.tr_recover.specs.Recovering.{FailedSo as FailsSo, HasBytes, Recovers, found_at}
use Rattle.tr_recover.specs.declared.faults.RecoverFault.{RecoverFault}
use Rattle.tr_recover.specs.declared.faults.Recovered.{Recovered}
use Rattle.tr_session.specs.Session.{SessionOf}
use Rattle.tr_stream.specs.State.{StreamState}
use Rattle.tr_survey.specs.Failures.{reads_after, writes_after}
use Rattle.tr_survey.specs.Prefix.{IsPrefixOut, IsTold as IsReported}
use Rattle.tr_survey.specs.Sessions.{HasToldPrefix, TellsFolder, sessions_of}
use Rattle.tr_survey.specs.declared.faults.SurveyFault.{SurveyFault}
use Rattle.tr_survey.specs.declared.faults.Surveyed.{Surveyed}
use Rattle.uuid.specs.Text.{parsed}
use Rattle.tr_command.specs.Invocation.{Folder, Script, Load, Audit, Describe, Picture, Recover, Task}
use Rattle.tr_program.specs.Endings.{ending_of_describe, ending_of_load, ending_of_recover, ending_of_refused, ending_of_survey, ending_of_told, message_of, status_of}
use Rattle.tr_program.specs.Exports.{IsMadeBelow, all_made}
use Rattle.tr_program.specs.declared.ending.Ending.{Ending}
use Rattle.tr_program.specs.declared.ending.Ending.TheVariants.{Done, Refused, Faulty, BadCommandLine, ReadOrWrite, NoSession, NoMemory}

-- what is known of an input, an output and a disk at one step: all that the input holds and what it gave, what the output took,
-- what was made on the disk, and how often each of them failed
pub record Host : Type 0 where
  pub content : Option (List ℕ)
  pub given : Option (List ℕ)
  pub taken : Option (List ℕ)
  pub made : Option Makings
  pub input_failures : ℕ
  pub output_failures : ℕ
  pub disk_failures : Option ℕ

abbrev pub host_of : {S K D F : Type 0} → Source.Ghosts S → Sink.Ghosts K → Disk.Ghosts D F → S → K → D → Host
host_of source sink disks input out disk = record {
  content = source.content input;
  given = source.given input;
  taken = sink.taken out;
  made = disks.made disk;
  input_failures = source.failures input;
  output_failures = sink.failures out;
  disk_failures = disks.failures disk;
}

abbrev pub output_of : Host → Sunk
output_of host = record { taken = host.taken; failures = host.output_failures }

abbrev pub disk_in : Host → DiskState
disk_in host = record { made = host.made; failures = host.disk_failures }

-- what is known of folders at one step: what is there, and how often reading failed
pub record FoldersState : Type 0 where
  pub tree : Option Tree
  pub failures : ℕ

abbrev pub folders_of : {F : Type 0} → Folders.Ghosts F → F → FoldersState
folders_of ghosts folders = record { tree = ghosts.tree folders; failures = ghosts.failures folders }

-- what is known at one step of the texts that are put in place of files: those that were put, and how often that failed
pub record TextsState : Type 0 where
  pub written : Option (List Text)
  pub failures : ℕ

abbrev pub texts_state : {T : Type 0} → Texts.Ghosts T → T → TextsState
texts_state ghosts texts = record { written = ghosts.written texts; failures = ghosts.failures texts }

-- what is known at one step of all that a run reads and writes, but standard error
pub record Outside : Type 0 where
  pub host : Host
  pub folders : FoldersState
  pub texts : TextsState

abbrev pub outside_of : {S K D C F T : Type 0} → Source.Ghosts S → Sink.Ghosts K → Disk.Ghosts D C → Folders.Ghosts F → Texts.Ghosts T
    → S → K → D → F → T → Outside
outside_of source sink disks folders_ghosts texts_ghosts input out disk folders texts = record {
  host = host_of source sink disks input out disk;
  folders = folders_of folders_ghosts folders;
  texts = texts_state texts_ghosts texts;
}

-- what an audit with this result reports of a folder: this was out before it, and that is out after it
abbrev pub TellsAudit : Tree → List ℕ → Bool → Result Surveyed SurveyFault → Option (List ℕ) → Option (List ℕ) → Type 0
TellsAudit t dir archives (Ok said) before now = TellsFolder archives t dir said before now
TellsAudit t dir archives (Err fault) before now = HasToldPrefix archives t dir before now

-- what is in a folder was reported to an output, archive by archive if that was asked for, or a front of that went out; and the
-- ending says how many faults there are, or why that isn't known
pub record HasAudited (dir : List ℕ) (archives : Bool) (folders folders_now : FoldersState) (out out_now : Sunk) (ending : Ending) : Type 0 where
  pub result : Result Surveyed SurveyFault
  pub ends : ending ≡ ending_of_survey result
  pub tells : (t : Tree) → folders.tree ≡ Some t → TellsAudit t dir archives result out.taken out_now.taken
  pub reads : folders_now.failures ≡ reads_after result folders.failures
  pub writes : out_now.failures ≡ writes_after result out.failures

-- what a picture with this result shows of a folder: this was out before it, and that is out after it
abbrev pub TellsPicture : Tree → List ℕ → Result Surveyed SurveyFault → Option (List ℕ) → Option (List ℕ) → Type 0
TellsPicture t dir (Ok said) before now = IsReported (picture_of t dir) before now said
TellsPicture t dir (Err fault) before now = IsPrefixOut (picture_of t dir).text before now

-- what is in a folder was drawn to an output, or a front of that went out; and the ending says how many faults there are, or why that
-- isn't known
pub record HasPictured (dir : List ℕ) (folders folders_now : FoldersState) (out out_now : Sunk) (ending : Ending) : Type 0 where
  pub result : Result Surveyed SurveyFault
  pub ends : ending ≡ ending_of_survey result
  pub tells : (t : Tree) → folders.tree ≡ Some t → TellsPicture t dir result out.taken out_now.taken
  pub reads : folders_now.failures ≡ reads_after result folders.failures
  pub writes : out_now.failures ≡ writes_after result out.failures

-- the archives below a folder were to be described by a file of declarations: what was put and what went out is what that comes to,
-- or a front of it, and the ending says how it went
pub record HasDescribed (file dir : List ℕ) (folders folders_now : FoldersState) (texts texts_now : TextsState) (out out_now : Sunk) (ending : Ending) : Type 0 where
  pub result : Result Outcome DescribeFault
  pub ends : ending ≡ ending_of_describe result
  pub tells : (t : Tree) → folders.tree ≡ Some t → TellsTree t file dir result texts.written texts_now.written out.taken out_now.taken
  pub reads : folders_now.failures ≡ describe.reads_after result folders.failures
  pub failures : FailedSo result texts.failures texts_now.failures out.failures out_now.failures

-- what stands in an image was to be written as an archive below a folder: what went out and what was made is what that comes to, or
-- a front of it, and the ending says how it went
pub record HasRecovered (wanted : Option (List ℕ)) (image dir : List ℕ) (folders folders_now : FoldersState) (out out_now : Sunk)
    (disk disk_now : DiskState) (ending : Ending) : Type 0 where
  pub result : Result Recovered RecoverFault
  pub ends : ending ≡ ending_of_recover result
  pub recovers : (t : Tree) → folders.tree ≡ Some t → HasBytes (t.file image)
      → Recovers wanted dir (t.file image) result out.taken out_now.taken disk.made disk_now.made
  pub reads : folders_now.failures ≡ recovering.reads_after result folders.failures
  pub failures : FailsSo result out.failures out_now.failures disk.failures disk_now.failures

-- the trace that is wanted, if one is named; none: what is named is no identifier
abbrev pub wanted_by : Option (List ℕ) → Option (Option (List ℕ))
wanted_by None = Some None
wanted_by (Some text) = option_map Some (parsed text)

-- a file of declarations can't be read, as far as is known
abbrev pub CannotDeclare : List ℕ → Option Tree → Type 0
CannotDeclare file tree = (t : Tree) → tree ≡ Some t → declaring (t.file file) ≡ None

-- a file of declarations declares these events, as far as is known; without a file there are none
abbrev pub Declares : Option (List ℕ) → Declarations → Option Tree → Type 0
Declares None events tree = events ≡ nothing
Declares (Some file) events tree = (t : Tree) → tree ≡ Some t → declaring (t.file file) ≡ Some (Ok events)

-- a line of a file of declarations declares no event, and the output says which
pub record IsRefusedBy (t : Tree) (file : List ℕ) (out out_now : Option (List ℕ)) : Type 0 where
  pub fault : LineFault
  pub refuses : declaring (t.file file) ≡ Some (Err fault)
  pub tells : out_now ≡ and_then_bytes out (refused_text fault)

-- a front of what the output says of a file of declarations went out, as far as is known: nothing if it declares events
abbrev pub HasToldFront : List ℕ → Option Tree → (out out_now : Option (List ℕ)) → Type 0
HasToldFront file tree out out_now = (t : Tree) → tree ≡ Some t → IsPrefixOut (declared_text (declaring (t.file file))) out out_now

-- how a run of a script ends whose file of declarations declares nothing: it can't be read, or a line of it declares no event, or
-- reading, writing or an allocation failed
abbrev pub EndsUndeclared : Option (List ℕ) → Option Tree → (out out_now : Option (List ℕ)) → Ending → Type 0
EndsUndeclared None tree out out_now ending = ⊥
EndsUndeclared (Some file) tree out out_now Done = ⊥
EndsUndeclared (Some file) tree out out_now Refused = (t : Tree) → tree ≡ Some t → IsRefusedBy t file out out_now
EndsUndeclared (Some file) tree out out_now Faulty = ⊥
EndsUndeclared (Some file) tree out out_now BadCommandLine = ⊥
EndsUndeclared (Some file) tree out out_now NoSession = ⊥
EndsUndeclared (Some file) tree out out_now ReadOrWrite = HasToldFront file tree out out_now
EndsUndeclared (Some file) tree out out_now NoMemory = HasToldFront file tree out out_now

-- a file of declarations was named, and reading failed or it can't be read
abbrev pub LacksDeclarations : Option (List ℕ) → FoldersState → FoldersState → Type 0
LacksDeclarations None old new = ⊥
LacksDeclarations (Some file) old new = (new.failures ≡ once_more old.failures) ⊎ CannotDeclare file old.tree

-- a folder has no session, as far as is known
abbrev pub HasNoSession : List ℕ → Option Tree → Type 0
HasNoSession dir tree = (t : Tree) → tree ≡ Some t → sessions_of t dir ≡ []

-- a folder can't be read, as far as is known
abbrev pub CannotBeRead : List ℕ → Option Tree → Type 0
CannotBeRead dir tree = (t : Tree) → tree ≡ Some t → t.is_hidden dir ≡ true

-- what a settled load came to was reported to an output, and its archives to a disk; the ending says with which result
pub record EndsTold (dir : Folder) (threads : ℕ) (session : SessionOf StreamState) (outcome : Result Report Mismatch) (watched : Option ℕ)
    (out out_now : Sunk) (disk disk_now : DiskState) (ending : Ending) : Type 0 where
  pub told : Result (Unit {0}) ExportFault
  pub tells : TellsLoad dir threads session outcome watched out out_now disk disk_now told
  pub ends : ending ≡ ending_of_told outcome told

-- the host before a run and after it
module _ (old new : Host) where
  -- the input was read to its end and answered whole, the archives of its sessions were made below the folder, if one is
  -- named, and the ending says whether lines were refused
  pub record CameToEnd (events : Declarations) (dir : Folder) (ending : Ending) : Type 0 where
    pub world : World StreamState
    pub refused : ℕ
    pub ran : Ran events old.given new.given old.taken new.taken world refused
    pub whole : new.given ≡ old.content
    pub archived : IsMadeBelow dir world old.made new.made
    pub tells : ending ≡ ending_of_refused refused

  -- the input was read to its end and answered whole, and a prefix of the archives below the folder, which is named, was
  -- made
  pub record MadeSome (events : Declarations) (dir : Folder) : Type 0 where
    pub world : World StreamState
    pub refused : ℕ
    pub folder : List ℕ
    pub named : dir ≡ Some folder
    pub ran : Ran events old.given new.given old.taken new.taken world refused
    pub whole : new.given ≡ old.content
    pub front : MadePrefix old.made new.made (all_made folder world)

  -- neither the input nor the output failed
  abbrev pub NeitherFailed : Type 0
  NeitherFailed = (new.input_failures ≡ old.input_failures) × (new.output_failures ≡ old.output_failures)

  -- the input failed, or the script was too long, or the output failed: what was read and answered until then
  abbrev pub HasBrokenOff : Declarations → Type 0
  HasBrokenOff events =
      (BrokeOff events old.given new.given old.taken new.taken
      × (new.input_failures ≡ once_more old.input_failures) × (new.output_failures ≡ old.output_failures))
      ⊎ ((WentTooFar events old.given new.given old.taken new.taken × NeitherFailed)
      ⊎ (WroteSome events old.given new.given old.taken new.taken old.content
      × (new.input_failures ≡ old.input_failures) × (new.output_failures ≡ once_more old.output_failures)))

  -- the script broke off and the disk is as it was, or the disk failed while the archives were made
  abbrev pub EndsByFault : Declarations → Folder → Type 0
  EndsByFault events dir = (HasBrokenOff events × (new.made ≡ old.made) × (new.disk_failures ≡ old.disk_failures))
      ⊎ (MadeSome events dir × NeitherFailed × HasFailed old.disk_failures new.disk_failures)

  -- nothing was read, answered or made
  abbrev pub IsUntouched : Type 0
  IsUntouched = (new.given ≡ old.given) × (new.taken ≡ old.taken) × (new.made ≡ old.made)

  -- an allocation failed before the script was begun, within it, or while its archives were made
  abbrev pub EndsByMemory : Declarations → Folder → Type 0
  EndsByMemory events dir =
      IsUntouched ⊎ ((AnsweredSome events old.given new.given old.taken new.taken × (new.made ≡ old.made)) ⊎ MadeSome events dir)

  -- a run of a script, whose sessions are created with these events, came to its end, or says why not
  abbrev pub EndsAs : Declarations → Folder → Ending → Type 0
  EndsAs events dir Done = CameToEnd events dir Done
  EndsAs events dir Refused = CameToEnd events dir Refused
  EndsAs events dir Faulty = ⊥
  EndsAs events dir BadCommandLine = ⊥
  EndsAs events dir NoSession = ⊥
  EndsAs events dir ReadOrWrite = EndsByFault events dir
  EndsAs events dir NoMemory = EndsByMemory events dir

  -- it ran with the events that a file declares, if one is named; or the file declares nothing, and nothing was read or made
  abbrev pub EndsScript : (file : Option (List ℕ)) → Folder → Option Tree → Ending → Type 0
  EndsScript file dir tree ending =
      ((events : Declarations) × Declares file events tree × EndsAs events dir ending)
      ⊎ (EndsUndeclared file tree old.taken new.taken ending × (new.given ≡ old.given) × (new.made ≡ old.made))

  -- a load was settled, judged by its feeders' logs, watched if that was asked for, and reported
  pub record HasLoaded (threads records : ℕ) (watch : Bool) (dir : Folder) (ending : Ending) : Type 0 where
    pub session : SessionOf StreamState
    pub outcome : Result Report Mismatch
    pub watched : Option ℕ
    pub asked : is_some watched ≡ watch
    pub loaded : IsLoaded threads records session outcome watched
    pub told : EndsTold dir threads session outcome watched (output_of old) (output_of new) (disk_in old) (disk_in new) ending

  -- a load wasn't settled
  abbrev pub HasNotLoaded : Ending → Type 0
  HasNotLoaded ending = ((fault : LoadFault) × (ending ≡ ending_of_load fault)) × IsUntouched

  -- a load was settled and reported, or it wasn't settled and nothing was put out or made; it reads nothing
  abbrev pub EndsLoad : (threads records : ℕ) → Bool → Folder → Ending → Type 0
  EndsLoad threads records watch dir ending =
      (new.given ≡ old.given) × (HasLoaded threads records watch dir ending ⊎ HasNotLoaded ending)

  -- an audit of a folder; it reads no input and makes nothing, so neither fails
  pub record EndsAudit (dir : List ℕ) (archives : Bool) (folders folders_now : FoldersState) (ending : Ending) : Type 0 where
    pub audited : HasAudited dir archives folders folders_now (output_of old) (output_of new) ending
    pub given : new.given ≡ old.given
    pub made : new.made ≡ old.made
    pub inputs : new.input_failures ≡ old.input_failures
    pub disks : new.disk_failures ≡ old.disk_failures

  -- typed metadata for archives; it reads no input and makes nothing, so neither fails
  pub record EndsDescribe (file dir : List ℕ) (folders folders_now : FoldersState) (texts texts_now : TextsState) (ending : Ending) : Type 0 where
    pub described : HasDescribed file dir folders folders_now texts texts_now (output_of old) (output_of new) ending
    pub given : new.given ≡ old.given
    pub made : new.made ≡ old.made
    pub inputs : new.input_failures ≡ old.input_failures
    pub disks : new.disk_failures ≡ old.disk_failures

  -- a picture of a folder; it reads no input and makes nothing, so neither fails
  pub record EndsPicture (dir : List ℕ) (folders folders_now : FoldersState) (ending : Ending) : Type 0 where
    pub pictured : HasPictured dir folders folders_now (output_of old) (output_of new) ending
    pub given : new.given ≡ old.given
    pub made : new.made ≡ old.made
    pub inputs : new.input_failures ≡ old.input_failures
    pub disks : new.disk_failures ≡ old.disk_failures

  -- an archive of what stands in an image; it reads no input, so that doesn't fail
  pub record EndsRecover (wanted : Option (List ℕ)) (image dir : List ℕ) (folders folders_now : FoldersState) (ending : Ending) : Type 0 where
    pub recovered : HasRecovered wanted image dir folders folders_now (output_of old) (output_of new) (disk_in old) (disk_in new) ending
    pub given : new.given ≡ old.given
    pub inputs : new.input_failures ≡ old.input_failures

  -- nothing that the program does is asked for
  abbrev pub IsNoRun : Ending → Type 0
  IsNoRun ending = ((ending ≡ BadCommandLine) ⊎ (ending ≡ NoMemory)) × IsUntouched

  -- the same, of the trace that is wanted; what is no identifier is a bad command line
  abbrev pub EndsWanted : Option (Option (List ℕ)) → (image dir : List ℕ) → FoldersState → FoldersState → Ending → Type 0
  EndsWanted None image dir folders folders_now ending = IsNoRun ending
  EndsWanted (Some wanted) image dir folders folders_now ending = EndsRecover wanted image dir folders folders_now ending

  -- the input, the output or the disk failed, or the script was too long
  abbrev pub HasCause : Type 0
  HasCause =
      ((new.input_failures ≡ once_more old.input_failures) ⊎ (new.output_failures ≡ once_more old.output_failures))
      ⊎ (HasFailed old.disk_failures new.disk_failures
      ⊎ ((events : Declarations) × WentTooFar events old.given new.given old.taken new.taken))

  -- none of them failed
  abbrev pub HasNoFault : Type 0
  HasNoFault = (new.input_failures ≡ old.input_failures) × (new.output_failures ≡ old.output_failures)
      × HasNotFailed old.disk_failures new.disk_failures

-- a line was put to standard error, if there is one: all of it went out; or one failure came, and a prefix of it went out
abbrev pub IsPut : Option (List ℕ) → Sunk → Sunk → Type 0
IsPut None old new = (new.taken ≡ old.taken) × (new.failures ≡ old.failures)
IsPut (Some line) old new = ((new.taken ≡ and_then_bytes old.taken line) × (new.failures ≡ old.failures))
    ⊎ (WentOut old.taken new.taken line × (new.failures ≡ once_more old.failures))

-- standard error before and after: the ending's line was put to it
abbrev pub IsTold : Ending → Sunk → Sunk → Type 0
IsTold ending old new = IsPut (message_of ending) old new

-- the run ended as what was asked for does
abbrev pub EndsSo : Outside → Outside → Option Task → Ending → Type 0
EndsSo old new None ending = IsNoRun old.host new.host ending
EndsSo old new (Some (Script file dir)) ending = EndsScript old.host new.host file dir old.folders.tree ending
EndsSo old new (Some (Load threads records workers watch dir)) ending = EndsLoad old.host new.host threads records watch dir ending
EndsSo old new (Some (Audit dir archives)) ending = EndsAudit old.host new.host dir archives old.folders new.folders ending
EndsSo old new (Some (Describe file dir)) ending = EndsDescribe old.host new.host file dir old.folders new.folders old.texts new.texts ending
EndsSo old new (Some (Picture dir)) ending = EndsPicture old.host new.host dir old.folders new.folders ending
EndsSo old new (Some (Recover uuid image dir)) ending =
    EndsWanted old.host new.host (wanted_by uuid) image dir old.folders new.folders ending

-- the same: its status and its line say how
pub record HasEnded (asked : Option Task) (old new : Outside) (told told_now : Sunk) (status : ℕ) : Type 0 where
  pub ending : Ending
  pub says : status ≡ status_of ending
  pub line : IsTold ending told told_now
  pub ends : EndsSo old new asked ending

-- reading failed, or the folder can't be read or has no session
abbrev pub LacksFolder : List ℕ → FoldersState → FoldersState → Type 0
LacksFolder dir old new = (new.failures ≡ once_more old.failures) ⊎ (CannotBeRead dir old.tree ⊎ HasNoSession dir old.tree)

-- an image can't be read, as far as is known, or isn't there
abbrev pub IsUnreadable : Option File → Type 0
IsUnreadable None = Unit {0}
IsUnreadable (Some file) = file.breaks ≡ true

abbrev pub CannotSee : List ℕ → Option Tree → Type 0
CannotSee image tree = (t : Tree) → tree ≡ Some t → HasBytes (t.file image) → IsUnreadable (t.file image)

-- it has no packet of the trace, or names none
abbrev pub HasNoPacket : Option (Option (List ℕ)) → List ℕ → Option Tree → Type 0
HasNoPacket None image tree = ⊥
HasNoPacket (Some wanted) image tree =
    (t : Tree) → tree ≡ Some t → HasBytes (t.file image) → (found_at wanted (t.file image)).packets ≡ []

-- reading failed, or one of these
abbrev pub LacksImage : Option (List ℕ) → List ℕ → FoldersState → FoldersState → Type 0
LacksImage uuid image old new =
    (new.failures ≡ once_more old.failures) ⊎ (CannotSee image old.tree ⊎ HasNoPacket (wanted_by uuid) image old.tree)

-- archives, declarations or an image are to be read, and that isn't so
abbrev pub LacksArchives : Option Task → FoldersState → FoldersState → Type 0
LacksArchives None old new = ⊥
LacksArchives (Some (Script file dir)) old new = LacksDeclarations file old new
LacksArchives (Some (Load threads records workers watch dir)) old new = ⊥
LacksArchives (Some (Audit dir archives)) old new = LacksFolder dir old new
LacksArchives (Some (Describe file dir)) old new = LacksFolder dir old new ⊎ CannotDeclare file old.tree
LacksArchives (Some (Picture dir)) old new = LacksFolder dir old new
LacksArchives (Some (Recover uuid image dir)) old new = LacksImage uuid image old new

-- what a status of 3 says
abbrev pub HasFault : Option Task → Outside → Outside → Type 0
HasFault asked old new =
    HasCause old.host new.host ⊎ (LacksArchives asked old.folders new.folders ⊎ (new.texts.failures ≡ once_more old.texts.failures))

-- what any other status says: nothing failed
abbrev pub FailedNowhere : Outside → Outside → Type 0
FailedNowhere old new = HasNoFault old.host new.host × (new.folders.failures ≡ old.folders.failures) × (new.texts.failures ≡ old.texts.failures)
