-- What describing archives by a file of declarations reports, and how it ends.
use Rattle.std.specs.Prelude.{◌≡◌, ◌⊎◌, ℕ, List, [], ◌∷◌, ◌++◌, codes, Option, Some, None, Result, Ok, Err}
use Rattle.std.specs.Fmt.{decimal}
use Rattle.tr_describe.specs.Answers.{described_of, texts_of}
use Rattle.tr_describe.specs.Files.{Declaring, declaring}
use Rattle.tr_describe.specs.Put.{IsFrontPut, Text, and_then_put}
use Rattle.tr_describe.specs.declared.described.Described.{Described}
use Rattle.tr_describe.specs.declared.described.Described.TheVariants as answer
use Rattle.tr_describe.specs.declared.described.Wrong.{Wrong}
use Rattle.tr_describe.specs.declared.described.Wrong.TheVariants.{Closed, Foreign, Unsound, Unfit}
use Rattle.tr_describe.specs.declared.faults.DescribeFault.{DescribeFault}
use Rattle.tr_describe.specs.declared.faults.DescribeFault.TheVariants.{TooMuch, Write, NoMemory}
use Rattle.tr_describe.specs.declared.telling.Outcome.{Outcome}
use Rattle.tr_describe.specs.declared.telling.Outcome.TheVariants.{Unreadable, NoSession, Refused, Wrong as IsWrong, Done}
use Rattle.tr_events.specs.Faults.{event_fault_code, event_fault_name}
use Rattle.tr_events.specs.declared.faults.LineFault.{LineFault}
use Rattle.tr_folders.specs.Tree.{Tree}
use Rattle.tr_record.specs.Bytes.{and_then_bytes, once_more}
use Rattle.tr_survey.specs.Prefix.{IsPrefixOut}

-- ---- lines

-- a line of a declaration that declares no event
abbrev pub refused_text : LineFault → List ℕ
refused_text f =
    codes "line " ++ (decimal f.line ++ (32 ∷ (event_fault_code f.fault ++ (32 ∷ (event_fault_name f.fault ++ 10 ∷ [])))))

-- the line of what a file declares, if a line of it declares no event
abbrev pub declared_text : Option Declaring → List ℕ
declared_text None = []
declared_text (Some (Err fault)) = refused_text fault
declared_text (Some (Ok events)) = []

-- what is wrong with what is there
abbrev pub wrong_text : Wrong (List ℕ) → List ℕ
wrong_text (Closed session) = codes "closed " ++ (session ++ 10 ∷ [])
wrong_text (Foreign session archive) = codes "foreign " ++ (session ++ (32 ∷ (archive ++ 10 ∷ [])))
wrong_text (Unsound session archive channel stream) =
    codes "unsound " ++ (session ++ (32 ∷ (archive ++ (32 ∷ (channel ++ (32 ∷ (decimal stream ++ 10 ∷ [])))))))
wrong_text (Unfit session archive channel stream serial) =
    codes "unfit " ++ (session ++ (32 ∷ (archive ++ (32 ∷ (channel ++ (32 ∷ (decimal stream ++ (32 ∷ (decimal serial ++ 10 ∷ [])))))))))

abbrev pub said_text : Described (List ℕ) → List ℕ
said_text answer.Unlisted = []
said_text answer.NoSession = []
said_text (answer.Wrong wrong) = wrong_text wrong
said_text (answer.Done archives) = codes "described " ++ (decimal archives ++ 10 ∷ [])

abbrev pub outcome_said : Described (List ℕ) → Outcome
outcome_said answer.Unlisted = Unreadable
outcome_said answer.NoSession = NoSession
outcome_said (answer.Wrong wrong) = IsWrong
outcome_said (answer.Done archives) = Done

-- ---- by what a file declares

abbrev pub outcome_by : Tree → List ℕ → Option Declaring → Outcome
outcome_by t dir None = Unreadable
outcome_by t dir (Some (Err fault)) = Refused
outcome_by t dir (Some (Ok events)) = outcome_said (described_of t dir events)

abbrev pub text_by : Tree → List ℕ → Option Declaring → List ℕ
text_by t dir None = []
text_by t dir (Some (Err fault)) = refused_text fault
text_by t dir (Some (Ok events)) = said_text (described_of t dir events)

abbrev pub puts_by : Tree → List ℕ → Option Declaring → List Text
puts_by t dir None = []
puts_by t dir (Some (Err fault)) = []
puts_by t dir (Some (Ok events)) = texts_of t dir events

-- ---- all of it

-- what was put and what went out by what a file declares: all of it, or a front of each
abbrev pub TellsBy : Tree → List ℕ → Option Declaring → Result Outcome DescribeFault → (put put_now : Option (List Text)) → (out out_now : Option (List ℕ)) → Type 0
TellsBy t dir d (Ok outcome) put put_now out out_now =
    (outcome ≡ outcome_by t dir d) × (put_now ≡ and_then_put put (puts_by t dir d)) × (out_now ≡ and_then_bytes out (text_by t dir d))
TellsBy t dir d (Err fault) put put_now out out_now =
    IsFrontPut (puts_by t dir d) put put_now × IsPrefixOut (text_by t dir d) out out_now

-- by a file that is there
abbrev pub TellsTree : Tree → (file dir : List ℕ) → Result Outcome DescribeFault → (put put_now : Option (List Text)) → (out out_now : Option (List ℕ)) → Type 0
TellsTree t file dir result put put_now out out_now = TellsBy t dir (declaring (t.file file)) result put put_now out out_now

-- how often putting and reporting failed after it
abbrev pub FailedSo : Result Outcome DescribeFault → (puts puts_now outs outs_now : ℕ) → Type 0
FailedSo (Ok outcome) puts puts_now outs outs_now = (puts_now ≡ puts) × (outs_now ≡ outs)
FailedSo (Err TooMuch) puts puts_now outs outs_now = (puts_now ≡ puts) × (outs_now ≡ outs)
FailedSo (Err NoMemory) puts puts_now outs outs_now = (puts_now ≡ puts) × (outs_now ≡ outs)
FailedSo (Err Write) puts puts_now outs outs_now =
    ((puts_now ≡ once_more puts) × (outs_now ≡ outs)) ⊎ ((puts_now ≡ puts) × (outs_now ≡ once_more outs))
