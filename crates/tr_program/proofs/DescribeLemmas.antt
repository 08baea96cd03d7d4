-- How runs end that were to describe archives.
use Rattle.std.proofs.Common.{◌≡◌, ◌⊎◌, ◌∙◌, ℕ, Bool, true, false, cond, refl, sym, ap, inl, inr, List, [], ◌∷◌, Option, Some, None, Result, Ok, Err}
use Rattle.tr_chunk.specs.Files.{Sunk}
use Rattle.tr_describe.specs.Answers.{answer_by, described_by, described_of, first_of, session_wrong}
use Rattle.tr_describe.specs.Failures as failing
use Rattle.tr_describe.specs.Files.{Declaring, declaring}
use Rattle.tr_describe.specs.Put.{Text}
use Rattle.tr_describe.specs.Telling.{FailedSo, TellsTree, outcome_by, outcome_said}
use Rattle.tr_describe.specs.declared.described.Described.TheVariants as answer
use Rattle.tr_describe.specs.declared.described.Wrong.{Wrong}
use Rattle.tr_describe.specs.declared.faults.DescribeFault.{DescribeFault}
use Rattle.tr_describe.specs.declared.faults.DescribeFault.TheVariants as describe
use Rattle.tr_describe.specs.declared.telling.Outcome.{Outcome}
use Rattle.tr_describe.specs.declared.telling.Outcome.TheVariants as outcome
use Rattle.tr_events.specs.Events.{Declarations}
use Rattle.tr_folders.specs.Tree.{Tree}
use Rattle.tr_record.specs.Bytes.{once_more}
use Rattle.tr_survey.specs.Sessions.{sessions_of}
use Rattle.tr_program.specs.Endings.{ending_of_describe}
use Rattle.tr_program.specs.Runs.{CannotBeRead, CannotDeclare, FoldersState, HasDescribed, HasNoSession, LacksFolder, TextsState}
use Rattle.tr_program.specs.declared.ending.Ending.{Ending}
use Rattle.tr_program.specs.declared.ending.Ending.TheVariants.{NoSession, ReadOrWrite}

-- ---- what an outcome says of the folder

not_unlisted : (wrong : Option (Wrong (List ℕ))) (n : ℕ) → outcome.Unreadable ≡ outcome_said (answer_by wrong n) → ⊥
not_unlisted (Some wrong) n e = absurd cc
not_unlisted None n e = absurd cc

never_unlisted : (t : Tree) (dir : List ℕ) (events : Declarations) (sessions : List (List ℕ))
    → outcome.Unreadable ≡ outcome_said (described_by t events dir sessions) → ⊥
never_unlisted t dir events [] e = absurd cc
never_unlisted t dir events (s ∷ sessions) e = not_unlisted (first_of (session_wrong t events dir) (s ∷ sessions)) _ e

hidden_if : (t : Tree) (dir : List ℕ) (events : Declarations) → outcome.Unreadable ≡ outcome_said (described_of t dir events) → t.is_hidden dir ≡ true
hidden_if t dir events e = go (t.is_hidden dir) refl e
  where
    go : (b : Bool) → t.is_hidden dir ≡ b → outcome.Unreadable ≡ outcome_said (cond b answer.Unlisted (described_by t events dir (sessions_of t dir)))
        → t.is_hidden dir ≡ true
    go true h e = h
    go false h e = absurd (never_unlisted t dir events (sessions_of t dir) e)

not_empty : (wrong : Option (Wrong (List ℕ))) (n : ℕ) → outcome.NoSession ≡ outcome_said (answer_by wrong n) → ⊥
not_empty (Some wrong) n e = absurd cc
not_empty None n e = absurd cc

empty_if : (t : Tree) (dir : List ℕ) (events : Declarations) (sessions : List (List ℕ))
    → outcome.NoSession ≡ outcome_said (described_by t events dir sessions) → sessions ≡ []
empty_if t dir events [] e = refl
empty_if t dir events (s ∷ sessions) e = absurd (not_empty (first_of (session_wrong t events dir) (s ∷ sessions)) _ e)

none_if : (t : Tree) (dir : List ℕ) (events : Declarations) → outcome.NoSession ≡ outcome_said (described_of t dir events) → sessions_of t dir ≡ []
none_if t dir events e = go (t.is_hidden dir) e
  where
    go : (b : Bool) → outcome.NoSession ≡ outcome_said (cond b answer.Unlisted (described_by t events dir (sessions_of t dir))) → sessions_of t dir ≡ []
    go true e = absurd cc
    go false e = empty_if t dir events (sessions_of t dir) e

none_by : (t : Tree) (dir : List ℕ) (d : Option Declaring) → outcome.NoSession ≡ outcome_by t dir d → sessions_of t dir ≡ []
none_by t dir None e = absurd cc
none_by t dir (Some (Err fault)) e = absurd cc
none_by t dir (Some (Ok events)) e = none_if t dir events e

unreadable_by : (t : Tree) (file dir : List ℕ) (d : Option Declaring) → declaring (t.file file) ≡ d → outcome.Unreadable ≡ outcome_by t dir d
    → (t.is_hidden dir ≡ true) ⊎ (declaring (t.file file) ≡ None)
unreadable_by t file dir None is e = inr is
unreadable_by t file dir (Some (Err fault)) is e = absurd cc
unreadable_by t file dir (Some (Ok events)) is e = inl (hidden_if t dir events e)

-- ---- of all that may be there

of_one : (t : Tree) (dir file : List ℕ) → (t.is_hidden dir ≡ true) ⊎ (declaring (t.file file) ≡ None)
    → CannotBeRead dir (Some t) ⊎ CannotDeclare file (Some t)
of_one t dir file (inl hidden) = inl (λ u known. ap (λ (x : Tree). x.is_hidden dir) (sym (same t u known)) ∙ hidden)
  where
    same : (x y : Tree) → Some x ≡ Some y → x ≡ y
    same x y e = cc
of_one t dir file (inr none) = inr (λ u known. ap (λ (x : Tree). declaring (x.file file)) (sym (same t u known)) ∙ none)
  where
    same : (x y : Tree) → Some x ≡ Some y → x ≡ y
    same x y e = cc

of_known : (tree : Option Tree) (file dir : List ℕ)
    → ((t : Tree) → tree ≡ Some t → outcome.Unreadable ≡ outcome_by t dir (declaring (t.file file)))
    → CannotBeRead dir tree ⊎ CannotDeclare file tree
of_known None file dir tells = inl (λ t known. absurd cc)
of_known (Some t) file dir tells = of_one t dir file (unreadable_by t file dir (declaring (t.file file)) refl (tells t refl))

-- why describing ends as if reading or writing failed
abbrev pub Why : (file dir : List ℕ) → (folders folders_now : FoldersState) → (texts texts_now : TextsState) → (out out_now : Sunk) → Type 0
Why file dir folders folders_now texts texts_now out out_now =
    (out_now.failures ≡ once_more out.failures)
    ⊎ ((LacksFolder dir folders folders_now ⊎ CannotDeclare file folders.tree) ⊎ (texts_now.failures ≡ once_more texts.failures))

why : (file dir : List ℕ) (folders folders_now : FoldersState) (texts texts_now : TextsState) (out out_now : Sunk) (result : Result Outcome DescribeFault)
    → ReadOrWrite ≡ ending_of_describe result
    → ((t : Tree) → folders.tree ≡ Some t → TellsTree t file dir result texts.written texts_now.written out.taken out_now.taken)
    → folders_now.failures ≡ failing.reads_after result folders.failures
    → FailedSo result texts.failures texts_now.failures out.failures out_now.failures
    → Why file dir folders folders_now texts texts_now out out_now
why file dir folders folders_now texts texts_now out out_now (Ok outcome.Unreadable) e tells reads failed =
    elim (of_known folders.tree file dir (λ t known. (tells t known).0)) [
      | inl hidden ↦ inr (inl (inl (inr (inl hidden))))
      | inr none ↦ inr (inl (inr none))
    ]
why file dir folders folders_now texts texts_now out out_now (Ok outcome.NoSession) e tells reads failed = absurd cc
why file dir folders folders_now texts texts_now out out_now (Ok outcome.Refused) e tells reads failed = absurd cc
why file dir folders folders_now texts texts_now out out_now (Ok outcome.Wrong) e tells reads failed = absurd cc
why file dir folders folders_now texts texts_now out out_now (Ok outcome.Done) e tells reads failed = absurd cc
why file dir folders folders_now texts texts_now out out_now (Err describe.TooMuch) e tells reads failed = inr (inl (inl (inl reads)))
why file dir folders folders_now texts texts_now out out_now (Err describe.Write) e tells reads failed =
    elim failed [ inl put ↦ inr (inr put.0) | inr told ↦ inl told.1 ]
why file dir folders folders_now texts texts_now out out_now (Err describe.NoMemory) e tells reads failed = absurd cc

pub describe_fault : (file dir : List ℕ) (folders folders_now : FoldersState) (texts texts_now : TextsState) (out out_now : Sunk) (ending : Ending)
    → HasDescribed file dir folders folders_now texts texts_now out out_now ending → ending ≡ ReadOrWrite
    → Why file dir folders folders_now texts texts_now out out_now
describe_fault file dir folders folders_now texts texts_now out out_now ending described is =
    why file dir folders folders_now texts texts_now out out_now described.result (rw is at described.ends) described.tells described.reads described.failures

found_none : (file dir : List ℕ) (t : Tree) (result : Result Outcome DescribeFault) (put put_now : Option (List Text)) (out out_now : Option (List ℕ))
    → NoSession ≡ ending_of_describe result → TellsTree t file dir result put put_now out out_now → sessions_of t dir ≡ []
found_none file dir t (Ok outcome.Unreadable) put put_now out out_now e tells = absurd cc
found_none file dir t (Ok outcome.NoSession) put put_now out out_now e tells = none_by t dir (declaring (t.file file)) tells.0
found_none file dir t (Ok outcome.Refused) put put_now out out_now e tells = absurd cc
found_none file dir t (Ok outcome.Wrong) put put_now out out_now e tells = absurd cc
found_none file dir t (Ok outcome.Done) put put_now out out_now e tells = absurd cc
found_none file dir t (Err describe.TooMuch) put put_now out out_now e tells = absurd cc
found_none file dir t (Err describe.Write) put put_now out out_now e tells = absurd cc
found_none file dir t (Err describe.NoMemory) put put_now out out_now e tells = absurd cc

pub nothing_described : (file dir : List ℕ) (folders folders_now : FoldersState) (texts texts_now : TextsState) (out out_now : Sunk) (ending : Ending)
    → HasDescribed file dir folders folders_now texts texts_now out out_now ending → ending ≡ NoSession → HasNoSession dir folders.tree
nothing_described file dir folders folders_now texts texts_now out out_now ending described is t known =
    found_none file dir t described.result texts.written texts_now.written out.taken out_now.taken (rw is at described.ends) (described.tells t known)
