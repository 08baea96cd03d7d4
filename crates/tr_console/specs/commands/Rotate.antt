-- `rotate`, and its steps `rotate-begin`, `rotate-next` and `rotate-finish`.
use Rattle.std.specs.Fmt.{decimal}
use Rattle.std.specs.Prelude.{Err, Ok, Result, Some, codes, ℕ, ℤ, ◌++◌, ◌≡◌, ◌⊎◌}
use Rattle.tr_replies.specs.LineFaults.{from_session, from_step}
use Rattle.tr_console.specs.Steps.{Step, call_step, session_step}
use Rattle.tr_replies.specs.OneLine.{archived_text}
use Rattle.tr_replies.specs.Text.{Text}
use Rattle.tr_console.specs.World.{World, session_named, with_session}
use Rattle.tr_replies.specs.declared.one_line.NamedArchive.{NamedArchive}
use Rattle.tr_replies.specs.declared.line_fault.LineFault.TheVariants.{Session}
use Rattle.tr_replies.specs.declared.line_fault.LineFault.{LineFault}
use Rattle.tr_session.specs.Session.{SessionOf}
use Rattle.tr_session.specs.Steps.{IsHeldUp, session_after_next, session_after_rotate, session_after_rotate_begin, session_after_rotate_finish, session_next_answer, session_rotate_answer}
use Rattle.tr_session.specs.declared.rotation.Next.TheVariants as next
use Rattle.tr_session.specs.declared.rotation.Next.{Next}
use Rattle.tr_session_book.specs.BookSteps.{book_rotate_begin_answer, book_rotate_finish_answer}
use Rattle.tr_session_book.specs.declared.archive.Archive.{Archive}
use Rattle.tr_session_book.specs.declared.faults.SessionFault.{SessionFault}
use Rattle.tr_stream.specs.Rules.{StreamRules}

-- ---- what they answer

-- the number of the chunk that a rotation archives
abbrev pub rotating_text : ℕ → Text
rotating_text id = codes "rotating " ++ decimal id

-- what a rotation did next
abbrev pub next_text : Next → Text
next_text (next.Cut stream records) = codes "cut " ++ (decimal stream ++ (codes " records " ++ decimal records))
next_text next.AllCut = codes "all cut"

-- an archive that a session made, with what its name needs: by how many minutes its clock is ahead of UTC
abbrev pub archive_named : ℤ → Result Archive SessionFault → Result NamedArchive LineFault
archive_named offset (Ok archive) = Ok (record { archive = archive; offset = offset })
archive_named offset (Err why) = Err (Session why)

-- ---- the steps

abbrev pub rotate_begin_step : {S : Type 0} → World S → Text → ℕ → Step S
rotate_begin_step w name moment =
    session_step w name (λ s. call_step w name rotating_text (from_session (book_rotate_begin_answer s.book))
    (session_after_rotate_begin moment s))

abbrev pub rotate_next_step : {S : Type 0} → StreamRules S → World S → Text → Step S
rotate_next_step rules w name =
    session_step w name (λ s. call_step w name next_text (from_step (session_next_answer rules s))
    (session_after_next rules s))

abbrev pub rotate_finish_step : {S : Type 0} → World S → Text → Step S
rotate_finish_step w name =
    session_step w name (λ s. call_step w name archived_text
    (archive_named s.book.offset (book_rotate_finish_answer s.book)) (session_after_rotate_finish s))

abbrev pub rotate_step : {S : Type 0} → StreamRules S → World S → Text → ℕ → Step S
rotate_step rules w name moment =
    session_step w name (λ s. call_step w name archived_text
    (archive_named s.book.offset (session_rotate_answer rules moment s)) (session_after_rotate rules moment s))

-- ---- what they leave if an allocation fails

-- a rotation of the session of this name is held up: the others are as they were
pub record IsHeldUpNamed {S : Type 0} (rules : StreamRules S) (name : Text) (moment : ℕ) (w new : World S) : Type 0
  where
    pub before : SessionOf S
    pub after : SessionOf S
    pub found : session_named name w ≡ Some before
    pub held_up : IsHeldUp rules moment before after
    pub is : new ≡ with_session name w after

-- it is held up, or all is as the line leaves it
abbrev pub IsHeldUpOrAfter : {S : Type 0} → StreamRules S → Text → ℕ → Step S → World S → World S → Type 0
IsHeldUpOrAfter rules name moment step w new = IsHeldUpNamed rules name moment w new ⊎ (new ≡ step.world)
