-- What rotations answer and leave, by the session of a name.
use Rattle.std.proofs.Common.{◌≡◌, ◌≢◌, ◌∙◌, ◌∷◌, ◌++◌, ◌⊎◌, [], Some, Result, Ok, Err, IfOk, OnOk, inl, inr, is_err, ap₂, subst}
use Rattle.std.specs.Prelude.{ℤ}
use Rattle.std.specs.declared.alloc.AllocError.{AllocError}
use Rattle.tr_console.proofs.CallLemmas.{called, left, memory_or_not, session_kept}
use Rattle.tr_replies.specs.LineFaults.{HasMemory}
use Rattle.tr_console.specs.Replies.{Does, said}
use Rattle.tr_console.specs.Steps.{call_step, line_of, session_step}
use Rattle.tr_replies.specs.Text.{Text}
use Rattle.tr_console.specs.World.{World, session_named, with_session}
use Rattle.tr_console.specs.commands.Rotate.{archive_named}
use Rattle.tr_replies.specs.OneLine.{archived_text}
use Rattle.tr_replies.specs.declared.one_line.NamedArchive.{NamedArchive}
use Rattle.tr_replies.specs.declared.line_fault.LineFault.{LineFault}
use Rattle.tr_console.specs.declared.replies.Reply.{Reply}
use Rattle.tr_session.specs.Session.{SessionOf}
use Rattle.tr_session_book.specs.declared.archive.Archive.{Archive}
use Rattle.tr_session_book.specs.declared.faults.SessionFault.{SessionFault}
use Rattle.tr_session_book.specs.declared.faults.SessionFault.TheVariants as session

-- the session's answer was no failed allocation
kept-in_archive : (offset : ℤ) (q : Result Archive SessionFault) → HasMemory (archive_named offset q) → q ≢ Err session.NoMemory
kept-in_archive offset (Ok x) kept e = cc
kept-in_archive offset (Err f) kept e = let g : f ≡ session.NoMemory = cc in session_kept f kept g

module _ {S : Type 0} (w : World S) (name : Text) (next : SessionOf S → SessionOf S) (s t : SessionOf S)
    (found : session_named name w ≡ Some s) (answer : SessionOf S → Result Archive SessionFault)
    (q : Result Archive SessionFault) (told : q ≢ Err session.NoMemory → (q ≡ answer s) × (t ≡ next s)) where
  -- a rotation of the session of the name was answered
  pub called_archive : {A : Type 0} (reply : Result (Reply A) AllocError) (r : Result NamedArchive LineFault) (offset : ℤ)
      → r ≡ archive_named offset q → offset ≡ s.book.offset
      → IfOk reply (λ x. said x ≡ line_of archived_text r ++ 10 ∷ []) → IfOk reply (λ x. x.is_refused ≡ is_err r)
      → OnOk reply (HasMemory r)
      → IfOk reply (Does (session_step w name (λ u. call_step w name archived_text (archive_named u.book.offset (answer u)) (next u)))
      (with_session name w t))
  called_archive reply r offset is same text flag kept =
      called reply w name archived_text (λ u. archive_named u.book.offset (answer u)) next s t r found
      (λ k. let both = told (kept-in_archive offset q (subst (λ x. HasMemory x) is k)) in (is ∙ ap₂ archive_named same both.0, both.1))
      text flag kept

  -- and what it leaves
  pub left_archive : (P : Type 0) → (q ≡ Err session.NoMemory → P)
      → P ⊎ (with_session name w t
      ≡ (session_step w name (λ u. call_step w name archived_text (archive_named u.book.offset (answer u)) (next u))).world)
  left_archive P held = left w name archived_text next s t found P (λ u. archive_named u.book.offset (answer u)) (go (memory_or_not q))
    where
      go : (q ≡ Err session.NoMemory) ⊎ (q ≢ Err session.NoMemory) → P ⊎ (t ≡ next s)
      go (inl e) = inl (held e)
      go (inr n) = inr (told n).1
