-- What a command answers and leaves, by the session of its name.
use Rattle.std.proofs.Common.{◌≡◌, ◌≢◌, ◌∙◌, ◌⊎◌, Bool, true, false, [], ◌∷◌, ◌++◌, Some, None, Result, Ok, Err, IfOk, OnOk, OnErr, inl, inr, is_err, refl, ap, subst}
use Rattle.std.specs.Prelude.{IfErr}
use Rattle.std.specs.declared.alloc.AllocError.{AllocError}
use Rattle.tr_console.proofs.SessionLemmas.{same-session}
use Rattle.tr_replies.specs.LineFaults.{HasMemory, from_session, from_step, wants_memory}
use Rattle.tr_console.specs.Replies.{Does, said, text_or_refusal}
use Rattle.tr_console.specs.Steps.{Step, addition_step, call_step, line_of, question_step, refusal_step, session_step}
use Rattle.tr_replies.specs.OneLine.{refusal_text}
use Rattle.tr_replies.specs.Text.{Text}
use Rattle.tr_console.specs.World.{World, session_named, with_session}
use Rattle.tr_replies.specs.declared.line_fault.LineFault.{LineFault}
use Rattle.tr_replies.specs.declared.line_fault.LineFault.TheVariants as fault
use Rattle.tr_console.specs.declared.replies.Reply.{Reply}
use Rattle.tr_session.specs.Faults.{step_wants_memory}
use Rattle.tr_session.specs.Session.{SessionOf}
use Rattle.tr_session.specs.declared.faults.StepFault.{StepFault}
use Rattle.tr_session.specs.declared.faults.StepFault.TheVariants as step
use Rattle.tr_session_book.specs.Faults.{session_wants_memory}
use Rattle.tr_session_book.specs.declared.faults.SessionFault.{SessionFault}
use Rattle.tr_session_book.specs.declared.faults.SessionFault.TheVariants as session
use Rattle.tr_stream.specs.declared.answers.CutFault.TheVariants as cut
use Rattle.tr_stream.specs.declared.answers.TakeFault.TheVariants as take

-- there is a session of the name
pub at-some : {S : Type 0} → (w : World S) (name : Text) (f : SessionOf S → Step S) (s : SessionOf S) → session_named name w ≡ Some s
    → session_step w name f ≡ f s
at-some w name f s found = rw found refl

-- something could not be added to it
pub added-err : {S : Type 0} → (w : World S) (name text : Text) (r : Result (SessionOf S) SessionFault) (why : SessionFault) → r ≡ Err why
    → addition_step w name text r ≡ refusal_step w (fault.Session why)
added-err w name text r why err = rw err refl

module _ {S A : Type 0} where
  -- a refusal is what the step says
  pub refuses : (r : Result (Reply A) AllocError) (w after : World S) (why : LineFault) (step : Step S)
      → (wants_memory why ≡ false → step ≡ refusal_step w why) → after ≡ w
      → IfOk r (λ x. said x ≡ refusal_text why ++ 10 ∷ []) → IfOk r (λ x. x.is_refused ≡ true)
      → OnOk r (wants_memory why ≡ false) → IfOk r (Does step after)
  refuses (Ok x) w after why step is same text flag kept = rw (is kept) (text, flag, same)
  refuses (Err e) w after why step is same text flag kept = tt

  -- there is no session of the name
  pub not_found : (r : Result (Reply A) AllocError) (w : World S) (name : Text) (f : SessionOf S → Step S)
      → session_named name w ≡ None → IfOk r (λ x. said x ≡ refusal_text fault.NoSession ++ 10 ∷ [])
      → IfOk r (λ x. x.is_refused ≡ true) → IfOk r (Does (session_step w name f) w)
  not_found (Ok x) w name f none text flag = rw none (text, flag, refl)
  not_found (Err e) w name f none text flag = tt

  -- a call of the session of the name was answered
  pub called : {R : Type 0} (reply : Result (Reply A) AllocError) (w : World S) (name : Text) (words : R → Text)
      (answer : SessionOf S → Result R LineFault) (next : SessionOf S → SessionOf S) (s t : SessionOf S) (r : Result R LineFault)
      → session_named name w ≡ Some s → (HasMemory r → (r ≡ answer s) × (t ≡ next s))
      → IfOk reply (λ x. said x ≡ line_of words r ++ 10 ∷ []) → IfOk reply (λ x. x.is_refused ≡ is_err r) → OnOk reply (HasMemory r)
      → IfOk reply (Does (session_step w name (λ u. call_step w name words (answer u) (next u))) (with_session name w t))
  called (Ok x) w name words answer next s t r found told text flag kept =
      let both = told kept in
      rw found (
        text ∙ subst (λ q. line_of words r ++ 10 ∷ [] ≡ line_of words q ++ 10 ∷ []) both.0 refl,
        flag ∙ subst (λ q. is_err r ≡ is_err q) both.0 refl,
        subst (λ u. with_session name w t ≡ with_session name w u) both.1 refl,
      )
  called (Err e) w name words answer next s t r found told text flag kept = tt

  -- a question to the session of the name was answered
  pub asked : {R : Type 0} (reply : Result (Reply A) AllocError) (w : World S) (name : Text) (words : R → Text)
      (answer : SessionOf S → Result R LineFault) (s : SessionOf S) (r : Result R LineFault)
      → session_named name w ≡ Some s → r ≡ answer s
      → IfOk reply (λ x. said x ≡ line_of words r ++ 10 ∷ []) → IfOk reply (λ x. x.is_refused ≡ is_err r)
      → IfOk reply (Does (session_step w name (λ u. question_step w words (answer u))) w)
  asked (Ok x) w name words answer s r found told text flag =
      rw found (
        text ∙ subst (λ q. line_of words r ++ 10 ∷ [] ≡ line_of words q ++ 10 ∷ []) told refl,
        flag ∙ subst (λ q. is_err r ≡ is_err q) told refl,
        refl,
      )
  asked (Err e) w name words answer s r found told text flag = tt

pub on_err : {R E P : Type 0} → (r : Result R E) → P → OnErr r P
on_err (Ok x) p = tt
on_err (Err e) p = p

-- ---- memory

-- whether a session's answer is a failed allocation
pub memory_or_not : {R : Type 0} → (q : Result R SessionFault) → (q ≡ Err session.NoMemory) ⊎ (q ≢ Err session.NoMemory)
memory_or_not (Ok x) = inr (λ e. cc)
memory_or_not (Err session.NoMemory) = inl refl
memory_or_not (Err session.SnapshotMode) = inr (λ e. cc)
memory_or_not (Err session.NotSnapshotMode) = inr (λ e. cc)
memory_or_not (Err session.NeverStarted) = inr (λ e. cc)
memory_or_not (Err session.RotationPending) = inr (λ e. cc)
memory_or_not (Err session.AlreadyRotated) = inr (λ e. cc)
memory_or_not (Err session.AlreadyActive) = inr (λ e. cc)
memory_or_not (Err session.NotActive) = inr (λ e. cc)
memory_or_not (Err session.NoStream) = inr (λ e. cc)
memory_or_not (Err session.DiscardInSnapshot) = inr (λ e. cc)
memory_or_not (Err session.AlreadyStarted) = inr (λ e. cc)
memory_or_not (Err session.BadGeometry) = inr (λ e. cc)
memory_or_not (Err session.TooMany) = inr (λ e. cc)
memory_or_not (Err session.NotPending) = inr (λ e. cc)
memory_or_not (Err session.CutMissing) = inr (λ e. cc)
memory_or_not (Err session.NameTaken) = inr (λ e. cc)
memory_or_not (Err session.NoChannel) = inr (λ e. cc)
memory_or_not (Err session.NoArchive) = inr (λ e. cc)
memory_or_not (Err session.Released) = inr (λ e. cc)
memory_or_not (Err session.Misplaced) = inr (λ e. cc)

pub session_kept : (f : SessionFault) → session_wants_memory f ≡ false → f ≢ session.NoMemory
session_kept f is e = let g : session_wants_memory session.NoMemory ≡ false = subst (λ (x : SessionFault). session_wants_memory x ≡ false) e is in cc

kept-in_session : {R : Type 0} (q : Result R SessionFault) → HasMemory (from_session q) → q ≢ Err session.NoMemory
kept-in_session (Ok x) kept e = cc
kept-in_session (Err f) kept e = let g : f ≡ session.NoMemory = cc in session_kept f kept g

-- and whether a step's answer is that of a take, or of a cut
pub take_or_not : {R : Type 0} → (q : Result R StepFault) → (q ≡ Err (step.Take take.NoMemory)) ⊎ (q ≢ Err (step.Take take.NoMemory))
take_or_not (Ok x) = inr (λ e. cc)
take_or_not (Err (step.Session f)) = inr (λ e. cc)
take_or_not (Err (step.Offer f)) = inr (λ e. cc)
take_or_not (Err (step.Take take.NoMemory)) = inl refl
take_or_not (Err (step.Take take.Nothing)) = inr (λ e. cc)
take_or_not (Err (step.Take take.SnapshotMode)) = inr (λ e. cc)
take_or_not (Err (step.Take take.Misplaced)) = inr (λ e. cc)
take_or_not (Err (step.Cut f)) = inr (λ e. cc)

pub cut_or_not : {R : Type 0} → (q : Result R StepFault) → (q ≡ Err (step.Cut cut.NoMemory)) ⊎ (q ≢ Err (step.Cut cut.NoMemory))
cut_or_not (Ok x) = inr (λ e. cc)
cut_or_not (Err (step.Session f)) = inr (λ e. cc)
cut_or_not (Err (step.Offer f)) = inr (λ e. cc)
cut_or_not (Err (step.Take f)) = inr (λ e. cc)
cut_or_not (Err (step.Cut cut.NoMemory)) = inl refl
cut_or_not (Err (step.Cut cut.SnapshotMode)) = inr (λ e. cc)

step_kept : (f why : StepFault) → step_wants_memory why ≡ true → step_wants_memory f ≡ false → f ≢ why
step_kept f why wants is e = let g : step_wants_memory why ≡ false = subst (λ (x : StepFault). step_wants_memory x ≡ false) e is in cc

kept-in_step : {R : Type 0} (q : Result R StepFault) (why : StepFault) → step_wants_memory why ≡ true → HasMemory (from_step q) → q ≢ Err why
kept-in_step (Ok x) why wants kept e = cc
kept-in_step (Err f) why wants kept e = let g : f ≡ why = cc in step_kept f why wants kept g

-- a constant text is words and a newline
pub done_text : {A R : Type 0} → (reply : Result (Reply A) AllocError) (text words : Text) (r : Result R LineFault) → text ≡ words ++ 10 ∷ []
    → IfOk reply (λ x. said x ≡ text_or_refusal text r) → IfOk reply (λ x. said x ≡ line_of (λ done. words) r ++ 10 ∷ [])
done_text (Ok x) text words (Ok done) is says = says ∙ is
done_text (Ok x) text words (Err fault) is says = says
done_text (Err e) text words r is says = tt

-- ---- a call that a session or a step answers, if no allocation failed

module _ {S R : Type 0} (w : World S) (name : Text) (words : R → Text) (next : SessionOf S → SessionOf S) (s t : SessionOf S)
    (found : session_named name w ≡ Some s) where
  module _ {A : Type 0} (reply : Result (Reply A) AllocError) (r : Result R LineFault)
      (text : IfOk reply (λ x. said x ≡ line_of words r ++ 10 ∷ [])) (flag : IfOk reply (λ x. x.is_refused ≡ is_err r))
      (kept : OnOk reply (HasMemory r)) where
    pub called_session : (answer : SessionOf S → Result R SessionFault) (q : Result R SessionFault) → r ≡ from_session q
        → (q ≢ Err session.NoMemory → (q ≡ answer s) × (t ≡ next s))
        → IfOk reply (Does (session_step w name (λ u. call_step w name words (from_session (answer u)) (next u))) (with_session name w t))
    called_session answer q is told =
        called reply w name words (λ u. from_session (answer u)) next s t r found
        (λ k. let both = told (kept-in_session q (subst (λ x. HasMemory x) is k)) in (is ∙ ap from_session both.0, both.1)) text flag kept

    pub called_step : (answer : SessionOf S → Result R StepFault) (why : StepFault) (q : Result R StepFault) → step_wants_memory why ≡ true
        → r ≡ from_step q → (q ≢ Err why → (q ≡ answer s) × (t ≡ next s))
        → IfOk reply (Does (session_step w name (λ u. call_step w name words (from_step (answer u)) (next u))) (with_session name w t))
    called_step answer why q wants is told =
        called reply w name words (λ u. from_step (answer u)) next s t r found
        (λ k. let both = told (kept-in_step q why wants (subst (λ x. HasMemory x) is k)) in (is ∙ ap from_step both.0, both.1)) text flag kept

  -- what is left: what a failed allocation leaves, or what the step does
  pub left : (P : Type 0) (answer : SessionOf S → Result R LineFault) → P ⊎ (t ≡ next s)
      → P ⊎ (with_session name w t ≡ (session_step w name (λ u. call_step w name words (answer u) (next u))).world)
  left P answer (inl p) = inl p
  left P answer (inr same) = inr (rw found (ap (with_session name w) same))

  pub left_session : (P : Type 0) (answer : SessionOf S → Result R SessionFault) (q : Result R SessionFault)
      → (q ≢ Err session.NoMemory → (q ≡ answer s) × (t ≡ next s)) → (q ≡ Err session.NoMemory → P)
      → P ⊎ (with_session name w t ≡ (session_step w name (λ u. call_step w name words (from_session (answer u)) (next u))).world)
  left_session P answer q told held = left P (λ u. from_session (answer u)) (go (memory_or_not q))
    where
      go : (q ≡ Err session.NoMemory) ⊎ (q ≢ Err session.NoMemory) → P ⊎ (t ≡ next s)
      go (inl e) = inl (held e)
      go (inr n) = inr (told n).1

  pub left_step : (P : Type 0) (answer : SessionOf S → Result R StepFault) (why : StepFault) (q : Result R StepFault)
      → (q ≡ Err why) ⊎ (q ≢ Err why) → (q ≢ Err why → (q ≡ answer s) × (t ≡ next s)) → (q ≡ Err why → P)
      → P ⊎ (with_session name w t ≡ (session_step w name (λ u. call_step w name words (from_step (answer u)) (next u))).world)
  left_step P answer why q is told held = left P (λ u. from_step (answer u)) (go is)
    where
      go : (q ≡ Err why) ⊎ (q ≢ Err why) → P ⊎ (t ≡ next s)
      go (inl e) = inl (held e)
      go (inr n) = inr (told n).1

  -- the same for a call that answers as the line does
  pub left_told : (P : Type 0) (answer : SessionOf S → Result R LineFault) (r : Result R LineFault)
      → (HasMemory r → (r ≡ answer s) × (t ≡ next s)) → IfErr r (λ f. wants_memory f ≡ true → P)
      → P ⊎ (with_session name w t ≡ (session_step w name (λ u. call_step w name words (answer u) (next u))).world)
  left_told P answer (Ok x) told held = left P answer (inr (told tt).1)
  left_told P answer (Err f) told held = go (wants_memory f) refl
    where
      go : (b : Bool) → wants_memory f ≡ b
          → P ⊎ (with_session name w t ≡ (session_step w name (λ u. call_step w name words (answer u) (next u))).world)
      go true wants = left P answer (inl (held wants))
      go false kept = left P answer (inr (told kept).1)

-- what is so after a failed allocation, by what follows from it
pub on_wants : {R P Q : Type 0} → (r : Result R LineFault) → IfErr r (λ f. wants_memory f ≡ true → Q) → (Q → P)
    → IfErr r (λ f. wants_memory f ≡ true → P)
on_wants (Ok x) held from = tt
on_wants (Err f) held from = λ wants. from (held wants)

-- there is no session of the name: nothing is left but what was there
pub left_none : {S : Type 0} → (P : Type 0) (w : World S) (name : Text) (f : SessionOf S → Step S) → session_named name w ≡ None
    → P ⊎ (w ≡ (session_step w name f).world)
left_none P w name f none = inr (rw none refl)

-- a session that is as it was leaves the world as it was
pub unchanged : {S : Type 0} → (w : World S) (name : Text) (s t : SessionOf S) → session_named name w ≡ Some s → t ≡ s → with_session name w t ≡ w
unchanged w name s t found same = ap (with_session name w) same ∙ same-session name w s found
