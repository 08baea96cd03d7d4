-- The sessions of a console by what their streams hold, and by their histories: what is done with them agrees.
use Rattle.std.proofs.Common.{Bool, Err, List, None, Ok, Option, Result, Some, [], ap, arith, false, is_err, is_some, length, refl, subst, sym, true, ◌++◌, ◌∙◌, ◌∷◌, ◌≡◌}
use Rattle.std.proofs.lemmas.Grind.{common_steps}
use Rattle.std.specs.Map.{lookup, set_value}
use Rattle.std.specs.Str.{bytes_eq}
use Rattle.tr_console.specs.commands.Create.{with_new}
use Rattle.tr_console.specs.Agreement.{AllAgreeByName, WorldsAgree}
use Rattle.tr_console.specs.Steps.{Step, addition_step, call_step, line_of, session_step}
use Rattle.tr_replies.specs.Text.{Text}
use Rattle.tr_console.specs.World.{World, session_named, with_session}
use Rattle.tr_replies.specs.declared.line_fault.LineFault.{LineFault}
use Rattle.tr_session.proofs.Agreement.{ResultsAgree}
use Rattle.tr_session.specs.Agreement.{SessionsAgree}
use Rattle.tr_session.specs.Session.{SessionOf}
use Rattle.tr_session_book.specs.declared.faults.SessionFault.{SessionFault}
use Rattle.tr_stream.specs.Rules.{Traced}
use Rattle.tr_stream.specs.State.{StreamState}

-- the same answer, and worlds that agree
pub record StepsAgree (s : Step StreamState) (t : Step Traced) : Type 0 where
  pub world : WorldsAgree s.world t.world
  pub text : s.text ≡ t.text
  pub is_refused : s.is_refused ≡ t.is_refused

abbrev pub FoundAgree : Option (SessionOf StreamState) → Option (SessionOf Traced) → Type 0
FoundAgree None None = Unit {0}
FoundAgree None (Some b) = ⊥
FoundAgree (Some a) None = ⊥
FoundAgree (Some a) (Some b) = SessionsAgree a b

-- the sessions by name, as lists
abbrev Named : Type 0 → Type 0
Named S = List (Text × SessionOf S)

found-in : (name : Text) (es : Named StreamState) (fs : Named Traced) → AllAgreeByName es fs
    → FoundAgree (lookup (bytes_eq name) es) (lookup (bytes_eq name) fs)
found-in name [] [] is = tt
found-in name [] (f ∷ fs) is = absurd is
found-in name (e ∷ es) [] is = absurd is
found-in name (e ∷ es) (f ∷ fs) is = go (bytes_eq name e.0) refl (found-in name es fs is.2)
  where
    go : (b : Bool) → bytes_eq name e.0 ≡ b → FoundAgree (lookup (bytes_eq name) es) (lookup (bytes_eq name) fs)
        → FoundAgree (lookup (bytes_eq name) (e ∷ es)) (lookup (bytes_eq name) (f ∷ fs))
    go true x rest = let y : bytes_eq name f.0 ≡ true = ap (bytes_eq name) (sym is.0) ∙ x in rw (x, y) is.1
    go false x rest = let y : bytes_eq name f.0 ≡ false = ap (bytes_eq name) (sym is.0) ∙ x in rw (x, y) rest

pub found-agree : (name : Text) (v : World StreamState) (w : World Traced) → WorldsAgree v w → FoundAgree (session_named name v) (session_named name w)
found-agree name v w is = found-in name v.sessions w.sessions is.sessions

set-in : (name : Text) (es : Named StreamState) (fs : Named Traced) (a : SessionOf StreamState) (b : SessionOf Traced)
    → AllAgreeByName es fs → SessionsAgree a b → AllAgreeByName (set_value (bytes_eq name) es a) (set_value (bytes_eq name) fs b)
set-in name [] [] a b is new = tt
set-in name [] (f ∷ fs) a b is new = absurd is
set-in name (e ∷ es) [] a b is new = absurd is
set-in name (e ∷ es) (f ∷ fs) a b is new = go (bytes_eq name e.0) refl (set-in name es fs a b is.2 new)
  where
    go : (t : Bool) → bytes_eq name e.0 ≡ t → AllAgreeByName (set_value (bytes_eq name) es a) (set_value (bytes_eq name) fs b)
        → AllAgreeByName (set_value (bytes_eq name) (e ∷ es) a) (set_value (bytes_eq name) (f ∷ fs) b)
    go true x rest = let y : bytes_eq name f.0 ≡ true = ap (bytes_eq name) (sym is.0) ∙ x in rw (x, y) (is.0, new, is.2)
    go false x rest = let y : bytes_eq name f.0 ≡ false = ap (bytes_eq name) (sym is.0) ∙ x in rw (x, y) (is.0, is.1, rest)

pub set-agree : (name : Text) (v : World StreamState) (w : World Traced) (a : SessionOf StreamState) (b : SessionOf Traced)
    → WorldsAgree v w → SessionsAgree a b → WorldsAgree (with_session name v a) (with_session name w b)
set-agree name v w a b is new =
    record { sessions = set-in name v.sessions w.sessions a b is.sessions new; events = is.events }

all-length : (es : Named StreamState) (fs : Named Traced) → AllAgreeByName es fs → length es ≡ length fs
all-length [] [] is = refl
all-length [] (f ∷ fs) is = absurd is
all-length (e ∷ es) [] is = absurd is
all-length (e ∷ es) (f ∷ fs) is = grind (arith, common_steps, all-length es fs is.2)

pub worlds-length : (v : World StreamState) (w : World Traced) → WorldsAgree v w → length v.sessions ≡ length w.sessions
worlds-length v w is = all-length v.sessions w.sessions is.sessions

all-push : (es : Named StreamState) (fs : Named Traced) (name : Text) (a : SessionOf StreamState) (b : SessionOf Traced)
    → AllAgreeByName es fs → SessionsAgree a b → AllAgreeByName (es ++ (name, a) ∷ []) (fs ++ (name, b) ∷ [])
all-push [] [] name a b is new = (refl, new, tt)
all-push [] (f ∷ fs) name a b is new = absurd is
all-push (e ∷ es) [] name a b is new = absurd is
all-push (e ∷ es) (f ∷ fs) name a b is new = (is.0, is.1, all-push es fs name a b is.2 new)

pub worlds-push : (v : World StreamState) (w : World Traced) (name : Text) (a : SessionOf StreamState) (b : SessionOf Traced)
    → WorldsAgree v w → SessionsAgree a b → WorldsAgree (with_new name a v) (with_new name b w)
worlds-push v w name a b is new =
    record { sessions = all-push v.sessions w.sessions name a b is.sessions new; events = is.events }

pub same-found : (o : Option (SessionOf StreamState)) (p : Option (SessionOf Traced)) → FoundAgree o p → is_some o ≡ is_some p
same-found None None is = refl
same-found None (Some b) is = absurd is
same-found (Some a) None is = absurd is
same-found (Some a) (Some b) is = refl

-- what is done with sessions that agree
pub at-agree : (v : World StreamState) (w : World Traced) (name : Text) (f : SessionOf StreamState → Step StreamState)
    (g : SessionOf Traced → Step Traced) → WorldsAgree v w
    → ((a : SessionOf StreamState) (b : SessionOf Traced) → SessionsAgree a b → StepsAgree (f a) (g b))
    → StepsAgree (session_step v name f) (session_step w name g)
at-agree v w name f g is step = go (session_named name v) (session_named name w) refl refl (found-agree name v w is)
  where
    go : (o : Option (SessionOf StreamState)) (p : Option (SessionOf Traced)) → session_named name v ≡ o
        → session_named name w ≡ p → FoundAgree o p → StepsAgree (session_step v name f) (session_step w name g)
    go None None x y agree = rw (x, y) (record { world = is; text = refl; is_refused = refl })
    go None (Some b) x y agree = absurd agree
    go (Some a) None x y agree = absurd agree
    go (Some a) (Some b) x y agree = rw (x, y) (step a b agree)

pub settled-agree : (v : World StreamState) (w : World Traced) (name text : Text)
    (r : Result (SessionOf StreamState) SessionFault) (q : Result (SessionOf Traced) SessionFault) → WorldsAgree v w
    → ResultsAgree r q → StepsAgree (addition_step v name text r) (addition_step w name text q)
settled-agree v w name text (Ok a) (Ok b) is agree = record { world = set-agree name v w a b is agree; text = refl; is_refused = refl }
settled-agree v w name text (Ok a) (Err g) is agree = absurd agree
settled-agree v w name text (Err f) (Ok b) is agree = absurd agree
settled-agree v w name text (Err f) (Err g) is agree =
    subst (λ (h : SessionFault). StepsAgree (addition_step v name text (Err f)) (addition_step w name text (Err h))) agree
    (record { world = is; text = refl; is_refused = refl })

-- what a call answers, if both are left agreeing
pub answered-agree : {R : Type 0} (v : World StreamState) (w : World Traced) (name : Text) (words : R → Text)
    (r q : Result R LineFault) (a : SessionOf StreamState) (b : SessionOf Traced) → WorldsAgree v w → r ≡ q
    → SessionsAgree a b → StepsAgree (call_step v name words r a) (call_step w name words q b)
answered-agree v w name words r q a b is same agree =
    record {
      world = set-agree name v w a b is agree;
      text = ap (λ x. line_of words x ++ 10 ∷ []) same;
      is_refused = ap (λ x. is_err x) same;
    }
