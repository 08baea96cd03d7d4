use Rattle.std.specs.Prelude.{IsOk}
use Rattle.std.proofs.Common.{◌≡◌, ◌∙◌, ◌<◌, ℕ, List, Ok, Err, Result, ap, refl, sym, subst}
use Rattle.tr_session_book.proofs.BookLemmas.{due-within}
use Rattle.tr_session.proofs.CallLemmas.{same-session}
use Rattle.tr_session.proofs.StreamLemmas.{after-cut}
use Rattle.tr_session.proofs.SessionLemmas.{noted-due, cut-can, cut-noted, only-memory, ok-not-err}
use Rattle.tr_session.proofs.session.Session.cut_now.Goals as goal
use Rattle.tr_session_book.specs.BookSteps.{cut_moment, with_cut}
use Rattle.tr_session.specs.Session.{SessionOf}
use Rattle.tr_session.specs.Steps.{session_after_cut, session_cut_answer}
use Rattle.tr_session.specs.declared.faults.StepFault.{StepFault}
use Rattle.tr_session.specs.declared.faults.StepFault.TheVariants.{Cut}
use Rattle.tr_stream.specs.Rules.{by_state}
use Rattle.tr_stream.specs.State.{StreamState}
use Rattle.tr_stream.specs.declared.answers.CutDone.{CutDone}
use Rattle.tr_stream.specs.declared.answers.CutFault.{CutFault}

pub cut_at-requires : goal.cut_at-requires
cut_at-requires g c =
    let s : SessionOf StreamState = record { book = c.self.inside.book; streams = c.self.inside.streams.items } in
    subst (λ (n : ℕ). c.args.i < n) (sym c.self.invariant.as_many)
    (due-within c.args.i c.args.moment c.self.inside.book
    (ap (λ (s : SessionOf StreamState). cut_moment c.args.i s.book) c.self.view_is ∙ c.requires.due))

pub invariant_of-self : goal.invariant_of-self
invariant_of-self g c =
    let due : cut_moment c.args.i c.self.inside.book ≡ Ok c.args.moment =
    ap (λ (t : SessionOf StreamState). cut_moment c.args.i t.book) c.self.view_is ∙ c.requires.due in
    let local = ap (λ (t : SessionOf StreamState). t.book.mode) c.self.view_is ∙ c.requires.local in
    let did = c.in-Ok.ensures.value (λ same. absurd (ok-not-err same)) in
    same-session (with_cut c.self.inside.book) c.note_cut.new.self _ c.cut_at.new.streams.items
    (c.note_cut.ensures.after ∙ noted-due c.args.i c.args.moment c.self.inside.book due) did.1
    (after-cut c.self.inside.book c.self.inside.streams.items c.args.i c.args.moment c.args.moment due local c.self.invariant)

pub invariant_of-self-in-Err : goal.invariant_of-self-in-Err
invariant_of-self-in-Err g c =
    let s : SessionOf StreamState = record { book = c.self.inside.book; streams = c.self.inside.streams.items } in
    let memory = only-memory s c.args.i c.args.moment c.in-Err.fault c.self.invariant
    (ap (λ (t : SessionOf StreamState). t.book.mode) c.self.view_is ∙ c.requires.local)
    (λ other. (c.in-Err.ensures.value other).0) in
    same-session c.self.inside.book c.self.inside.book c.self.inside.streams.items c.cut_at.new.streams.items refl
    (c.cut_at.ensures.no_memory (c.in-Err.is ∙ ap (λ (f : CutFault). (let r : Result CutDone CutFault = Err f in r)) memory)) c.self.invariant

pub returns-in-Ok-clause-value : goal.returns-in-Ok-clause-value
returns-in-Ok-clause-value g c = λ _.
    let s : SessionOf StreamState = record { book = c.self.inside.book; streams = c.self.inside.streams.items } in
    let due : cut_moment c.args.i s.book ≡ Ok c.args.moment =
    ap (λ (t : SessionOf StreamState). cut_moment c.args.i t.book) c.self.view_is ∙ c.requires.due in
    let did = c.in-Ok.ensures.value (λ same. absurd (ok-not-err same)) in
    let is = cut-noted s c.args.i c.args.moment c.in-Ok.done c.note_cut.new.self c.cut_at.new.streams.items due did.0 did.1
    (c.note_cut.ensures.after ∙ noted-due c.args.i c.args.moment c.self.inside.book due) in (
      is.0 ∙ ap (λ (t : SessionOf StreamState). session_cut_answer by_state c.args.i t) c.self.view_is,
      is.1 ∙ ap (λ (t : SessionOf StreamState). session_after_cut by_state c.args.i t) c.self.view_is,
    )

pub returns-in-Err-clause-value : goal.returns-in-Err-clause-value
returns-in-Err-clause-value g c = λ not_memory.
    let s : SessionOf StreamState = record { book = c.self.inside.book; streams = c.self.inside.streams.items } in
    let memory = only-memory s c.args.i c.args.moment c.in-Err.fault c.self.invariant
    (ap (λ (t : SessionOf StreamState). t.book.mode) c.self.view_is ∙ c.requires.local)
    (λ other. (c.in-Err.ensures.value other).0) in
    absurd (not_memory (ap (λ (f : CutFault). (let r : Result CutDone StepFault = Err (Cut f) in r)) memory))

pub returns-in-Err-clause-no_memory : goal.returns-in-Err-clause-no_memory
returns-in-Err-clause-no_memory g c = λ _.
    let s : SessionOf StreamState = record { book = c.self.inside.book; streams = c.self.inside.streams.items } in
    let memory = only-memory s c.args.i c.args.moment c.in-Err.fault c.self.invariant
    (ap (λ (t : SessionOf StreamState). t.book.mode) c.self.view_is ∙ c.requires.local)
    (λ other. (c.in-Err.ensures.value other).0) in
    ap (λ (ts : List StreamState).
    (let s : SessionOf StreamState = record { book = c.self.inside.book; streams = ts } in s))
    (c.cut_at.ensures.no_memory
    (c.in-Err.is ∙ ap (λ (f : CutFault). (let r : Result CutDone CutFault = Err f in r)) memory))
    ∙ c.self.view_is

pub returns-in-Ok-clause-can : goal.returns-in-Ok-clause-can
returns-in-Ok-clause-can g c =
    let s : SessionOf StreamState = record { book = c.self.inside.book; streams = c.self.inside.streams.items } in
    subst (λ (t : SessionOf StreamState). IsOk (session_cut_answer by_state c.args.i t)) c.self.view_is
    (cut-can s c.args.i c.args.moment c.self.invariant
    (ap (λ (t : SessionOf StreamState). t.book.mode) c.self.view_is ∙ c.requires.local)
    (ap (λ (t : SessionOf StreamState). cut_moment c.args.i t.book) c.self.view_is ∙ c.requires.due))

pub returns-in-Err-clause-can : goal.returns-in-Err-clause-can
returns-in-Err-clause-can g c =
    let s : SessionOf StreamState = record { book = c.self.inside.book; streams = c.self.inside.streams.items } in
    subst (λ (t : SessionOf StreamState). IsOk (session_cut_answer by_state c.args.i t)) c.self.view_is
    (cut-can s c.args.i c.args.moment c.self.invariant
    (ap (λ (t : SessionOf StreamState). t.book.mode) c.self.view_is ∙ c.requires.local)
    (ap (λ (t : SessionOf StreamState). cut_moment c.args.i t.book) c.self.view_is ∙ c.requires.due))
