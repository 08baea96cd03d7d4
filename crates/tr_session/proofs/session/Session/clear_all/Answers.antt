use Rattle.std.proofs.Common.{◌≡◌, ◌∙◌, ◌<◌, ◌^◌, ℕ, ap, arith, length, rules, subst, sym}
use Rattle.tr_session.proofs.ClearLemmas.{clear-can, clear-wants, clears-are, clears-can, clears-end, clears-more, next-same}
use Rattle.tr_session.proofs.session.Session.clear_all.Goals as goal
use Rattle.tr_session.specs.Steps.{clear_first, session_clear_answer}
use Rattle.tr_stream.specs.Rules.{by_state}
use Rattle.std.specs.Prelude.{IsOk, Result}
use Rattle.tr_session_book.specs.declared.faults.SessionFault.{SessionFault}
use Rattle.tr_stream.specs.declared.answers.Cleared.{Cleared}

pub returns-in-Err-clause-reason : goal.returns-in-Err-clause-reason
returns-in-Err-clause-reason g c =
    let s = c.args.self.now in
    let i = c.streams.i in
    let within : i < length s.streams = subst (λ (n : ℕ). i < n) c.streams-i-end.ensures.value c.streams-test.true in
    let same : session_clear_answer by_state i c.streams.self ≡ session_clear_answer by_state i s =
    ap (session_clear_answer by_state i) c.streams.invariant.is ∙ next-same i s in
    let can : IsOk (session_clear_answer by_state i c.streams.self) =
    subst (λ (r : Result Cleared SessionFault). IsOk r) (sym same)
    (clear-can s i c.streams-i-end.ensures.own c.requires.local c.requires.allowed within) in
    clear-wants (session_clear_answer by_state i c.streams.self) c.in-Err.fault can (λ isnt. (c.in-Err.ensures.value isnt).0)

pub returns-in-Err-clause-some : goal.returns-in-Err-clause-some
returns-in-Err-clause-some g c =
    let s = c.args.self.now in
    let within : c.streams.i < length s.streams =
    subst (λ (n : ℕ). c.streams.i < n) c.streams-i-end.ensures.value c.streams-test.true in
    let wants = returns-in-Err-clause-reason g c in
    let memory = ap (λ (f : SessionFault). (let r : Result Cleared SessionFault = Result.Err f in r)) wants in
    clears-end c.streams.i c.streams.records s c.streams.self c.clear_stream.new.self within c.streams.invariant
    (c.in-Err.ensures.no_memory memory) (c.in-Err.ensures.memory memory)

pub returns-in-Err-clause-can : goal.returns-in-Err-clause-can
returns-in-Err-clause-can g c = clears-can c.args.self.now c.streams-i-end.ensures.own c.requires.local c.requires.allowed
    (length c.args.self.now.streams) (omega arith)

pub streams-preserved : goal.streams-preserved
streams-preserved g c =
    let s = c.args.self.now in
    let within : c.streams.i < length s.streams =
    subst (λ (n : ℕ). c.streams.i < n) c.streams-i-end.ensures.value c.streams-test.true in
    let did = c.in-Ok.ensures.value (λ memory. absurd cc) in
    let few : c.in-Ok.cleared.records < 2 ^ 64 = search rules in
    rw c.from-records.ensures
    (clears-more c.streams.i c.streams.records s c.streams.self c.clear_stream.new.self c.in-Ok.cleared
    c.streams-i-end.ensures.own c.requires.allowed within c.streams.invariant did.0 did.1 few)

pub returns-clause-after : goal.returns-clause-after
returns-clause-after g c =
    let s = c.args.self.now in
    let all : c.streams.i ≡ length s.streams =
    omega (arith, c.streams-test.false, c.streams.auto.i-end, c.streams-i-end.ensures.value) in
    c.streams.invariant.is ∙ sym (clears-are s c.requires.allowed c.streams-i-end.ensures.own.as_many c.streams.i (omega (arith, all)))
    ∙ ap (λ (n : ℕ). clear_first by_state n s) all
