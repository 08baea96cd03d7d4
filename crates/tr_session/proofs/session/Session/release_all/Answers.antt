use Rattle.std.proofs.Common.{rules, ◌≡◌, ◌≢◌, ◌∙◌, ◌<◌, ◌+◌, ℕ, Bool, false, Err, List, ap, arith, length, subst, sym}
use Rattle.std.specs.List.{list_any}
use Rattle.std.specs.Prelude.{◌||◌}
use Rattle.tr_session.proofs.ReleaseLemmas.{ReleasesSo, releases-all, releases-end, releases-more, releases-nothing}
use Rattle.tr_session.proofs.session.Session.release_all.Goals as goal
use Rattle.tr_session.specs.Session.{SessionOf}
use Rattle.tr_session.specs.Steps.{has_part}
use Rattle.tr_session_book.specs.declared.faults.SessionFault.TheVariants.{NoMemory}
use Rattle.tr_stream.specs.Rules.{by_state}
use Rattle.tr_stream.specs.State.{StreamState}

pub returns-then-eq-clause-memory : goal.returns-then-eq-clause-memory
returns-then-eq-clause-memory g c = λ _.
    let s = c.args.self.now in
    let within : c.streams.i < length s.streams =
    subst (λ (n : ℕ). c.streams.i < n) c.streams-i-end.ensures.value c.streams-test.true in
    let memory : c.release_stream-answer.result ≡ Err NoMemory = search rules in
    (releases-end c.args.k c.streams.i s c.streams.self c.release_stream-answer.new.self c.streams.left c.streams-i-end.ensures.own
    c.requires within c.streams.invariant (c.release_stream-answer.ensures.no_memory memory)
    (c.release_stream-answer.ensures.memory memory)).1

pub streams-preserved : goal.streams-preserved
streams-preserved g c =
    let s = c.args.self.now in
    let within : c.streams.i < length s.streams =
    subst (λ (n : ℕ). c.streams.i < n) c.streams-i-end.ensures.value c.streams-test.true in
    let other : c.release_stream-answer.result ≢ Err NoMemory = search rules in
    let did = c.release_stream-answer.ensures.value other in
    let more = releases-more c.args.k c.streams.i s c.streams.self c.release_stream-answer.new.self c.streams.left
    c.release_stream-answer.result c.streams-i-end.ensures.own c.requires within c.streams.invariant did.0 did.1 in
    subst (λ (b : Bool). ReleasesSo c.args.k (c.streams.i + 1) s c.release_stream-answer.new.self (c.streams.left || b))
    (sym c.is_ok-left.ensures.value) more

pub returns-else-left-clause-refused : goal.returns-else-left-clause-refused
returns-else-left-clause-refused g c = λ _.
    let s = c.args.self.now in
    let all : c.streams.i ≡ length s.streams =
    omega (arith, c.streams-test.false, c.streams.auto.i-end, c.streams-i-end.ensures.value) in
    let done = releases-all c.args.k c.streams.i s c.streams.self c.streams.left all c.streams.invariant in
    let none : list_any (has_part by_state c.args.k) s.streams ≡ false = sym done.0 ∙ c.if-left.false in
    done.1
    ∙ ap (λ (ts : List StreamState). (let t : SessionOf StreamState = record { book = s.book; streams = ts } in t))
    (releases-nothing c.args.k s.streams none)
