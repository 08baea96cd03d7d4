use Rattle.std.proofs.Common.{ℕ, List, Result, Some, ap, inr, sym, ◌∙◌, ◌≡◌}
use Rattle.tr_console.proofs.CallLemmas.{called, left, on_err}
use Rattle.tr_console.proofs.console.Console.offer.Goals as goal
use Rattle.tr_replies.specs.LineFaults.{from_step}
use Rattle.tr_console.specs.World.{session_named, with_session}
use Rattle.tr_console.specs.commands.Offer.{offered_text, payload_of}
use Rattle.tr_session.specs.Session.{SessionOf}
use Rattle.tr_session.specs.Steps.{session_after_offer, session_offer_answer}
use Rattle.tr_session.specs.declared.faults.StepFault.{StepFault}
use Rattle.tr_stream.specs.Rules.{by_state}
use Rattle.tr_stream.specs.State.{StreamState}
use Rattle.tr_stream.specs.declared.answers.Offered.{Offered}

pub returns-clause-done : goal.returns-clause-done
returns-clause-done g c =
    let w = c.args.self.now in
    let name = c.args.session.now in
    let s = c.in-Some.found.now in
    let found : session_named name w ≡ Some s = sym c.in-Some.ensures.found in
    let t = c.offer-answer.new.self in
    let said = c.offered_reply.ensures in
    let payload = payload_of c.args.text.now c.args.fill in
    let bytes : c.as_slice.result.now ≡ payload = c.as_slice.ensures.value ∙ c.in_ok-payload.ensures in
    let answer : List ℕ → SessionOf StreamState → Result Offered StepFault =
    λ bs u. session_offer_answer by_state c.args.offer.stream c.args.offer.moment c.args.offer.id bs u in
    let next : List ℕ → SessionOf StreamState → SessionOf StreamState =
    λ bs u. session_after_offer by_state c.args.offer.stream c.args.offer.moment c.args.offer.id bs u in
    called c.offered_reply.result w name offered_text (λ u. from_step (answer payload u)) (next payload) s t c.from_step.result
    found (λ _. (
      c.from_step.ensures ∙ ap from_step (c.offer-answer.ensures.answer ∙ ap (λ bs. answer bs s) bytes),
      c.offer-answer.ensures.after ∙ ap (λ bs. next bs s) bytes,
    )) said.text said.refused said.memory

pub returns-clause-failed : goal.returns-clause-failed
returns-clause-failed g c =
    let w = c.args.self.now in
    let name = c.args.session.now in
    let s = c.in-Some.found.now in
    let found : session_named name w ≡ Some s = sym c.in-Some.ensures.found in
    let t = c.offer-answer.new.self in
    let payload = payload_of c.args.text.now c.args.fill in
    let bytes : c.as_slice.result.now ≡ payload = c.as_slice.ensures.value ∙ c.in_ok-payload.ensures in
    let next : List ℕ → SessionOf StreamState → SessionOf StreamState =
    λ bs u. session_after_offer by_state c.args.offer.stream c.args.offer.moment c.args.offer.id bs u in
    on_err c.offered_reply.result (left w name offered_text (next payload) s t found (with_session name w t ≡ w)
    (λ u. from_step (session_offer_answer by_state c.args.offer.stream c.args.offer.moment c.args.offer.id payload u))
    (inr (c.offer-answer.ensures.after ∙ ap (λ bs. next bs s) bytes)))
