use Rattle.std.proofs.Common.{Err, Some, false, inl, refl, rules, subst, sym, true, ◌≡◌}
use Rattle.tr_console.proofs.CallLemmas.{on_err, refuses, session_kept, unchanged}
use Rattle.tr_console.proofs.console.Console.add_channel.Goals as goal
use Rattle.tr_replies.specs.Text.{Text}
use Rattle.tr_console.specs.World.{session_named, with_session}
use Rattle.tr_console.specs.commands.Channel.{channel_step}
use Rattle.tr_replies.specs.declared.line_fault.LineFault.TheVariants.{BadName, Session}
use Rattle.tr_session.specs.Steps.{session_add_channel}
use Rattle.tr_terms.specs.Names.{is_name}

pub returns-in_default-new-clause-done : goal.returns-in_default-new-clause-done
returns-in_default-new-clause-done g c =
    let w = c.args.self.now in
    let name = c.args.session.now in
    let s = c.in-Some.found.now in
    let found : session_named name w ≡ Some s = sym c.in-Some.ensures.found in
    let said = c.refusal-in_default-new.ensures in
    let channel = c.args.channel.now in
    let shape = c.args.shape in
    let bad : is_name channel ≡ false = search rules in
    refuses c.refusal-in_default-new.result w (with_session name w s) BadName
    (channel_step w name channel shape.size shape.count shape.mode) (λ _. rw (found, bad) refl)
    (unchanged w name s s found refl) said.text said.refused said.memory

pub returns-in_default-new-clause-failed : goal.returns-in_default-new-clause-failed
returns-in_default-new-clause-failed g c =
    let w = c.args.self.now in
    let name = c.args.session.now in
    let s = c.in-Some.found.now in
    let found : session_named name w ≡ Some s = sym c.in-Some.ensures.found in
    on_err c.refusal-in_default-new.result (inl (unchanged w name s s found refl))

pub returns-in-Err-clause-done : goal.returns-in-Err-clause-done
returns-in-Err-clause-done g c =
    let w = c.args.self.now in
    let name = c.args.session.now in
    let s = c.in-Some.found.now in
    let found : session_named name w ≡ Some s = sym c.in-Some.ensures.found in
    let t = c.add_channel.new.self in
    let said = c.refusal-in-Err.ensures in
    let channel = c.args.channel.now in
    let shape = c.args.shape in
    let f = c.in-Err.fault in
    let good : is_name channel ≡ true = search rules in
    refuses c.refusal-in-Err.result w (with_session name w t) (Session f)
    (channel_step w name channel shape.size shape.count shape.mode)
    (λ kept. (let refused : session_add_channel channel shape.size shape.count shape.mode s ≡ Err f =
    subst (λ (n : Text). session_add_channel n shape.size shape.count shape.mode s ≡ Err f) c.in-Some-new.ensures.value
    (c.in-Err.ensures.refused (session_kept f kept)) in rw (found, good) (rw refused refl)))
    (unchanged w name s t found c.in-Err.ensures.unchanged) said.text said.refused said.memory

pub returns-in-Err-clause-failed : goal.returns-in-Err-clause-failed
returns-in-Err-clause-failed g c =
    let w = c.args.self.now in
    let name = c.args.session.now in
    let s = c.in-Some.found.now in
    let found : session_named name w ≡ Some s = sym c.in-Some.ensures.found in
    let t = c.add_channel.new.self in
    on_err c.refusal-in-Err.result (inl (unchanged w name s t found c.in-Err.ensures.unchanged))
