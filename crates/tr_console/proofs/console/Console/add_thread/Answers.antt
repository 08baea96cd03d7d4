use Rattle.std.proofs.Common.{Some, codes, inl, length, sym, ◌++◌, ◌∙◌, ◌≡◌}
use Rattle.std.specs.Fmt.{decimal}
use Rattle.tr_console.proofs.CallLemmas.{added-err, at-some, on_err, refuses, session_kept, unchanged}
use Rattle.tr_console.proofs.console.Console.add_thread.Goals as goal
use Rattle.tr_console.specs.Steps.{addition_step}
use Rattle.tr_replies.specs.Text.{Text}
use Rattle.tr_console.specs.World.{session_named, with_session}
use Rattle.tr_console.specs.commands.Thread.{thread_step}
use Rattle.tr_replies.specs.declared.line_fault.LineFault.TheVariants.{Session}
use Rattle.tr_session.specs.Session.{SessionOf}
use Rattle.tr_session.specs.Steps.{session_add_thread}
use Rattle.tr_stream.specs.Rules.{by_state}
use Rattle.tr_stream.specs.State.{StreamState}

pub returns-in-Err-clause-done : goal.returns-in-Err-clause-done
returns-in-Err-clause-done g c =
    let w = c.args.self.now in
    let name = c.args.session.now in
    let s = c.in-Some.found.now in
    let found : session_named name w ≡ Some s = sym c.in-Some.ensures.found in
    let t = c.add_thread.new.self in
    let said = c.refusal-in-Err.ensures in
    let f = c.in-Err.fault in
    let text : SessionOf StreamState → Text = λ u. codes "stream " ++ decimal (length u.streams) in
    refuses c.refusal-in-Err.result w (with_session name w t) (Session f) (thread_step by_state w name c.args.channel.now)
    (λ kept. at-some w name (λ u. addition_step w name (text u) (session_add_thread by_state c.args.channel.now u)) s found
    ∙ added-err w name (text s) (session_add_thread by_state c.args.channel.now s) f
    (c.in-Err.ensures.refused (session_kept f kept)))
    (unchanged w name s t found c.in-Err.ensures.unchanged) said.text said.refused said.memory

pub returns-in-Err-clause-failed : goal.returns-in-Err-clause-failed
returns-in-Err-clause-failed g c =
    let w = c.args.self.now in
    let name = c.args.session.now in
    let s = c.in-Some.found.now in
    let found : session_named name w ≡ Some s = sym c.in-Some.ensures.found in
    let t = c.add_thread.new.self in
    on_err c.refusal-in-Err.result (inl (unchanged w name s t found c.in-Err.ensures.unchanged))
