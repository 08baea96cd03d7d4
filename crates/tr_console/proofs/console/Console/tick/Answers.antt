use Rattle.std.proofs.Common.{Some, refl, sym, ◌≡◌}
use Rattle.tr_console.proofs.CallLemmas.{called, left_told, on_err, on_wants, unchanged}
use Rattle.tr_console.proofs.console.Console.tick.Goals as goal
use Rattle.tr_console.specs.World.{session_named, with_session}
use Rattle.tr_console.specs.commands.Rotate.{IsHeldUpNamed}
use Rattle.tr_console.specs.commands.Tick.{tick_text, tick_told}
use Rattle.tr_session.specs.Steps.{session_after_tick, session_tick_answer}
use Rattle.tr_stream.specs.Rules.{by_state}

pub returns-clause-done : goal.returns-clause-done
returns-clause-done g c =
    let w = c.args.self.now in
    let name = c.args.session.now in
    let s = c.in-Some.found.now in
    let found : session_named name w ≡ Some s = sym c.in-Some.ensures.found in
    let t = c.tick.new.session in
    let said = c.tick_reply.ensures in
    called c.tick_reply.result w name tick_text (λ u. tick_told u (session_tick_answer by_state c.args.moment u))
    (session_after_tick by_state c.args.moment) s t c.tick.result found c.tick.ensures.value said.text said.refused
    said.memory

pub returns-clause-failed : goal.returns-clause-failed
returns-clause-failed g c =
    let w = c.args.self.now in
    let name = c.args.session.now in
    let s = c.in-Some.found.now in
    let found : session_named name w ≡ Some s = sym c.in-Some.ensures.found in
    let t = c.tick.new.session in
    on_err c.tick_reply.result (left_told w name tick_text (session_after_tick by_state c.args.moment) s t found
    (IsHeldUpNamed by_state name c.args.moment w (with_session name w t))
    (λ u. tick_told u (session_tick_answer by_state c.args.moment u)) c.tick.result c.tick.ensures.value
    (on_wants c.tick.result c.tick.ensures.no_memory
    (λ held. record { before = s; after = t; found = found; held_up = held; is = refl })))

pub returns-clause-idle : goal.returns-clause-idle
returns-clause-idle g c = λ idle.
    let w = c.args.self.now in
    let name = c.args.session.now in
    let s = c.in-Some.found.now in
    let found : session_named name w ≡ Some s = sym c.in-Some.ensures.found in
    let t = c.tick.new.session in
    unchanged w name s t found (c.tick.ensures.idle (rw found at idle))
