use Rattle.std.proofs.Common.{Some, ap, refl, sym, ◌∙◌, ◌≡◌}
use Rattle.tr_console.proofs.CallLemmas.{on_err}
use Rattle.tr_console.proofs.RotateLemmas.{called_archive, left_archive}
use Rattle.tr_console.proofs.console.Console.rotate.Goals as goal
use Rattle.tr_console.specs.World.{session_named, with_session}
use Rattle.tr_console.specs.commands.Rotate.{IsHeldUpNamed}
use Rattle.tr_session.specs.Steps.{session_after_rotate, session_rotate_answer}
use Rattle.tr_stream.specs.Rules.{by_state}

pub returns-clause-done : goal.returns-clause-done
returns-clause-done g c =
    let w = c.args.self.now in
    let name = c.args.session.now in
    let s = c.in-Some.found.now in
    let found : session_named name w ≡ Some s = sym c.in-Some.ensures.found in
    let t = c.rotate.new.self in
    let said = c.archived_reply.ensures in
    called_archive w name (session_after_rotate by_state c.args.moment) s t found (session_rotate_answer by_state c.args.moment)
    c.rotate.result c.rotate.ensures.value c.archived_reply.result c.archive_named.result c.offset-offset.result
    c.archive_named.ensures (c.offset-offset.ensures ∙ ap (λ b. b.offset) c.book.ensures) said.text said.refused said.memory

pub returns-clause-failed : goal.returns-clause-failed
returns-clause-failed g c =
    let w = c.args.self.now in
    let name = c.args.session.now in
    let s = c.in-Some.found.now in
    let found : session_named name w ≡ Some s = sym c.in-Some.ensures.found in
    let t = c.rotate.new.self in
    on_err c.archived_reply.result (left_archive w name (session_after_rotate by_state c.args.moment) s t found
    (session_rotate_answer by_state c.args.moment) c.rotate.result c.rotate.ensures.value
    (IsHeldUpNamed by_state name c.args.moment w (with_session name w t))
    (λ e. record { before = s; after = t; found = found; held_up = c.rotate.ensures.no_memory e; is = refl }))
