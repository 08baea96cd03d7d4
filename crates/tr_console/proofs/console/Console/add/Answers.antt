use Rattle.std.proofs.Common.{◌≡◌, ◌∙◌, ◌∷◌, ◌++◌, [], None, false, is_some, ap, subst, sym}
use Rattle.std.specs.Map.{lookup}
use Rattle.std.specs.String.{string_bytes}
use Rattle.tr_console.proofs.CallLemmas.{on_err}
use Rattle.tr_console.proofs.SessionLemmas.{is_named}
use Rattle.tr_console.proofs.console.Console.add.Goals as goal
use Rattle.tr_console.specs.World.{World, session_named, world_of}
use Rattle.tr_console.specs.commands.Create.{with_new}
use Rattle.tr_session_book.proofs.NameLemmas.{insert_entry-new_name, is_some-by_name, named-more}
use Rattle.tr_session_book.specs.Names.{AreNamed, by_name}
use Rattle.tr_stream.specs.State.{StreamState}

pub returns-in_err-insert-clause-err : goal.returns-in_err-insert-clause-err
returns-in_err-insert-clause-err g c =
    on_err c.from_residual-in_err-insert.result (ap (λ m. world_of (by_name m) c.self.inside.events) c.in_err-insert.ensures.err ∙ c.self.view_is)

pub invariant_of-self-2 : goal.invariant_of-self-2
invariant_of-self-2 g c =
    let es = c.self.inside.sessions.entries in
    let name = c.args.name.now in
    let none : session_named name (world_of (by_name es) c.self.inside.events) ≡ None =
    subst (λ (w : World StreamState). session_named name w ≡ None) (sym c.self.view_is) c.requires in
    let free : is_some (lookup (is_named name) es) ≡ false = is_some-by_name name es ∙ ap is_some none in
    let key : string_bytes c.in_ok-name.name ≡ name = c.in_ok-name.ensures.ok ∙ c.as_str.ensures.value in
    subst AreNamed (sym (insert_entry-new_name name es c.insert.new.self.entries c.in_ok-name.name c.args.session key free
    c.in_ok-insert.ensures.entries)) (named-more (by_name es) name c.args.session c.self.invariant c.as_str.ensures.name)

pub returns-clause-ok : goal.returns-clause-ok
returns-clause-ok g c =
    let es = c.self.inside.sessions.entries in
    let name = c.args.name.now in
    let none : session_named name (world_of (by_name es) c.self.inside.events) ≡ None =
    subst (λ (w : World StreamState). session_named name w ≡ None) (sym c.self.view_is) c.requires in
    let free : is_some (lookup (is_named name) es) ≡ false = is_some-by_name name es ∙ ap is_some none in
    let key : string_bytes c.in_ok-name.name ≡ name = c.in_ok-name.ensures.ok ∙ c.as_str.ensures.value in
    ap (λ m. world_of m c.self.inside.events) (insert_entry-new_name name es c.insert.new.self.entries c.in_ok-name.name c.args.session
    key free c.in_ok-insert.ensures.entries) ∙ ap (with_new name c.args.session) c.self.view_is
