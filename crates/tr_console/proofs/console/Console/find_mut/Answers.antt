use Rattle.std.proofs.Common.{◌∙◌, ap, ap₂, subst, sym}
use Rattle.std.specs.Option.{ghost_name_of}
use Rattle.tr_console.proofs.SessionLemmas.{named-is, names-kept, set-is}
use Rattle.tr_console.proofs.console.Console.find_mut.Goals as goal
use Rattle.tr_console.specs.World.{World, session_named, with_session, world_of}
use Rattle.tr_session_book.specs.Names.{AreNamed, by_name}
use Rattle.tr_stream.specs.State.{StreamState}
use borrow.Follows.Closed.{read_of}
use mathlib.Core.Path.{fun_ext}

pub invariant_of-self-lent : goal.invariant_of-self-lent
invariant_of-self-lent g c = λ found.
    let es = c.self.inside.sessions.entries in
    let name = c.args.name.now in (
      λ s. subst AreNamed (ap by_name (sym (c.get_mut.follows.holds s).0)) (names-kept name es s c.self.invariant),
      subst AreNamed (ap (λ m. by_name m.entries) (sym c.get_mut.follows.holds-at-none)) c.self.invariant,
    )

pub returns : goal.returns
returns g c =
    let es = c.self.inside.sessions.entries in
    let name = c.args.name.now in (
      ap₂ (λ left before. read_of (ghost_name_of c.get_mut.result) left before)
          (fun_ext (λ s. ap (λ m. world_of m c.self.inside.events) (ap by_name (c.get_mut.follows.holds s).0) ∙ set-is name es c.self.inside.events s
          ∙ ap (λ (w : World StreamState). with_session name w s) c.self.view_is))
          (ap (λ m. world_of (by_name m.entries) c.self.inside.events) c.get_mut.follows.holds-at-none ∙ c.self.view_is),
      c.get_mut.ensures.value ∙ named-is name es c.self.inside.events ∙ ap (session_named name) c.self.view_is,
    )
