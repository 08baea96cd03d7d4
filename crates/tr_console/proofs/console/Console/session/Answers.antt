use Rattle.std.proofs.Common.{◌∙◌, None, Some, ap, sym, true≢false}
use Rattle.std.specs.Prelude.{slice_get}
use Rattle.tr_console.proofs.SessionLemmas.{entry-is}
use Rattle.tr_console.specs.World.{World}
use Rattle.tr_console.proofs.console.Console.session.Goals as goal
use Rattle.tr_replies.specs.Text.{Text}
use Rattle.tr_session_book.proofs.NameLemmas.{named-at}
use Rattle.tr_stream.specs.State.{StreamState}
use Rattle.tr_terms.specs.Names.{is_name}

pub returns-in_default : goal.returns-in_default
returns-in_default g c =
    entry-is c.self.inside.sessions.entries c.args.k None c.in_default.ensures.entry
    ∙ ap (λ (w : World StreamState). slice_get w.sessions c.args.k) c.self.view_is

pub unreachable-requires : goal.unreachable-requires
unreachable-requires g c =
    let named = named-at c.self.inside.sessions.entries c.args.k (c.in-Some.text.now, c.in-Some.session.now)
    c.self.invariant (sym c.in-Some.ensures.entry) in
    true≢false (sym (c.in_default-new.ensures.succeeds.1 (ap is_name c.as_str.ensures.value ∙ named)))

pub returns : goal.returns
returns g c =
    ap (λ (n : Text). Some (n, c.in-Some.session.now)) (c.in-Some-new.ensures.value ∙ c.as_str.ensures.value)
    ∙ entry-is c.self.inside.sessions.entries c.args.k (Some (c.in-Some.text.now, c.in-Some.session.now)) c.in-Some.ensures.entry
    ∙ ap (λ (w : World StreamState). slice_get w.sessions c.args.k) c.self.view_is
