use Rattle.std.proofs.Common.{◌∙◌, ap, List, subst}
use Rattle.std.specs.Prelude.{slice_get}
use Rattle.tr_session_book.proofs.ListLemmas.{copied-item}
use Rattle.tr_session.proofs.session.Session.stream.Goals as goal
use Rattle.tr_session.proofs.SizeLemmas.{archived-parts}
use Rattle.tr_session.proofs.StreamLemmas.{found-is}
use Rattle.tr_session.specs.Session.{HasItsStreams, SessionOf}
use Rattle.tr_stream.specs.State.{StreamState}

pub returns-clause-value : goal.returns-clause-value
returns-clause-value g c =
    copied-item c.deref.result.now c.args.i c.get.result c.get.ensures.lookup
    ∙ ap (λ (xs : List StreamState). slice_get xs c.args.i) c.deref.ensures.value
    ∙ ap (λ (s : SessionOf StreamState). slice_get s.streams c.args.i) c.self.view_is

pub returns-clause-is : goal.returns-clause-is
returns-clause-is g c =
    found-is c.args.self.now c.args.i c.get.result (subst HasItsStreams c.self.view_is c.self.invariant)
    (copied-item c.deref.result.now c.args.i c.get.result c.get.ensures.lookup
    ∙ ap (λ (xs : List StreamState). slice_get xs c.args.i) c.deref.ensures.value
    ∙ ap (λ (s : SessionOf StreamState). slice_get s.streams c.args.i) c.self.view_is)

pub returns-clause-archived : goal.returns-clause-archived
returns-clause-archived g c = archived-parts c.args.self.now.book c.args.i c.get.result (returns-clause-is g c)
