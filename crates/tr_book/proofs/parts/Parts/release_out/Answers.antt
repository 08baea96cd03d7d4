use Rattle.std.proofs.Common.{◌∙◌, ap, length, sym}
use Rattle.std.specs.Prelude.{slice_get}
use Rattle.tr_book.proofs.ChangeLemmas.{length-changed_at}
use Rattle.tr_book.proofs.parts.Parts.release_out.Goals as goal
use Rattle.tr_book.specs.Closed.{closed_of}
use Rattle.tr_book.specs.Parts.{PartsState, release}

pub invariant_of-self-2 : goal.invariant_of-self-2
invariant_of-self-2 g c = (
  c.self.invariant.0
      ∙ sym (length-changed_at release c.args.k (closed_of c.self.inside.closed))
      ∙ sym (ap (λ parts. length parts) c.in_ok-texts.ensures.ok),
  c.self.invariant.1,
  c.in_ok-texts.ensures.closed,
)

pub returns-clause-packets : goal.returns-clause-packets
returns-clause-packets g c = λ part at.
    c.in_ok-texts.ensures.packets part (ap (λ (s : PartsState). slice_get s.closed c.args.k) c.self.view_is ∙ at)
