use Rattle.std.proofs.Common.{◌∙◌, ap, length, sym}
use Rattle.tr_book.proofs.ChangeLemmas.{length-changed_at}
use Rattle.tr_book.proofs.parts.Parts.release.Goals as goal
use Rattle.tr_book.specs.Closed.{closed_of}
use Rattle.tr_book.specs.Parts.{release}

pub invariant_of-self-2 : goal.invariant_of-self-2
invariant_of-self-2 g c = (
  c.self.invariant.0
      ∙ sym (length-changed_at release c.args.k (closed_of c.self.inside.closed))
      ∙ sym (ap (λ parts. length parts) c.in_ok-release.ensures.ok),
  c.self.invariant.1,
  c.in_ok-release.ensures.closed,
)
