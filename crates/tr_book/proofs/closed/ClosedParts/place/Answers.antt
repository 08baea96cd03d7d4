use Rattle.std.proofs.Common.{arith}
use Rattle.std.proofs.lemmas.List.{length-append, length-map}
use Rattle.tr_book.proofs.ClosedLemmas.{held-past}
use Rattle.tr_book.specs.Closed.{gone_parts}
use Rattle.tr_book.proofs.closed.ClosedParts.place.Goals as goal

pub overflow_sub-result : goal.overflow_sub-result
overflow_sub-result g c =
    let gone = c.args.self.now.gone.items in
    let past = held-past (gone_parts gone) c.args.self.now.parts.items c.args.k c.requires.closed.released c.requires.held in
    omega (arith, c.forgotten.ensures, past, length-map gone (λ it. it.part.of))

pub returns-clause-place : goal.returns-clause-place
returns-clause-place g c =
    let gone = c.args.self.now.gone.items in
    let past = held-past (gone_parts gone) c.args.self.now.parts.items c.args.k c.requires.closed.released c.requires.held in
    omega (arith, c.forgotten.ensures, past, length-map gone (λ it. it.part.of))

pub returns-clause-within : goal.returns-clause-within
returns-clause-within g c =
    let gone = c.args.self.now.gone.items in
    let past = held-past (gone_parts gone) c.args.self.now.parts.items c.args.k c.requires.closed.released c.requires.held in
    omega (
      arith,
      c.forgotten.ensures,
      past,
      length-map gone (λ it. it.part.of),
      length-append (gone_parts gone) c.args.self.now.parts.items,
      c.requires.within,
    )
