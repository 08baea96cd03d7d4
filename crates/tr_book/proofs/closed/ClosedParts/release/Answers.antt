use Rattle.std.proofs.Common.{◌≡◌, ◌∙◌, ◌++◌, ap, arith, length, sym}
use Rattle.std.proofs.lemmas.List.{length-append}
use Rattle.tr_book.proofs.ChangeLemmas.{length-changed_at}
use Rattle.tr_book.proofs.ClosedLemmas.{change-over}
use Rattle.tr_book.specs.Closed.{gone_parts}
use Rattle.tr_book.specs.Parts.{release}
use Rattle.tr_book.proofs.closed.ClosedParts.release.Goals as goal

pub returns-clause-closed : goal.returns-clause-closed
returns-clause-closed g c =
    let gone = gone_parts c.args.self.now.gone.items in
    let count : length c.release_at.new.parts.items ≡ length c.args.self.now.parts.items =
    ap length c.in_ok-release_at.ensures.ok ∙ length-changed_at release c.place-at.result c.args.self.now.parts.items in
    record {
      paired = c.requires.closed.paired ∙ sym count;
      released = c.requires.closed.released;
      begun = c.requires.closed.begun;
      few = omega (
        arith,
        count,
        length-append gone c.args.self.now.parts.items,
        length-append gone c.release_at.new.parts.items,
        c.requires.closed.few,
      );
    }

pub returns-clause-ok : goal.returns-clause-ok
returns-clause-ok g c =
    ap (λ parts. gone_parts c.args.self.now.gone.items ++ parts) c.in_ok-release_at.ensures.ok
    ∙ change-over c.args.self.now c.args.k c.place-at.result c.place-at.ensures.place release
