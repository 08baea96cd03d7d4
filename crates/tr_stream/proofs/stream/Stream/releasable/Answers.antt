use Rattle.std.proofs.Common.{rules, ◌<◌}
use Rattle.tr_book.specs.Parts.{IsForgetful}
use Rattle.tr_stream.proofs.ForgetLemmas.{told-gone}
use Rattle.tr_stream.proofs.stream.Stream.releasable.Goals as goal

pub returns-then-k-forgotten-clause-value : goal.returns-then-k-forgotten-clause-value
returns-then-k-forgotten-clause-value g c =
    let s = c.args.self.now in
    let is : IsForgetful s.parts = search rules in
    let gone : c.args.k < s.parts.forgotten = search rules in
    told-gone c.args.k s is gone
