use Rattle.std.proofs.Common.{rules}
use Rattle.tr_session_book.proofs.TimeLemmas.{chained-ended, numbered-more}
use Rattle.tr_session_book.proofs.book.SessionBook.rotate_finish.Goals as goal

pub invariant_of-self : goal.invariant_of-self
invariant_of-self g c =
    let kept = c.self.invariant.1 in
    let archives = c.self.inside.archives.items in
    let now = c.push_reserved.new.self.items in
    let p = c.in-Some.pending in
    let chained = chained-ended archives now c.self.inside.pending p c.self.inside.begin kept.5.0 c.in-Some.is c.push_reserved.ensures.items in
    let numbered = numbered-more archives now p.archive kept.2.0 (kept.2.1 p c.in-Some.is) c.push_reserved.ensures.items in
    (search rules, (kept.0, search rules, (numbered, search rules), search rules, kept.4, (chained, kept.5.1)))
