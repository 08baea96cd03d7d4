use Rattle.std.proofs.Common.{refl}
use Rattle.tr_session.proofs.CallLemmas.{no-streams, same-session}
use Rattle.tr_session.proofs.session.Session.new.Goals as goal
use Rattle.tr_session_book.specs.Book.{new_book}

pub invariant_of-result : goal.invariant_of-result
invariant_of-result g c = same-session (new_book c.args.uuid c.args.offset c.args.mode) c.new.result _ c.new-2.result.items
    c.new.ensures c.new-2.ensures.items (no-streams (new_book c.args.uuid c.args.offset c.args.mode) refl)
