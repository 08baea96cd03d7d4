-- What the sessions of a console end as, once a reference to one of them has ended.
use Rattle.std.specs.Borrow.{Fml, LendsIf, MutBor, RattleType}
use Rattle.std.specs.Prelude.{Option}
use Rattle.std.specs.declared.alloc.Allocator as alloc
use Rattle.tr_replies.specs.Text.{Text}
use Rattle.tr_console.specs.World.{World, with_session}
use Rattle.tr_console.specs.contracts.console.Console.{the_row as console_row}
use Rattle.tr_session.specs.Session.{SessionOf}
use Rattle.tr_session.specs.contracts.session.Session.{the_row as session_row}
use Rattle.tr_stream.specs.State.{StreamState}

-- the session of this name is the last one that was left after the reference, and the others are as they were; without a
-- reference all are
abbrev pub lends_session : (A : RattleType) → (memory : alloc.Ghosts A.Denot) → MutBor (World StreamState) → Text
    → Option (MutBor (SessionOf StreamState)) → Fml
lends_session A memory console name found =
    LendsIf (console_row A memory) (session_row A memory) console found (with_session name console.now) console.now
