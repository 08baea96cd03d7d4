-- The types of what handles have.
use denote.RattleType.{RattleType}
use Rattle.std.specs.contracts.alloc.Global as heap
use Rattle.std.specs.contracts.impls.GlobalAllocator.TheImpl.{ghosts}
use Rattle.std_alloc.specs.contracts.arc.Arc as arc
use Rattle.tr_book.specs.contracts.snap.StreamSnap as snap
use Rattle.tr_chunk.specs.contracts.audit_reader.AuditReader as audit
use Rattle.tr_events.specs.contracts.events.Events as events
use Rattle.tr_session_book.specs.contracts.book.SessionBook as book
use Rattle.tr_stream.specs.contracts.removed.Removed as removed
use Rattle.tr_stream.specs.contracts.spares.Spares as spares
use Rattle.tr_stream.specs.contracts.stream.Stream as stream

abbrev pub stream_row : RattleType
stream_row = stream.the_row heap.the_row ghosts

abbrev pub spares_row : RattleType
spares_row = spares.the_row heap.the_row ghosts

abbrev pub removed_row : RattleType
removed_row = removed.the_row heap.the_row ghosts

abbrev pub book_row : RattleType
book_row = book.the_row heap.the_row ghosts

-- events that several handles may have
abbrev pub events_row : RattleType
events_row = arc.the_row (events.the_row heap.the_row ghosts) heap.the_row ghosts

abbrev pub snap_row : RattleType
snap_row = snap.the_row heap.the_row ghosts

abbrev pub audit_row : RattleType
audit_row = audit.the_row heap.the_row ghosts
