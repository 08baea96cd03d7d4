-- What handles have may cross threads.
use denote.RattleType.{RattleType}
use denote.Param.Send.{IsSend, IsSync, sendable}
use denote.Builtin.{bool, usize}
use Rattle.std.proofs.Crossing.{Arc-send, crosses, frees, send as memory}
use Rattle.std.specs.contracts.alloc.Global as heap
use Rattle.std.specs.contracts.impls.GlobalAllocator.TheImpl.{ghosts}
use Rattle.circular_buffer.proofs.Crosses.{Cells-send, Deed-send}
use Rattle.circular_buffer.specs.contracts.cells.Base as Base
use Rattle.circular_buffer.specs.contracts.cells.Cells as Cells
use Rattle.circular_buffer.specs.contracts.cells.Deed as Deed
use Rattle.circular_buffer.specs.contracts.heap.HeapCircularBuffer as Buffer
use Rattle.circular_buffer.specs.contracts.ring.Ring as Places
use Rattle.indexmap.specs.contracts.columns.Columns as Columns
use Rattle.indexmap.specs.contracts.index_table.IndexTable as Table
use Rattle.std.specs.contracts.hash.BuildHasherDefault as Hasher
use Rattle.std.specs.contracts.hash.FoldHasher as Fold
use Rattle.std.specs.contracts.option.Option as Option
use Rattle.std.specs.contracts.string.String as String
use Rattle.std.specs.contracts.vec.Vec as Vec
use Rattle.tr_schedule.specs.contracts.schedule.Schedule as Schedule
use Rattle.tr_session_book.specs.contracts.state.State as State
use Rattle.tr_terms.specs.contracts.moment.Moment as Moment
use Rattle.tr_terms.specs.contracts.offset.OffsetMinutes as OffsetMinutes
use Rattle.tr_terms.specs.contracts.session_mode.SessionMode as SessionMode
use Rattle.uuid.specs.contracts.Uuid as Uuid
use Rattle.tr_book.specs.contracts.book.Book as Book
use Rattle.tr_book.specs.contracts.closed.ClosedParts as ClosedParts
use Rattle.tr_book.specs.contracts.closed.Gone as Gone
use Rattle.tr_book.specs.contracts.part.Part as Part
use Rattle.tr_book.specs.contracts.part.Body as Body
use Rattle.tr_book.specs.contracts.parts.Parts as Parts
use Rattle.tr_book.specs.contracts.runs.Runs as Runs
use Rattle.tr_chunk.specs.contracts.audit_fault.AuditFault as AuditFault
use Rattle.tr_chunk.specs.contracts.stream_audit.Gaps as Gaps
use Rattle.tr_chunk.specs.contracts.stream_audit.StreamAudit as StreamAudit
use Rattle.tr_events.specs.contracts.event.Event as Event
use Rattle.tr_events.specs.contracts.event.Field as Field
use Rattle.tr_events.specs.contracts.event.Label as Label
use Rattle.tr_events.specs.contracts.events.Events as Events
use Rattle.tr_events.specs.contracts.ids.Known as Known
use Rattle.tr_events.specs.contracts.variables.Variable as Variable
use Rattle.tr_packet.specs.contracts.text.PacketText as PacketText
use Rattle.tr_ring.specs.contracts.ring.Ring as Ring
use Rattle.tr_ring.specs.contracts.sealed.Sealed as Sealed
use Rattle.tr_session_book.specs.contracts.archive.Archive as Archive
use Rattle.tr_session_book.specs.contracts.archive.Pending as Pending
use Rattle.tr_session_book.specs.contracts.channel.Channel as Channel
use Rattle.tr_stream.specs.contracts.config.StreamConfig as StreamConfig
use Rattle.tr_stream.specs.contracts.spares.Spares as Spares
use Rattle.tr_subbuf.specs.contracts.sub_buffer.SubBuf as SubBuf
use Rattle.tr_held.specs.Kept.{audit_row, book_row, events_row, removed_row, snap_row, spares_row, stream_row}

text : IsSend (PacketText.the_row heap.the_row ghosts)
text = search (sendable, crosses) depth 40

texts : IsSend (Vec.the_row (PacketText.the_row heap.the_row ghosts) heap.the_row ghosts)
texts = search (sendable, crosses, text) depth 40

runs : IsSend (Runs.the_row heap.the_row ghosts)
runs = search (sendable, crosses) depth 40

body : IsSend (Body.the_row heap.the_row ghosts)
body = search (sendable, crosses, texts, runs) depth 40

part : IsSend (Part.the_row heap.the_row ghosts)
part = search (sendable, crosses, body) depth 40

gone : IsSend (Gone.the_row heap.the_row ghosts)
gone = search (sendable, crosses) depth 40

closed : IsSend (ClosedParts.the_row heap.the_row ghosts)
closed = search (sendable, crosses, part, gone) depth 40

parts : IsSend (Parts.the_row heap.the_row ghosts)
parts = record {
  owned = λ d vs x. (
    (λ p. (
      tt,
      (
        memory.owned x.0.alloc p.0,
        (
          closed.owned x.0.closed p.1.0,
          (part.owned x.0.current p.1.1.0, (runs.owned x.0.cleared p.1.1.1.0, tt)),
        ),
      ),
    )),
    tt,
  );
  leaving = λ k d w. tt;
}

config : IsSend StreamConfig.the_row
config = search (sendable, crosses) depth 40

counters : IsSend Book.the_row
counters = search (sendable, crosses) depth 40

sub_buf : IsSend (SubBuf.the_row heap.the_row ghosts)
sub_buf = search (sendable, crosses) depth 40

sealed : IsSend (Sealed.the_row heap.the_row ghosts)
sealed = search (sendable, crosses, sub_buf) depth 40

module _ (R : RattleType) (sent : IsSend R) where
  base : IsSend (Base.the_row R)
  base = search (sendable, crosses) depth 40

  cells : IsSend (Cells.the_row R)
  cells = Cells-send R sent

  deed : IsSend (Deed.the_row R heap.the_row ghosts)
  deed = Deed-send R heap.the_row ghosts frees

  places : IsSend (Places.the_row R heap.the_row ghosts)
  places = search (sendable, crosses, base, cells, deed) depth 40

  buffer : IsSend (Buffer.the_row R heap.the_row ghosts)
  buffer = record { owned = λ d vs x. ((λ parts. (tt, (places.owned x.0.ring parts.0, tt))), tt); leaving = λ k d w. tt }

waiting : IsSend (Buffer.the_row (Sealed.the_row heap.the_row ghosts) heap.the_row ghosts)
waiting = buffer (Sealed.the_row heap.the_row ghosts) sealed

free : IsSend (Buffer.the_row (SubBuf.the_row heap.the_row ghosts) heap.the_row ghosts)
free = buffer (SubBuf.the_row heap.the_row ghosts) sub_buf

ring : IsSend (Ring.the_row heap.the_row ghosts)
ring = search (sendable, crosses, waiting, free, sub_buf) depth 40

pub spares : IsSend spares_row
spares = search (sendable, crosses, sub_buf) depth 40

pub removed : IsSend removed_row
removed = search (sendable, crosses, texts) depth 40

pub stream : IsSend stream_row
stream = search (sendable, crosses, ring, spares, parts, counters, config) depth 40

pub snap : IsSend snap_row
snap = search (sendable, crosses, texts) depth 40

gaps : IsSend (Gaps.the_row heap.the_row ghosts)
gaps = search (sendable, crosses) depth 40

found : IsSend (StreamAudit.the_row heap.the_row ghosts)
found = search (sendable, crosses, gaps) depth 40

fault : IsSend AuditFault.the_row
fault = search (sendable, crosses) depth 40

pub audit : IsSend audit_row
audit = search (sendable, crosses, found, fault) depth 40

archive : IsSend Archive.the_row
archive = search (sendable, crosses) depth 40

pending : IsSend Pending.the_row
pending = search (sendable, crosses, archive) depth 40

channel : IsSend Channel.the_row
channel = search (sendable, crosses) depth 40

columns : IsSend (Columns.the_row (String.the_row heap.the_row ghosts) Channel.the_row heap.the_row ghosts)
columns = search (sendable, crosses, channel) depth 40

table : IsSend (Table.the_row heap.the_row ghosts)
table = search (sendable, crosses) depth 40

flag : IsSend bool
flag = search (sendable, crosses, archive, pending) depth 40

uuid : IsSend Uuid.the_row
uuid = search (sendable, crosses, archive, pending) depth 40

offset : IsSend OffsetMinutes.the_row
offset = search (sendable, crosses, archive, pending) depth 40

moment : IsSend Moment.the_row
moment = search (sendable, crosses, archive, pending) depth 40

session_mode : IsSend SessionMode.the_row
session_mode = search (sendable, crosses, archive, pending) depth 40

state : IsSend State.the_row
state = search (sendable, crosses, archive, pending) depth 40

threads : IsSend (Vec.the_row usize heap.the_row ghosts)
threads = search (sendable, crosses, archive, pending) depth 40

unfinished : IsSend (Option.the_row Pending.the_row)
unfinished = search (sendable, crosses, archive, pending) depth 40

archives : IsSend (Vec.the_row Archive.the_row heap.the_row ghosts)
archives = search (sendable, crosses, archive, pending) depth 40

schedule : IsSend (Option.the_row Schedule.the_row)
schedule = search (sendable, crosses, archive, pending) depth 40

hasher : IsSend (Hasher.the_row Fold.the_row)
hasher = search (sendable, crosses, archive, pending) depth 40

label : IsSend (Label.the_row heap.the_row ghosts)
label = search (sendable, crosses) depth 40

field : IsSend (Field.the_row heap.the_row ghosts)
field = search (sendable, crosses, label) depth 40

event : IsSend (Event.the_row heap.the_row ghosts)
event = search (sendable, crosses, field) depth 40

known : IsSend Known.the_row
known = search (sendable, crosses) depth 40

variable : IsSend (Variable.the_row heap.the_row ghosts)
variable = search (sendable, crosses) depth 40

events : IsSend (Events.the_row heap.the_row ghosts)
events = search (sendable, crosses, variable, event, known) depth 40

label-sync : IsSync (Label.the_row heap.the_row ghosts)
label-sync = search (sendable, crosses) depth 40

field-sync : IsSync (Field.the_row heap.the_row ghosts)
field-sync = search (sendable, crosses, label-sync) depth 40

event-sync : IsSync (Event.the_row heap.the_row ghosts)
event-sync = search (sendable, crosses, field-sync) depth 40

known-sync : IsSync Known.the_row
known-sync = search (sendable, crosses) depth 40

variable-sync : IsSync (Variable.the_row heap.the_row ghosts)
variable-sync = search (sendable, crosses) depth 40

events-sync : IsSync (Events.the_row heap.the_row ghosts)
events-sync = search (sendable, crosses, variable-sync, event-sync, known-sync) depth 40

pub declared : IsSend events_row
declared = Arc-send (Events.the_row heap.the_row ghosts) events events-sync

pub book : IsSend book_row
book = record {
  owned = λ d vs x. (
    (λ p. (
      tt,
      (
        memory.owned x.0.alloc p.0,
        (
          uuid.owned x.0.uuid p.1.0,
          (
            offset.owned x.0.offset p.1.1.0,
            (
              session_mode.owned x.0.mode p.1.1.1.0,
              (
                state.owned x.0.state p.1.1.1.1.0,
                (
                  flag.owned x.0.rotated p.1.1.1.1.1.0,
                  (
                    moment.owned x.0.last p.1.1.1.1.1.1.0,
                    (
                      moment.owned x.0.begin p.1.1.1.1.1.1.1.0,
                      (
                        (λ y. ((λ q. (tt, (columns.owned y.0.columns q.0, (table.owned y.0.table q.1.0, (hasher.owned y.0.hash_builder q.1.1.0, tt))))), tt)),
                        (
                          threads.owned x.0.threads p.1.1.1.1.1.1.1.1.1.0,
                          (
                            unfinished.owned x.0.pending p.1.1.1.1.1.1.1.1.1.1.0,
                            (
                              archives.owned x.0.archives p.1.1.1.1.1.1.1.1.1.1.1.0,
                              (
                                schedule.owned x.0.schedule p.1.1.1.1.1.1.1.1.1.1.1.1.0,
                                (events.owned x.0.events p.1.1.1.1.1.1.1.1.1.1.1.1.1.0, tt),
                              ),
                            ),
                          ),
                        ),
                      ),
                    ),
                  ),
                ),
              ),
            ),
          ),
        ),
      ),
    )),
    tt,
  );
  leaving = λ k d w. tt;
}
