-- `snapshot`: what all streams hold at one moment.
use Rattle.std.specs.Prelude.{List, [], ℕ, ◌++◌, ◌∷◌}
use Rattle.tr_book.specs.Snaps.{SnapState}
use Rattle.tr_console.specs.Steps.{Step, call_step, session_step}
use Rattle.tr_console.specs.World.{World}
use Rattle.tr_replies.specs.LineFaults.{from_session}
use Rattle.tr_replies.specs.Snapshots.{packet_lines, snapshot_head, stream_line}
use Rattle.tr_replies.specs.Text.{Text}
use Rattle.tr_session.specs.Steps.{session_after_snapshot, session_snapshot_answer}
use Rattle.tr_snapshot.specs.Snapshots.{SnapshotState}
use Rattle.tr_stream.specs.Rules.{StreamRules}

-- the lines of streams, each followed by those of its packets, a newline before each line
abbrev pub stream_lines : List SnapState → Text
stream_lines [] = []
stream_lines (s ∷ ss) = 10 ∷ (stream_line s ++ (packet_lines s.packets ++ stream_lines ss))

-- a snapshot: its moment, and what is shown of each stream
abbrev pub snapshot_text : SnapshotState → Text
snapshot_text s = snapshot_head s.moment ++ stream_lines s.streams

abbrev pub snapshot_step : {S : Type 0} → StreamRules S → World S → Text → ℕ → Step S
snapshot_step rules w name moment =
    session_step w name (λ s. call_step w name snapshot_text (from_session (session_snapshot_answer rules moment s))
    (session_after_snapshot moment s))
