-- Each command, by what streams hold, and by their histories: both answer alike.
pub mod Archives
pub mod Channel
pub mod Clear
pub mod Consume
pub mod Create
pub mod Fate
pub mod Offer
pub mod Release
pub mod Rotate
pub mod Schedule
pub mod Snapshot
pub mod Start
pub mod Status
pub mod Thread
pub mod Tick
use Rattle.tr_command.specs.Asked.{Asked}
use Rattle.tr_command.specs.Asked as ask
use Rattle.tr_console.proofs.Agreement.Archives.{archives-agree}
use Rattle.tr_console.proofs.Agreement.Channel.{channel-agree}
use Rattle.tr_console.proofs.Agreement.Clear.{clear-agree}
use Rattle.tr_console.proofs.Agreement.Consume.{consume-agree}
use Rattle.tr_console.proofs.Agreement.Create.{create-agree}
use Rattle.tr_console.proofs.Agreement.Fate.{fate-agree}
use Rattle.tr_console.proofs.Agreement.Offer.{offer-agree}
use Rattle.tr_console.proofs.Agreement.Release.{release-agree}
use Rattle.tr_console.proofs.Agreement.Rotate.{rotate-agree, rotate_begin-agree, rotate_finish-agree, rotate_next-agree}
use Rattle.tr_console.proofs.Agreement.Schedule.{schedule-agree}
use Rattle.tr_console.proofs.Agreement.Snapshot.{snapshot-agree}
use Rattle.tr_console.proofs.Agreement.Start.{start-agree, stop-agree}
use Rattle.tr_console.proofs.Agreement.Status.{status-agree}
use Rattle.tr_console.proofs.Agreement.Thread.{thread-agree}
use Rattle.tr_console.proofs.Agreement.Tick.{tick-agree}
use Rattle.tr_console.proofs.WorldAgreement.{StepsAgree}
use Rattle.tr_console.specs.Agreement.{WorldsAgree}
use Rattle.tr_console.specs.commands.{request_step}
use Rattle.tr_console.specs.World.{World}
use Rattle.tr_console.specs.commands.Create.{mode_asked}
use Rattle.tr_stream.specs.Rules.{Traced, by_history, by_state}
use Rattle.tr_stream.specs.State.{StreamState}

-- the answer to what a line asks
pub answers-agree : (asked : Asked) (v : World StreamState) (w : World Traced) → WorldsAgree v w
    → StepsAgree (request_step by_state v asked) (request_step by_history w asked)
answers-agree (ask.Create session uuid offset snapshot) v w is = create-agree v w session uuid offset (mode_asked snapshot) is
answers-agree (ask.Channel session channel size count mode) v w is = channel-agree v w session channel size count mode is
answers-agree (ask.Thread session channel) v w is = thread-agree v w session channel is
answers-agree (ask.Start session moment) v w is = start-agree v w session moment is
answers-agree (ask.Stop session) v w is = stop-agree v w session is
answers-agree (ask.Offer session stream moment id text fill) v w is = offer-agree v w session stream moment id text fill is
answers-agree (ask.Consume session stream) v w is = consume-agree v w session stream is
answers-agree (ask.Clear session) v w is = clear-agree v w session is
answers-agree (ask.RotateBegin session moment) v w is = rotate_begin-agree v w session moment is
answers-agree (ask.RotateNext session) v w is = rotate_next-agree v w session is
answers-agree (ask.RotateFinish session) v w is = rotate_finish-agree v w session is
answers-agree (ask.Rotate session moment) v w is = rotate-agree v w session moment is
answers-agree (ask.Snapshot session moment) v w is = snapshot-agree v w session moment is
answers-agree (ask.Schedule session every size) v w is = schedule-agree v w session every size is
answers-agree (ask.Tick session moment) v w is = tick-agree v w session moment is
answers-agree (ask.Fate session stream serial) v w is = fate-agree v w session stream serial is
answers-agree (ask.Status session) v w is = status-agree v w session is
answers-agree (ask.Archives session) v w is = archives-agree v w session is
answers-agree (ask.Release session archive) v w is = release-agree v w session archive is
