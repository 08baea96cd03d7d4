-- The commands: what each answers, the first refusal that applies, or what it does.
pub mod Archives
pub mod Channel
pub mod Clear
pub mod Consume
pub mod Create
pub mod Fate
pub mod Offer
pub mod Release
pub mod Rotate
pub mod Schedule
pub mod Snapshot
pub mod Start
pub mod Status
pub mod Thread
pub mod Tick
use Rattle.tr_command.specs.Asked.{Asked}
use Rattle.tr_command.specs.Asked as ask
use Rattle.tr_console.specs.Steps.{Step}
use Rattle.tr_console.specs.World.{World}
use Rattle.tr_console.specs.commands.Archives.{archives_step}
use Rattle.tr_console.specs.commands.Channel.{channel_step}
use Rattle.tr_console.specs.commands.Clear.{clear_step}
use Rattle.tr_console.specs.commands.Consume.{consume_step}
use Rattle.tr_console.specs.commands.Create.{create_step, mode_asked}
use Rattle.tr_console.specs.commands.Fate.{fate_step}
use Rattle.tr_console.specs.commands.Offer.{offer_step}
use Rattle.tr_console.specs.commands.Release.{release_step}
use Rattle.tr_console.specs.commands.Rotate.{rotate_begin_step, rotate_finish_step, rotate_next_step, rotate_step}
use Rattle.tr_console.specs.commands.Schedule.{schedule_step}
use Rattle.tr_console.specs.commands.Snapshot.{snapshot_step}
use Rattle.tr_console.specs.commands.Start.{start_step, stop_step}
use Rattle.tr_console.specs.commands.Status.{status_step}
use Rattle.tr_console.specs.commands.Thread.{thread_step}
use Rattle.tr_console.specs.commands.Tick.{tick_step}
use Rattle.tr_stream.specs.Rules.{StreamRules}

abbrev pub request_step : {S : Type 0} → StreamRules S → World S → Asked → Step S
request_step rules w (ask.Create session uuid offset snapshot) = create_step w session uuid offset (mode_asked snapshot)
request_step rules w (ask.Channel session channel size count mode) = channel_step w session channel size count mode
request_step rules w (ask.Thread session channel) = thread_step rules w session channel
request_step rules w (ask.Start session moment) = start_step rules w session moment
request_step rules w (ask.Stop session) = stop_step rules w session
request_step rules w (ask.Offer session stream moment id text fill) = offer_step rules w session stream moment id text fill
request_step rules w (ask.Consume session stream) = consume_step rules w session stream
request_step rules w (ask.Clear session) = clear_step rules w session
request_step rules w (ask.RotateBegin session moment) = rotate_begin_step w session moment
request_step rules w (ask.RotateNext session) = rotate_next_step rules w session
request_step rules w (ask.RotateFinish session) = rotate_finish_step w session
request_step rules w (ask.Rotate session moment) = rotate_step rules w session moment
request_step rules w (ask.Snapshot session moment) = snapshot_step rules w session moment
request_step rules w (ask.Schedule session every size) = schedule_step w session every size
request_step rules w (ask.Tick session moment) = tick_step rules w session moment
request_step rules w (ask.Fate session stream serial) = fate_step rules w session stream serial
request_step rules w (ask.Status session) = status_step rules w session
request_step rules w (ask.Archives session) = archives_step rules w session
request_step rules w (ask.Release session archive) = release_step rules w session archive
