-- `tick`: a rotation, if one is due.
use Rattle.std.specs.Prelude.{Err, Ok, Result, codes, ℕ, ◌++◌, ◌∷◌}
use Rattle.tr_console.specs.Steps.{Step, call_step, session_step}
use Rattle.tr_replies.specs.Text.{Text}
use Rattle.tr_console.specs.World.{World}
use Rattle.tr_replies.specs.OneLine.{archive_text}
use Rattle.tr_console.specs.declared.commands.tick.TickTold.TheVariants as told
use Rattle.tr_console.specs.declared.commands.tick.TickTold.{TickTold}
use Rattle.tr_replies.specs.declared.line_fault.LineFault.TheVariants.{Session}
use Rattle.tr_replies.specs.declared.line_fault.LineFault.{LineFault}
use Rattle.tr_schedule.specs.Due.{cause_word}
use Rattle.tr_session.specs.Session.{SessionOf}
use Rattle.tr_session.specs.Steps.{session_after_tick, session_tick_answer}
use Rattle.tr_session.specs.declared.ticks.Ticked.TheVariants as ticked
use Rattle.tr_session.specs.declared.ticks.Ticked.{Ticked}
use Rattle.tr_session_book.specs.declared.faults.SessionFault.{SessionFault}
use Rattle.tr_stream.specs.Rules.{StreamRules}

-- what a tick did, with what the name of its archive needs
abbrev pub tick_told : {S : Type 0} → SessionOf S → Result Ticked SessionFault → Result TickTold LineFault
tick_told s (Ok ticked.Idle) = Ok told.Idle
tick_told s (Ok (ticked.Rotated cause archive)) =
    Ok (told.Rotated cause (record { archive = archive; offset = s.book.offset }))
tick_told s (Err why) = Err (Session why)

abbrev pub tick_text : TickTold → Text
tick_text told.Idle = codes "idle"
tick_text (told.Rotated cause named) =
    codes "rotated " ++ (cause_word cause ++ (32 ∷ archive_text named.offset named.archive))

abbrev pub tick_step : {S : Type 0} → StreamRules S → World S → Text → ℕ → Step S
tick_step rules w name moment =
    session_step w name (λ s. call_step w name tick_text (tick_told s (session_tick_answer rules moment s))
    (session_after_tick rules moment s))
