-- `thread`: a thread of a channel; the answer is the number of its stream.
use Rattle.std.specs.Fmt.{decimal}
use Rattle.std.specs.Prelude.{◌++◌, codes, length}
use Rattle.tr_console.specs.Steps.{Step, addition_step, session_step}
use Rattle.tr_replies.specs.Text.{Text}
use Rattle.tr_console.specs.World.{World}
use Rattle.tr_session.specs.Steps.{session_add_thread}
use Rattle.tr_stream.specs.Rules.{StreamRules}

abbrev pub thread_step : {S : Type 0} → StreamRules S → World S → Text → Text → Step S
thread_step rules w name channel =
    session_step w name (λ s. addition_step w name (codes "stream " ++ decimal (length s.streams))
    (session_add_thread rules channel s))
