-- `thread` by what streams hold, and by their histories.
use Rattle.std.proofs.Common.{codes, length, subst, ℕ, ◌++◌}
use Rattle.std.specs.Fmt.{decimal}
use Rattle.tr_console.proofs.WorldAgreement.{StepsAgree, at-agree, settled-agree}
use Rattle.tr_console.specs.Agreement.{WorldsAgree}
use Rattle.tr_console.specs.Steps.{addition_step}
use Rattle.tr_replies.specs.Text.{Text}
use Rattle.tr_console.specs.World.{World}
use Rattle.tr_console.specs.commands.Thread.{thread_step}
use Rattle.tr_session.proofs.Agreement.{agree-thread, same-length}
use Rattle.tr_session.specs.Steps.{session_add_thread}
use Rattle.tr_stream.specs.Rules.{Traced, by_history, by_state}
use Rattle.tr_stream.specs.State.{StreamState}

pub thread-agree : (v : World StreamState) (w : World Traced) (name channel : Text) → WorldsAgree v w
    → StepsAgree (thread_step by_state v name channel) (thread_step by_history w name channel)
thread-agree v w name channel is = at-agree v w name _ _ is (λ a b agree.
    subst (λ (n : ℕ). StepsAgree
    (addition_step v name (codes "stream " ++ decimal (length a.streams)) (session_add_thread by_state channel a))
    (addition_step w name (codes "stream " ++ decimal n) (session_add_thread by_history channel b)))
    (same-length a.streams b.streams agree.streams)
    (settled-agree v w name (codes "stream " ++ decimal (length a.streams)) (session_add_thread by_state channel a)
    (session_add_thread by_history channel b) is (agree-thread a b agree channel)))
