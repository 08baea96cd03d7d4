use Rattle.std.proofs.Common.{◌≡◌, Ok}
use Rattle.tr_session.proofs.run.add_threads.Given as goal
use Rattle.tr_session.specs.Runs.{add_threads}
use Rattle.tr_stream.specs.Rules.{by_state}

-- so many threads are added
abbrev pub invariant-threads : goal.invariant-threads
invariant-threads g l = add_threads by_state l.channel l.added l.initial.session ≡ Ok l.session
