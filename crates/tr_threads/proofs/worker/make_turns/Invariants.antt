use Rattle.std.proofs.Common.{◌≡◌, ◌<◌, ℕ, true}
use Rattle.tr_threads.specs.Turns.{AfterTurns, Takes, stream_of}
use Rattle.tr_threads.proofs.worker.make_turns.Given as goal

-- the turns so far: each was let in, and the seat is as they left it; the next stream is that of the turn
abbrev pub invariant-turns : goal.invariant-turns
invariant-turns g l =
    (l.i ≡ stream_of (g.T.Target.stream_count l.target) l.workers l.worker l.turn)
    × (l.i < g.T.Target.stream_count l.target)
    × ((t : ℕ) → t < l.turn → g.G.Gate.lets l.gate l.worker t true)
    × AfterTurns (λ t p q. Takes (g.T.Target.takes l.target) (stream_of (g.T.Target.stream_count l.target) l.workers l.worker t) p q) l.turn l.fn.seat l.seat
