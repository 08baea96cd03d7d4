use Rattle.std.proofs.Common.{rules, arith, inl, inr}
use Rattle.tr_threads.proofs.worker.make_turns.Goals as goal

-- all turns were made
pub returns-after-turns : goal.returns-after-turns
returns-after-turns g c = record {
  turns = c.turns.turn;
  within = omega arith;
  let_in = c.turns.invariant.2;
  ended = inl (omega arith);
  took = c.turns.invariant.3;
}

-- the gate didn't let the worker in
pub returns-then-not-before : goal.returns-then-not-before
returns-then-not-before g c = record {
  turns = c.turns.turn;
  within = omega arith;
  let_in = c.turns.invariant.2;
  ended = inr (search rules);
  took = c.turns.invariant.3;
}
