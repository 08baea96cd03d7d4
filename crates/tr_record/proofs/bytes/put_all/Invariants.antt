use Rattle.std.proofs.Common.{◌≡◌, ◌≤◌, ◌-◌, length, take}
use Rattle.tr_record.specs.Bytes.{and_then_bytes}
use Rattle.tr_record.proofs.bytes.put_all.Given as goal

abbrev pub invariant-loop-at : goal.invariant-loop-at
invariant-loop-at g l = record {
  within : l.at ≤ length l.b;
  taken : g.K.ByteSink.taken l.sink ≡ and_then_bytes (g.K.ByteSink.taken l.initial.sink) (take l.at l.b);
  failures : g.K.ByteSink.failures l.sink ≡ g.K.ByteSink.failures l.initial.sink;
}

abbrev pub decreases-loop-at : goal.decreases-loop-at
decreases-loop-at g l = length l.b - l.at
