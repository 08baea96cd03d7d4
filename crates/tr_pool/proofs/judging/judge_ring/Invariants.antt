use Rattle.std.proofs.Common.{◌∷◌, [], take}
use Rattle.std.specs.List.{flat_map}
use Rattle.tr_pool.specs.Judging.{Judges}
use Rattle.tr_record.specs.Records.{Entry}
use Rattle.tr_stream.specs.Calls.{ring_records}
use Rattle.tr_pool.proofs.judging.judge_ring.Given as goal

abbrev pub invariant-records : goal.invariant-records
invariant-records l = Judges l.items (flat_map (λ (e : Entry). e ∷ []) (take l.k (ring_records l.stream.ring))) l.fn.least l.least
