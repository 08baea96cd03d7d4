use Rattle.std.proofs.Common.{arith}
use Rattle.tr_stream.proofs.SearchLemmas.{begun-few}
use Rattle.tr_stream.proofs.search.begun.Goals as goal
use Rattle.tr_stream.specs.Chunks.{ring_buffers}

pub overflow_add-count : goal.overflow_add-count
overflow_add-count g c =
    omega (arith, c.loop-buffer.invariant, begun-few c.args.serial (ring_buffers 0 c.args.ring.now), c.requires)

pub overflow_add-count-then-first_serial-serial-2 : goal.overflow_add-count-then-first_serial-serial-2
overflow_add-count-then-first_serial-serial-2 g c =
    omega (arith, c.loop-buffer.invariant, begun-few c.args.serial (ring_buffers 0 c.args.ring.now), c.requires)
