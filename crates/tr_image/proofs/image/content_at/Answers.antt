use Rattle.std.proofs.Common.{arith, true≢false, sym, ◌∙◌}
use Rattle.tr_image.proofs.MemoryLemmas.{front_starts, shows}
use Rattle.tr_image.proofs.image.content_at.Goals as goal
use Rattle.tr_image.proofs.image.content_at.Goals.{then-memory-lt-PACKET_HEADER-via-then-memory-lt-PACKET_HEADER, then-memory-lt-PACKET_HEADER-via-else-memory-lt-PACKET_HEADER+then-not-starts_with, then-bits-ne0-via-then-bits-ne0, then-bits-ne0-via-else-bits-ne0+then-size, then-bits-ne0-via-else-bits-ne0+else-size+then-size-2}

pub returns-then-memory-lt-PACKET_HEADER-clause-none : goal.returns-then-memory-lt-PACKET_HEADER-clause-none
returns-then-memory-lt-PACKET_HEADER-clause-none c p stands =
    let says = shows p c.args.memory.now stands in
    elim c.then-memory-lt-PACKET_HEADER.branch [
      | then-memory-lt-PACKET_HEADER-via-then-memory-lt-PACKET_HEADER w ↦ absurd (omega (arith, w.if-memory-lt-PACKET_HEADER.true, says.long))
      | then-memory-lt-PACKET_HEADER-via-else-memory-lt-PACKET_HEADER+then-not-starts_with w ↦
          absurd (true≢false (sym (front_starts c.args.memory.now says.front) ∙ (sym w.starts_with.ensures.value ∙ w.if-not-starts_with.true)))
    ]

pub returns-then-bits-ne0-clause-none : goal.returns-then-bits-ne0-clause-none
returns-then-bits-ne0-clause-none c p stands =
    let says = shows p c.args.memory.now stands in
    let bits = c.content_bits-bits.ensures in
    elim c.then-bits-ne0.branch [
      | then-bits-ne0-via-then-bits-ne0 w ↦ absurd (w.if-bits-ne0.true (omega (arith, bits, says.whole)))
      | then-bits-ne0-via-else-bits-ne0+then-size w ↦ absurd (omega (arith, bits, w.if-size.true, says.low))
      | then-bits-ne0-via-else-bits-ne0+else-size+then-size-2 w ↦ absurd (omega (arith, bits, w.if-size-2.true, says.high))
    ]

pub returns-then-size-memory-clause-none : goal.returns-then-size-memory-clause-none
returns-then-size-memory-clause-none c p stands =
    let says = shows p c.args.memory.now stands in
    absurd (omega (arith, c.content_bits-bits.ensures, c.if-size-memory.true, says.there))
