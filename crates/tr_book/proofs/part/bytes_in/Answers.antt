use Rattle.std.proofs.Common.{arith}
use Rattle.tr_book.proofs.BookLemmas.{one_more}
use Rattle.tr_book.proofs.part.bytes_in.Goals as goal

pub loop-text-preserved : goal.loop-text-preserved
loop-text-preserved g c =
    let more = one_more c.args.texts.now c.loop-text.text-index c.text-item.result c.loop-text-test.true c.text-item.is c.text.ensures.packet in
    record {
      sum = omega (arith, more.bytes, c.text.ensures.size, c.loop-text.invariant.sum);
      small = omega (arith, more.records, more.small, c.text.ensures.size, c.loop-text.invariant.small);
    }
