use Rattle.std.proofs.Common.{rules, ◌≡◌, ◌<◌, ◌∙◌, ◌∷◌, ap, sym, length, slice_get, ◌+◌, ◌-◌, arith, List}
use Rattle.std.proofs.lemmas.Grind.{common_steps}
use Rattle.tr_ring.proofs.RecordLemmas.{found-here, found-later, records_from}
use Rattle.tr_ring.proofs.ring.Ring.record.Goals as goal
use Rattle.tr_ring.specs.ClosedBuffer.{ClosedBuffer}

pub returns-then-left-count : goal.returns-then-left-count
returns-then-left-count g c =
    let steps : c.loop-buffer.buffer-iterator ≡ c.in-Some.buffer ∷ c.next.new.self = search rules in
    let within : c.loop-buffer.left < length c.in-Some.buffer.records = search rules in
    let one : c.at.result ≡ slice_get c.in-Some.buffer.records c.loop-buffer.left = search rules in
    one ∙ found-here c.in-Some.buffer c.next.new.self c.args.self.now.current c.loop-buffer.left within
    ∙ ap (λ (bs : List ClosedBuffer). slice_get (records_from bs c.args.self.now.current) c.loop-buffer.left) (sym steps)
    ∙ c.loop-buffer.invariant

pub loop-buffer-preserved : goal.loop-buffer-preserved
loop-buffer-preserved g c =
    let steps : c.loop-buffer.buffer-iterator ≡ c.in-Some.buffer ∷ c.next.new.self = search rules in
    let count : c.count-count.result ≡ length c.in-Some.buffer.records = search rules in
    let more : c.loop-buffer.left ≡ length c.in-Some.buffer.records + (c.loop-buffer.left - c.count-count.result) = search rules in
    found-later c.in-Some.buffer c.next.new.self c.args.self.now.current c.loop-buffer.left
    (c.loop-buffer.left - c.count-count.result) more
    ∙ ap (λ (bs : List ClosedBuffer). slice_get (records_from bs c.args.self.now.current) c.loop-buffer.left) (sym steps)
    ∙ c.loop-buffer.invariant

pub returns : goal.returns
returns g c = grind (arith, common_steps)
