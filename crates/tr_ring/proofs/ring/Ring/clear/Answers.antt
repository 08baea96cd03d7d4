use Rattle.std.proofs.Common.{List, ap, ◌∙◌, arith}
use Rattle.std.proofs.lemmas.Grind.{common_steps}
use Rattle.std.proofs.lemmas.List.{drop-drop}
use Rattle.tr_ring.specs.ClosedBuffer.{ClosedBuffer}
use Rattle.tr_ring.specs.Ring.{drop_front}
use Rattle.tr_ring.proofs.ring.Ring.clear.Goals as goal

pub loop-preserved : goal.loop-preserved
loop-preserved g c =
    let old = c.args.self.now in
    c.drop_front.ensures ∙ ap drop_front c.loop.invariant
    ∙ ap (λ (bs : List ClosedBuffer). record old { waiting = bs }) (drop-drop 1 c.loop.counter old.waiting)

pub drop_front-requires : goal.drop_front-requires
drop_front-requires g c = grind (arith, common_steps)

pub returns : goal.returns
returns g c = grind (arith, common_steps)
