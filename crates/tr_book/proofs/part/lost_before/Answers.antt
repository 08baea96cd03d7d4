use Rattle.std.proofs.Common.{rules, ◌≡◌, ◌-◌, ◌∙◌, suc, ap, arith, get_or, sym}
use Rattle.tr_book.proofs.PacketLemmas.{lost-at}
use Rattle.tr_book.proofs.part.lost_before.Goals as goal
use Rattle.tr_book.specs.Runs.{lost_before}
use Rattle.tr_packet.specs.Packets.{Contents}

pub returns : goal.returns
returns g c =
    let xs = c.args.texts.now in
    let i = c.args.place - 1 in
    let p : Contents = c.index-texts-place.result in
    let one : c.args.place ≡ suc i = omega (arith, c.if-place-eq0.false) in
    let at : p ≡ get_or xs i p = search rules in
    let told : c.head.result.lost ≡ p.head.lost = search rules in
    told ∙ ap (λ (q : Contents). q.head.lost) at ∙ lost-at 0 xs i p (omega (arith, one, c.requires))
    ∙ ap (λ k. lost_before 0 k xs) (sym one)
