use Rattle.std.proofs.Common.{◌≡◌, ◌∙◌, ap}
use Rattle.tr_picture.specs.Lanes.{Lane}
use Rattle.tr_picture.specs.Threads.{Threads}
use Rattle.tr_picture.specs.declared.frame.Extent.{Extent}
use Rattle.tr_picture.specs.declared.rows.Row.{Row}
use Rattle.tr_survey.specs.declared.tally.Tally.{Tally}
use Rattle.tr_picture.proofs.rows.Row.add_packet.Goals as goal

abbrev made : Tally → Extent → Lane → Lane → Threads → Row
made tally extent packets losses threads = record { tally = tally; extent = extent; packets = packets; losses = losses; threads = threads }

same : (t u : Tally) (x y : Extent) (p q l m : Lane) (r s : Threads) → t ≡ u → x ≡ y → p ≡ q → l ≡ m → r ≡ s → made t x p l r ≡ made u y q m s
same t u x y p q l m r s a b d e g =
    ap (λ (z : Tally). made z x p l r) a ∙ ap (λ (z : Extent). made u z p l r) b ∙ ap (λ (z : Lane). made u y z l r) d
    ∙ ap (λ (z : Lane). made u y q z r) e ∙ ap (made u y q m) g

pub returns : goal.returns
returns c uuid stream =
    same _ _ _ _ _ _ _ _ _ _ (c.after-self.ensures uuid stream) c.with_packet-self.ensures c.in_ok-add_number.ensures c.in_ok-add_loss.ensures
    c.in_ok-add_packet.ensures
