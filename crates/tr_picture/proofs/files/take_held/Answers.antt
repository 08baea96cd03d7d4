use Rattle.std.proofs.Common.{◌≡◌, ◌∙◌, ℕ, List, drop, ap, sym, subst, arith}
use Rattle.std.proofs.lemmas.List.{length-drop}
use Rattle.tr_picture.proofs.RowLemmas.{gone_more, gone_stopped}
use Rattle.tr_picture.specs.Steps.{AreFew, HasGone, IsStep}
use Rattle.tr_picture.specs.declared.files.Step.{Step}
use Rattle.tr_picture.specs.declared.files.Step.TheVariants.{Packet, Stopped}
use Rattle.tr_picture.specs.declared.rows.Row.{Row}
use Rattle.tr_survey.specs.Listing.{key_of}
use Rattle.tr_survey.specs.Streams.{place}
use Rattle.tr_picture.proofs.files.take_held.Goals as goal

pub packets-preserved : goal.packets-preserved
packets-preserved c =
    let rule = c.args.rule.now in
    let f = rule.frame.now in
    let at = place rule.uuid.now rule.stream (key_of rule.archive.now) in
    let held = c.args.held.now.items in
    let i = c.packets.at in
    let size = c.in-Packet.size in
    let bytes : c.split_at.result.1.now ≡ drop i held = c.split_at.ensures.back ∙ ap (drop i) c.deref.ensures.value in
    let came : IsStep f at c.packets.row (drop i held) (Packet size) c.take_front.new.row =
    subst (λ (l : List ℕ). IsStep f at c.packets.row l (Packet size) c.take_front.new.row) bytes
    (subst (λ (st : Step). IsStep f at c.packets.row c.split_at.result.1.now st c.take_front.new.row) c.in-Packet.is c.in_ok-size.ensures) in
    record {
      within = let l = length-drop i held in let few = came.1 in let some = came.0 in omega (arith, l, few, some);
      gone = λ n rest breaks enough.
          gone_more f at c.args.row.now n held rest breaks c.packets.row c.take_front.new.row size i (c.packets.invariant.gone n rest breaks enough) came;
    }

pub returns-in-Stopped : goal.returns-in-Stopped
returns-in-Stopped c n rest breaks enough =
    let rule = c.args.rule.now in
    let f = rule.frame.now in
    let at = place rule.uuid.now rule.stream (key_of rule.archive.now) in
    let held = c.args.held.now.items in
    let i = c.packets.at in
    let bytes : c.split_at.result.1.now ≡ drop i held = c.split_at.ensures.back ∙ ap (drop i) c.deref.ensures.value in
    let came : IsStep f at c.packets.row (drop i held) Stopped c.take_front.new.row =
    subst (λ (l : List ℕ). IsStep f at c.packets.row l Stopped c.take_front.new.row) bytes
    (subst (λ (st : Step). IsStep f at c.packets.row c.split_at.result.1.now st c.take_front.new.row) c.in-Stopped.is c.in_ok-size.ensures) in
    gone_stopped f at c.args.row.now n held rest breaks c.packets.row c.take_front.new.row (drop i held) (c.packets.invariant.gone n rest breaks enough) came

pub returns : goal.returns
returns c =
    let rule = c.args.rule.now in
    let f = rule.frame.now in
    let at = place rule.uuid.now rule.stream (key_of rule.archive.now) in
    let held = c.args.held.now.items in
    let i = c.packets.at in
    let bytes : c.split_at.result.1.now ≡ drop i held = c.split_at.ensures.back ∙ ap (drop i) c.deref.ensures.value in
    let left : c.in_ok-held.field-0.items ≡ drop i held = c.in_ok-held.ensures ∙ c.split_at-2.ensures.back ∙ ap (drop i) c.deref-2.ensures.value in
    let came : AreFew c.split_at.result.1.now × (c.take_front.new.row ≡ c.packets.row) =
    subst (λ (st : Step). IsStep f at c.packets.row c.split_at.result.1.now st c.take_front.new.row) c.in-Waits.is c.in_ok-size.ensures in (
      subst AreFew (bytes ∙ sym left) came.0,
      λ n rest breaks enough.
          subst (λ (l : List ℕ). HasGone f at c.args.row.now n held rest breaks c.take_front.new.row l) (sym left)
          (subst (λ (r : Row). HasGone f at c.args.row.now n held rest breaks r (drop i held)) (sym came.1) (c.packets.invariant.gone n rest breaks enough)),
    )
