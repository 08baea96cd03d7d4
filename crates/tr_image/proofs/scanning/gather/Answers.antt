use Rattle.std.proofs.Common.{◌≡◌, ◌<◌, ◌∙◌, [], ◌∷◌, ℕ, List, None, Some, ap, arith, length, sym}
use Rattle.tr_packet.specs.Packets.{Contents}
use Rattle.tr_image.specs.Image.{packet_at, packets_before}
use Rattle.tr_image.specs.Kept.{gathered}
use Rattle.tr_image.proofs.ScanLemmas.{none_before, one_more}
use Rattle.tr_image.proofs.scanning.gather.Goals as goal
use Rattle.tr_image.proofs.scanning.gather.Goals.{in-Some+in_ok-place, in_default}

pub places-init : goal.places-init
places-init c = sym (ap (gathered c.args.kept.now.items) (none_before c.args.uuid.now c.args.bytes.now))

pub places-preserved : goal.places-preserved
places-preserved c =
    let within : c.places.at < length c.args.bytes.now = omega (arith, c.places-test.true, c.requires) in
    elim c.match-branch-2.branch [
      | in-Some+in_ok-place w ↦
          let is : Some w.in-Some.packet ≡ packet_at c.args.uuid.now _ =
          sym w.in-Some.is ∙ (c.in_ok-packet.ensures ∙ ap (packet_at c.args.uuid.now) c.split_at.ensures.back) in
          ap (λ v. v.items) w.kept-is
          ∙ (w.in_ok-place.ensures.ok
          ∙ (ap (λ (ps : List Contents). gathered ps (w.in-Some.packet ∷ [])) c.places.invariant
          ∙ sym (one_more c.args.uuid.now c.args.bytes.now c.places.at (Some w.in-Some.packet) c.args.kept.now.items within is)))
      | in_default w ↦
          let is : None ≡ packet_at c.args.uuid.now _ =
          sym w.in_default.is ∙ (c.in_ok-packet.ensures ∙ ap (packet_at c.args.uuid.now) c.split_at.ensures.back) in
          ap (λ v. v.items) w.kept-is
          ∙ (c.places.invariant ∙ sym (one_more c.args.uuid.now c.args.bytes.now c.places.at None c.args.kept.now.items within is))
    ]

pub returns : goal.returns
returns c =
    let all : c.places.at ≡ c.args.until = omega (arith, c.places-test.false, c.places.auto.at-end) in
    c.places.invariant ∙ ap (λ (n : ℕ). gathered c.args.kept.now.items (packets_before n c.args.uuid.now c.args.bytes.now)) all
