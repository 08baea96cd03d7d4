use Rattle.std.proofs.Common.{◌≡◌}
use Rattle.tr_image.specs.Image.{packets_before}
use Rattle.tr_image.specs.Kept.{gathered}
use Rattle.tr_image.proofs.scanning.gather.Given as goal

abbrev pub invariant-places : goal.invariant-places
invariant-places l = l.kept.items ≡ gathered l.initial.kept.items (packets_before l.at l.uuid l.bytes)
