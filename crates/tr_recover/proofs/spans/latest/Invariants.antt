use Rattle.std.proofs.Common.{◌≡◌, drop}
use Rattle.tr_recover.specs.Archive.{latest}
use Rattle.tr_recover.proofs.spans.latest.Given as goal

abbrev pub invariant-packets : goal.invariant-packets
invariant-packets g l = latest l.fn.first l.fn.packets ≡ latest l.found (drop l.packet-index l.packets)
