use Rattle.std.proofs.Common.{◌≡◌, drop}
use Rattle.tr_recover.specs.Archive.{earliest}
use Rattle.tr_recover.proofs.spans.earliest.Given as goal

abbrev pub invariant-packets : goal.invariant-packets
invariant-packets g l = earliest l.fn.first l.fn.packets ≡ earliest l.found (drop l.packet-index l.packets)
