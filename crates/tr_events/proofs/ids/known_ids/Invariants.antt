use Rattle.std.proofs.Common.{◌≡◌, length}
use Rattle.tr_events.specs.Ids.{AreSo}
use Rattle.tr_events.proofs.ids.known_ids.Given as goal

abbrev pub invariant-loop-id : goal.invariant-loop-id
invariant-loop-id g l = record {
  count : length l.known.items ≡ l.id;
  so : AreSo l.events l.known.items;
}
