use Rattle.std.proofs.Common.{◌≡◌, length}
use Rattle.std.specs.List.{AllByRecursion}
use Rattle.tr_ring.specs.Pages.{IsFree}
use Rattle.tr_ring.proofs.ring.free_pages.Given as goal

-- as many pages are made as were counted, and there is room for all
abbrev pub invariant-loop : goal.invariant-loop
invariant-loop g l =
    AllByRecursion (IsFree l.size) l.pages.items × (length l.pages.items ≡ l.counter) × (l.pages.capacity ≡ l.count)
