use Rattle.std.proofs.Common.{◌≡◌, ◌≤◌, length, vec_len}
use Rattle.std.specs.Prelude.{vec_capacity}
use Rattle.tr_shared.proofs.shared.Shared.snapshot_by.Given as goal
use Rattle.tr_shared.specs.Shown.{AreShown}

-- the first streams are shown, with room for all
abbrev pub invariant-loop-i : goal.invariant-loop-i
invariant-loop-i g l = record {
  many : vec_len l.snaps ≡ l.i;
  items : length l.snaps.items ≡ l.i;
  room : l.i-end ≤ vec_capacity l.snaps;
  shown : AreShown g.N.Names.plan l.stored l.snaps.items;
}
