use Rattle.std.proofs.Common.{◌≡◌, ◌+◌, ◌-◌, ◌<◌, ◌≤◌, ℕ, List, ◌++◌, Some, length, take}
use Rattle.tr_folders.specs.Kept.{file_of}
use Rattle.tr_folders.specs.Tree.{File}
use Rattle.tr_folders.specs.declared.folders.TheConstants.{MOST_BYTES}
use Rattle.tr_folders.proofs.reading.read_front.Given as goal

abbrev pub invariant-loop-at : goal.invariant-loop-at
invariant-loop-at g l = record {
  within : l.at ≤ length l.buffer;
  tree : g.F.Folders.tree l.folders ≡ g.F.Folders.tree l.initial.folders;
  failures : g.F.Folders.failures l.folders ≡ g.F.Folders.failures l.initial.folders;
  given : g.F.Folders.given l.folders ≡ g.F.Folders.given l.initial.folders + l.at;
  few : 0 < l.at → g.F.Folders.given l.folders < MOST_BYTES;
  front : (file : File) → g.F.Folders.left l.initial.folders ≡ Some file
      → (rest : List ℕ) × (file.bytes ≡ take l.at l.buffer ++ rest) × (g.F.Folders.left l.folders ≡ Some (file_of rest file.breaks));
}

abbrev pub decreases-loop-at : goal.decreases-loop-at
decreases-loop-at g l = length l.initial.buffer - l.at
