use Rattle.std.proofs.Common.{◌≡◌, ◌*◌, ◌-◌, ◌≤◌, ◌++◌, ℕ, List, Some, length, option_map, take}
use Rattle.tr_folders.specs.Kept.{file_of}
use Rattle.tr_folders.specs.Tree.{File}
use Rattle.tr_folders.specs.declared.folders.TheConstants.{MOST_BYTES}
use Rattle.tr_image.specs.Traces.{reach, trace_in}
use Rattle.tr_image.proofs.traces.trace_left.Given as goal

abbrev pub invariant-loop-len : goal.invariant-loop-len
invariant-loop-len g l = record {
  low : l.len ≤ reach;
  long : length l.window ≡ 2 * reach;
  tree : g.F.Folders.tree l.folders ≡ g.F.Folders.tree l.initial.folders;
  failures : g.F.Folders.failures l.folders ≡ g.F.Folders.failures l.initial.folders;
  left : (file : File) → g.F.Folders.left l.initial.folders ≡ Some file
      → (rest : List ℕ) × (g.F.Folders.left l.folders ≡ Some (file_of rest file.breaks))
      × (trace_in (option_map (λ u. u.now) l.wanted) file.bytes ≡ trace_in (option_map (λ u. u.now) l.wanted) (take l.len l.window ++ rest));
}

abbrev pub decreases-loop-len : goal.decreases-loop-len
decreases-loop-len g l = MOST_BYTES - g.F.Folders.given l.folders
