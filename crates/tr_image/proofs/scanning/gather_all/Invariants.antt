use Rattle.std.proofs.Common.{◌≡◌, ◌*◌, ◌-◌, ◌≤◌, ◌++◌, ℕ, List, Some, length, take}
use Rattle.tr_folders.specs.Kept.{file_of}
use Rattle.tr_folders.specs.Tree.{File}
use Rattle.tr_folders.specs.declared.folders.TheConstants.{MOST_BYTES}
use Rattle.tr_record.specs.Whole.{AreBytes}
use Rattle.tr_image.specs.Image.{packets_in}
use Rattle.tr_image.specs.Kept.{gathered, recovered_from}
use Rattle.tr_image.proofs.scanning.gather_all.Given as goal
use Rattle.tr_terms.specs.declared.limits.TheConstants.{LARGEST_PACKET}

abbrev pub invariant-loop-kept : goal.invariant-loop-kept
invariant-loop-kept g l = record {
  low : l.len ≤ LARGEST_PACKET;
  long : length l.window ≡ 2 * LARGEST_PACKET;
  small : AreBytes l.window;
  tree : g.F.Folders.tree l.folders ≡ g.F.Folders.tree l.initial.folders;
  failures : g.F.Folders.failures l.folders ≡ g.F.Folders.failures l.initial.folders;
  left : (file : File) → g.F.Folders.left l.initial.folders ≡ Some file
      → (rest : List ℕ) × (g.F.Folders.left l.folders ≡ Some (file_of rest file.breaks));
  found : (file : File) → g.F.Folders.left l.initial.folders ≡ Some file → AreBytes file.bytes
      → (rest : List ℕ) × (g.F.Folders.left l.folders ≡ Some (file_of rest file.breaks)) × AreBytes rest
      × (recovered_from l.uuid file.bytes ≡ gathered l.kept.items (packets_in l.uuid (take l.len l.window ++ rest)));
}

abbrev pub decreases-loop-kept : goal.decreases-loop-kept
decreases-loop-kept g l = MOST_BYTES - g.F.Folders.given l.folders
