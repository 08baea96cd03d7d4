use Rattle.std.proofs.Common.{◌≡◌, drop}
use Rattle.tr_folders.specs.Kept.{bytes_kept}
use Rattle.tr_folders.proofs.memory.MemoryFoldersFolders.open.Given as goal

abbrev pub invariant-loop-home : goal.invariant-loop-home
invariant-loop-home l = bytes_kept (drop l.home-index l.home-items) l.path ≡ bytes_kept l.home-items l.path
