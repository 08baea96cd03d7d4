use Rattle.std.proofs.Common.{◌≡◌, drop}
use Rattle.tr_folders.specs.Kept.{names_kept}
use Rattle.tr_folders.proofs.memory.MemoryFoldersFolders.names_in.Given as goal

abbrev pub invariant-loop-home : goal.invariant-loop-home
invariant-loop-home l = names_kept (drop l.home-index l.home-items) l.path ≡ names_kept l.home-items l.path
