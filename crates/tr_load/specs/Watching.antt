-- The watcher of a load.
use Rattle.std.specs.Prelude.{◌≡◌}
use Rattle.tr_tally.specs.Tallies.{TallyState, WatcherState}

-- a watcher reads the counts of this tally
abbrev pub IsOfTally : TallyState → WatcherState → Type 0
IsOfTally tally watcher = watcher.table ≡ tally.table
