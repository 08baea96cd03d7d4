use Rattle.std.proofs.Common.{◌≡◌, ◌++◌, drop}
use Rattle.std.specs.String.{string_bytes}
use Rattle.tr_console.proofs.commands.snapshot.snapshot_of.Given as goal
use Rattle.tr_console.specs.commands.Snapshot.{snapshot_text, stream_lines}

-- with the lines that are left, the text is whole
abbrev pub invariant-streams : goal.invariant-streams
invariant-streams g l = string_bytes l.text ++ stream_lines (drop l.snap-index l.streams) ≡ snapshot_text l.fn.snapshot
