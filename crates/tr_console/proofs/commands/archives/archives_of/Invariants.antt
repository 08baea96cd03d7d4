use Rattle.std.proofs.Common.{◌≡◌, ◌++◌, drop}
use Rattle.std.specs.String.{string_bytes}
use Rattle.tr_console.proofs.commands.archives.archives_of.Given as goal
use Rattle.tr_console.specs.commands.Archives.{archive_lines}
use Rattle.tr_stream.specs.Rules.{by_state}

-- with the lines that are left, the text is whole
abbrev pub invariant-archives : goal.invariant-archives
invariant-archives g l = string_bytes l.text ++ archive_lines by_state l.session (drop l.archive-index l.archives)
    ≡ archive_lines by_state l.session l.archives
