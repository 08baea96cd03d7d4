use Rattle.std.proofs.Common.{◌≡◌, ◌++◌, drop}
use Rattle.std.specs.String.{string_bytes}
use Rattle.tr_console.proofs.commands.status.status_of.Given as goal
use Rattle.tr_console.specs.commands.Status.{status_rows, status_text}
use Rattle.tr_stream.specs.Rules.{by_state}

-- with the lines that are left, the text is whole
abbrev pub invariant-rows : goal.invariant-rows
invariant-rows g l = string_bytes l.text ++ status_rows by_state l.i (drop l.i l.session.streams) ≡ status_text by_state l.name l.session
