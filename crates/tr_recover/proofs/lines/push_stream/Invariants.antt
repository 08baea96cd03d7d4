use Rattle.std.proofs.Common.{◌≡◌, ◌++◌, drop}
use Rattle.std.specs.String.{string_bytes}
use Rattle.tr_recover.specs.Lines.{lines_after, stream_lines}
use Rattle.tr_recover.proofs.lines.push_stream.Given as goal

-- what was appended, and the lines that are left
abbrev pub invariant-packets : goal.invariant-packets
invariant-packets g l =
    string_bytes l.fn.text ++ stream_lines l.fn.packets ≡ string_bytes l.text ++ lines_after l.stream l.counts (drop l.packet-index l.packets)
