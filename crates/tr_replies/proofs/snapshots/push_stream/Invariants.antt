use Rattle.std.proofs.Common.{◌≡◌, ◌++◌, ◌∷◌}
use Rattle.std.specs.String.{string_bytes}
use Rattle.tr_replies.proofs.snapshots.push_stream.Given as goal
use Rattle.tr_replies.specs.Snapshots.{packet_lines, stream_line}

-- with the lines that are left, the text is whole
abbrev pub invariant-packets : goal.invariant-packets
invariant-packets g l = string_bytes l.text ++ packet_lines l.packet-iterator
    ≡ string_bytes l.fn.text ++ (10 ∷ (stream_line l.fn.snap ++ packet_lines l.fn.snap.packets))
