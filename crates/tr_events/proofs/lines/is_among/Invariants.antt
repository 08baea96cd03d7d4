use Rattle.std.proofs.Common.{◌≡◌, drop, map}
use Rattle.std.specs.String.{string_bytes}
use Rattle.tr_events.specs.Lines.{is_among_names}
use Rattle.tr_events.proofs.lines.is_among.Given as goal

abbrev pub invariant-loop-other : goal.invariant-loop-other
invariant-loop-other l =
    is_among_names (map string_bytes (drop l.other-index l.names)) l.name ≡ is_among_names (map string_bytes l.names) l.name
