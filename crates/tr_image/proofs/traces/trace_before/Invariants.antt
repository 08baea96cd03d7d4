use Rattle.std.proofs.Common.{◌≡◌, None, option_map}
use Rattle.tr_image.specs.Traces.{trace_before}
use Rattle.tr_image.proofs.traces.trace_before.Given as goal

-- none is at the places before
abbrev pub invariant-places : goal.invariant-places
invariant-places l = trace_before l.at (option_map (λ u. u.now) l.wanted) l.bytes ≡ None
