use Rattle.std.proofs.Common.{◌≡◌, ◌++◌, ◌-◌, ◌≤◌, drop, length}
use Rattle.std.specs.String.{string_bytes}
use Rattle.tr_recover.specs.Lines.{recovered_text}
use Rattle.tr_recover.proofs.lines.recovered_text.Given as goal

-- the streams before are said
abbrev pub invariant-loop-at : goal.invariant-loop-at
invariant-loop-at g l = record {
  within : l.at ≤ length l.packets;
  said : recovered_text l.packets ≡ string_bytes l.text ++ recovered_text (drop l.at l.packets);
}

abbrev pub decreases-loop-at : goal.decreases-loop-at
decreases-loop-at g l = length l.packets - l.at
