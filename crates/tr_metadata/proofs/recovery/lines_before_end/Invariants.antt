use Rattle.std.proofs.Common.{◌≡◌, ◌+◌, drop, length, map}
use Rattle.std.specs.Prelude.{not}
use Rattle.std.specs.List.{take_while}
use Rattle.tr_metadata.specs.Recovery.{is_end}
use Rattle.tr_metadata.proofs.recovery.lines_before_end.Given as goal

abbrev pub invariant-loop-line : goal.invariant-loop-line
invariant-loop-line l = record {
  counted : l.count ≡ l.line-index;
  rest : l.count + length (take_while (λ line. not (is_end line)) (map (λ s. s.now) (drop l.line-index l.lines)))
      ≡ length (take_while (λ line. not (is_end line)) (map (λ s. s.now) l.lines));
}
