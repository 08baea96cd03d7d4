use Rattle.std.proofs.Common.{◌≡◌, ◌≤◌, ◌+◌, ◌++◌, drop, length, take}
use Rattle.tr_border.proofs.texts.copy_on.Given as goal
use Rattle.tr_border.specs.Texts.{text_from}

-- the bytes so far were copied, and the place is behind them, in the packet that is next
abbrev pub invariant-loop-text : goal.invariant-loop-text
invariant-loop-text l = record {
  left : text_from l.place l.texts ≡ drop l.done (text_from l.initial.place l.texts);
  room : l.room ≡ take l.done (text_from l.initial.place l.texts) ++ drop l.done l.initial.room;
  within : l.done ≤ length (text_from l.initial.place l.texts);
  fits : l.done ≤ length l.initial.room;
  next : l.place.packet ≡ l.initial.place.packet + l.text-index;
}
