use Rattle.std.proofs.Common.{◌≡◌, ◌-◌, ◌^◌, length, min, take}
use Rattle.tr_border.proofs.texts.packets_len.Given as goal
use Rattle.tr_packet.specs.Texts.{packets_text}

-- the texts so far are counted
abbrev pub invariant-loop-text : goal.invariant-loop-text
invariant-loop-text l = l.size ≡ min (length (packets_text (take l.text-index l.texts))) (2 ^ 64 - 1)
