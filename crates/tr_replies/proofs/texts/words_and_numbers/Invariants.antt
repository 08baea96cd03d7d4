use Rattle.std.proofs.Common.{◌≡◌, ◌++◌, drop}
use Rattle.std.specs.String.{string_bytes}
use Rattle.tr_replies.specs.Words.{words_and_numbers}
use Rattle.tr_replies.proofs.texts.words_and_numbers.Given as goal

-- with what is left it is the whole
abbrev pub invariant-parts : goal.invariant-parts
invariant-parts g l = string_bytes l.text ++ words_and_numbers (drop l.part-index l.parts) ≡ words_and_numbers l.parts
