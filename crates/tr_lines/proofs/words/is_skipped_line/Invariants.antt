use Rattle.std.proofs.Common.{◌≡◌, drop}
use Rattle.tr_lines.specs.Words.{is_skipped, words_of}
use Rattle.tr_lines.proofs.words.is_skipped_line.Given as goal

-- only spaces came so far
abbrev pub invariant-bytes : goal.invariant-bytes
invariant-bytes l = is_skipped (words_of l.text) ≡ is_skipped (words_of (drop l.byte-index l.text))
