use Rattle.std.proofs.Common.{◌≡◌, ◌*◌, ◌≤◌, take}
use Rattle.tr_book.specs.Parts.{bytes_of, records_of}
use Rattle.tr_book.proofs.part.bytes_in.Given as goal
use Rattle.tr_terms.specs.declared.limits.TheConstants.{LARGEST_PACKET}

-- the texts so far are counted, and none was too large
abbrev pub invariant-loop-text : goal.invariant-loop-text
invariant-loop-text g l = record {
  sum : l.bytes ≡ bytes_of (take l.text-index l.texts);
  small : l.bytes ≤ LARGEST_PACKET * records_of (take l.text-index l.texts);
}
