use Rattle.std.proofs.Common.{◌≡◌, ◌++◌, drop}
use Rattle.tr_picture.specs.Escape.{escaped}
use Rattle.tr_picture.proofs.page.push_escaped_bytes.Given as goal

abbrev pub invariant-loop-byte : goal.invariant-loop-byte
invariant-loop-byte l = l.page.items ++ escaped (drop l.byte-index l.bytes) ≡ l.fn.page.items ++ escaped l.bytes
