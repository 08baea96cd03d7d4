use Rattle.std.proofs.Common.{◌≡◌, ℕ, List, Option, drop, map}
use Rattle.tr_record.specs.Bytes.{and_then_bytes}
use Rattle.tr_survey.specs.Listing.{key_of}
use Rattle.tr_survey.specs.Prefix.{IsPrefixOut}
use Rattle.tr_survey.specs.Sums.{sums_lines}
use Rattle.tr_survey.proofs.sums.put_sums.Given as goal

abbrev pub invariant-loop-at : goal.invariant-loop-at
invariant-loop-at g l = record {
  failures : g.K.ByteSink.failures l.sink ≡ g.K.ByteSink.failures l.initial.sink;
  taken : and_then_bytes (g.K.ByteSink.taken l.sink) (sums_lines (map key_of (drop l.at l.archives)) (drop l.at l.sums))
      ≡ and_then_bytes (g.K.ByteSink.taken l.initial.sink) (sums_lines (map key_of l.archives) l.sums);
  front : (now : Option (List ℕ)) → IsPrefixOut (sums_lines (map key_of (drop l.at l.archives)) (drop l.at l.sums)) (g.K.ByteSink.taken l.sink) now
      → IsPrefixOut (sums_lines (map key_of l.archives) l.sums) (g.K.ByteSink.taken l.initial.sink) now;
}
