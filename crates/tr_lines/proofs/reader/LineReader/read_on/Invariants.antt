use Rattle.std.proofs.Common.{◌≡◌, ◌≤◌, ◌-◌, []}
use Rattle.tr_lines.specs.Reading.{ReadsOn, SinceBegun}
use Rattle.tr_terms.specs.declared.limits.TheConstants.{LONGEST_SCRIPT}
use Rattle.tr_lines.proofs.reader.LineReader.read_on.Given as goal

abbrev pub invariant-pieces : goal.invariant-pieces
invariant-pieces g l = record {
  reads : SinceBegun l.fn.self
      (λ begun. ReadsOn (g.S.ByteSource.given l.fn.source) (g.S.ByteSource.given l.source) begun l.self);
  nothing_held : l.self.held ≡ [];
  later : l.fn.self.total ≤ l.self.total;
  content : g.S.ByteSource.content l.source ≡ g.S.ByteSource.content l.fn.source;
  failures : g.S.ByteSource.failures l.source ≡ g.S.ByteSource.failures l.fn.source;
}

abbrev pub decreases-pieces : goal.decreases-pieces
decreases-pieces g l = LONGEST_SCRIPT - l.self.total
