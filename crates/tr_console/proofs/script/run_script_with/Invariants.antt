use Rattle.std.proofs.Common.{◌≡◌}
use Rattle.tr_console.proofs.RunLemmas.{Going}
use Rattle.tr_console.proofs.script.run_script_with.Given as goal
use Rattle.tr_lines.specs.Reading.{budget}

abbrev pub invariant-lines : goal.invariant-lines
invariant-lines g l = record {
  going : Going l.fn.events (g.S.ByteSource.given l.fn.source) (g.S.ByteSource.given l.source) (g.K.ByteSink.taken l.fn.sink)
      (g.K.ByteSink.taken l.sink) l.outbox l.reader l.console l.refused;
  content : g.S.ByteSource.content l.source ≡ g.S.ByteSource.content l.fn.source;
  source_works : g.S.ByteSource.failures l.source ≡ g.S.ByteSource.failures l.fn.source;
  sink_works : g.K.ByteSink.failures l.sink ≡ g.K.ByteSink.failures l.fn.sink;
}

abbrev pub decreases-lines : goal.decreases-lines
decreases-lines g l = budget l.reader
