use Rattle.std.proofs.Common.{◌≡◌, take}
use Rattle.tr_chunk.proofs.writing.write_texts.Given as goal
use Rattle.tr_packet.specs.Texts.{packets_text}
use Rattle.tr_record.specs.Bytes.{and_then_bytes}

-- the texts so far went out, and nothing failed
abbrev pub invariant-loop-text : goal.invariant-loop-text
invariant-loop-text g l = record {
  out : g.K.ByteSink.taken l.sink ≡ and_then_bytes (g.K.ByteSink.taken l.initial.sink) (packets_text (take l.text-index l.texts));
  sound : g.K.ByteSink.failures l.sink ≡ g.K.ByteSink.failures l.initial.sink;
}
