use Rattle.std.proofs.Common.{rules, ◌≡◌, ◌≤◌, ◌∙◌, Err, List, ℕ, ap, length, subst, take, arith}
use Rattle.tr_chunk.proofs.FileLemmas.{went_next, went_short, some_text}
use Rattle.tr_chunk.proofs.writing.write_texts.Goals as goal
use Rattle.tr_chunk.specs.Files.{WritesPackets, sunk_of}
use Rattle.tr_chunk.specs.declared.faults.WriteFault.TheVariants.{Write}
use Rattle.tr_packet.specs.Packets.{packet_text}
use Rattle.tr_record.specs.Bytes.{and_then_bytes, once_more}

pub loop-text-preserved : goal.loop-text-preserved
loop-text-preserved g c = record {
  out = went_next c.args.texts.now c.loop-text.text-index c.text-item.result (g.K.ByteSink.taken c.args.sink.now)
      (g.K.ByteSink.taken c.loop-text.sink) (g.K.ByteSink.taken c.put_all.new.sink) c.loop-text-test.true c.text-item.is
      c.loop-text.invariant.out (c.in_ok-put_all.ensures.ok ∙ ap (and_then_bytes (g.K.ByteSink.taken c.loop-text.sink)) c.text.ensures.text);
  sound = c.in_ok-put_all.ensures.no_failure ∙ c.loop-text.invariant.sound;
}

pub returns-in_err-put_all : goal.returns-in_err-put_all
returns-in_err-put_all g c =
    let p = c.text-item.result in
    let e = c.in_err-put_all.ensures.err in
    let few : e.0 ≤ length (packet_text p) = omega (arith, e.1, ap length c.text.ensures.text) in
    let then : g.K.ByteSink.taken c.put_all.new.sink ≡ and_then_bytes (g.K.ByteSink.taken c.loop-text.sink) (take e.0 (packet_text p)) =
    e.2 ∙ ap (λ (t : List ℕ). and_then_bytes (g.K.ByteSink.taken c.loop-text.sink) (take e.0 t)) c.text.ensures.text in
    let out = went_short c.args.texts.now c.loop-text.text-index p (g.K.ByteSink.taken c.args.sink.now) (g.K.ByteSink.taken c.loop-text.sink)
    (g.K.ByteSink.taken c.put_all.new.sink) e.0 c.loop-text-test.true c.text-item.is c.loop-text.invariant.out few then in
    let long : 1 ≤ length (packet_text p) = omega (arith, c.text.ensures.size, ap length c.text.ensures.text) in
    let told : Err Write ≡ c.from_residual.result = search rules in
    subst (WritesPackets c.args.texts.now (sunk_of g.K.ByteSink c.args.sink.now) (sunk_of g.K.ByteSink c.put_all.new.sink)) told (
      λ none. some_text c.args.texts.now c.loop-text.text-index p c.loop-text-test.true c.text-item.is long none,
      out,
      c.in_err-put_all.ensures.failed ∙ ap once_more c.loop-text.invariant.sound,
    )
