use Rattle.std.proofs.Common.{arith}
use Rattle.std.proofs.lemmas.Grind.{common_steps}
use Rattle.tr_chunk.proofs.AuditLemmas.{reached_more}
use Rattle.tr_chunk.proofs.audit.add_piece.Goals as goal

pub loop-at-preserved : goal.loop-at-preserved
loop-at-preserved g c =
    let ok = c.in-Ok.ensures.ok in
    record {
      within = omega (arith, c.loop-at.invariant.within, c.in-Ok.ensures.within.1, c.split_at.ensures.back_len);
      reached = λ before tells.
          reached_more c.args.uuid.now c.args.stream before c.args.bytes.now c.split_at.result.1.now c.loop-at.at
          c.in-Ok.size ok.0 c.loop-at.audit c.add_front.new.audit
          (c.loop-at.invariant.reached before tells) c.split_at.ensures.back ok.1 ok.2 ok.3 ok.4;
    }

pub returns-in-Err-clause-err : goal.returns-in-Err-clause-err
returns-in-Err-clause-err g c = grind (arith, common_steps)

pub returns-clause-ok : goal.returns-clause-ok
returns-clause-ok g c = grind (arith, common_steps)
