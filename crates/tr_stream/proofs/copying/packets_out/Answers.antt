use Rattle.std.proofs.Common.{rules, ◌≢◌, length}
use Rattle.tr_stream.proofs.LookLemmas.{on-err}
use Rattle.tr_stream.proofs.PageLemmas.{some-buffers}
use Rattle.tr_stream.proofs.copying.packets_out.Goals as goal

pub returns-in_err-push-clause-memory : goal.returns-in_err-push-clause-memory
returns-in_err-push-clause-memory g c =
    let some : length c.args.ring.now.current ≢ 0 = search rules in
    on-err c.from_residual-in_err-push.result (some-buffers c.args.ring.now c.args.end some)
