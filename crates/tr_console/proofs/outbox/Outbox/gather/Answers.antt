use Rattle.tr_console.proofs.GatheringLemmas.{Gathers-none, OnErr-then, OnOk-then, WentInPart-after}
use Rattle.tr_console.proofs.outbox.Outbox.gather.Goals as goal

pub returns-then-more-len-2-clause-ok : goal.returns-then-more-len-2-clause-ok
returns-then-more-len-2-clause-ok g c =
    OnOk-then c.put_all.result
    (λ all. Gathers-none _ _ _ c.args.self.now c.args.more.now c.put_out.new.self c.in_ok-put_out.ensures.ok all c.put_out.ensures.empty)
    c.put_all.ensures.ok

pub returns-then-more-len-2-clause-err : goal.returns-then-more-len-2-clause-err
returns-then-more-len-2-clause-err g c =
    OnErr-then c.put_all.result
    (λ some. WentInPart-after _ _ _ c.args.self.now c.args.more.now some.0 c.in_ok-put_out.ensures.ok some.1 some.2)
    c.put_all.ensures.err
