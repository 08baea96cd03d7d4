use Rattle.std.proofs.Common.{◌≡◌, ◌∙◌, ℕ, ap, arith, refl}
use Rattle.tr_session.proofs.RunLemmas.{threads-more, threads-refused}
use Rattle.tr_session.proofs.run.add_threads.Goals as goal
use Rattle.tr_session.specs.Runs.{add_threads}
use Rattle.tr_stream.specs.Rules.{by_state}

pub threads-init : goal.threads-init
threads-init g c = refl

pub returns-in-Err-clause-refused : goal.returns-in-Err-clause-refused
returns-in-Err-clause-refused g c =
    λ not_memory. threads-refused by_state c.args.channel.now c.in-Err.fault c.threads.added c.args.threads
    c.args.session.now c.threads.session c.threads.invariant (c.in-Err.ensures.refused not_memory) c.threads-test.true

pub threads-preserved : goal.threads-preserved
threads-preserved g c = threads-more by_state c.args.channel.now c.threads.added c.args.session.now c.threads.session
    c.add_thread.new.self c.threads.invariant c.in_default.ensures.ok

pub returns-clause-ok : goal.returns-clause-ok
returns-clause-ok g c =
    let all : c.args.threads ≡ c.threads.added = omega (arith, c.threads-test.false, c.threads.auto.added-end) in
    ap (λ (n : ℕ). add_threads by_state c.args.channel.now n c.args.session.now) all ∙ c.threads.invariant
