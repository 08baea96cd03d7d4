use Rattle.std.proofs.Common.{rules, ap}
use Rattle.tr_book.specs.declared.counts.Counts.{Counts}
use Rattle.tr_terms.proofs.ListLemmas.{mapped-all, mapped-more}
use Rattle.tr_session.proofs.streams.sizes_of.Goals as goal
use Rattle.tr_stream.specs.State.{StreamState}
use Rattle.tr_stream.specs.StateSteps.{state_counts}

pub streams-preserved : goal.streams-preserved
streams-preserved g c =
    mapped-more (λ (s : StreamState). (state_counts s).current_bytes) c.args.streams.now c.streams.stream-index
    c.stream-item.result c.counts.result.current_bytes c.streams.sizes.items c.push.new.self.items c.streams-test.true
    c.stream-item.is
    (ap (λ (n : Counts). n.current_bytes) c.counts.ensures.value) c.streams.invariant (search rules)

pub returns : goal.returns
returns g c = mapped-all (λ (s : StreamState). (state_counts s).current_bytes) c.args.streams.now c.streams.stream-index
    c.streams.sizes.items c.streams-test.false c.streams.invariant
