use Rattle.std.proofs.Common.{rules, ◌≡◌, length, sym, subst, false}
use Rattle.tr_stream.proofs.CallLemmas.{new-is}
use Rattle.tr_stream.proofs.KeptLemmas.{kept-new}
use Rattle.tr_stream.proofs.TakeLemmas.{starts}
use Rattle.tr_stream.specs.StandsFor.{StandsFor}
use Rattle.tr_stream.specs.Steps.{new_history}
use Rattle.tr_stream.proofs.stream.Stream.new.Goals as goal
use Rattle.tr_stream.specs.Kept.{IsKept}
use Rattle.tr_stream.specs.State.{StreamState}
use Rattle.tr_stream.specs.StateSteps.{new_state}
use Rattle.tr_stream.specs.declared.config.StreamConfig.{StreamConfig}

pub invariant_of-result : goal.invariant_of-result
invariant_of-result g c =
    let config : StreamConfig =
    record {
      uuid = c.args.uuid;
      number = c.args.number;
      geometry = c.args.geometry;
      mode = c.args.mode;
      session = c.args.session;
    } in
    let same : (let t : StreamState =
    record {
      config = config;
      ring = c.in_ok-ring.ring;
      parts = c.new-3.result;
      counters = c.new-4.result;
      active = false;
    } in t) ≡ new_state config =
    new-is config c.in_ok-ring.ring c.new-3.result c.new-4.result c.size.result c.count.result c.gives_way.result
    (search rules) c.new-3.ensures c.new-4.ensures c.size.ensures.value c.count.ensures.value c.gives_way.ensures in
    let sixteen : length c.args.uuid ≡ 16 = search rules in
    subst (λ (t : StreamState). IsKept t) (sym same)
    (kept-new config (record {
      uuid = sixteen;
      number = search rules;
      size_high = search rules;
      count_high = search rules;
    }) (search rules) (search rules))

pub returns-clause-starts : goal.returns-clause-starts
returns-clause-starts g c =
    let config : StreamConfig =
    record {
      uuid = c.args.uuid;
      number = c.args.number;
      geometry = c.args.geometry;
      mode = c.args.mode;
      session = c.args.session;
    } in
    let same : (let t : StreamState =
    record {
      config = config;
      ring = c.in_ok-ring.ring;
      parts = c.new-3.result;
      counters = c.new-4.result;
      active = false;
    } in t) ≡ new_state config =
    new-is config c.in_ok-ring.ring c.new-3.result c.new-4.result c.size.result c.count.result c.gives_way.result
    (search rules) c.new-3.ensures c.new-4.ensures c.size.ensures.value c.count.ensures.value c.gives_way.ensures in
    subst (λ (t : StreamState). StandsFor t new_history) (sym same) (starts config)
