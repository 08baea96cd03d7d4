use Rattle.std.proofs.Common.{rules, ◌≡◌, ◌∙◌}
use Rattle.tr_book.specs.declared.counts.Counts.{Counts}
use Rattle.tr_stream.proofs.Consistency.{consistent-of, nothing-gone}
use Rattle.tr_stream.proofs.TakeLemmas.{counts-are}
use Rattle.tr_stream.proofs.stream.Stream.counts.Goals as goal
use Rattle.tr_stream.specs.StateSteps.{state_counts}

pub returns-clause-consistent : goal.returns-clause-consistent
returns-clause-consistent g c = consistent-of _ _ c.self.view_is c.self.invariant

pub returns-clause-snapshot_session : goal.returns-clause-snapshot_session
returns-clause-snapshot_session g c = λ snapshot.
    let none = nothing-gone _ _ c.self.view_is c.self.invariant snapshot in
    (search (rules, none), search (rules, none))

pub returns-clause-step : goal.returns-clause-step
returns-clause-step g c = λ h is.
    let told : (let r : Counts = record {
      offered = c.offered.result;
      discarded = c.discarded.result;
      overwritten = c.overwritten.result;
      overwritten_packets = c.overwritten_packets.result;
      in_ring = c.in_ring.result;
      consumed = c.consumed.result;
      in_chunks = c.in_chunks.result;
      cleared = c.cleared.result;
      withdrawn = c.withdrawn.result;
      cuts = c.cuts.result;
      current_bytes = c.unwrap_or.result;
    } in r) ≡ state_counts c.args.self.now = search rules in
    told ∙ counts-are c.args.self.now h is
