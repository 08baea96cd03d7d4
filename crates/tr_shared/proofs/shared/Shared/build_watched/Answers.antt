use Rattle.std.proofs.Common.{◌≡◌, ap, arith, length, subst, sym}
use Rattle.std.proofs.lemmas.List.Elements.{All-replicate}
use Rattle.std.specs.Prelude.{All, replicate}
use Rattle.tr_seats.specs.Books.{PlanState}
use Rattle.tr_tally.specs.Tallies.{WatcherState, watcher_state}
use Rattle.std.proofs.lemmas.Grind.{common_steps}
use Rattle.tr_shared.proofs.RoomLemmas.{room-for}
use Rattle.tr_shared.proofs.shared.Shared.build_watched.Goals as goal

pub returns-in_err-opened-clause-memory : goal.returns-in_err-opened-clause-memory
returns-in_err-opened-clause-memory g c = grind (arith, common_steps)

pub close-shared-requires-clause-locks : goal.close-shared-requires-clause-locks
close-shared-requires-clause-locks g c = (
  c.in_ok-locks.ensures.len,
  room-for c.into_parts-alloc.result.2 c.in_ok-locks.locks c.len.result (length g.N.Names.plan.books)
      c.len.ensures c.into_parts-alloc.ensures.slots c.in_ok-locks.ensures.capacity,
)

pub returns-clause-tally : goal.returns-clause-tally
returns-clause-tally g c =
    let tally = g.N.Names.plan.tally in
    let table = ap (λ (p : PlanState). p.tally.table) c.requires in
    subst (All (λ (w : WatcherState). w.table ≡ tally.table)) (sym c.in_ok-opened.ensures.watchers)
    (All-replicate (λ (w : WatcherState). w.table ≡ tally.table) c.args.plan.tally.watchers
    (watcher_state c.args.plan.tally.table (replicate (length c.args.plan.books) 0)) table)
