use Rattle.std.proofs.Common.{◌+◌, ap, set, ◌∙◌}
use Rattle.std.proofs.lemmas.List.{get_or_default}
use Rattle.tr_ledger.specs.Ledgers.{SeatState, seat_state}
use Rattle.tr_seats.proofs.Joins.{put-back}
use Rattle.tr_seats.proofs.settling.join_at.Goals as goal

pub join-requires-clause-mine : goal.join-requires-clause-mine
join-requires-clause-mine g c = c.requires.mine c.index-seats-i.result c.index-slots-i.result

pub join-requires-clause-other : goal.join-requires-clause-other
join-requires-clause-other g c = c.requires.other c.index-slots-i.result

pub returns-clause-slots : goal.returns-clause-slots
returns-clause-slots g c = put-back c.args.slots.now c.args.i c.join.new.self c.index-slots-i.result c.join.ensures.slot

pub returns-clause-seats : goal.returns-clause-seats
returns-clause-seats g c = λ d.
    ap (set c.args.seats.now c.args.i)
    (c.join.ensures.seat
    ∙ ap (λ (s : SeatState). seat_state s.table (s.amount + c.args.other.amount) (s.mark + c.args.other.mark))
    (get_or_default c.args.seats.now c.args.i c.index-seats-i.result d c.requires.there.1))
