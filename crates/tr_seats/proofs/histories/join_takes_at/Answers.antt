use Rattle.std.proofs.Common.{ap, set, ◌∙◌}
use Rattle.std.proofs.lemmas.List.{get_or_default}
use Rattle.tr_journal.specs.Journals.{seat_with}
use Rattle.tr_seats.proofs.Joins.{put-back}
use Rattle.tr_seats.proofs.histories.join_takes_at.Goals as goal

pub join_takes-requires-clause-desk : goal.join_takes-requires-clause-desk
join_takes-requires-clause-desk g c = c.requires.desk c.index-desk-i.result c.index-slots-i.result

pub join_takes-requires-clause-other : goal.join_takes-requires-clause-other
join_takes-requires-clause-other g c = c.requires.other c.index-slots-i.result

pub returns-clause-slots : goal.returns-clause-slots
returns-clause-slots g c = put-back c.args.slots.now c.args.i c.join_takes.new.self c.index-slots-i.result c.join_takes.ensures.slot

pub returns-clause-desk : goal.returns-clause-desk
returns-clause-desk g c = λ d.
    ap (set c.args.desk.now c.args.i)
    (c.join_takes.ensures.seat
    ∙ ap (seat_with c.args.other) (get_or_default c.args.desk.now c.args.i c.index-desk-i.result d c.requires.there.1))
