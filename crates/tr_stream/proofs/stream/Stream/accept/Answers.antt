use Rattle.std.proofs.Common.{rules, arith}
use Rattle.std.proofs.lemmas.Grind.{common_steps}
use Rattle.tr_record.specs.Records.{Entry}
use Rattle.tr_stream.proofs.CallLemmas.{kept-pushed, booked-stored, booked-over, booked-refused}
use Rattle.tr_stream.proofs.stream.Stream.accept.Goals as goal
use Rattle.tr_stream.specs.State.{StreamState}

pub invariant_of-self : goal.invariant_of-self
invariant_of-self g c =
    let s : StreamState = record {
      config = c.self.inside.config;
      ring = c.self.inside.ring;
      parts = c.self.inside.parts;
      counters = c.self.inside.counters;
      active = c.self.inside.active;
    } in
    let e : Entry = record { serial = c.offered-serial.result; moment = c.later-moment.result; id = c.args.id; payload = c.args.payload.now } in
    kept-pushed s c.args.moment c.args.id c.args.payload.now e c.push-pushed.new.self c.push-pushed.result c.note_offer.new.self
    c.self.invariant (search rules)
    (record { moment_in = omega arith; id_in = search rules }) (cc) (search rules) (search rules)
    (booked-stored _ c.in-Stored.seq _ _ _ (search rules) c.note_offer.ensures)

pub invariant_of-self-in-StoredOver : goal.invariant_of-self-in-StoredOver
invariant_of-self-in-StoredOver g c =
    let s : StreamState = record {
      config = c.self.inside.config;
      ring = c.self.inside.ring;
      parts = c.self.inside.parts;
      counters = c.self.inside.counters;
      active = c.self.inside.active;
    } in
    let e : Entry = record { serial = c.offered-serial.result; moment = c.later-moment.result; id = c.args.id; payload = c.args.payload.now } in
    kept-pushed s c.args.moment c.args.id c.args.payload.now e c.push-pushed.new.self c.push-pushed.result
    c.note_overwritten.new.self c.self.invariant (search rules)
    (record { moment_in = omega arith; id_in = search rules }) (cc) (search rules) (search rules)
    (booked-over _ c.in-StoredOver.seq c.in-StoredOver.gone_seq c.in-StoredOver.gone_count _ _ c.note_offer.new.self _
    (search rules) c.note_offer.ensures c.note_overwritten.ensures)

pub invariant_of-self-in-Refused : goal.invariant_of-self-in-Refused
invariant_of-self-in-Refused g c =
    let s : StreamState = record {
      config = c.self.inside.config;
      ring = c.self.inside.ring;
      parts = c.self.inside.parts;
      counters = c.self.inside.counters;
      active = c.self.inside.active;
    } in
    let e : Entry = record { serial = c.offered-serial.result; moment = c.later-moment.result; id = c.args.id; payload = c.args.payload.now } in
    kept-pushed s c.args.moment c.args.id c.args.payload.now e c.push-pushed.new.self c.push-pushed.result c.note_offer.new.self
    c.self.invariant (search rules)
    (record { moment_in = omega arith; id_in = search rules }) (cc) (search rules) (search rules)
    (booked-refused _ _ _ _ (search rules) c.note_offer.ensures)

pub note_overwritten-requires-clause-records : goal.note_overwritten-requires-clause-records
note_overwritten-requires-clause-records g c = grind (arith, common_steps)
