use Rattle.std.proofs.Common.{[], length, refl, sym, ap, subst, arith}
use Rattle.tr_chunk.specs.Reading.{IsAt, Waits}
use Rattle.tr_chunk.proofs.ReadingLemmas.{at_start}
use Rattle.tr_chunk.proofs.WaitingLemmas.{nothing_waits}
use Rattle.tr_chunk.proofs.audit_reader.AuditReader.new.Goals as goal

pub invariant_of-result : goal.invariant_of-result
invariant_of-result g c = record {
  waits = subst Waits (sym c.in_ok-held.ensures.items) nothing_waits;
  room = omega (arith, c.in_ok-held.ensures.capacity);
  within = omega (arith, ap length c.in_ok-held.ensures.items);
  few = omega arith;
  begun = omega arith;
}

pub returns-clause-read : goal.returns-clause-read
returns-clause-read g c = record {
  of_trace = refl;
  of_stream = refl;
  says = (
    subst (λ held. IsAt c.args.uuid.now c.args.stream [] [] c.new.result held 0) (sym c.in_ok-held.ensures.items)
        (at_start c.args.uuid.now c.args.stream c.new.result c.new.ensures),
    refl,
    refl,
    subst Waits (sym c.in_ok-held.ensures.items) nothing_waits,
  );
}
