use Rattle.std.proofs.Common.{◌∙◌, ◌∷◌, true, false, ap, arith, length, length-append, subst, refl}
use Rattle.tr_lines.specs.Reading.{Reading, TakesPart}
use Rattle.tr_lines.proofs.ReadingLemmas.{ReadsOn-begun, ReadsOn-part, ReadsOn-piece, ReadsOn-still, ReadsOn-whole}
use Rattle.tr_lines.proofs.reader.LineReader.read_on.Goals as goal

pub pieces-init : goal.pieces-init
pieces-init g c = record {
  reads = λ begun b. ReadsOn-begun (g.S.ByteSource.given c.args.source.now) begun c.args.self.now b;
  nothing_held = c.requires;
  later = omega arith;
  content = refl;
  failures = refl;
}

pub returns-in_err-take_part-clause-memory : goal.returns-in_err-take_part-clause-memory
returns-in_err-take_part-clause-memory g c _ begun b =
    let came = ReadsOn-piece _ _ begun c.pieces.self c.refill.new.self (c.pieces.invariant.reads begun b) _ c.pieces.invariant.nothing_held
    c.in_ok-refill.ensures.given c.in_ok-refill.ensures.total in
    ReadsOn-still _ _ _ begun c.refill.new.self c.take_part.new.self came refl c.in_err-take_part.ensures.err

pub returns-then-branch-clause-whole : goal.returns-then-branch-clause-whole
returns-then-branch-clause-whole g c _ begun b =
    let came = ReadsOn-piece _ _ begun c.pieces.self c.refill.new.self (c.pieces.invariant.reads begun b) _ c.pieces.invariant.nothing_held
    c.in_ok-refill.ensures.given c.in_ok-refill.ensures.total in
    ReadsOn-whole _ _ begun c.refill.new.self c.take_part.new.self came
    (subst (TakesPart c.refill.new.self c.take_part.new.self) c.if-branch.true c.in_ok-take_part.ensures.ok)

pub pieces-preserved : goal.pieces-preserved
pieces-preserved g c =
    let part : TakesPart c.refill.new.self c.take_part.new.self false =
    subst (TakesPart c.refill.new.self c.take_part.new.self) c.if-branch.false c.in_ok-take_part.ensures.ok in
    record {
      reads = λ begun b. ReadsOn-part _ _ begun c.refill.new.self c.take_part.new.self
          (ReadsOn-piece _ _ begun c.pieces.self c.refill.new.self (c.pieces.invariant.reads begun b) _ c.pieces.invariant.nothing_held
          c.in_ok-refill.ensures.given c.in_ok-refill.ensures.total)
          part;
      nothing_held = part.rest refl;
      later = omega (arith, c.pieces.invariant.later, ap (λ (r : Reading). r.total) c.in_ok-refill.ensures.total, part.total);
      content = c.refill.ensures.content ∙ c.pieces.invariant.content;
      failures = c.in_ok-refill.ensures.no_failure (λ e. cc) ∙ c.pieces.invariant.failures;
    }

pub returns-then-branch-clause-shrinks : goal.returns-then-branch-clause-shrinks
returns-then-branch-clause-shrinks g c _ =
    let part : TakesPart c.refill.new.self c.take_part.new.self true =
    subst (TakesPart c.refill.new.self c.take_part.new.self) c.if-branch.true c.in_ok-take_part.ensures.ok in
    omega (
      arith,
      c.pieces.invariant.later,
      ap (λ (r : Reading). r.total) c.in_ok-refill.ensures.total,
      ap length c.requires,
      part.total,
      c.take_part.ensures.within,
      ap length part.bytes,
      length-append part.part (10 ∷ c.take_part.new.self.held),
    )
