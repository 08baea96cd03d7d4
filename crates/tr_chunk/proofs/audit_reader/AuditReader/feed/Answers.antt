use Rattle.std.proofs.Common.{◌≡◌, ◌+◌, IfNone, length, rules, arith, sym, ap, subst, ◌∙◌}
use Rattle.std.proofs.lemmas.Grind.{common_steps}
use Rattle.tr_chunk.specs.Reading.{Reading}
use Rattle.tr_chunk.proofs.ReadingLemmas.{fed_none, fed_more, fed_all, fed_found}
use Rattle.tr_chunk.proofs.audit_reader.AuditReader.feed.Goals as goal

pub loop-at-init : goal.loop-at-init
loop-at-init g c = fed_none _ c.args.bytes.now (omega (arith, c.self.invariant.within)) c.self.invariant.waits

pub loop-at-preserved : goal.loop-at-preserved
loop-at-preserved g c =
    fed_more _ c.loop-at.self c.take_front.new.self c.args.bytes.now c.split_at.result.1.now c.loop-at.at c.in-Ok.count c.loop-at.invariant
    c.split_at.ensures.back c.in-Ok.ensures.ok c.take_front.ensures.others

pub returns-in-Err-clause-read : goal.returns-in-Err-clause-read
returns-in-Err-clause-read g c = λ uuid stream done piece has.
    fed_found uuid stream done piece c.args.self.now _ c.loop-at.self c.take_front.new.self c.stop.new.self c.args.bytes.now
    c.split_at.result.1.now c.loop-at.at c.in-Err.cause c.stop.result
    (ap (λ (r : Reading _). record r { bytes = r.bytes + length c.args.bytes.now }) c.self.view_is)
    c.loop-at.invariant c.split_at.ensures.back c.in-Err.ensures.err.0 c.take_front.ensures.others (sym c.in-Err.ensures.err.1)
    c.stop.ensures.fault c.stop.ensures.met (ap (λ v. v.fault) (sym c.self.view_is) ∙ c.in_default.is) has

pub returns-in-Err-clause-counts : goal.returns-in-Err-clause-counts
returns-in-Err-clause-counts g c =
    subst (λ (r : Reading _). IfNone r.fault ((c.stop.new.self.bytes ≡ r.bytes + length c.args.bytes.now) × (c.stop.new.self.pieces ≡ r.pieces))) c.self.view_is
    (search rules)

pub returns-clause-read : goal.returns-clause-read
returns-clause-read g c = λ uuid stream done piece has.
    fed_all uuid stream done piece c.args.self.now _ c.loop-at.self c.args.bytes.now c.loop-at.at
    (ap (λ (r : Reading _). record r { bytes = r.bytes + length c.args.bytes.now }) c.self.view_is)
    c.loop-at.invariant (search rules) (ap (λ v. v.fault) (sym c.self.view_is) ∙ c.in_default.is) has

pub returns-clause-counts : goal.returns-clause-counts
returns-clause-counts g c =
    subst (λ (r : Reading _). IfNone r.fault ((c.loop-at.self.bytes ≡ r.bytes + length c.args.bytes.now) × (c.loop-at.self.pieces ≡ r.pieces))) c.self.view_is
    (search rules)

pub returns-in-Some-clause-read : goal.returns-in-Some-clause-read
returns-in-Some-clause-read g c = grind (arith, common_steps)
