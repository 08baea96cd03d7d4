use Rattle.std.proofs.Common.{◌<◌, ◌∙◌, length, sym, subst, arith, rules}
use Rattle.std.proofs.lemmas.Bool.{eqb-true}
use Rattle.std.proofs.lemmas.List.{nil_from_length}
use Rattle.tr_record.specs.Raw.{entry_of}
use Rattle.tr_packet.proofs.BodyLemmas.{Stands, stands_first, stands_next, stands_cut, stands_end, cut_at_once, begins_longer}
use Rattle.tr_packet.proofs.seen.judge_records.Goals as goal

pub returns-in_default : goal.returns-in_default
returns-in_default c = sym (cut_at_once c.args.begin c.args.end c.args.body.now (λ i. omega (arith, c.type_inv.body i))
    c.in_default.ensures.exact c.requires)

pub loop-rest-init : goal.loop-rest-init
loop-rest-init c =
    subst (Stands c.args.begin c.args.end c.args.body.now c.in-Some.after.now) (sym c.first-seen.ensures)
    (stands_first c.args.begin c.args.end c.args.body.now c.in-Some.after.now (entry_of c.in-Some.first)
    (λ i. omega (arith, c.type_inv.body i)) c.in-Some.ensures.exact)

pub returns-in_default-read_raw : goal.returns-in_default-read_raw
returns-in_default-read_raw c =
    let some : 0 < length c.loop-rest.rest.now = search rules in
    sym (stands_cut c.args.begin c.args.end c.args.body.now c.loop-rest.rest.now c.loop-rest.seen c.loop-rest.invariant
    c.in_default-read_raw.ensures.exact some)

pub loop-rest-preserved : goal.loop-rest-preserved
loop-rest-preserved c =
    subst (Stands c.args.begin c.args.end c.args.body.now c.in-Some-read_raw.after.now) (sym c.next-seen.ensures)
    (stands_next c.args.begin c.args.end c.args.body.now c.loop-rest.rest.now c.in-Some-read_raw.after.now c.loop-rest.seen
    (entry_of c.in-Some-read_raw.raw) c.loop-rest.invariant c.in-Some-read_raw.ensures.exact)

pub loop-rest-smaller : goal.loop-rest-smaller
loop-rest-smaller c = omega (
  arith,
  begins_longer c.loop-rest.rest.now (entry_of c.in-Some-read_raw.raw)
      c.in-Some-read_raw.after.now c.in-Some-read_raw.ensures.found,
)

pub returns : goal.returns
returns c =
    let none = nil_from_length c.loop-rest.rest.now (eqb-true (length c.loop-rest.rest.now) 0 (sym c.is_empty.ensures ∙ c.loop-rest-test.false)) in
    c.judge.ensures ∙ sym (stands_end c.args.begin c.args.end c.args.body.now c.loop-rest.rest.now c.loop-rest.seen c.loop-rest.invariant none)
