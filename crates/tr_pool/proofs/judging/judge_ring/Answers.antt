use Rattle.std.proofs.Common.{rules, arith, ◌≡◌, ◌∷◌, [], length, Some, None, subst}
use Rattle.std.specs.List.{flat_map}
use Rattle.std.specs.Prelude.{slice_get}
use Rattle.std.proofs.lemmas.List.{take_all}
use Rattle.tr_pool.specs.Judging.{Judges}
use Rattle.tr_record.specs.Records.{Entry}
use Rattle.tr_stream.specs.Calls.{ring_records}
use Rattle.tr_pool.proofs.JudgeLemmas.{judges_more, judges_singles, item_at, ring_length}
use Rattle.tr_pool.proofs.judging.judge_ring.Goals as goal

pub unreachable-requires : goal.unreachable-requires
unreachable-requires c =
    let ring = ring_records c.args.stream.now.ring in
    let size : c.counts-k-end.result.in_ring ≡ length ring = search (rules, ring_length) in
    let x = item_at ring c.records.k (omega (arith, size)) in
    let at : slice_get ring c.records.k ≡ Some x.0 = x.1 in
    let none : None ≡ slice_get ring c.records.k = search rules in
    cc

pub records-preserved : goal.records-preserved
records-preserved c =
    judges_more (λ (e : Entry). e ∷ []) c.args.items.now c.records.k (ring_records c.args.stream.now.ring) c.in-Some.record c.args.least c.records.least c.judge-least.result
    (search rules) c.records.invariant c.judge-least.ensures

pub returns : goal.returns
returns c =
    let ring = ring_records c.args.stream.now.ring in
    let size : c.counts-k-end.result.in_ring ≡ length ring = search (rules, ring_length) in
    judges_singles c.args.items.now ring c.args.least c.records.least
    (subst (λ xs. Judges c.args.items.now (flat_map (λ (e : Entry). e ∷ []) xs) c.args.least c.records.least)
    (take_all c.records.k ring (omega (arith, size))) c.records.invariant)
