use Rattle.std.proofs.Common.{rules, arith, ◌≡◌, ◌<◌, length, None, ap, ◌∙◌, subst}
use Rattle.std.proofs.lemmas.List.{take_all}
use Rattle.tr_book.specs.Parts.{PartState, part_at}
use Rattle.tr_pool.specs.Judging.{Judges}
use Rattle.tr_pool.specs.Logs.{packet_records, parts_records}
use Rattle.tr_pool.proofs.JudgeLemmas.{judges_more, judges_parts, item_at, part_below, part_last}
use Rattle.tr_pool.proofs.judging.judge_parts.Goals as goal

pub parts-preserved : goal.parts-preserved
parts-preserved c =
    let ps = c.args.stream.now.parts in
    let cuts : c.counts-cuts.result.cuts ≡ length ps.closed = search rules in
    let low : c.parts.k < length ps.closed = omega (arith, cuts) in
    let x = item_at ps.closed c.parts.k low in
    judges_more (λ (p : PartState). packet_records p.packets) c.args.items.now c.parts.k ps.closed x.0 None c.parts.least c.judge_part-least.result
    x.1 c.parts.invariant (c.judge_part-least.ensures x.0 (part_below ps c.parts.k x.0 low x.1))

pub returns : goal.returns
returns c =
    let ps = c.args.stream.now.parts in
    let cuts : c.counts-cuts.result.cuts ≡ length ps.closed = search rules in
    judges_parts c.args.items.now ps None c.parts.least c.judge_part.result
    (subst (λ xs. Judges c.args.items.now (parts_records xs) None c.parts.least) (take_all c.parts.k ps.closed (omega (arith, cuts))) c.parts.invariant)
    (c.judge_part.ensures ps.current (ap (λ k. part_at k ps) cuts ∙ part_last ps))
