use Rattle.std.proofs.Common.{rules, ◌≡◌, ◌∷◌, [], List, sym, subst}
use Rattle.tr_record.specs.Records.{Entry}
use Rattle.tr_pool.specs.Judging.{Judges}
use Rattle.tr_pool.proofs.JudgeLemmas.{judges_then, judges_none}
use Rattle.tr_pool.proofs.judging.judge_records.Goals as goal

pub records-preserved : goal.records-preserved
records-preserved c = λ last rest.
    let steps : c.records.record-iterator ≡ c.in-Some.record ∷ c.next.new.self = search rules in
    c.records.invariant last
    (subst (λ (es : List Entry). Judges c.args.items.now es c.records.least last) (sym steps)
    (judges_then c.args.items.now (c.in-Some.record ∷ []) c.next.new.self c.records.least c.judge-least.result last c.judge-least.ensures rest))

pub returns : goal.returns
returns c =
    let none : c.records.record-iterator ≡ [] = search rules in
    c.records.invariant c.records.least
    (subst (λ (es : List Entry). Judges c.args.items.now es c.records.least c.records.least) (sym none) (judges_none c.args.items.now c.records.least))
