use Rattle.std.proofs.Common.{rules, ◌≡◌, ◌∙◌, ◌-◌, ◌+◌, Bool, true, false, List, None, Some, ap, arith, cond, get_or, leb, subst, sym}
use Rattle.std.proofs.lemmas.List.Sorted.{IsPartitionPoint-from_clause, IsPartitionedBy-leb}
use Rattle.std.specs.List.Sorted.{IsPartitionPoint}
use Rattle.tr_book.proofs.SearchLemmas.{firsts-rise, last-begins, none-begins}
use Rattle.tr_book.proofs.runs.Runs.search.Goals as goal
use Rattle.tr_book.specs.Runs.{RunsRise, is_in_run, seq_in_runs}
use Rattle.tr_book.specs.declared.runs.Run.{Run}

pub returns-then-after-eq0 : goal.returns-then-after-eq0
returns-then-after-eq0 g c = λ rise.
    let n = c.args.serial in
    let xs = c.deref.result.now in
    let same : xs ≡ c.args.self.now = search rules in
    let ordered : RunsRise 0 xs = subst (λ (rs : List Run). RunsRise 0 rs) (sym same) rise in
    let point = IsPartitionPoint-from_clause (λ (r : Run). leb r.first n) xs c.partition_point-after.result
    c.partition_point-after.ensures.partitioned (IsPartitionedBy-leb (λ (r : Run). r.first) xs n (firsts-rise 0 xs ordered))
    (λ a r f called. search rules) in
    none-begins n xs
    (subst (λ i. IsPartitionPoint (λ (r : Run). leb r.first n ≡ true) (λ (r : Run). leb r.first n ≡ false) xs i) c.if-after-eq0.true point)
    ∙ ap (seq_in_runs n) same

pub returns-then-has : goal.returns-then-has
returns-then-has g c = λ rise.
    let n = c.args.serial in
    let xs = c.deref.result.now in
    let same : xs ≡ c.args.self.now = search rules in
    let ordered : RunsRise 0 xs = subst (λ (rs : List Run). RunsRise 0 rs) (sym same) rise in
    let point = IsPartitionPoint-from_clause (λ (r : Run). leb r.first n) xs c.partition_point-after.result
    c.partition_point-after.ensures.partitioned (IsPartitionedBy-leb (λ (r : Run). r.first) xs n (firsts-rise 0 xs ordered))
    (λ a r f called. search rules) in
    let i = c.partition_point-after.result - 1 in
    let run = c.index.result.now in
    let one : c.partition_point-after.result ≡ i + 1 = omega (arith, c.if-after-eq0.false) in
    let at : run ≡ get_or xs i run = search rules in
    let found = last-begins n 0 xs i run ordered (omega (arith, one, c.partition_point-after.ensures.bound))
    (subst (λ k. IsPartitionPoint (λ (r : Run). leb r.first n ≡ true) (λ (r : Run). leb r.first n ≡ false) xs k) one point) in
    let has : is_in_run n run ≡ true = sym c.has.ensures ∙ c.if-has.true in
    sym (sym (ap (seq_in_runs n) same) ∙ found
    ∙ ap (λ (r : Run). cond (is_in_run n r) (Some r.seq) None) (sym at)
    ∙ ap (λ (b : Bool). cond b (Some run.seq) None) has)

pub returns-else-has : goal.returns-else-has
returns-else-has g c = λ rise.
    let n = c.args.serial in
    let xs = c.deref.result.now in
    let same : xs ≡ c.args.self.now = search rules in
    let ordered : RunsRise 0 xs = subst (λ (rs : List Run). RunsRise 0 rs) (sym same) rise in
    let point = IsPartitionPoint-from_clause (λ (r : Run). leb r.first n) xs c.partition_point-after.result
    c.partition_point-after.ensures.partitioned (IsPartitionedBy-leb (λ (r : Run). r.first) xs n (firsts-rise 0 xs ordered))
    (λ a r f called. search rules) in
    let i = c.partition_point-after.result - 1 in
    let run = c.index.result.now in
    let one : c.partition_point-after.result ≡ i + 1 = omega (arith, c.if-after-eq0.false) in
    let at : run ≡ get_or xs i run = search rules in
    let found = last-begins n 0 xs i run ordered (omega (arith, one, c.partition_point-after.ensures.bound))
    (subst (λ k. IsPartitionPoint (λ (r : Run). leb r.first n ≡ true) (λ (r : Run). leb r.first n ≡ false) xs k) one point) in
    let has : is_in_run n run ≡ false = sym c.has.ensures ∙ c.if-has.false in
    sym (sym (ap (seq_in_runs n) same) ∙ found
    ∙ ap (λ (r : Run). cond (is_in_run n r) (Some r.seq) None) (sym at)
    ∙ ap (λ (b : Bool). cond b (Some run.seq) None) has)
