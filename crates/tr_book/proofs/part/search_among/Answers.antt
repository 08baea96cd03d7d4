use Rattle.std.proofs.Common.{rules, ◌≡◌, ◌∙◌, ◌-◌, ◌+◌, ◌<◌, Bool, true, false, length, None, Some, ap, arith, cond, get_or, leb, subst, sym}
use Rattle.std.proofs.lemmas.Bool.Decides.{nat_tests}
use Rattle.std.proofs.lemmas.List.Sorted.{IsPartitionPoint-from_clause, IsPartitionedBy-leb}
use Rattle.tr_book.proofs.PacketLemmas.{Turns, firsts-rise, shown-in-row, last-begins, none-begins}
use Rattle.tr_book.proofs.part.search_among.Goals as goal
use Rattle.tr_book.specs.Runs.{AreInRow, first_in, lost_before}
use Rattle.tr_packet.specs.Packets.{Contents}
use Rattle.tr_record.specs.Records.{has_serial}

pub returns-then-after-eq0 : goal.returns-then-after-eq0
returns-then-after-eq0 g c =
    let n = c.args.serial in
    let xs = c.args.texts.now in
    let point = IsPartitionPoint-from_clause (λ (p : Contents). leb (first_in p.records 0) n) xs c.partition_point-after.result
    c.partition_point-after.ensures.partitioned
    (IsPartitionedBy-leb (λ (p : Contents). first_in p.records 0) xs n (firsts-rise 0 xs c.requires.rise))
    (λ a r f called. search rules) in
    none-begins n 0 xs c.requires.rise (subst (λ i. Turns n xs i) c.if-after-eq0.true point)

pub has_known-requires-clause-row : goal.has_known-requires-clause-row
has_known-requires-clause-row g c = λ same.
    let xs = c.args.texts.now in
    let i = c.partition_point-after.result - 1 in
    let p : Contents = c.index-texts-after.result in
    let at : p ≡ get_or xs i p = search rules in
    let within : i < length xs = omega (arith, c.if-after-eq0.false, c.partition_point-after.ensures.bound) in
    let equal : c.head-head.result.lost ≡ c.lost_before-lost.result = grind (arith, nat_tests, same) in
    let lost : (get_or xs i p).head.lost ≡ lost_before 0 i xs = search rules in
    subst AreInRow (search rules) (shown-in-row 0 xs i p c.requires.gaps within lost)

pub returns-then-has_known : goal.returns-then-has_known
returns-then-has_known g c =
    let n = c.args.serial in
    let xs = c.args.texts.now in
    let point = IsPartitionPoint-from_clause (λ (p : Contents). leb (first_in p.records 0) n) xs c.partition_point-after.result
    c.partition_point-after.ensures.partitioned
    (IsPartitionedBy-leb (λ (p : Contents). first_in p.records 0) xs n (firsts-rise 0 xs c.requires.rise))
    (λ a r f called. search rules) in
    let i = c.partition_point-after.result - 1 in
    let p : Contents = c.index-texts-after.result in
    let one : c.partition_point-after.result ≡ i + 1 = omega (arith, c.if-after-eq0.false) in
    let at : p ≡ get_or xs i p = search rules in
    let found = last-begins n 0 xs i p c.requires.rise (omega (arith, one, c.partition_point-after.ensures.bound))
    (subst (λ k. Turns n xs k) one point) in
    let has : has_serial n p.records ≡ true = search rules in
    let told : c.head-head.result.seq ≡ p.head.seq = search rules in
    ap (λ k. Some k) told
    ∙ sym (found ∙ ap (λ (q : Contents). cond (has_serial n q.records) (Some q.head.seq) None) (sym at)
    ∙ ap (λ (b : Bool). cond b (Some p.head.seq) None) has)

pub returns-else-has_known : goal.returns-else-has_known
returns-else-has_known g c =
    let n = c.args.serial in
    let xs = c.args.texts.now in
    let point = IsPartitionPoint-from_clause (λ (p : Contents). leb (first_in p.records 0) n) xs c.partition_point-after.result
    c.partition_point-after.ensures.partitioned
    (IsPartitionedBy-leb (λ (p : Contents). first_in p.records 0) xs n (firsts-rise 0 xs c.requires.rise))
    (λ a r f called. search rules) in
    let i = c.partition_point-after.result - 1 in
    let p : Contents = c.index-texts-after.result in
    let one : c.partition_point-after.result ≡ i + 1 = omega (arith, c.if-after-eq0.false) in
    let at : p ≡ get_or xs i p = search rules in
    let found = last-begins n 0 xs i p c.requires.rise (omega (arith, one, c.partition_point-after.ensures.bound))
    (subst (λ k. Turns n xs k) one point) in
    let has : has_serial n p.records ≡ false = search rules in
    sym (found ∙ ap (λ (q : Contents). cond (has_serial n q.records) (Some q.head.seq) None) (sym at)
    ∙ ap (λ (b : Bool). cond b (Some p.head.seq) None) has)
