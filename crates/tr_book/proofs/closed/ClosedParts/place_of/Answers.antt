use Rattle.std.proofs.Common.{rules, ◌≡◌, ◌∙◌, ◌≤◌, ap, leb, arith, length, subst, sym}
use Rattle.std.proofs.lemmas.List.{length-map}
use Rattle.std.proofs.lemmas.List.Sorted.{IsPartitionPoint-from_clause, IsPartitionedBy-leb}
use Rattle.std.specs.List.Sorted.{IsNonDecreasing}
use Rattle.tr_book.proofs.ClosedLemmas.{ends-below, past-places, rise-past}
use Rattle.tr_book.proofs.PlaceLemmas.{place-is}
use Rattle.tr_book.specs.Closed.{gone_starts, starts_of}
use Rattle.tr_book.specs.Parts.{begun_at, place_in}
use Rattle.tr_book.proofs.closed.ClosedParts.place_of.Goals as goal

pub returns : goal.returns
returns g c = λ rise known.
    let n = c.args.serial in
    let gone = gone_starts c.args.self.now.gone.items in
    let xs = c.deref.result.now in
    let same : xs ≡ c.args.self.now.starts.items = c.deref.ensures.value in
    let long : length gone ≡ length c.args.self.now.gone.items = length-map c.args.self.now.gone.items (λ it. it.next.of) in
    let ordered : IsNonDecreasing xs = subst IsNonDecreasing (sym same) (rise-past gone c.args.self.now.starts.items rise) in
    let point = IsPartitionPoint-from_clause (λ s. leb s n) xs c.partition_point.result c.partition_point.ensures.partitioned
    (IsPartitionedBy-leb (λ s. s) xs n ordered) (λ a r f called. search rules) in
    let held = place-is n xs c.partition_point.result c.partition_point.ensures.bound point ∙ ap (place_in n) same in
    let from = subst (λ m. begun_at m (starts_of c.args.self.now) ≤ n) (sym long) known in
    let all = past-places n gone c.args.self.now.starts.items (ends-below n gone c.args.self.now.starts.items rise from) in
    omega (arith, c.forgotten.ensures, held, long, all)
