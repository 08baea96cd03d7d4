use Rattle.std.proofs.Common.{rules, ◌≡◌, ◌-◌, ◌∷◌, ◌++◌, ◌∙◌, Bool, List, None, Some, [], ap, arith, cond, false, subst, sym}
use Rattle.std.proofs.lemmas.Bool.Decides.{nat_tests}
use Rattle.tr_ring.specs.ClosedBuffer.{ClosedBuffer}
use Rattle.tr_ring.specs.Ring.{seq_waiting}
use Rattle.tr_stream.proofs.SearchLemmas.{last-row, lower, one-begun, passed, ring-has}
use Rattle.tr_stream.proofs.search.seq_in_ring.Goals as goal
use Rattle.tr_stream.specs.Chunks.{closed_if_any}
use Rattle.tr_stream.specs.Gaps.{BuffersRise, DiscardsShow, begun}
use Rattle.tr_book.specs.Runs.{AreInRow, next_serial}
use Rattle.tr_record.specs.Records.{has_serial}

pub loop-buffer-init : goal.loop-buffer-init
loop-buffer-init g c =
    let same : c.into_iter-buffer-iterator.result ≡ c.args.ring.now.waiting = search rules in
    rw same (record {
      found = ring-has c.args.serial c.args.ring.now;
      begun = c.begun-left.ensures;
      rise = c.requires.rise;
      gaps = c.requires.gaps;
    })

pub returns-else-has : goal.returns-else-has
returns-else-has g c =
    let n = c.args.serial in
    let r = c.args.ring.now in
    let last = closed_if_any r.seq 0 r.discarded r.current in
    let b : ClosedBuffer = c.in-Some.buffer in
    let rest : List ClosedBuffer = c.next.new.self ++ last in
    let steps : c.loop-buffer.buffer-iterator ≡ b ∷ c.next.new.self = search rules in
    let all : c.loop-buffer.buffer-iterator ++ last ≡ b ∷ rest = ap (λ (bs : List ClosedBuffer). bs ++ last) steps in
    let one : begun n (b ∷ rest) ≡ 1 = sym (ap (begun n) all) ∙ sym c.loop-buffer.invariant.begun ∙ c.if-left-eq1.true in
    let only = one-begun n 0 b rest (subst (BuffersRise 0) all c.loop-buffer.invariant.rise) one in
    let has : has_serial n b.records ≡ false = search rules in
    sym (sym c.loop-buffer.invariant.found ∙ ap (seq_waiting n) all ∙ only ∙ ap (λ (w : Bool). cond w (Some b.seq) None) has)

pub loop-buffer-preserved : goal.loop-buffer-preserved
loop-buffer-preserved g c =
    let n = c.args.serial in
    let r = c.args.ring.now in
    let last = closed_if_any r.seq 0 r.discarded r.current in
    let b : ClosedBuffer = c.in-Some.buffer in
    let rest : List ClosedBuffer = c.next.new.self ++ last in
    let steps : c.loop-buffer.buffer-iterator ≡ b ∷ c.next.new.self = search rules in
    let all : c.loop-buffer.buffer-iterator ++ last ≡ b ∷ rest = ap (λ (bs : List ClosedBuffer). bs ++ last) steps in
    let rise : BuffersRise 0 (b ∷ rest) = subst (BuffersRise 0) all c.loop-buffer.invariant.rise in
    let gaps : DiscardsShow c.loop-buffer.discarded (b ∷ rest) = subst (DiscardsShow c.loop-buffer.discarded) all c.loop-buffer.invariant.gaps in
    let next = passed n 0 c.loop-buffer.left b rest rise (c.loop-buffer.invariant.begun ∙ ap (begun n) all) c.if-left-eq1.false in
    let less : c.saturating_sub-left.result ≡ c.loop-buffer.left - 1 = search rules in
    let told : c.discarded-discarded.result ≡ b.discarded = search rules in record {
      found = sym next.found ∙ sym (ap (seq_waiting n) all) ∙ c.loop-buffer.invariant.found;
      begun = less ∙ next.begun;
      rise = lower (next_serial 0 b.records) 0 rest (omega arith) rise.2;
      gaps = subst (λ d. DiscardsShow d rest) (sym told) gaps.1;
    }

pub has_known-has-requires-2-clause-row : goal.has_known-has-requires-2-clause-row
has_known-has-requires-2-clause-row g c = λ same.
    let r = c.args.ring.now in
    let last = closed_if_any r.seq 0 r.discarded r.current in
    let none : c.loop-buffer.buffer-iterator ≡ [] = search rules in
    let gaps : DiscardsShow c.loop-buffer.discarded last =
    subst (λ (bs : List ClosedBuffer). DiscardsShow c.loop-buffer.discarded (bs ++ last)) none c.loop-buffer.invariant.gaps in
    let told : c.discarded-2.result ≡ r.discarded = search rules in
    let equal : r.discarded ≡ c.loop-buffer.discarded = grind (arith, nat_tests, same, told) in
    let row = last-row r.seq 0 r.discarded c.loop-buffer.discarded r.current gaps equal in
    let records : c.records-2.result ≡ r.current = search rules in
    subst AreInRow (sym records) row
