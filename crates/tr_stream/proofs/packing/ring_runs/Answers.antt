use Rattle.std.proofs.Common.{rules, ◌≡◌, ◌++◌, ◌∙◌, List, [], ap, subst, sym}
use Rattle.std.proofs.lemmas.List.{append-nil}
use Rattle.std.proofs.lemmas.Bool.{eqb-true}
use Rattle.tr_book.specs.Runs.{AreInRow}
use Rattle.tr_ring.specs.ClosedBuffer.{ClosedBuffer}
use Rattle.tr_stream.proofs.CallLemmas.{runs-all}
use Rattle.tr_stream.proofs.GapLemmas.{current-in_row}
use Rattle.tr_stream.proofs.packing.ring_runs.Goals as goal
use Rattle.tr_stream.specs.Chunks.{buffer_runs, closed_if_any}
use Rattle.tr_stream.specs.Gaps.{DiscardsShow}
use Rattle.tr_subbuf.specs.SubBuffer.{SubBuffer}

pub returns : goal.returns
returns g c = λ end.
    let none : c.loop-buffer.buffer-iterator ≡ [] = search rules in
    let are : c.loop-buffer.runs ≡ buffer_runs c.args.ring.now.waiting =
    sym (append-nil c.loop-buffer.runs)
    ∙ ap (λ (bs : List ClosedBuffer). c.loop-buffer.runs ++ buffer_runs bs) (sym none) ∙ c.loop-buffer.invariant.0 in
    runs-all c.args.ring.now end c.loop-buffer.runs c.push_known-2.new.self are (search rules)

pub push_known-requires-2-clause-row : goal.push_known-requires-2-clause-row
push_known-requires-2-clause-row g c = λ same.
    let none : c.loop-buffer.buffer-iterator ≡ [] = search rules in
    let ring = c.args.ring.now in
    let shows = subst (λ (bs : List ClosedBuffer). DiscardsShow c.loop-buffer.discarded
    (bs ++ closed_if_any ring.seq 0 ring.discarded ring.current)) none c.loop-buffer.invariant.1 in
    let lost : ring.discarded ≡ c.loop-buffer.discarded = sym c.discarded-2.ensures ∙ eqb-true c.discarded-2.result c.loop-buffer.discarded same in
    let current = c.records-2.ensures ∙ ap (λ (b : SubBuffer). b.records) c.current-current.ensures in
    subst AreInRow (sym current) (current-in_row ring.seq ring.discarded c.loop-buffer.discarded ring.current shows lost)
