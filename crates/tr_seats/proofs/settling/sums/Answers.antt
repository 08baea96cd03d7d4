use Rattle.std.proofs.Common.{◌≡◌, ◌+◌, List, ap, arith, subst, sym, take, ◌∙◌}
use Rattle.std.proofs.lemmas.List.{take_all}
use Rattle.tr_book.specs.declared.counts.Counts.{Counts}
use Rattle.tr_seats.proofs.SumLemmas.{streams-more, sum-more, totals-more}
use Rattle.tr_seats.proofs.settling.sums.Goals as goal
use Rattle.tr_seats.specs.Settling.{AddUp, WereConsumed, streams_of}
use Rattle.tr_seats.specs.Slots.{SlotState}
use Rattle.tr_seats.specs.Sums.{totals_in, totals_of}
use Rattle.tr_stream.specs.State.{StreamState, in_parts, in_ring}
use Rattle.tr_terms.specs.declared.session_mode.SessionMode.TheVariants.{Snapshot}

pub overflow_add-totals-in-loop-slot-5 : goal.overflow_add-totals-in-loop-slot-5
overflow_add-totals-in-loop-slot-5 g c =
    omega (arith, c.loop-slot.invariant.cuts, c.from-in-loop-slot-5.ensures, c.counts-counts.type_inv, c.loop-slot-test.true)

pub overflow_add-totals-in-loop-slot-6 : goal.overflow_add-totals-in-loop-slot-6
overflow_add-totals-in-loop-slot-6 g c =
    omega (arith, c.loop-slot.invariant.cleared, c.from-in-loop-slot-6.ensures, c.counts-counts.type_inv, c.loop-slot-test.true)

pub loop-slot-preserved : goal.loop-slot-preserved
loop-slot-preserved g c =
    let v = c.loop-slot.invariant in
    let i = c.loop-slot.slot-index in
    let slots = c.args.slots.now in
    let slot = c.slot-item.result in
    let value = c.counts-counts.ensures.value in
    let offered : c.from.result ≡ (totals_in slot.stream).offered = c.from.ensures ∙ ap (λ (x : Counts). x.offered) value in
    let discarded : c.from-in-loop-slot.result ≡ (totals_in slot.stream).discarded =
    c.from-in-loop-slot.ensures ∙ ap (λ (x : Counts). x.discarded) value in
    let overwritten : c.from-in-loop-slot-2.result ≡ (totals_in slot.stream).overwritten =
    c.from-in-loop-slot-2.ensures ∙ ap (λ (x : Counts). x.overwritten) value in
    let packets : c.from-in-loop-slot-3.result ≡ (totals_in slot.stream).overwritten_packets =
    c.from-in-loop-slot-3.ensures ∙ ap (λ (x : Counts). x.overwritten_packets) value in
    let consumed : c.from-in-loop-slot-4.result ≡ (totals_in slot.stream).consumed =
    c.from-in-loop-slot-4.ensures ∙ ap (λ (x : Counts). x.consumed) value in
    let cuts : c.from-in-loop-slot-5.result ≡ (totals_in slot.stream).cuts =
    c.from-in-loop-slot-5.ensures ∙ ap (λ (x : Counts). x.cuts) value in
    let cleared : c.from-in-loop-slot-6.result ≡ (totals_in slot.stream).cleared =
    c.from-in-loop-slot-6.ensures ∙ ap (λ (x : Counts). x.cleared) value in
    let ring : c.counts-counts.result.in_ring ≡ in_ring slot.stream.ring = ap (λ (x : Counts). x.in_ring) value in
    let more = streams-more slots i slot c.loop-slot-test.true c.slot-item.is in
    let part : c.counts-counts.result.in_chunks ≡ in_parts slot.stream.parts = ap (λ (x : Counts). x.in_chunks) value in
    let gone : c.counts-counts.result.withdrawn ≡ slot.stream.counters.withdrawn = ap (λ (x : Counts). x.withdrawn) value in
    let rings = sum-more (λ (s : StreamState). in_ring s.ring) slots i slot c.loop-slot-test.true c.slot-item.is in
    let parts = sum-more (λ (s : StreamState). in_parts s.parts) slots i slot c.loop-slot-test.true c.slot-item.is in
    let withdrawn = sum-more (λ (s : StreamState). s.counters.withdrawn) slots i slot c.loop-slot-test.true c.slot-item.is in
    record {
      so_far = (λ k. record {
        offered = c.loop-slot.totals.offered + offered k;
        discarded = c.loop-slot.totals.discarded + discarded k;
        overwritten = c.loop-slot.totals.overwritten + overwritten k;
        overwritten_packets = c.loop-slot.totals.overwritten_packets + packets k;
        consumed = c.loop-slot.totals.consumed + consumed k;
        cuts = c.loop-slot.totals.cuts + cuts k;
        cleared = c.loop-slot.totals.cleared + cleared k;
      })
          ∙ totals-more c.loop-slot.totals (streams_of (take i slots)) slot.stream v.so_far ∙ ap totals_of (sym more);
      places = omega (
        arith,
        v.places,
        rings,
        ring,
        parts,
        part,
        c.counts-counts.ensures.total,
        c.from.ensures,
        c.from-in-loop-slot.ensures,
        c.from-in-loop-slot-2.ensures,
        c.from-in-loop-slot-6.ensures,
      );
      kept = (
        omega (arith, v.kept.0, parts, part, withdrawn, gone, c.counts-counts.ensures.consumed, c.from-in-loop-slot-4.ensures),
        omega (arith, v.kept.1, withdrawn, gone, c.counts-counts.ensures.withdrawn, c.from-in-loop-slot-6.ensures),
      );
      none = λ all.
          let here : slot.stream.config.session ≡ Snapshot =
          subst (λ (s : SlotState). s.stream.config.session ≡ Snapshot) (sym c.slot-item.is)
          (all i slot c.loop-slot-test.true) in
          let nothing = c.counts-counts.ensures.snapshot_session here in
          let before = v.none all in (
            omega (arith, before.0, nothing.0, c.from-in-loop-slot-4.ensures),
            omega (arith, before.1, nothing.1, c.from-in-loop-slot-6.ensures),
          );
      offered = omega (arith, v.offered, c.from.ensures, c.counts-counts.type_inv);
      discarded = omega (arith, v.discarded, c.from-in-loop-slot.ensures, c.counts-counts.type_inv);
      overwritten = omega (arith, v.overwritten, c.from-in-loop-slot-2.ensures, c.counts-counts.type_inv);
      overwritten_packets = omega (arith, v.overwritten_packets, c.from-in-loop-slot-3.ensures, c.counts-counts.type_inv);
      consumed = omega (arith, v.consumed, c.from-in-loop-slot-4.ensures, c.counts-counts.type_inv);
      cuts = omega (arith, v.cuts, c.from-in-loop-slot-5.ensures, c.counts-counts.type_inv);
      cleared = omega (arith, v.cleared, c.from-in-loop-slot-6.ensures, c.counts-counts.type_inv);
    }

pub returns-clause-value : goal.returns-clause-value
returns-clause-value g c =
    c.loop-slot.invariant.so_far
    ∙ ap (λ (l : List SlotState). totals_of (streams_of l)) (take_all c.loop-slot.slot-index c.args.slots.now (omega (arith, c.loop-slot-test.false)))

pub returns-clause-places : goal.returns-clause-places
returns-clause-places g c =
    let all = take_all c.loop-slot.slot-index c.args.slots.now (omega (arith, c.loop-slot-test.false)) in
    subst (λ (l : List SlotState). AddUp c.loop-slot.totals (streams_of l)) all c.loop-slot.invariant.places

pub returns-clause-consumed : goal.returns-clause-consumed
returns-clause-consumed g c =
    let all = take_all c.loop-slot.slot-index c.args.slots.now (omega (arith, c.loop-slot-test.false)) in
    subst (λ (l : List SlotState). WereConsumed c.loop-slot.totals (streams_of l)) all c.loop-slot.invariant.kept

pub returns-clause-snapshot_session : goal.returns-clause-snapshot_session
returns-clause-snapshot_session g c = c.loop-slot.invariant.none
