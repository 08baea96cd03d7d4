use Rattle.std.proofs.Common.{◌≡◌, ◌≤◌, ◌∙◌, ℕ, List, Some, ap, arith, length, refl, sym, subst}
use Rattle.std.proofs.lemmas.List.{take_all}
use Rattle.std.specs.List.{sum_by}
use Rattle.std.specs.Option.{option_map_or}
use Rattle.std.specs.Prelude.{slice_get}
use Rattle.tr_book.specs.Parts.{part_bytes, part_packets, part_records}
use Rattle.tr_session.proofs.SizeLemmas.{fits-bytes, fits-count, tallies-more}
use Rattle.tr_session.proofs.session.Session.archive_size.Goals as goal
use Rattle.tr_session.specs.Sizes.{part_released}
use Rattle.tr_stream.specs.Rules.{by_state}
use Rattle.tr_stream.specs.State.{StreamState}

pub streams-init : goal.streams-init
streams-init g c = record {
  packets = refl;
  records = refl;
  bytes = refl;
  released = refl;
  few = (omega arith, omega arith, omega arith, omega arith);
}

pub overflow_add-size : goal.overflow_add-size
overflow_add-size g c = let fits =
    fits-count c.streams.i c.streams-i-end.result c.streams.size.packets c.part_size-part.result.packets c.streams-test.true
    c.streams-i-end.ensures.within c.streams.invariant.few.0 c.part_size-part.ensures.few.0 in omega (arith, fits)

pub overflow_add-size-in-streams : goal.overflow_add-size-in-streams
overflow_add-size-in-streams g c = let fits =
    fits-count c.streams.i c.streams-i-end.result c.streams.size.records c.part_size-part.result.records c.streams-test.true
    c.streams-i-end.ensures.within c.streams.invariant.few.1 c.part_size-part.ensures.few.1 in omega (arith, fits)

pub overflow_add-size-in-streams-2 : goal.overflow_add-size-in-streams-2
overflow_add-size-in-streams-2 g c = let fits =
    fits-bytes c.streams.i c.streams-i-end.result c.streams.size.bytes c.part_size-part.result.bytes c.streams-test.true
    c.streams-i-end.ensures.within c.streams.invariant.few.2 c.part_size-part.ensures.few.2 in omega (arith, fits)

pub overflow_add-size-in-streams-3 : goal.overflow_add-size-in-streams-3
overflow_add-size-in-streams-3 g c =
    omega (
      arith,
      c.streams-test.true,
      c.streams-i-end.ensures.within,
      c.streams.invariant.few.3,
      c.part_size-part.ensures.few.3,
    )

pub streams-preserved : goal.streams-preserved
streams-preserved g c =
    let at : slice_get c.args.self.now.streams c.streams.i ≡ Some c.in-Some.stream.now = sym c.in-Some.ensures.value in
    tallies-more c.streams.i c.args.id c.args.self.now c.streams.size c.part_size-part.result c.in-Some.stream.now c.streams.invariant at
    c.part_size-part.ensures.packets c.part_size-part.ensures.records c.part_size-part.ensures.bytes
    c.part_size-part.ensures.released c.part_size-part.ensures.few

pub returns-clause-packets : goal.returns-clause-packets
returns-clause-packets g c =
    let past : length c.args.self.now.streams ≤ c.streams.i = subst (λ (n : ℕ). n ≤ c.streams.i) c.streams-i-end.ensures.value c.streams-test.false in
    c.streams.invariant.packets
    ∙ ap (λ (ts : List StreamState). sum_by (λ t. option_map_or part_packets (by_state.part c.args.id t) 0) ts)
    (take_all c.streams.i c.args.self.now.streams past)

pub returns-clause-records : goal.returns-clause-records
returns-clause-records g c =
    let past : length c.args.self.now.streams ≤ c.streams.i = subst (λ (n : ℕ). n ≤ c.streams.i) c.streams-i-end.ensures.value c.streams-test.false in
    c.streams.invariant.records
    ∙ ap (λ (ts : List StreamState). sum_by (λ t. option_map_or part_records (by_state.part c.args.id t) 0) ts)
    (take_all c.streams.i c.args.self.now.streams past)

pub returns-clause-bytes : goal.returns-clause-bytes
returns-clause-bytes g c =
    let past : length c.args.self.now.streams ≤ c.streams.i = subst (λ (n : ℕ). n ≤ c.streams.i) c.streams-i-end.ensures.value c.streams-test.false in
    c.streams.invariant.bytes ∙ ap (λ (ts : List StreamState). sum_by (λ t. option_map_or part_bytes (by_state.part c.args.id t) 0) ts)
    (take_all c.streams.i c.args.self.now.streams past)

pub returns-clause-released : goal.returns-clause-released
returns-clause-released g c =
    let past : length c.args.self.now.streams ≤ c.streams.i = subst (λ (n : ℕ). n ≤ c.streams.i) c.streams-i-end.ensures.value c.streams-test.false in
    c.streams.invariant.released
    ∙ ap (λ (ts : List StreamState). sum_by (λ t. option_map_or part_released (by_state.part c.args.id t) 0) ts)
    (take_all c.streams.i c.args.self.now.streams past)
