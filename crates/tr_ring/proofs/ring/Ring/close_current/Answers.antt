use Rattle.std.proofs.Common.{refl, ◌≡◌, ◌+◌, ◌<◌, ◌≤◌, ◌∙◌, Some, [], length, ap, slice_get, subst, sym, arith}
use Rattle.std.proofs.lemmas.Grind.{common_steps}
use Rattle.std.proofs.lemmas.List.{length-map}
use Rattle.tr_subbuf.specs.SubBuffer.{SubBuffer, empty_buffer, ending}
use Rattle.std.specs.Option.{option_map}
use Rattle.tr_ring.specs.Pages.{ArePages, SealedPage, closed_in}
use Rattle.tr_ring.specs.Ring.{IsRing, RingState, close_current, current_head, ring_state}
use Rattle.tr_ring.proofs.MoveLemmas.{Holds, closes, closing, ends-as-packet}
use Rattle.tr_ring.proofs.ring.Ring.close_current.Goals as goal

pub unreachable-requires : goal.unreachable-requires
unreachable-requires g c = grind (arith, common_steps)

pub invariant_of-self : goal.invariant_of-self
invariant_of-self g c =
    let own = c.self.inside in
    let closed-long = length-map own.waiting.items (λ (p : SealedPage). p.closed) in
    let room : length own.waiting.items < own.waiting.capacity =
    omega (
      arith,
      c.requires.room,
      closed-long,
      ap (λ (r : RingState). length r.waiting) c.self.view_is,
      ap (λ (r : RingState). r.count) c.self.view_is,
    ) in
    let some : 1 ≤ length own.current.records = omega (arith, c.requires.some, ap (λ (r : RingState). length r.current) c.self.view_is) in
    let first : Some c.in-Some.next ≡ slice_get own.free.items 0 = sym c.in-Some.is ∙ c.pop_front.ensures.value in
    let ends = ends-as-packet own.origin own.seq c.args.end own.discarded own.current.records own.current.head some c.self.invariant.1.1 in
    let held = closing own.origin own.current.size own.waiting c.close.new.waiting own.free c.pop_front.new.self c.in-Some.next own.current.records own.seq
    c.args.end own.discarded own.overwrite (option_map (ending c.args.end) own.current.head) c.self.invariant.0 c.self.invariant.1.0 some room first ends
    c.close.ensures.waiting
    c.pop_front.ensures.items in
    let empty : c.close.new.current ≡ empty_buffer own.current.size = c.close.ensures.current ∙ held.0 in
    subst (λ (b : SubBuffer). IsRing (ring_state (closed_in c.close.new.waiting.items) b.records (own.seq + 1) own.discarded b.size
    (c.close.new.waiting.capacity + 1) own.overwrite own.origin)
    × (ArePages own.origin b.size c.close.new.waiting.items c.pop_front.new.self c.close.new.waiting.capacity
    × (b.head ≡ current_head own.origin (own.seq + 1) own.discarded b.records))) (sym empty) (held.1.ring, (held.1.pages, refl))

pub returns : goal.returns
returns g c =
    let own = c.self.inside in
    let closed-long = length-map own.waiting.items (λ (p : SealedPage). p.closed) in
    let room : length own.waiting.items < own.waiting.capacity =
    omega (
      arith,
      c.requires.room,
      closed-long,
      ap (λ (r : RingState). length r.waiting) c.self.view_is,
      ap (λ (r : RingState). r.count) c.self.view_is,
    ) in
    let some : 1 ≤ length own.current.records = omega (arith, c.requires.some, ap (λ (r : RingState). length r.current) c.self.view_is) in
    let first : Some c.in-Some.next ≡ slice_get own.free.items 0 = sym c.in-Some.is ∙ c.pop_front.ensures.value in
    let ends = ends-as-packet own.origin own.seq c.args.end own.discarded own.current.records own.current.head some c.self.invariant.1.1 in
    let held = closing own.origin own.current.size own.waiting c.close.new.waiting own.free c.pop_front.new.self c.in-Some.next own.current.records own.seq
    c.args.end own.discarded own.overwrite (option_map (ending c.args.end) own.current.head) c.self.invariant.0 c.self.invariant.1.0 some room first ends
    c.close.ensures.waiting
    c.pop_front.ensures.items in
    closes own.origin own.waiting c.close.new.waiting c.close.new.current own.current.records own.current.size own.seq c.args.end own.discarded
    own.overwrite (option_map (ending c.args.end) own.current.head) c.close.ensures.waiting (c.close.ensures.current ∙ held.0)
    ∙ ap (close_current c.args.end) c.self.view_is
