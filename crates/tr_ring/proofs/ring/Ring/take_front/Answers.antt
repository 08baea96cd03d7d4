use Rattle.std.proofs.Common.{◌≡◌, ◌+◌, ◌≤◌, ◌∙◌, List, Some, length, ap, slice_get, sym, arith}
use Rattle.std.specs.Option.{option_map}
use Rattle.std.proofs.lemmas.List.{length-map}
use Rattle.circular_buffer.specs.Buffer.{Buffer}
use Rattle.tr_subbuf.specs.SubBuffer.{empty_buffer}
use Rattle.tr_ring.specs.ClosedBuffer.{ClosedBuffer}
use Rattle.tr_ring.specs.Heads.{page_from}
use Rattle.tr_ring.specs.Pages.{SealedPage, closed_in}
use Rattle.tr_ring.specs.Ring.{RingState, drop_front, ring_state}
use Rattle.tr_ring.proofs.MoveLemmas.{front-gone, front-page, left-waits}
use Rattle.tr_ring.proofs.ring.Ring.take_front.Goals as goal

pub invariant_of-self : goal.invariant_of-self
invariant_of-self g c =
    let own = c.self.inside in
    let some : 1 ≤ length own.waiting.items =
    omega (
      arith,
      c.requires.some,
      ap (λ (r : RingState). length r.waiting) c.self.view_is,
      length-map own.waiting.items (λ (p : SealedPage). p.closed),
    ) in
    let held = front-gone own.origin own.current.size own.waiting c.pop_front.new.self own.free c.push_back.new.self c.args.spare own.current.records
    own.seq own.discarded own.overwrite c.self.invariant.0 c.self.invariant.1.0 some
    (c.requires.spare ∙ ap (λ (r : RingState). empty_buffer r.size) (sym c.self.view_is)) c.pop_front.ensures.items c.push_back.ensures.items in
    (held.ring, (held.pages, c.self.invariant.1.1))

pub returns-clause-page : goal.returns-clause-page
returns-clause-page g c =
    let own = c.self.inside in
    let first : Some c.in-Some.oldest ≡ slice_get own.waiting.items 0 = sym c.in-Some.is ∙ c.pop_front.ensures.value in
    front-page own.origin own.current.size own.waiting.items c.in-Some.oldest c.into_page.result c.self.invariant.1.0.sizes c.self.invariant.1.0.packets first
    c.into_page.ensures
    ∙ ap (λ (r : RingState). option_map (page_from r.origin r.size) (slice_get r.waiting 0)) c.self.view_is

pub returns-clause-after : goal.returns-clause-after
returns-clause-after g c =
    let own = c.self.inside in
    ap (λ (w : Buffer SealedPage). ring_state (closed_in w.items) own.current.records own.seq own.discarded own.current.size (w.capacity + 1) own.overwrite own.origin)
    c.pop_front.ensures.items
    ∙ ap (λ (bs : List ClosedBuffer). ring_state bs own.current.records own.seq own.discarded own.current.size (own.waiting.capacity + 1) own.overwrite own.origin)
    (left-waits own.waiting.items)
    ∙ ap drop_front c.self.view_is
