use Rattle.std.proofs.Common.{rules, ◌≡◌, ◌+◌, ◌-◌, [], ℕ, arith, refl, subst, sym}
use Rattle.circular_buffer.specs.Buffer.{Buffer, buffer}
use Rattle.tr_subbuf.specs.SubBuffer.{SubBuffer, empty_buffer}
use Rattle.tr_ring.specs.Pages.{ArePages, SealedPage, closed_in}
use Rattle.tr_ring.specs.Ring.{IsRing, current_head, ring_state}
use Rattle.std.proofs.lemmas.Grind.{common_steps}
use Rattle.tr_ring.proofs.ring.Ring.new.Goals as goal

pub invariant_of-result : goal.invariant_of-result
invariant_of-result g c =
    let made : c.in_ok-current.current ≡ empty_buffer c.args.size = search rules in
    let none : c.in_ok-waiting.waiting ≡ buffer [] (c.args.n - 1) = search rules in
    let pages : ArePages c.args.origin c.args.size [] c.in_ok-free.free (c.args.n - 1) = c.in_ok-free.ensures c.args.origin in
    subst (λ (w : Buffer SealedPage). IsRing (ring_state (closed_in w.items) c.in_ok-current.current.records 0 0 c.in_ok-current.current.size
    (w.capacity + 1) c.args.overwrite c.args.origin)
    × (ArePages c.args.origin c.in_ok-current.current.size w.items c.in_ok-free.free w.capacity
    × (c.in_ok-current.current.head ≡ current_head c.args.origin 0 0 c.in_ok-current.current.records))) (sym none)
    (subst (λ (b : SubBuffer). IsRing (ring_state [] b.records 0 0 b.size (c.args.n - 1 + 1) c.args.overwrite c.args.origin)
    × (ArePages c.args.origin b.size [] c.in_ok-free.free (c.args.n - 1) × (b.head ≡ current_head c.args.origin 0 0 b.records))) (sym made) (
      grind (arith, common_steps),
      (pages, refl),
    ))
