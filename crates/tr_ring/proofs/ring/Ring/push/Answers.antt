use Rattle.std.proofs.Common.{◌≡◌, ◌+◌, ◌≤◌, ◌∷◌, ◌++◌, [], length, arith, subst, sym, ap, ◌∙◌}
use Rattle.std.proofs.lemmas.Grind.{common_steps}
use Rattle.tr_record.specs.Records.{Entry}
use Rattle.tr_record.specs.Weight.{weight_of}
use Rattle.tr_record.proofs.RecordLemmas.{weight_of-push}
use Rattle.tr_subbuf.specs.SubBuffer.{SubBuffer}
use Rattle.tr_subbuf.proofs.PageLemmas.{joining}
use Rattle.tr_ring.specs.Pages.{ArePages, closed_in}
use Rattle.tr_ring.specs.Ring.{IsRing, current_head, ring_state}
use Rattle.tr_ring.proofs.MoveLemmas.{joins-as-packet}
use Rattle.tr_ring.proofs.ring.Ring.push.Goals as goal

pub invariant_of-self : goal.invariant_of-self
invariant_of-self g c =
    let own = c.self.inside in
    let e = c.new.result in
    let es = own.current.records in
    let entry-is = c.new.ensures.value in
    let joined = joining own.current (length c.args.payload.now) (sym c.joins.ensures ∙ c.if-joins.true) in
    let room : weight_of es + (24 + length e.payload) ≤ own.current.size = omega (arith, joined.1, ap (λ (x : Entry). length x.payload) entry-is) in
    let is = c.self.invariant.0 in
    subst (λ (b : SubBuffer). IsRing (ring_state (closed_in own.waiting.items) b.records own.seq own.discarded b.size (own.waiting.capacity + 1)
    own.overwrite own.origin) × (ArePages own.origin b.size own.waiting.items own.free own.waiting.capacity
    × (b.head ≡ current_head own.origin own.seq own.discarded b.records))) (sym c.put.ensures) (
      record {
        room = is.room;
        closed = is.closed;
        current = omega (arith, room, weight_of-push es e);
        size_low = is.size_low;
        size_high = is.size_high;
        count_low = is.count_low;
      },
      (c.self.invariant.1.0, joins-as-packet own.origin own.seq own.discarded es e own.current.head joined.0 c.self.invariant.1.1),
    )
