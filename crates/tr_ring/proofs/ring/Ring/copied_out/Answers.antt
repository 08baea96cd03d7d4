use Rattle.std.proofs.Common.{◌≡◌, ◌∙◌, Some, ap, slice_get, sym}
use Rattle.std.proofs.lemmas.Option.{slice_get-map}
use Rattle.std.specs.Option.{option_map}
use Rattle.tr_packet.specs.Packets.{contents}
use Rattle.tr_ring.proofs.PageLemmas.{if-ok, set-found}
use Rattle.tr_ring.proofs.ring.Ring.copied_out.Goals as goal
use Rattle.tr_ring.specs.ClosedBuffer.{ClosedBuffer}
use Rattle.tr_ring.specs.Pages.{SealedPage, closed_in}

pub copied_out-requires : goal.copied_out-requires
copied_out-requires g c =
    let at : slice_get (closed_in c.self.inside.waiting.items) c.args.i ≡ Some c.in-Some.sealed.now.closed =
    slice_get-map (λ (p : SealedPage). p.closed) c.self.inside.waiting.items c.args.i
    ∙ ap (option_map (λ (p : SealedPage). p.closed)) (sym c.in-Some.ensures.value) in
    c.requires.packet c.in-Some.sealed.now.closed (ap (λ r. slice_get r.waiting c.args.i) (sym c.self.view_is) ∙ at)

pub invariant_of-self : goal.invariant_of-self
invariant_of-self g c =
    let back = set-found c.self.inside.waiting.items c.args.i c.in-Some.sealed.now c.copied_out.new.self
    (sym c.in-Some.ensures.value) c.copied_out.ensures.same in
    rw back c.self.invariant

pub returns-clause-packet : goal.returns-clause-packet
returns-clause-packet g c =
    let at : slice_get (closed_in c.self.inside.waiting.items) c.args.i ≡ Some c.in-Some.sealed.now.closed =
    slice_get-map (λ (p : SealedPage). p.closed) c.self.inside.waiting.items c.args.i
    ∙ ap (option_map (λ (p : SealedPage). p.closed)) (sym c.in-Some.ensures.value) in
    let found = ap (λ r. slice_get r.waiting c.args.i) (sym c.self.view_is) ∙ at in
    if-ok (λ t. t ≡ contents c.args.head c.in-Some.sealed.now.closed.records)
    (λ t. (b : ClosedBuffer) → slice_get c.args.self.now.waiting c.args.i ≡ Some b → t ≡ contents c.args.head b.records)
    c.copied_out.result
    (λ t is b there. let same : c.in-Some.sealed.now.closed ≡ b = cc in is ∙ ap (λ (b : ClosedBuffer). contents c.args.head b.records) same)
    c.copied_out.ensures.packet

pub returns-clause-same : goal.returns-clause-same
returns-clause-same g c =
    let back = set-found c.self.inside.waiting.items c.args.i c.in-Some.sealed.now c.copied_out.new.self
    (sym c.in-Some.ensures.value) c.copied_out.ensures.same in
    rw back c.self.view_is
