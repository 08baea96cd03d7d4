use Rattle.std.proofs.Common.{length, slice_get, ap, subst, sym, ◌∙◌, ◌≤◌}
use Rattle.tr_stream.specs.Images.{packets_standing}
use Rattle.tr_stream.specs.State.{StreamState, stream_state}
use Rattle.tr_stream.proofs.ImageLemmas.{none-standing, standing}
use Rattle.tr_stream.proofs.stream.Stream.image.Goals as goal

pub returns-clause-packet : goal.returns-clause-packet
returns-clause-packet g c = λ p at.
    let own = c.self.inside in
    standing (stream_state own.config own.ring own.parts own.counters own.active) c.args.i p c.image.result.now c.self.invariant.sound
    (ap (λ (s : StreamState). slice_get (packets_standing s) c.args.i) c.self.view_is ∙ at) c.image.ensures.waiting c.image.ensures.current

pub returns-clause-none : goal.returns-clause-none
returns-clause-none g c = λ far none.
    let own = c.self.inside in
    none-standing own.ring c.args.i c.image.result.now
    (subst (λ (s : StreamState). length s.ring.waiting ≤ c.args.i) (sym c.self.view_is) far)
    (ap (λ (s : StreamState). s.ring.current) c.self.view_is ∙ none) c.image.ensures.current
