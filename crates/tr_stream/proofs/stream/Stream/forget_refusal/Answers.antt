use Rattle.std.proofs.Common.{rules, ◌≡◌, ◌∙◌, ◌+◌, ◌≤◌, ◌<◌, ℕ, false, true, ap, length, arith}
use Rattle.tr_book.specs.Parts.{IsForgetful}
use Rattle.tr_stream.proofs.ForgetLemmas.{one-held, released-by-list, released-fewer, released-more, told-held, told-released}
use Rattle.tr_stream.proofs.stream.Stream.forget_refusal.Goals as goal
use Rattle.tr_stream.specs.StateSteps.{are_parts_released, is_part_released}

pub loop-at-init : goal.loop-at-init
loop-at-init g c =
    let s = c.args.self.now in
    let gone : c.forgotten-at.result ≡ s.parts.forgotten = search rules in
    let is : IsForgetful s.parts = search rules in (
      ap (λ (k : ℕ). are_parts_released k s) gone ∙ released-by-list s.parts.forgotten s is.closed is.released,
      omega (arith, gone),
    )

pub returns-then-not-is_released : goal.returns-then-not-is_released
returns-then-not-is_released g c =
    let within : c.args.k ≤ length c.args.self.now.parts.closed = search rules in
    let below : c.loop-at.at < c.args.k = search rules in
    let held : is_part_released c.loop-at.at c.args.self.now ≡ false = search rules in
    told-held c.args.k c.args.self.now within (one-held c.args.k c.loop-at.at c.args.self.now below held)

pub loop-at-preserved : goal.loop-at-preserved
loop-at-preserved g c =
    let one : is_part_released c.loop-at.at c.args.self.now ≡ true = search rules in
    let further : c.args.self.now.parts.forgotten ≤ c.loop-at.at + 1 = omega (arith, c.loop-at.invariant.1) in
    (released-more c.loop-at.at c.args.self.now c.loop-at.invariant.0 one, further)

pub returns : goal.returns
returns g c =
    let within : c.args.k ≤ length c.args.self.now.parts.closed = search rules in
    let all : c.args.k ≤ c.loop-at.at = search rules in
    told-released c.args.k c.args.self.now within (released-fewer c.loop-at.at c.args.k c.args.self.now c.loop-at.invariant.0 all)
