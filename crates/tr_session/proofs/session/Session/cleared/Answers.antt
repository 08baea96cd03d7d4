use Rattle.std.proofs.Common.{◌≡◌, ◌≤◌, ◌<◌, ◌^◌, ℕ, Some, arith, length, refl, rules, subst, sym}
use Rattle.std.specs.Prelude.{slice_get}
use Rattle.tr_session.proofs.ClearLemmas.{counts-all, counts-more}
use Rattle.tr_session.proofs.session.Session.cleared.Goals as goal

pub streams-init : goal.streams-init
streams-init g c = record { sum = refl; few = omega arith }

pub streams-preserved : goal.streams-preserved
streams-preserved g c =
    let at : slice_get c.args.self.now.streams c.streams.i ≡ Some c.in-Some.stream.now = sym c.in-Some.ensures.value in
    let few : c.counts.result.cleared < 2 ^ 64 = search rules in
    rw c.from-records.ensures
    (counts-more c.streams.i c.streams.records c.args.self.now c.in-Some.stream.now c.counts.result c.streams.invariant at
    c.counts.ensures.value few)

pub returns : goal.returns
returns g c =
    let past : length c.args.self.now.streams ≤ c.streams.i =
    subst (λ (n : ℕ). n ≤ c.streams.i) c.streams-i-end.ensures.value c.streams-test.false in
    counts-all c.streams.i c.streams.records c.args.self.now past c.streams.invariant
