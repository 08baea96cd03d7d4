use Rattle.std.proofs.Common.{◌≡◌, ℕ, subst, sym, arith}
use Rattle.std.proofs.lemmas.Grind.{common_steps}
use Rattle.tr_seats.specs.Settling.{AddUp, IsOneEach, WereConsumed}
use Rattle.tr_seats.specs.declared.settling.SettleError.TheVariants.{ProducerMissing}
use Rattle.tr_session.specs.Session.{SessionOf}
use Rattle.tr_stream.specs.State.{StreamState}
use Rattle.tr_shared.proofs.WhyLemmas.{why-missing}
use Rattle.tr_shared.proofs.settling.settle_opened.Goals as goal

pub returns-in-Ok-clause-all : goal.returns-in-Ok-clause-all
returns-in-Ok-clause-all g c =
    subst (λ (n : ℕ). IsOneEach n c.args.producers.items) c.requires.slots c.in-Ok.ensures.may.one_each

pub returns-in-Err-clause-missing : goal.returns-in-Err-clause-missing
returns-in-Err-clause-missing g c =
    let error = c.in-Err.unsettled.error in
    let producers = c.args.producers.items in
    subst (λ (n : ℕ). (error ≡ ProducerMissing → ¬ IsOneEach n producers) × ((¬ IsOneEach n producers) → error ≡ ProducerMissing))
    c.requires.slots (why-missing error producers _ _ c.in-Err.ensures.why)

pub close-requires-clause-slots : goal.close-requires-clause-slots
close-requires-clause-slots g c = grind (arith, common_steps)

pub returns-in-Ok-clause-seats : goal.returns-in-Ok-clause-seats
returns-in-Ok-clause-seats g c = grind (arith, common_steps)

pub returns-in-Ok-clause-places : goal.returns-in-Ok-clause-places
returns-in-Ok-clause-places g c =
    subst (λ (s : SessionOf StreamState). AddUp c.in-Ok.settled.1 s.streams) (sym c.in-Ok.ensures.session) c.in-Ok.ensures.places

pub returns-in-Ok-clause-consumed : goal.returns-in-Ok-clause-consumed
returns-in-Ok-clause-consumed g c =
    subst (λ (s : SessionOf StreamState). WereConsumed c.in-Ok.settled.1 s.streams) (sym c.in-Ok.ensures.session)
    c.in-Ok.ensures.consumed

pub returns-in-Ok-clause-taken : goal.returns-in-Ok-clause-taken
returns-in-Ok-clause-taken g c = λ k t lt. omega (arith, c.in-Ok.ensures.taken k t lt)

pub returns-in-Ok-clause-snapshot_session : goal.returns-in-Ok-clause-snapshot_session
returns-in-Ok-clause-snapshot_session g c = c.in-Ok.ensures.snapshot_session
