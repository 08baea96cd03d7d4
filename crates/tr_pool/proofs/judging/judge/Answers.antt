use Rattle.std.proofs.Common.{rules, arith, ◌≡◌, ◌∷◌, [], Some, sym, subst}
use Rattle.tr_pool.specs.Judging.{Judges}
use Rattle.tr_pool.specs.Logs.{IsLogged}
use Rattle.tr_pool.proofs.JudgeLemmas.{judges_logged, judges_later, judges_least}
use Rattle.tr_pool.proofs.judging.judge.Goals as goal

pub returns-then-is_logged : goal.returns-then-is_logged
returns-then-is_logged c = judges_logged c.args.items.now c.args.record.now c.args.least (c.is_logged.ensures.0 (search rules))

pub returns-in_default : goal.returns-in_default
returns-in_default c =
    let wrong : ¬ IsLogged c.args.items.now c.args.record.now = λ is. let t = c.is_logged.ensures.1 is in search rules in
    subst (λ n. Judges c.args.items.now (c.args.record.now ∷ []) c.args.least (Some n)) (sym c.serial-serial.ensures.value)
    (judges_least c.args.items.now c.args.record.now c.args.least wrong (λ n is. absurd (c.in_default.not-Some n is)))

pub returns-then-other-serial : goal.returns-then-other-serial
returns-then-other-serial c =
    let serial : c.serial-serial.result ≡ c.args.record.now.serial = c.serial-serial.ensures.value in
    subst (λ o. Judges c.args.items.now (c.args.record.now ∷ []) o (Some c.in-Some.other)) (sym c.in-Some.is)
    (judges_later c.args.items.now c.args.record.now c.in-Some.other (omega (arith, serial)))

pub returns-else-other-serial : goal.returns-else-other-serial
returns-else-other-serial c =
    let wrong : ¬ IsLogged c.args.items.now c.args.record.now = λ is. let t = c.is_logged.ensures.1 is in search rules in
    let serial : c.serial-serial.result ≡ c.args.record.now.serial = c.serial-serial.ensures.value in
    let some : c.args.least ≡ Some c.in-Some.other = c.in-Some.is in
    subst (λ n. Judges c.args.items.now (c.args.record.now ∷ []) c.args.least (Some n)) (sym serial)
    (judges_least c.args.items.now c.args.record.now c.args.least wrong
    (λ n is. let same : n ≡ c.in-Some.other = cc in omega (arith, serial, same)))
