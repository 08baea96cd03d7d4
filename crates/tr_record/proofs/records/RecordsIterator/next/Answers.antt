use Rattle.std.proofs.Common.{◌≡◌, ℕ, ◌∷◌, length, drop, None, arith, rules, ap, sym, ◌∙◌}
use Rattle.tr_record.specs.Raw.{entry_of}
use Rattle.tr_record.specs.Records.{Entry, Stands}
use Rattle.tr_record.specs.Whole.{entries_of}
use Rattle.tr_record.proofs.ReadingLemmas.{stands_begins}
use Rattle.tr_record.proofs.WholeLemmas.{some_answer, whole_begins, whole_end}
use Rattle.tr_record.proofs.records.RecordsIterator.next.Goals as goal

pub returns-in_default-clause-steps : goal.returns-in_default-clause-steps
returns-in_default-clause-steps c =
    let bytes = c.self.inside.rest.now in
    let never : (e : Entry) (n : ℕ) → Stands e n bytes → None ≡ some_answer e n =
    λ e n s. absurd (c.in_default.ensures.only e (drop n bytes) (stands_begins bytes e n s)) in
    let none = sym c.self.view_is ∙ whole_end bytes c.self.invariant never in
    (none, none)

pub within_limit-moment-requires : goal.within_limit-moment-requires
within_limit-moment-requires c =
    (whole_begins c.self.inside.rest.now c.in-Some.rest.now (entry_of c.in-Some.raw) c.self.invariant c.in-Some.ensures.found).fits.moment

pub invariant_of-self : goal.invariant_of-self
invariant_of-self c =
    (whole_begins c.self.inside.rest.now c.in-Some.rest.now (entry_of c.in-Some.raw) c.self.invariant c.in-Some.ensures.found).others

pub returns-clause-steps : goal.returns-clause-steps
returns-clause-steps c =
    let r : Entry = entry_of c.in-Some.raw in
    let rest = c.in-Some.rest.now in
    let first = whole_begins c.self.inside.rest.now rest r c.self.invariant c.in-Some.ensures.found in
    let made : ℕ → Entry = λ m. record { serial = r.serial; moment = m; id = r.id; payload = r.payload } in
    let is : c.new.result ≡ r = c.new.ensures.value ∙ ap made c.within_limit-moment.ensures in
    sym c.self.view_is ∙ first.is ∙ ap (λ (e : Entry). e ∷ entries_of rest) (sym is)

pub returns-clause-goes : goal.returns-clause-goes
returns-clause-goes c =
    let first = whole_begins c.self.inside.rest.now c.in-Some.rest.now (entry_of c.in-Some.raw) c.self.invariant c.in-Some.ensures.found in
    let one : c.args.self.now ≡ entry_of c.in-Some.raw ∷ entries_of c.in-Some.rest.now = sym c.self.view_is ∙ first.is in
    let shorter = ap length one in
    record { on = λ finite. (tt, search rules, omega (arith, shorter)); keeps = tt; rests = λ finite. search rules }
