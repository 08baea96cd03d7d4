use Rattle.std.proofs.Common.{◌≡◌, ◌<◌, [], ◌∷◌, ◌++◌, length, rules, sym, ap, subst, ◌∙◌}
use Rattle.std.proofs.lemmas.List.{nil_from_length}
use Rattle.tr_chunk.specs.Reading.{Reading, Waits}
use Rattle.tr_chunk.proofs.OnlyLemmas.{memory_alone, same_tale}
use Rattle.tr_chunk.proofs.ReadingLemmas.{says_fault, however_end, finish_short, finish_found}
use Rattle.tr_chunk.proofs.audit_reader.AuditReader.finish.Goals as goal
use Rattle.tr_chunk.specs.declared.audit_reader.TheConstants.{FIRST_ROOM}

pub returns-in-Some-clause-fault : goal.returns-in-Some-clause-fault
returns-in-Some-clause-fault g c = λ uuid stream done piece has.
    however_end uuid stream done piece c.in-Some.fault
    (says_fault uuid stream done piece c.args.self c.in-Some.fault (ap (λ r. r.fault) (sym c.self.view_is) ∙ c.in-Some.is) has)

pub returns-in-Some-clause-only : goal.returns-in-Some-clause-only
returns-in-Some-clause-only g c = λ uuid stream done piece has pss audited.
    memory_alone FIRST_ROOM uuid stream (done ++ piece ∷ []) pss c.in-Some.fault audited (returns-in-Some-clause-fault g c uuid stream done piece has)

pub returns-in_default-len-clause-fault : goal.returns-in_default-len-clause-fault
returns-in_default-len-clause-fault g c =
    let some : 0 < length c.self.inside.held.items = search rules in
    λ uuid stream done piece has.
    finish_short uuid stream done piece c.args.self c.stop.result (ap (λ v. v.fault) (sym c.self.view_is) ∙ c.in_default.is)
    (subst (λ (v : Reading _). Waits v.held) c.self.view_is c.self.invariant.waits)
    (subst (λ (v : Reading _). 0 < length v.held) c.self.view_is some) c.stop.ensures.fault has

pub returns-in_default-len-clause-only : goal.returns-in_default-len-clause-only
returns-in_default-len-clause-only g c = λ uuid stream done piece has pss audited.
    memory_alone FIRST_ROOM uuid stream (done ++ piece ∷ []) pss c.stop.result audited (returns-in_default-len-clause-fault g c uuid stream done piece has)

pub returns-in-0-clause-found : goal.returns-in-0-clause-found
returns-in-0-clause-found g c =
    let none : length c.self.inside.held.items ≡ 0 = search rules in
    λ uuid stream done piece has.
    let found = finish_found uuid stream done piece c.args.self (ap (λ v. v.fault) (sym c.self.view_is) ∙ c.in_default.is)
    (ap (λ v. v.held) (sym c.self.view_is) ∙ nil_from_length c.self.inside.held.items none) has in
    (found.0, found.1, ap (λ v. v.audit) c.self.view_is ∙ found.2)

pub returns-in-0-clause-only : goal.returns-in-0-clause-only
returns-in-0-clause-only g c = λ uuid stream done piece has pss audited.
    let found = returns-in-0-clause-found g c uuid stream done piece has in
    same_tale uuid stream (done ++ piece ∷ []) found.0 pss c.self.inside.audit found.1 audited found.2
