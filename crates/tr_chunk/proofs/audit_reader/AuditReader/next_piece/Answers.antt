use Rattle.std.proofs.Common.{◌≡◌, ◌<◌, ◌+◌, [], ◌∷◌, ◌++◌, length, rules, sym, ap, subst, ◌∙◌}
use Rattle.std.proofs.lemmas.List.{nil_from_length}
use Rattle.tr_chunk.specs.Reading.{Reading, HasRead, Waits}
use Rattle.tr_chunk.proofs.ReadingLemmas.{has_met_next, next_read, next_short}
use Rattle.tr_chunk.proofs.audit_reader.AuditReader.next_piece.Goals as goal

pub returns-in-Some-clause-read : goal.returns-in-Some-clause-read
returns-in-Some-clause-read g c = λ uuid stream done piece has.
    has_met_next uuid stream done piece c.args.self.now c.in-Some.fault (ap (λ r. r.fault) (sym c.self.view_is) ∙ c.in-Some.is) has

pub returns-then-not-is_empty-clause-read : goal.returns-then-not-is_empty-clause-read
returns-then-not-is_empty-clause-read g c =
    let r = c.args.self.now in
    let some : 0 < length c.self.inside.held.items = search rules in
    λ uuid stream done piece has.
    next_short uuid stream done piece r c.stop.new.self c.stop.result (ap (λ v. v.fault) (sym c.self.view_is) ∙ c.in_default.is)
    (subst (λ (v : Reading _). Waits v.held) c.self.view_is c.self.invariant.waits)
    (subst (λ (v : Reading _). 0 < length v.held) c.self.view_is some) c.stop.ensures.fault c.stop.ensures.met has

pub returns-clause-read : goal.returns-clause-read
returns-clause-read g c =
    let none : length c.self.inside.held.items ≡ 0 = search rules in
    λ uuid stream done piece has.
    subst (λ (v : Reading _). HasRead uuid stream (done ++ piece ∷ []) [] (record v { offset = 0; pieces = v.pieces + 1 })) (sym c.self.view_is)
    (next_read uuid stream done piece c.args.self.now (ap (λ v. v.fault) (sym c.self.view_is) ∙ c.in_default.is)
    (ap (λ v. v.held) (sym c.self.view_is) ∙ nil_from_length c.self.inside.held.items none) has)
