use Rattle.std.proofs.Common.{◌+◌, ◌-◌, arith, refl, rules, subst, take, true, false}
use Rattle.std.proofs.Math.ListN.{drop}
use Rattle.std.proofs.lemmas.Grind.{common_steps}
use Rattle.tr_lines.specs.Reading.{Reading, TakesPart, reading}
use Rattle.tr_lines.proofs.ReadingLemmas.{held_after, TakesPart-all, TakesPart-feed}
use Rattle.tr_lines.proofs.reader.LineReader.take_part.Goals as goal

pub returns-in_ok-keep-in-Some-clause-ok : goal.returns-in_ok-keep-in-Some-clause-ok
returns-in_ok-keep-in-Some-clause-ok g c =
    let in_it = c.self.inside in
    let before : Reading = reading (take (in_it.end - in_it.start) (drop in_it.start in_it.piece.items)) in_it.total in_it.line in
    let start = in_it.start + (c.in-Some.place + 1) in
    let after : Reading = reading (take (in_it.end - start) (drop start in_it.piece.items)) in_it.total c.keep.new.self in
    subst (λ (r : Reading). TakesPart r after true) c.self.view_is
    (TakesPart-feed before after c.in-Some.place (search rules) (held_after in_it.piece.items in_it.start in_it.end c.in-Some.place)
    (rw (← c.deref.ensures.value) c.in_ok-keep-in-Some.ensures.ok) refl)

pub returns-in_ok-keep-in-None-clause-ok : goal.returns-in_ok-keep-in-None-clause-ok
returns-in_ok-keep-in-None-clause-ok g c =
    let in_it = c.self.inside in
    let before : Reading = reading (take (in_it.end - in_it.start) (drop in_it.start in_it.piece.items)) in_it.total in_it.line in
    let after : Reading = reading (take (in_it.end - in_it.end) (drop in_it.end in_it.piece.items)) in_it.total c.keep-in-None.new.self in
    subst (λ (r : Reading). TakesPart r after false) c.self.view_is
    (TakesPart-all before after (search rules) (grind (arith, common_steps)) (rw (← c.deref.ensures.value) c.in_ok-keep-in-None.ensures.ok) refl)

pub returns-in_ok-keep-in-Some-clause-held : goal.returns-in_ok-keep-in-Some-clause-held
returns-in_ok-keep-in-Some-clause-held g c = grind (arith, common_steps)
