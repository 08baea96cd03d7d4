use Rattle.std.proofs.Common.{◌∙◌, ap, find, map, refl, sym}
use Rattle.std.proofs.lemmas.List.{at_drop_all}
use Rattle.std.specs.Str.{bytes_eq}
use Rattle.tr_command.specs.Asked.{Command, command_in}
use Rattle.tr_command.proofs.LineLemmas.{found-here, found-later}
use Rattle.tr_command.proofs.commands.row_named.Goals as goal

pub commands-init : goal.commands-init
commands-init c = refl

pub returns-then-eq : goal.returns-then-eq
returns-then-eq c =
    let test = λ (d : Command). bytes_eq d.name c.args.name.now in
    found-here command_in test c.rows-row-items.result.now c.commands.row-index _ _ c.commands-test.true c.commands.invariant
    (sym c.eq.ensures ∙ c.if-eq.true)
    ∙ ap (find test) c.rows-row-items.ensures

pub commands-preserved : goal.commands-preserved
commands-preserved c = found-later command_in (λ (d : Command). bytes_eq d.name c.args.name.now) c.rows-row-items.result.now c.commands.row-index _ _
    c.commands-test.true c.commands.invariant (sym c.eq.ensures ∙ c.if-eq.false)

pub returns : goal.returns
returns c =
    let test = λ (d : Command). bytes_eq d.name c.args.name.now in
    sym (sym (ap (find test) c.rows-row-items.ensures) ∙ c.commands.invariant
    ∙ at_drop_all (λ xs. find test (map command_in xs)) c.rows-row-items.result.now c.commands.row-index c.commands-test.false)
