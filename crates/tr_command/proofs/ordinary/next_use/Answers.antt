use Rattle.std.proofs.Common.{◌∙◌, ◌-◌, Some, ap, arith, drop, length, length-drop, sym}
use Rattle.std.proofs.lemmas.List.{take_all}
use Rattle.tr_command.specs.declared.arguments.Argument.{Argument}
use Rattle.tr_command.proofs.OrdinaryLemmas.{next-flag, next-option, next-place}
use Rattle.tr_command.proofs.ordinary.next_use.Goals as goal

pub returns-then-is_plain-clause-next : goal.returns-then-is_plain-clause-next
returns-then-is_plain-clause-next c name all rows named none at =
    next-place name c.args.arguments.now all named rows c.args.places.now _ c.args.words.now _ _
    c.in_ok-name.ensures c.in-len1-up.len_at_least (sym c.is_plain.ensures ∙ c.if-is_plain.true) none at

pub returns-in-Flag-clause-next : goal.returns-in-Flag-clause-next
returns-in-Flag-clause-next c name all rows named none at =
    next-flag name c.args.arguments.now all named rows c.args.places.now c.args.words.now c.in-Flag.name _ _
    c.in-len1-up.len_at_least c.in_ok-long_name.ensures (sym c.called.ensures ∙ c.in_ok-called.was ∙ ap (λ (a : Argument). Some a) c.in-Flag.is) none at

pub returns-in_ok-text-in-Named-clause-next : goal.returns-in_ok-text-in-Named-clause-next
returns-in_ok-text-in-Named-clause-next c name all rows named none at =
    let rest = take_all (length c.args.words.now - 1) (drop 1 c.args.words.now) (omega (arith, length-drop 1 c.args.words.now)) in
    next-option name c.args.arguments.now all named rows c.args.places.now c.args.words.now _ c.in-Named.name _ _ _ rest c.in_ok-text-in-Named.ensures.1
    c.in-len1-up.len_at_least c.in_ok-long_name.ensures (sym c.called.ensures ∙ c.in_ok-called.was ∙ ap (λ (a : Argument). Some a) c.in-Named.is)
    c.in_ok-text-in-Named.ensures.0 none at
