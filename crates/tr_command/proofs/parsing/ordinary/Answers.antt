use Rattle.std.proofs.Common.{◌≡◌, ◌∙◌, ◌-◌, List, ap, arith, drop, length, length-drop, map, option_map, sym, take}
use Rattle.std.proofs.lemmas.List.{take_all}
use Rattle.std.specs.Borrow.{Bor}
use Rattle.tr_command.specs.Asked.{Command, command_in, read}
use Rattle.tr_command.specs.declared.commands.CommandRow.{CommandRow}
use Rattle.tr_command.specs.Ordinary.{row_of_use}
use Rattle.tr_command.proofs.EnteredLemmas.{asked-ordinary, asked-refused, asked-stray, command-well_named}
use Rattle.tr_command.proofs.parsing.ordinary.Goals as goal

-- what a pattern leaves of a slice
rest : {A : Type 0} (xs : List A) → take (length xs - 2) (drop 2 xs) ≡ drop 2 xs
rest xs = take_all (length xs - 2) (drop 2 xs) (omega (arith, length-drop 2 xs))

pub verdict_on-requires-clause-named : goal.verdict_on-requires-clause-named
verdict_on-requires-clause-named c =
    let named = sym c.row_named.ensures ∙ ap (option_map (λ (r : Bor CommandRow). command_in r.now)) c.in-Some.is in
    command-well_named _ (command_in c.in-Some.row.now) named

pub returns-in-Taken : goal.returns-in-Taken
returns-in-Taken c =
    let row : Command = command_in c.in-Some.row.now in
    let named = sym c.row_named.ensures ∙ ap (option_map (λ (r : Bor CommandRow). command_in r.now)) c.in-Some.is in
    c.read.ensures ∙ ap (λ us. read row.reader (map row_of_use us)) c.as_slice.ensures.value
    ∙ asked-ordinary c.args.words.now _ _ row _ c.in-len2-up.len_at_least (rest c.args.words.now) named (rw c.in-Taken.is at (c.in_ok-verdict_on-in-Some.ensures row.name))

pub returns-in-None : goal.returns-in-None
returns-in-None c =
    let named = sym c.row_named.ensures ∙ ap (option_map (λ (r : Bor CommandRow). command_in r.now)) c.in-None.is in
    asked-stray c.args.words.now _ c.in-len2-up.len_at_least named (sym c.is_plain.ensures ∙ c.if-is_plain.true)

pub returns-in-Refused : goal.returns-in-Refused
returns-in-Refused c =
    let row : Command = command_in c.in-Some.row.now in
    let named = sym c.row_named.ensures ∙ ap (option_map (λ (r : Bor CommandRow). command_in r.now)) c.in-Some.is in
    asked-refused c.args.words.now _ _ row c.in-len2-up.len_at_least (rest c.args.words.now) named
    (rw c.in-Refused.is at (c.in_ok-verdict_on-in-Some.ensures row.name))
