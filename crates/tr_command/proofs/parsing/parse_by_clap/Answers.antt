use Rattle.std.proofs.Common.{◌∙◌, List, None, ap, map, option_and_then, subst, sym}
use Rattle.clap.specs.Words.{Text, found_of, rows_of, subcommand_rows_of}
use Rattle.tr_command.specs.Language.{IsSimple}
use Rattle.tr_command.proofs.DispatchLemmas.{script-simple}
use Rattle.tr_command.proofs.ParseLemmas.{asked_of-entered, subcommand_rows_of-entered, subcommand_rows_of-none}
use Rattle.tr_command.proofs.parsing.parse_by_clap.Goals as goal

pub matches_of-requires : goal.matches_of-requires
matches_of-requires c = subst IsSimple (sym c.in_ok-script_command.ensures) script-simple

pub returns-in_default : goal.returns-in_default
returns-in_default c =
    let words : List Text = map (λ w. w.now) c.args.words.now in
    asked_of-entered _ words None c.in_ok-script_command.ensures (ap (option_and_then subcommand_rows_of) (sym c.in_default.is) ∙ c.in_ok-matches.ensures)

pub returns-in-Some-subcommand : goal.returns-in-Some-subcommand
returns-in-Some-subcommand c =
    let words : List Text = map (λ w. w.now) c.args.words.now in
    let read = ap (option_and_then subcommand_rows_of) (sym c.in-Some.is) ∙ c.in_ok-matches.ensures in
    let entered = subcommand_rows_of-entered c.in-Some.matches c.in-Some-subcommand.name.now (rows_of (found_of c.in-Some-subcommand.inner.now))
    c.in-Some-subcommand.ensures.name c.in-Some-subcommand.ensures.rows in
    c.request_of.ensures ∙ asked_of-entered _ words _ c.in_ok-script_command.ensures (entered ∙ read)

pub returns : goal.returns
returns c =
    let words : List Text = map (λ w. w.now) c.args.words.now in
    let read = ap (option_and_then subcommand_rows_of) (sym c.in-Some.is) ∙ c.in_ok-matches.ensures in
    asked_of-entered _ words None c.in_ok-script_command.ensures (subcommand_rows_of-none c.in-Some.matches c.in-None.ensures.name ∙ read)
