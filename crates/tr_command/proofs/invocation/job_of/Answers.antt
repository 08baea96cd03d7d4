use Rattle.std.proofs.Common.{◌≡◌, ◌∙◌, List, None, ap, map, option_and_then, sym}
use Rattle.clap.specs.Words.{App, Text, app_of, found_of, rows_of, subcommand_rows_of}
use Rattle.tr_command.specs.Invocation.{program_app}
use Rattle.tr_command.specs.Language.{entered_by}
use Rattle.tr_command.proofs.InvocationLemmas.{job_of-entered}
use Rattle.tr_command.proofs.ParseLemmas.{subcommand_rows_of-entered, subcommand_rows_of-none}
use Rattle.tr_command.proofs.invocation.job_of.Goals as goal

pub returns-in_default-clause-value : goal.returns-in_default-clause-value
returns-in_default-clause-value c =
    let words : List Text = map (λ w. w.now) c.args.words.now in
    let built : App = app_of c.in_ok-command_line.field-0 in
    let shape : built ≡ program_app = c.in_ok-command_line.ensures in
    job_of-entered built words None shape (ap (option_and_then subcommand_rows_of) (sym c.in_default.is) ∙ c.in_ok-matches.ensures)

pub returns-in-Some-subcommand-clause-value : goal.returns-in-Some-subcommand-clause-value
returns-in-Some-subcommand-clause-value c =
    let words : List Text = map (λ w. w.now) c.args.words.now in
    let built : App = app_of c.in_ok-command_line.field-0 in
    let shape : built ≡ program_app = c.in_ok-command_line.ensures in
    let read : subcommand_rows_of c.in-Some.matches ≡ entered_by built words =
    ap (option_and_then subcommand_rows_of) (sym c.in-Some.is) ∙ c.in_ok-matches.ensures in
    let entered = subcommand_rows_of-entered c.in-Some.matches c.in-Some-subcommand.name.now (rows_of (found_of c.in-Some-subcommand.inner.now))
    c.in-Some-subcommand.ensures.name c.in-Some-subcommand.ensures.rows in
    c.job_named.ensures.value ∙ job_of-entered built words _ shape (entered ∙ read)

pub returns-clause-value : goal.returns-clause-value
returns-clause-value c =
    let words : List Text = map (λ w. w.now) c.args.words.now in
    let built : App = app_of c.in_ok-command_line.field-0 in
    let shape : built ≡ program_app = c.in_ok-command_line.ensures in
    let read : subcommand_rows_of c.in-Some.matches ≡ entered_by built words =
    ap (option_and_then subcommand_rows_of) (sym c.in-Some.is) ∙ c.in_ok-matches.ensures in
    job_of-entered built words None shape (subcommand_rows_of-none c.in-Some.matches c.in-None.ensures.name ∙ read)
