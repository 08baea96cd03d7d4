use Rattle.std.proofs.Common.{◌∙◌, ap, sym}
use Rattle.clap.specs.Words.{first_of, found_of}
use Rattle.clap.proofs.WalkLemmas.{first_value-rows}
use Rattle.tr_command.specs.Ordinary.{rows_in}
use Rattle.tr_command.specs.declared.values.Values.{Values}
use Rattle.tr_command.proofs.values.text_given.Goals as goal

pub returns-in-Matches : goal.returns-in-Matches
returns-in-Matches c = c.get_str.ensures ∙ first_value-rows (found_of c.in-Matches.matches.now) c.args.id.now
    ∙ ap (λ (v : Values). first_of c.args.id.now (rows_in v)) (sym c.in-Matches.is)
