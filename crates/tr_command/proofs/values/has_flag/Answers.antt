use Rattle.std.proofs.Common.{◌∙◌, ap, codes, false, sym}
use Rattle.std.specs.Option.{option_map_or}
use Rattle.std.specs.Str.{bytes_eq}
use Rattle.clap.specs.Words.{found_of, one_text}
use Rattle.clap.proofs.WalkLemmas.{one_text-rows}
use Rattle.tr_command.specs.Ordinary.{rows_in}
use Rattle.tr_command.specs.Reading.{has_flag}
use Rattle.tr_command.specs.declared.values.Values.{Values}
use Rattle.tr_command.proofs.FlagLemmas.{flag-read}
use Rattle.tr_command.proofs.values.has_flag.Goals as goal

pub returns-in-Matches : goal.returns-in-Matches
returns-in-Matches c =
    let found = found_of c.in-Matches.matches.now in
    let text = one_text found c.args.id.now in
    c.unwrap_or.ensures ∙ flag-read _ text c.get_one.result c.get_one.ensures.none c.get_one.ensures.value
    ∙ ap (λ o. option_map_or (bytes_eq (codes "true")) o false) (one_text-rows found c.args.id.now)
    ∙ ap (λ (v : Values). has_flag c.args.id.now (rows_in v)) (sym c.in-Matches.is)
