use Rattle.std.proofs.Common.{◌∙◌, map, sym, true≢false}
use Rattle.clap.specs.Words.{app_of, subcommand_rows_of}
use Rattle.tr_command.proofs.ParseLemmas.{entered_by-fault, entered_by-free}
use Rattle.tr_command.proofs.parsing.matches_of.Goals as goal

pub returns-in-Ok : goal.returns-in-Ok
returns-in-Ok c = entered_by-free (app_of c.args.command) (map (λ w. w.now) c.args.words.now) (subcommand_rows_of c.in-Ok.matches)
    (c.in-Ok.ensures.kinds c.requires.1) (c.in-Ok.ensures.matches c.requires.0).1

pub returns : goal.returns
returns c = entered_by-fault (app_of c.args.command) (map (λ w. w.now) c.args.words.now) c.in-Err.error (c.in-Err.ensures.kinds c.requires.1)
    (λ memory. true≢false (sym (rw (c.kind.ensures ∙ memory) at c.if-eq.ensures)))
