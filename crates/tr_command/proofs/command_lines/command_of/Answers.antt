use Rattle.std.proofs.Common.{rules, ◌≡◌, ◌∙◌, ap, false, map, sym}
use Rattle.std.proofs.lemmas.List.{take_all}
use Rattle.clap.specs.Words.{app_of, new_app, rule_of, with_rule}
use Rattle.clap.specs.declared.builder.command.Command.TheViews.{out-Command as fields_of}
use Rattle.tr_command.specs.CommandLine.{line_app, rule}
use Rattle.tr_command.proofs.LineLemmas.{folded-more}
use Rattle.tr_command.proofs.command_lines.command_of.Goals as goal

pub arguments-preserved : goal.arguments-preserved
arguments-preserved c =
    let added : app_of c.in_ok-command.command ≡ with_rule (app_of c.arguments.command) (rule_of c.clap_argument.result) = search rules in
    let local : (fields_of c.in_ok-command.command).has_globals ≡ false = search rules in (
      added ∙ ap (λ a. with_rule a (rule_of c.clap_argument.result)) c.arguments.invariant.0 ∙ ap (with_rule _) c.clap_argument.ensures.rule
          ∙ sym (folded-more rule with_rule (new_app c.args.name.now) c.args.arguments.now c.arguments.given-index _ c.arguments-test.true),
      local,
    )

pub returns-clause-shape : goal.returns-clause-shape
returns-clause-shape c = c.arguments.invariant.0
    ∙ ap (λ given. line_app c.args.name.now (map rule given)) (take_all c.arguments.given-index c.args.arguments.now c.arguments-test.false)
