use Rattle.std.proofs.Common.{codes}
use Rattle.clap.specs.Words.{new_app}
use Rattle.tr_command.proofs.LineLemmas.{command-added}
use Rattle.tr_command.proofs.parsing.script_command.Goals as goal

pub commands-preserved : goal.commands-preserved
commands-preserved c = command-added (new_app (codes "tracerd")) c.commands.program c.joined-program.result c.command_of.result c.rows-row-items.result.now
    c.commands.row-index _ c.commands-test.true c.commands.invariant c.command_of.ensures.shape c.command_of.ensures.local c.joined-program.ensures
