use Rattle.tr_command.proofs.UseLemmas.{one_of-first}
use Rattle.tr_command.proofs.uses.is_true.Goals as goal

pub returns-in-Some : goal.returns-in-Some
returns-in-Some c = rw (one_of-first c.args.name.now c.args.uses.now, ← c.text_of.ensures, c.in-Some.is) c.eq.ensures

pub returns-in-None : goal.returns-in-None
returns-in-None c = rw (one_of-first c.args.name.now c.args.uses.now, ← c.text_of.ensures, c.in-None.is)
