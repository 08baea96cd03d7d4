use Rattle.std.proofs.Common.{map}
use Rattle.tr_command.proofs.LimitLemmas.{answered-moment, answered-offset, asked-moment, asked-offset}
use Rattle.tr_command.proofs.parsing.parse.Goals as goal

pub returns-in-Some-clause-moment : goal.returns-in-Some-clause-moment
returns-in-Some-clause-moment c = asked-moment c.in-Some.asked (map (λ w. w.now) c.args.words.now) c.in-Some.ensures

pub returns-in-Some-clause-offset : goal.returns-in-Some-clause-offset
returns-in-Some-clause-offset c = asked-offset c.in-Some.asked (map (λ w. w.now) c.args.words.now) c.in-Some.ensures

pub returns-in-None-clause-moment : goal.returns-in-None-clause-moment
returns-in-None-clause-moment c = answered-moment c.parse_by_clap.result (map (λ w. w.now) c.args.words.now) c.parse_by_clap.ensures

pub returns-in-None-clause-offset : goal.returns-in-None-clause-offset
returns-in-None-clause-offset c = answered-offset c.parse_by_clap.result (map (λ w. w.now) c.args.words.now) c.parse_by_clap.ensures
