use Rattle.tr_journal.proofs.Wholes.{all-of, all-of-among, alone}
use Rattle.tr_journal.proofs.laws.every_journal.Goals as goal

pub returns-clause-whole : goal.returns-clause-whole
returns-clause-whole g c journal seat is whole = all-of journal.made journal.lines _ is whole

pub returns-clause-alone : goal.returns-clause-alone
returns-clause-alone g c kind who lines only = alone kind who lines only

pub returns-clause-among : goal.returns-clause-among
returns-clause-among g c test journal seat is whole = all-of-among test journal.made journal.lines _ is whole
