use Rattle.std.proofs.Common.{arith}
use Rattle.std.proofs.lemmas.Grind.{common_steps}
use Rattle.tr_session_book.proofs.book.SessionBook.channel_for.Goals as goal

pub returns-then-len-ge-MOST_CHANNELS-clause-err : goal.returns-then-len-ge-MOST_CHANNELS-clause-err
returns-then-len-ge-MOST_CHANNELS-clause-err g c = grind (arith, common_steps)

pub returns-in_default-clause-err : goal.returns-in_default-clause-err
returns-in_default-clause-err g c = grind (arith, common_steps)

pub returns-then-not-is_allowed-clause-err : goal.returns-then-not-is_allowed-clause-err
returns-then-not-is_allowed-clause-err g c = grind (arith, common_steps)

pub returns-clause-ok : goal.returns-clause-ok
returns-clause-ok g c = grind (arith, common_steps)

pub returns-clause-room : goal.returns-clause-room
returns-clause-room g c = grind (arith, common_steps)
