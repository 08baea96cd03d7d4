-- It owns nothing.
use denote.RattleType.{RattleType}
use denote.Param.Send.{IsSync, part_keyless}
use Rattle.tr_book.proofs.seen.Seen.TheSendSync.Send.{send}
use Rattle.tr_book.specs.contracts.seen.Seen.{the_row}

pub sync : (T : RattleType) → IsSync (the_row T)
sync T = record { shared = λ d b o κ q. part_keyless (the_row T) (send T) q d b o }
