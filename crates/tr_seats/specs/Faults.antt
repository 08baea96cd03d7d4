-- Why a session isn't settled, as answers print it.
use Rattle.std.specs.Prelude.{ℕ, List, codes}
use Rattle.tr_seats.specs.declared.settling.SettleError.{SettleError}
use Rattle.tr_seats.specs.declared.settling.SettleError.TheVariants.{ProducerMissing, DrainerMissing, Misplaced}

abbrev pub settle_error_code : SettleError → List ℕ
settle_error_code ProducerMissing = codes "E1"
settle_error_code DrainerMissing = codes "E2"
settle_error_code Misplaced = codes "E3"

abbrev pub settle_error_name : SettleError → List ℕ
settle_error_name ProducerMissing = codes "ProducerMissing"
settle_error_name DrainerMissing = codes "DrainerMissing"
settle_error_name Misplaced = codes "Misplaced"
