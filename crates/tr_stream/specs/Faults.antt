-- Why calls are refused, as answers print it.
use Rattle.std.specs.Prelude.{ℕ, List, codes}
use Rattle.tr_stream.specs.declared.answers.ClearFault.{ClearFault}
use Rattle.tr_stream.specs.declared.answers.ClearFault.TheVariants as clear
use Rattle.tr_stream.specs.declared.answers.CutFault.{CutFault}
use Rattle.tr_stream.specs.declared.answers.CutFault.TheVariants as cut
use Rattle.tr_stream.specs.declared.answers.ForgetFault.{ForgetFault}
use Rattle.tr_stream.specs.declared.answers.ForgetFault.TheVariants as forget
use Rattle.tr_stream.specs.declared.answers.OfferFault.{OfferFault}
use Rattle.tr_stream.specs.declared.answers.OfferFault.TheVariants as offer
use Rattle.tr_stream.specs.declared.answers.ReleaseFault.{ReleaseFault}
use Rattle.tr_stream.specs.declared.answers.ReleaseFault.TheVariants as release
use Rattle.tr_stream.specs.declared.answers.TakeFault.{TakeFault}
use Rattle.tr_stream.specs.declared.answers.TakeFault.TheVariants as take

abbrev pub offer_fault_code : OfferFault → List ℕ
offer_fault_code offer.Inactive = codes "O1"
offer_fault_code offer.TooBig = codes "O2"
offer_fault_code offer.Spent = codes "O3"
offer_fault_code offer.Misplaced = codes "O5"
offer_fault_code offer.OtherLayout = codes "O6"

abbrev pub offer_fault_name : OfferFault → List ℕ
offer_fault_name offer.Inactive = codes "Inactive"
offer_fault_name offer.TooBig = codes "TooBig"
offer_fault_name offer.Spent = codes "Spent"
offer_fault_name offer.Misplaced = codes "Misplaced"
offer_fault_name offer.OtherLayout = codes "OtherLayout"

abbrev pub take_fault_code : TakeFault → List ℕ
take_fault_code take.Nothing = codes "T1"
take_fault_code take.SnapshotMode = codes "T2"
take_fault_code take.NoMemory = codes "T3"
take_fault_code take.Misplaced = codes "T4"

abbrev pub take_fault_name : TakeFault → List ℕ
take_fault_name take.Nothing = codes "Nothing"
take_fault_name take.SnapshotMode = codes "SnapshotMode"
take_fault_name take.NoMemory = codes "NoMemory"
take_fault_name take.Misplaced = codes "Misplaced"

abbrev pub cut_fault_code : CutFault → List ℕ
cut_fault_code cut.SnapshotMode = codes "C1"
cut_fault_code cut.NoMemory = codes "C2"

abbrev pub cut_fault_name : CutFault → List ℕ
cut_fault_name cut.SnapshotMode = codes "SnapshotMode"
cut_fault_name cut.NoMemory = codes "NoMemory"

abbrev pub clear_fault_code : ClearFault → List ℕ
clear_fault_code clear.SnapshotMode = codes "X1"
clear_fault_code clear.NoMemory = codes "X2"

abbrev pub clear_fault_name : ClearFault → List ℕ
clear_fault_name clear.SnapshotMode = codes "SnapshotMode"
clear_fault_name clear.NoMemory = codes "NoMemory"

abbrev pub release_fault_code : ReleaseFault → List ℕ
release_fault_code release.NoPart = codes "Y1"
release_fault_code release.Released = codes "Y2"
release_fault_code release.NoMemory = codes "Y3"

abbrev pub release_fault_name : ReleaseFault → List ℕ
release_fault_name release.NoPart = codes "NoPart"
release_fault_name release.Released = codes "Released"
release_fault_name release.NoMemory = codes "NoMemory"

abbrev pub forget_fault_code : ForgetFault → List ℕ
forget_fault_code forget.NoPart = codes "Z1"
forget_fault_code forget.Held = codes "Z2"
forget_fault_code forget.NoMemory = codes "Z3"

abbrev pub forget_fault_name : ForgetFault → List ℕ
forget_fault_name forget.NoPart = codes "NoPart"
forget_fault_name forget.Held = codes "Held"
forget_fault_name forget.NoMemory = codes "NoMemory"
