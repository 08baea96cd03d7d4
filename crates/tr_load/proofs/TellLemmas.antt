-- What became of a load's archives.
use Rattle.std.proofs.Common.{◌≡◌, ℕ, List, subst}
use Rattle.std.specs.Prelude.{OnOk, OnErr, Result, Ok, Err, codes}
use Rattle.tr_export.specs.Archives.{archives_made}
use Rattle.tr_export.specs.Making.{MadePrefix, and_then_made}
use Rattle.tr_export.specs.declared.faults.ExportFault.{ExportFault}
use Rattle.tr_load.specs.Telling.{AreWritten, DiskState}
use Rattle.tr_session.specs.Session.{SessionOf}
use Rattle.tr_stream.specs.State.{StreamState}

written : (dir : List ℕ) (session : SessionOf StreamState) (before after : DiskState) (result : Result (Unit {0}) ExportFault)
    → OnOk result (after.made ≡ and_then_made before.made (archives_made dir (codes "load") session))
    → OnErr result (MadePrefix before.made after.made (archives_made dir (codes "load") session))
    → AreWritten dir session before after result
written dir session before after (Ok done) ok err = ok
written dir session before after (Err fault) ok err = err

-- archives that are written below the name of a load
pub written_as : (dir name : List ℕ) (session : SessionOf StreamState) (before after : DiskState) (result : Result (Unit {0}) ExportFault)
    → name ≡ codes "load"
    → OnOk result (after.made ≡ and_then_made before.made (archives_made dir name session))
    → OnErr result (MadePrefix before.made after.made (archives_made dir name session))
    → AreWritten dir session before after result
written_as dir name session before after result named ok err =
    written dir session before after result
    (subst (λ n. OnOk result (after.made ≡ and_then_made before.made (archives_made dir n session))) named ok)
    (subst (λ n. OnErr result (MadePrefix before.made after.made (archives_made dir n session))) named err)
