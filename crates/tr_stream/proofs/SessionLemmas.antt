-- What a session's mode decides.
use Rattle.std.proofs.Common.{◌≡◌, ap}
use Rattle.tr_terms.specs.SessionModes.{by_session_mode}
use Rattle.tr_terms.specs.declared.session_mode.SessionMode.{SessionMode}
use Rattle.tr_terms.specs.declared.session_mode.SessionMode.TheVariants.{Local, Snapshot}

pub in-local : {X : Type 0} (m : SessionMode) (local snapshot : X) → m ≡ Local → by_session_mode m local snapshot ≡ local
in-local m local snapshot e = ap (λ (n : SessionMode). by_session_mode n local snapshot) e

pub in-snapshot : {X : Type 0} (m : SessionMode) (local snapshot : X) → m ≡ Snapshot → by_session_mode m local snapshot ≡ snapshot
in-snapshot m local snapshot e = ap (λ (n : SessionMode). by_session_mode n local snapshot) e

-- a session has one mode
pub not-both : (m : SessionMode) → m ≡ Local → m ≡ Snapshot → ⊥
not-both m local snapshot = cc
