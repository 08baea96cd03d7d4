-- What depends on a session's mode.
use Rattle.tr_terms.specs.declared.session_mode.SessionMode.{SessionMode}
use Rattle.tr_terms.specs.declared.session_mode.SessionMode.TheVariants.{Local, Snapshot}

-- the first for a local session, the second for a snapshot session
abbrev pub by_session_mode : {X : Type 0} → SessionMode → X → X → X
by_session_mode Local local snapshot = local
by_session_mode Snapshot local snapshot = snapshot
