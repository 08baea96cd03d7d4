-- `create`: a session of its own name, after the others.
use Rattle.std.specs.Option.{option_map_or}
use Rattle.std.specs.Prelude.{ℕ, ℤ, List, [], ◌∷◌, ◌++◌, Bool, true, false, nat_le, length, is_some, codes, if◌then◌else◌}
use Rattle.tr_console.specs.Steps.{Step, reply_step, refusal_step}
use Rattle.tr_replies.specs.Text.{Text}
use Rattle.tr_console.specs.World.{World, session_named, world_of}
use Rattle.tr_replies.specs.declared.line_fault.LineFault.TheVariants as fault
use Rattle.tr_session.specs.Session.{SessionOf, declaring, new_session}
use Rattle.tr_session_book.specs.declared.faults.SessionFault.TheVariants.{TooMany, NameTaken}
use Rattle.tr_terms.specs.Names.{is_name}
use Rattle.tr_terms.specs.declared.limits.TheConstants.{MOST_SESSIONS}
use Rattle.tr_terms.specs.declared.session_mode.SessionMode.{SessionMode}
use Rattle.tr_terms.specs.declared.session_mode.SessionMode.TheVariants as mode
use Rattle.uuid.specs.Text.{parsed}

-- the mode that is asked for: a snapshot session, or else one that consumes into chunks
abbrev pub mode_asked : Bool → SessionMode
mode_asked false = mode.Local
mode_asked true = mode.Snapshot

-- a session is added after the others
abbrev pub with_new : {S : Type 0} → Text → SessionOf S → World S → World S
with_new name s w = world_of (w.sessions ++ (name, s) ∷ []) w.events

-- a session with this identifier, and with the events that are declared, is added
abbrev pub create_named_step : {S : Type 0} → World S → Text → ℤ → SessionMode → List ℕ → Step S
create_named_step w name offset mode uuid =
    if is_some (session_named name w) then refusal_step w (fault.Session NameTaken)
    else (if nat_le MOST_SESSIONS (length w.sessions) then refusal_step w (fault.Session TooMany)
    else reply_step (with_new name (declaring w.events (new_session uuid offset mode)) w) (codes "created " ++ name))

abbrev pub create_step : {S : Type 0} → World S → Text → Text → ℤ → SessionMode → Step S
create_step w name uuid offset mode =
    if is_name name then option_map_or (create_named_step w name offset mode) (parsed uuid)
    (refusal_step w fault.BadUuid)
    else refusal_step w fault.BadName
