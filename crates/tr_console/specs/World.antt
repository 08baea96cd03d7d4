-- The sessions of a script by name, whatever represents their streams.
use Rattle.std.specs.Map.{lookup, set_value}
use Rattle.std.specs.Prelude.{List, [], Option}
use Rattle.std.specs.Str.{bytes_eq}
use Rattle.tr_replies.specs.Text.{Text}
use Rattle.tr_events.specs.Events.{Declarations}
use Rattle.tr_session.specs.Session.{SessionOf}

-- sessions by name, in order of creation, and the events that each of them is created with
pub record World (S : Type 0) : Type 0 where
  pub sessions : List (Text × SessionOf S)
  pub events : Declarations

abbrev pub world_of : {S : Type 0} → List (Text × SessionOf S) → Declarations → World S
world_of sessions events = record { sessions = sessions; events = events }

-- before the first session is created
abbrev pub no_sessions : {S : Type 0} → Declarations → World S
no_sessions events = world_of [] events

abbrev pub session_named : {S : Type 0} → Text → World S → Option (SessionOf S)
session_named name w = lookup (bytes_eq name) w.sessions

-- the session of this name is now this one
abbrev pub with_session : {S : Type 0} → Text → World S → SessionOf S → World S
with_session name w s = world_of (set_value (bytes_eq name) w.sessions s) w.events
