-- A session over a configuration and a list of events.
use Rattle.std.specs.Prelude.{◌≡◌, ℕ, zero, suc, List, [], ◌∷◌, Some, Result, Ok, Err, slice_get}
use Rattle.tr_session.specs.Agreement.{SessionsAgree}
use Rattle.tr_session.specs.Events.{session_after_events, session_answers, own_steps}
use Rattle.tr_session.specs.Session.{SessionOf, declaring, new_session}
use Rattle.tr_session.specs.Steps.{session_add_channel, session_add_thread}
use Rattle.tr_session.specs.declared.config.ChannelConfig.{ChannelConfig}
use Rattle.tr_session.specs.declared.config.Config.{Config}
use Rattle.tr_session.specs.declared.events.Answer.{Answer}
use Rattle.tr_session.specs.declared.events.Event.{Event}
use Rattle.tr_session_book.specs.declared.faults.SessionFault.{SessionFault}
use Rattle.tr_stream.specs.Rules.{StreamRules, Traced, by_history}
use Rattle.tr_stream.specs.Runs.{history_after_events}
use Rattle.tr_stream.specs.StandsFor.{StandsFor}
use Rattle.tr_stream.specs.State.{StreamState}
use Rattle.tr_stream.specs.Steps.{new_history}

-- what comes next, unless it was refused
abbrev pub and_then : {X Y F : Type 0} → Result X F → (X → Result Y F) → Result Y F
and_then (Ok x) next = next x
and_then (Err fault) next = Err fault

-- a number of threads is added to a channel
abbrev pub add_threads : {S : Type 0} → StreamRules S → List ℕ → ℕ → SessionOf S → Result (SessionOf S) SessionFault
add_threads rules channel zero s = Ok s
add_threads rules channel (suc n) s = and_then (add_threads rules channel n s) (session_add_thread rules channel)

-- a channel is added, and then its threads
abbrev pub configure_channel : {S : Type 0} → StreamRules S → ChannelConfig → SessionOf S
    → Result (SessionOf S) SessionFault
configure_channel rules c s =
    and_then (session_add_channel c.name c.size c.count c.mode s) (add_threads rules c.name c.threads)

-- channels are added in their order
abbrev pub configure_channels : {S : Type 0} → StreamRules S → List ChannelConfig → SessionOf S
    → Result (SessionOf S) SessionFault
configure_channels rules [] s = Ok s
configure_channels rules (c ∷ cs) s = and_then (configure_channel rules c s) (configure_channels rules cs)

-- the session of a configuration, or why there is none: its events are declared before all else
abbrev pub session_of_config : {S A : Type 0} → StreamRules S → Config A → Result (SessionOf S) SessionFault
session_of_config rules c = configure_channels rules c.channels.items (declaring c.events (new_session c.uuid c.offset c.mode))

-- a session that its configuration and a list of events led to, and what the events answered
module _ {A : Type 0} (config : Config A) (events : List (Event A)) where
  pub record HasRun (session : SessionOf StreamState) (answers : List (Answer A)) : Type 0 where
    -- the session of the configuration, by the histories of its streams
    pub begin : SessionOf Traced
    pub begins : session_of_config by_history config ≡ Ok begin
    -- the answers are the rules', and so is the session: the same book, and as many streams, made alike, and each one
    -- stands for its history
    pub answers_are : answers ≡ session_answers by_history events begin
    pub agrees : SessionsAgree session (session_after_events by_history events begin)
    -- and that history is the run of the stream's own steps
    pub streams : (i : ℕ) (t : StreamState) → slice_get session.streams i ≡ Some t
        → StandsFor t (history_after_events t.config (own_steps i events begin.book) new_history)
