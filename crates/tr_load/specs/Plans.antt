-- The session of a load.
use Rattle.std.specs.Prelude.{ℕ, List, [], ◌∷◌, codes, pos, Result}
use Rattle.tr_load.specs.declared.plan.TheConstants.{COUNT, SIZE}
use Rattle.tr_session.specs.Runs.{configure_channels}
use Rattle.tr_session.specs.Session.{SessionOf, new_session}
use Rattle.tr_session.specs.declared.config.ChannelConfig.{ChannelConfig}
use Rattle.tr_session_book.specs.declared.faults.SessionFault.{SessionFault}
use Rattle.tr_stream.specs.Rules.{by_state}
use Rattle.tr_stream.specs.State.{StreamState}
use Rattle.tr_terms.specs.declared.mode.Mode.TheVariants.{Discard}
use Rattle.tr_terms.specs.declared.session_mode.SessionMode.TheVariants.{Local}

-- the identifier of every load's trace: 00000000-0000-4000-8000-000000000001
abbrev pub load_identifier : List ℕ
load_identifier = 0 ∷ 0 ∷ 0 ∷ 0 ∷ 0 ∷ 0 ∷ 64 ∷ 0 ∷ 128 ∷ 0 ∷ 0 ∷ 0 ∷ 0 ∷ 0 ∷ 0 ∷ 1 ∷ []

abbrev pub load_channel : ℕ → ChannelConfig
load_channel threads = record { name = codes "load"; size = SIZE; count = COUNT; mode = Discard; threads = threads }

-- a local session at offset 0 with the one channel, a stream for each thread
abbrev pub load_session : ℕ → Result (SessionOf StreamState) SessionFault
load_session threads =
    configure_channels by_state (load_channel threads ∷ []) (new_session load_identifier (pos 0) Local)
