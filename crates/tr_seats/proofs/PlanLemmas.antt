-- The session of a configuration, before its first call.
use Rattle.std.proofs.Common.{◌≡◌, ℕ, zero, suc, List, [], ◌∷◌, ◌++◌, Option, Some, None, Result, Ok, Err, refl, subst}
use Rattle.std.specs.Prelude.{slice_get}
use Rattle.tr_seats.specs.Plans.{AreUnused, IsUnused}
use Rattle.tr_session.specs.Runs.{add_threads, and_then, configure_channel, configure_channels, session_of_config}
use Rattle.tr_session.specs.Session.{SessionOf, declaring, new_session}
use Rattle.tr_session.specs.Steps.{next_config, session_add_channel, session_add_stream, session_add_thread, with_book}
use Rattle.tr_session.specs.declared.config.ChannelConfig.{ChannelConfig}
use Rattle.tr_session.specs.declared.config.Config.{Config}
use Rattle.tr_session_book.specs.Book.{SessionBookState}
use Rattle.tr_session_book.specs.BookSteps.{book_add_channel, channel_named, thread_place}
use Rattle.tr_session_book.specs.declared.channel.Channel.{Channel}
use Rattle.tr_session_book.specs.declared.faults.SessionFault.{SessionFault}
use Rattle.tr_stream.specs.Rules.{by_state}
use Rattle.tr_stream.specs.State.{StreamState}

unused-more : (streams : List StreamState) (t : StreamState) → AreUnused streams → IsUnused t
    → AreUnused (streams ++ t ∷ [])
unused-more [] t none is zero x got = let e : t ≡ x = cc in subst IsUnused e is
unused-more [] t none is (suc i) x got = cc
unused-more (s ∷ ss) t none is zero x got = none zero x got
unused-more (s ∷ ss) t none is (suc i) x got = unused-more ss t (λ j y at. none (suc j) y at) is i x got

-- nothing was done on the streams of the session, if there is one
abbrev StreamsUnused : Result (SessionOf StreamState) SessionFault → Type 0
StreamsUnused (Ok s) = AreUnused s.streams
StreamsUnused (Err fault) = Unit {0}

unused-then : (r : Result (SessionOf StreamState) SessionFault) (f : SessionOf StreamState → Result (SessionOf StreamState) SessionFault)
    → StreamsUnused r → ((s : SessionOf StreamState) → AreUnused s.streams → StreamsUnused (f s)) → StreamsUnused (and_then r f)
unused-then (Ok s) f is step = step s is
unused-then (Err fault) f is step = tt

unused-channel : (streams : List StreamState) (r : Result SessionBookState SessionFault) → AreUnused streams
    → StreamsUnused (with_book streams r)
unused-channel streams (Ok b) is = is
unused-channel streams (Err fault) is = tt

unused-stream : (channel : Option Channel) (place : Result ℕ SessionFault) (s : SessionOf StreamState) → AreUnused s.streams
    → StreamsUnused (session_add_stream by_state channel place s)
unused-stream channel (Err fault) s is = tt
unused-stream None (Ok place) s is = tt
unused-stream (Some channel) (Ok place) s is =
    unused-more s.streams (by_state.new (next_config channel s.book)) is refl

unused-threads : (channel : List ℕ) (n : ℕ) (s : SessionOf StreamState) → AreUnused s.streams
    → StreamsUnused (add_threads by_state channel n s)
unused-threads channel zero s is = is
unused-threads channel (suc n) s is =
    unused-then (add_threads by_state channel n s) (session_add_thread by_state channel) (unused-threads channel n s is)
    (λ t still. unused-stream (channel_named channel t.book) (thread_place channel t.book) t still)

unused-channels : (cs : List ChannelConfig) (s : SessionOf StreamState) → AreUnused s.streams
    → StreamsUnused (configure_channels by_state cs s)
unused-channels [] s is = is
unused-channels (c ∷ cs) s is =
    unused-then (configure_channel by_state c s) (configure_channels by_state cs)
    (unused-then (session_add_channel c.name c.size c.count c.mode s) (add_threads by_state c.name c.threads)
    (unused-channel s.streams (book_add_channel c.name c.size c.count c.mode s.book) is)
    (λ t still. unused-threads c.name c.threads t still))
    (λ t still. unused-channels cs t still)

-- before its first call
pub configured-unused : {A : Type 0} (config : Config A) (s : SessionOf StreamState) → session_of_config by_state config ≡ Ok s
    → AreUnused s.streams
configured-unused config s is =
    subst StreamsUnused is (unused-channels config.channels.items (declaring config.events (new_session config.uuid config.offset config.mode))
    (λ i t got. absurd (none i t got)))
  where
    none : (i : ℕ) (t : StreamState) → slice_get {X = StreamState} [] i ≡ Some t → ⊥
    none zero t got = cc
    none (suc i) t got = cc
