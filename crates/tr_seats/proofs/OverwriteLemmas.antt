-- In a snapshot session every ring overwrites, since no other channel is added to one.
use Rattle.std.proofs.Common.{◌≡◌, ℕ, zero, suc, Bool, true, false, List, [], ◌∷◌, ◌++◌, Option, Some, None, Result, Ok, Err, refl, subst}
use Rattle.std.specs.Map.{lookup}
use Rattle.std.specs.Prelude.{cond, if◌then◌else◌, is_some, length, nat_le, slice_get}
use Rattle.tr_seats.specs.Books.{AreOverwriting}
use Rattle.tr_session.specs.Runs.{add_threads, and_then, configure_channel, configure_channels, session_of_config}
use Rattle.tr_session.specs.Session.{SessionOf, declaring, new_session}
use Rattle.tr_session.specs.Steps.{next_config, session_add_channel, session_add_stream, session_add_thread, with_book}
use Rattle.tr_session.specs.declared.config.ChannelConfig.{ChannelConfig}
use Rattle.tr_session.specs.declared.config.Config.{Config}
use Rattle.tr_session_book.specs.Book.{SessionBookState}
use Rattle.tr_session_book.specs.BookSteps.{channel_named, channel_of_geometry, is_allowed, is_new, thread_place, with_channel}
use Rattle.tr_session_book.specs.declared.channel.Channel.{Channel}
use Rattle.tr_session_book.specs.declared.faults.SessionFault.{SessionFault}
use Rattle.tr_session_book.specs.declared.faults.SessionFault.TheVariants.{AlreadyStarted, DiscardInSnapshot, NameTaken, TooMany}
use Rattle.std.specs.Str.{bytes_eq}
use Rattle.tr_stream.specs.Rules.{by_state}
use Rattle.tr_stream.specs.State.{StreamState}
use Rattle.tr_terms.specs.Geometry.{GeometryState, geometry_of}
use Rattle.tr_terms.specs.declared.geometry.GeometryFault.{GeometryFault}
use Rattle.tr_terms.specs.declared.limits.TheConstants.{MOST_CHANNELS}
use Rattle.tr_terms.specs.declared.mode.Mode.{Mode}
use Rattle.tr_terms.specs.declared.mode.Mode.TheVariants.{Discard, Overwrite}
use Rattle.tr_terms.specs.declared.session_mode.SessionMode.{SessionMode}
use Rattle.tr_terms.specs.declared.session_mode.SessionMode.TheVariants.{Local, Snapshot}

abbrev AllOver : List (List ℕ × Channel) → Type 0
AllOver [] = Unit {0}
AllOver (e ∷ es) = (e.1.mode ≡ Overwrite) × AllOver es

found-first : (t : Bool) (x c : Channel) (rest : Option Channel) → x.mode ≡ Overwrite → (rest ≡ Some c → c.mode ≡ Overwrite)
    → cond t (Some x) rest ≡ Some c → c.mode ≡ Overwrite
found-first true x c rest over later is = let same : x ≡ c = cc in subst (λ (y : Channel). y.mode ≡ Overwrite) same over
found-first false x c rest over later is = later is

over-found : (test : List ℕ → Bool) (cs : List (List ℕ × Channel)) (c : Channel) → AllOver cs → lookup test cs ≡ Some c
    → c.mode ≡ Overwrite
over-found test [] c all is = cc
over-found test (e ∷ es) c all is =
    found-first (test e.0) e.1 c (lookup test es) all.0 (λ later. over-found test es c all.1 later) is

over-more : (cs : List (List ℕ × Channel)) (e : List ℕ × Channel) → AllOver cs → e.1.mode ≡ Overwrite → AllOver (cs ++ e ∷ [])
over-more [] e all over = (over, tt)
over-more (c ∷ cs) e all over = (all.0, over-more cs e all.1 over)

record IsOver (s : SessionOf StreamState) : Type 0 where
  channels : s.book.mode ≡ Snapshot → AllOver s.book.channels
  streams : AreOverwriting s.book.mode s.streams

abbrev IsOverIn : Result (SessionOf StreamState) SessionFault → Type 0
IsOverIn (Ok s) = IsOver s
IsOverIn (Err fault) = Unit {0}

over-then : (r : Result (SessionOf StreamState) SessionFault) (f : SessionOf StreamState → Result (SessionOf StreamState) SessionFault)
    → IsOverIn r → ((s : SessionOf StreamState) → IsOver s → IsOverIn (f s)) → IsOverIn (and_then r f)
over-then (Ok s) f is step = step s is
over-then (Err fault) f is step = tt

-- ---- a channel

allowed-over : (session : SessionMode) (mode : Mode) → is_allowed session mode ≡ true → session ≡ Snapshot → mode ≡ Overwrite
allowed-over Local mode is e = cc
allowed-over Snapshot Overwrite is e = refl
allowed-over Snapshot Discard is e = cc

over-geometry : (s : SessionOf StreamState) (name : List ℕ) (mode : Mode) (g : Result GeometryState GeometryFault) → IsOver s
    → IsOverIn (with_book s.streams (channel_of_geometry name mode g s.book))
over-geometry s name mode (Err fault) is = tt
over-geometry s name mode (Ok g) is = at (is_allowed s.book.mode mode) refl
  where
    with_it : SessionBookState
    with_it = with_channel name (record { geometry = g; mode = mode }) s.book

    at : (t : Bool) → is_allowed s.book.mode mode ≡ t
        → IsOverIn (with_book s.streams (if t then Ok with_it else Err DiscardInSnapshot))
    at true allowed = record {
      channels = λ e. over-more s.book.channels (name, record { geometry = g; mode = mode }) (is.channels e)
          (allowed-over s.book.mode mode allowed e);
      streams = is.streams;
    }
    at false allowed = tt

over-if : (t : Bool) (streams : List StreamState) (x y : Result SessionBookState SessionFault) → IsOverIn (with_book streams x)
    → IsOverIn (with_book streams y) → IsOverIn (with_book streams (if t then x else y))
over-if true streams x y one two = one
over-if false streams x y one two = two

over-channel : (s : SessionOf StreamState) (c : ChannelConfig) → IsOver s
    → IsOverIn (session_add_channel c.name c.size c.count c.mode s)
over-channel s c is =
    let made = channel_of_geometry c.name c.mode (geometry_of c.size c.count) s.book in
    let limited = if nat_le MOST_CHANNELS (length s.book.channels) then Err TooMany else made in
    let named = if is_some (channel_named c.name s.book) then Err NameTaken else limited in
    over-if (is_new s.book.state) s.streams named (Err AlreadyStarted)
    (over-if (is_some (channel_named c.name s.book)) s.streams (Err NameTaken) limited tt
    (over-if (nat_le MOST_CHANNELS (length s.book.channels)) s.streams (Err TooMany) made tt
    (over-geometry s c.name c.mode (geometry_of c.size c.count) is)))
    tt

-- ---- threads

at-end : (streams : List StreamState) (t x : StreamState) (i : ℕ)
    → ((j : ℕ) (y : StreamState) → slice_get streams j ≡ Some y → y.config.mode ≡ Overwrite) → t.config.mode ≡ Overwrite
    → slice_get (streams ++ t ∷ []) i ≡ Some x → x.config.mode ≡ Overwrite
at-end [] t x zero all over got = let e : t ≡ x = cc in subst (λ (y : StreamState). y.config.mode ≡ Overwrite) e over
at-end [] t x (suc i) all over got = cc
at-end (s ∷ ss) t x zero all over got = all zero x got
at-end (s ∷ ss) t x (suc i) all over got = at-end ss t x i (λ j y at. all (suc j) y at) over got

over-stream : (channel : Option Channel) (place : Result ℕ SessionFault) (s : SessionOf StreamState) → IsOver s
    → ((c : Channel) → channel ≡ Some c → s.book.mode ≡ Snapshot → c.mode ≡ Overwrite)
    → IsOverIn (session_add_stream by_state channel place s)
over-stream channel (Err fault) s is over = tt
over-stream None (Ok place) s is over = tt
over-stream (Some channel) (Ok place) s is over = record {
  channels = is.channels;
  streams = λ e i t got.
      at-end s.streams (by_state.new (next_config channel s.book)) t i (is.streams e) (over channel refl e) got;
}

over-threads : (channel : List ℕ) (n : ℕ) (s : SessionOf StreamState) → IsOver s → IsOverIn (add_threads by_state channel n s)
over-threads channel zero s is = is
over-threads channel (suc n) s is =
    over-then (add_threads by_state channel n s) (session_add_thread by_state channel) (over-threads channel n s is)
    (λ t still. over-stream (channel_named channel t.book) (thread_place channel t.book) t still
    (λ c found e. over-found (bytes_eq channel) t.book.channels c (still.channels e) found))

over-channels : (cs : List ChannelConfig) (s : SessionOf StreamState) → IsOver s → IsOverIn (configure_channels by_state cs s)
over-channels [] s is = is
over-channels (c ∷ cs) s is =
    over-then (configure_channel by_state c s) (configure_channels by_state cs)
    (over-then (session_add_channel c.name c.size c.count c.mode s) (add_threads by_state c.name c.threads)
    (over-channel s c is) (λ t still. over-threads c.name c.threads t still))
    (λ t still. over-channels cs t still)

pub configured-overwrites : {A : Type 0} (config : Config A) (s : SessionOf StreamState)
    → session_of_config by_state config ≡ Ok s → AreOverwriting s.book.mode s.streams
configured-overwrites config s is =
    let all : IsOver s =
    subst IsOverIn is (over-channels config.channels.items (declaring config.events (new_session config.uuid config.offset config.mode)) none) in
    all.streams
  where
    no_stream : (i : ℕ) (t : StreamState) → slice_get {X = StreamState} [] i ≡ Some t → t.config.mode ≡ Overwrite
    no_stream zero t got = cc
    no_stream (suc i) t got = cc

    none : IsOver (declaring config.events (new_session config.uuid config.offset config.mode))
    none = record { channels = λ e. tt; streams = λ e i t got. no_stream i t got }
