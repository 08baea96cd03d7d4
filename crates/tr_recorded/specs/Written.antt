-- What is written of a session at several times, parts of whose archives were released in between.
use Rattle.std.specs.Prelude.{◌≡◌, ◌<◌, ◌≤◌, ℕ, List, [], ◌∷◌, ◌++◌, length, take, drop, Some, slice_get}
use Rattle.std.specs.List.{AllByRecursion, flat_map}
use Rattle.tr_export.specs.Archives.{archives_made}
use Rattle.tr_export.specs.Making.{Makings}
use Rattle.tr_session.specs.Session.{HasItsStreams, SessionOf}
use Rattle.tr_session.specs.Sizes.{archive_released}
use Rattle.tr_session_book.specs.BookSteps.{IsBook}
use Rattle.tr_session_book.specs.declared.archive.Archive.{Archive}
use Rattle.tr_stream.specs.Chunks.{chunk_of}
use Rattle.tr_stream.specs.History.{History}
use Rattle.tr_stream.specs.Kept.{IsKept}
use Rattle.tr_stream.specs.Rules.{Agrees, Traced, by_state}
use Rattle.tr_stream.specs.State.{StreamState}

-- ---- later values of a session

-- a history that goes on from another: chunks that were closed keep what they have
pub record GoesOn (h g : History) : Type 0 where
  pub cuts : h.cuts ≤ g.cuts
  pub chunks : (k : ℕ) → k < h.cuts → chunk_of k g ≡ chunk_of k h

-- a stream's later value: of each history that the first one represents, it represents one that goes on from it
abbrev pub IsLaterStream : StreamState → StreamState → Type 0
IsLaterStream s u =
    (t : Traced) → Agrees s t → (v : Traced) × Agrees u v × (v.config ≡ t.config) × GoesOn t.history v.history

-- the later values of as many streams
abbrev pub AreLaterStreams : List StreamState → List StreamState → Type 0
AreLaterStreams [] [] = Unit {0}
AreLaterStreams [] (u ∷ us) = ⊥
AreLaterStreams (s ∷ ss) [] = ⊥
AreLaterStreams (s ∷ ss) (u ∷ us) = IsLaterStream s u × AreLaterStreams ss us

-- a session's later value: it has the same channels, streams and events, and these archives more
pub record IsLater (before s : SessionOf StreamState) : Type 0 where
  pub uuid : s.book.uuid ≡ before.book.uuid
  pub offset : s.book.offset ≡ before.book.offset
  pub channels : s.book.channels ≡ before.book.channels
  pub threads : s.book.threads ≡ before.book.threads
  pub events : s.book.events ≡ before.book.events
  pub more : List Archive
  pub archives : s.book.archives ≡ before.book.archives ++ more
  pub streams : AreLaterStreams before.streams s.streams

-- what every session value has: a book, and a stream for each thread, which represents a history
pub record IsSession (s : SessionOf StreamState) : Type 0 where
  pub book : IsBook s.book
  pub streams : HasItsStreams s
  pub kept : (i : ℕ) (t : StreamState) → slice_get s.streams i ≡ Some t → IsKept t

-- ---- several writes

-- a later value, in which no part of an archive is released that the earlier one didn't have
pub record IsWrittenNext (before s : SessionOf StreamState) : Type 0 where
  pub session : IsSession s
  pub later : IsLater before s
  pub held : AllByRecursion (λ (a : Archive). archive_released by_state a.id s ≡ 0) later.more

-- values that are written one after another
abbrev pub AreWritten : SessionOf StreamState → List (SessionOf StreamState) → Type 0
AreWritten s [] = Unit {0}
AreWritten s (next ∷ more) = IsWrittenNext s next × AreWritten next more

-- all that is made of them
abbrev pub all_made : List ℕ → List ℕ → List (SessionOf StreamState) → Makings
all_made dir name = flat_map (archives_made dir name)

-- ---- nothing released

-- a stream, its first k parts as they were before
abbrev pub stream_restored : ℕ → StreamState → StreamState → StreamState
stream_restored k before s =
    record s { parts = record s.parts { closed = take k before.parts.closed ++ drop k s.parts.closed } }

abbrev pub streams_restored : ℕ → List StreamState → List StreamState → List StreamState
streams_restored k [] streams = streams
streams_restored k (b ∷ before) [] = []
streams_restored k (b ∷ before) (s ∷ streams) = stream_restored k b s ∷ streams_restored k before streams

-- a session, the archives that it had before with all their parts as they were then
abbrev pub restored : SessionOf StreamState → SessionOf StreamState → SessionOf StreamState
restored before s = record s { streams = streams_restored (length before.book.archives) before.streams s.streams }

-- the last of these values, each archive as it was when it was written
abbrev pub all_restored : SessionOf StreamState → List (SessionOf StreamState) → SessionOf StreamState
all_restored s [] = s
all_restored s (next ∷ more) = all_restored (restored s next) more
