-- A session over whatever represents its streams.
use Rattle.std.specs.Prelude.{◌≡◌, ◌<◌, ℕ, ℤ, List, [], length, Some, IsSome, slice_get}
use Rattle.tr_book.specs.Parts.{part_at}
use Rattle.tr_events.specs.Events.{Declarations}
use Rattle.tr_session_book.specs.Book.{SessionBookState, new_book}
use Rattle.tr_session_book.specs.BookSteps.{chunks_closed}
use Rattle.tr_session_book.specs.declared.channel.Channel.{Channel}
use Rattle.tr_stream.specs.State.{StreamState}
use Rattle.tr_terms.specs.declared.session_mode.SessionMode.{SessionMode}

-- its book, and its streams in order of number
pub record SessionOf (S : Type 0) : Type 0 where
  pub book : SessionBookState
  pub streams : List S

abbrev pub session_of : {S : Type 0} → SessionBookState → List S → SessionOf S
session_of book streams = record { book = book; streams = streams }

-- the stream of number i
pub record IsStreamOf (b : SessionBookState) (i : ℕ) (t : StreamState) : Type 0 where
  pub place : ℕ
  pub channel : List ℕ × Channel
  pub has_place : slice_get b.threads i ≡ Some place
  pub has_channel : slice_get b.channels place ≡ Some channel
  -- it was made for this channel, in this session
  pub config : t.config ≡ record {
    uuid = b.uuid;
    number = i;
    geometry = channel.1.geometry;
    mode = channel.1.mode;
    session = b.mode;
  }
  -- it has closed a part for each archive, and one more if the pending rotation has cut it
  pub closed : length t.parts.closed ≡ chunks_closed i b
  -- and all of these are known
  pub known : t.parts.forgotten ≡ 0

-- it has a part for each archived chunk
abbrev pub HasArchivedParts : SessionBookState → StreamState → Type 0
HasArchivedParts b t = (id : ℕ) → id < length b.archives → IsSome (part_at id t.parts)

-- each thread of the book has its stream
pub record HasItsStreams (s : SessionOf StreamState) : Type 0 where
  pub as_many : length s.streams ≡ length s.book.threads
  pub are : (i : ℕ) (t : StreamState) → slice_get s.streams i ≡ Some t → IsStreamOf s.book i t

-- a session without channels and streams
abbrev pub new_session : {S : Type 0} → List ℕ → ℤ → SessionMode → SessionOf S
new_session uuid offset mode = session_of (new_book uuid offset mode) []

-- a session with these events, and no others
abbrev pub declaring : {S : Type 0} → Declarations → SessionOf S → SessionOf S
declaring events s = session_of (record s.book { events = events }) s.streams
