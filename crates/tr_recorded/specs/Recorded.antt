-- What the parts of a stream hold, archive by archive, and what a survey reports of them.
use Rattle.std.specs.Prelude.{◌≡◌, ℕ, zero, suc, Bool, List, [], ◌∷◌, ◌++◌, length, map, take, slice_get, Option, Some, None}
use Rattle.std.specs.List.{AllByRecursion, zip}
use Rattle.tr_book.specs.Parts.{PartState}
use Rattle.tr_chunk.specs.ArchiveName.{archive_name_text}
use Rattle.tr_session.specs.Audits.{packets_by_part}
use Rattle.tr_session.specs.Session.{SessionOf}
use Rattle.tr_session.specs.Sizes.{archive_released}
use Rattle.tr_session_book.specs.Book.{SessionBookState}
use Rattle.tr_session_book.specs.BookSteps.{channel_of}
use Rattle.tr_session_book.specs.declared.archive.Archive.{Archive}
use Rattle.tr_stream.specs.Fates.{all_parts}
use Rattle.tr_stream.specs.Rules.{by_state}
use Rattle.tr_stream.specs.State.{StreamState}
use Rattle.tr_survey.specs.Names.{of_parts}
use Rattle.tr_survey.specs.Order.{Numbered}
use Rattle.tr_survey.specs.Streams.{trace_state}
use Rattle.tr_survey.specs.Whole.{Recorded, StreamFiles, recorded_text}

-- none of its first k parts was released
abbrev pub NoneReleased : ℕ → StreamState → Type 0
NoneReleased k s = AllByRecursion (λ (p : PartState). p.released ≡ None) (take k (all_parts s.parts))

-- each of these archives in order, with the packets of the part that it has of the stream
abbrev pub recorded_of : List Numbered → StreamState → List Recorded
recorded_of archives s = zip archives (packets_by_part s)

-- ---- a session

-- no part of any of its archives was released
abbrev pub HasItsArchives : SessionOf StreamState → Type 0
HasItsArchives s = AllByRecursion (λ (a : Archive). archive_released by_state a.id s ≡ 0) s.book.archives

-- an archive by its number and its folder's name
abbrev pub archive_named : SessionBookState → Archive → Numbered
archive_named b a = of_parts (archive_name_text a.begin a.end b.offset a.id) a.id

abbrev pub archives_named : SessionBookState → List Numbered
archives_named b = map (archive_named b) b.archives

-- stream i of a channel, with its packets in each of these archives
abbrev pub stream_recorded : List Numbered → ℕ → Option (List ℕ) → Option StreamState → List StreamFiles
stream_recorded archives i None stream = []
stream_recorded archives i (Some channel) None = []
stream_recorded archives i (Some channel) (Some stream) = (of_parts channel i, recorded_of archives stream) ∷ []

-- the first n streams
abbrev pub streams_recorded : SessionOf StreamState → ℕ → List StreamFiles
streams_recorded s zero = []
streams_recorded s (suc i) =
    streams_recorded s i ++ stream_recorded (archives_named s.book) i (channel_of i s.book) (slice_get s.streams i)

-- what is reported of a session of this name: its archives and streams, and what each stream lost, with its events' names
abbrev pub session_recorded_text : Bool → List ℕ → SessionOf StreamState → List ℕ
session_recorded_text asked name s =
    recorded_text asked name (trace_state s.book.uuid s.book.events.events) (archives_named s.book) (streams_recorded s (length s.streams))
