-- What describing a folder answers, and which texts it puts.
use Rattle.std.specs.Prelude.{◌≡◌, ℕ, List, [], ◌∷◌, length, map, Option, Some, None, option_map, String, string_bytes, if◌then◌else◌}
use Rattle.std.specs.Option.{option_or}
use Rattle.tr_describe.specs.Flaws.{file_flaw}
use Rattle.tr_describe.specs.Homes.{archives_in, metadata_of_all, own_uuid, seen, text_of}
use Rattle.tr_describe.specs.Put.{Text}
use Rattle.tr_describe.specs.declared.describing.Found.{Found}
use Rattle.tr_describe.specs.declared.describing.Found.TheVariants as found
use Rattle.tr_describe.specs.declared.described.Described.{Described}
use Rattle.tr_describe.specs.declared.described.Described.TheVariants as answer
use Rattle.tr_describe.specs.declared.described.Wrong.{Wrong}
use Rattle.tr_describe.specs.declared.described.Wrong.TheVariants.{Closed, Foreign, Unsound, Unfit}
use Rattle.tr_describe.specs.declared.flaws.Flaw.{Flaw}
use Rattle.tr_describe.specs.declared.flaws.Flaw.TheVariants as flaw
use Rattle.tr_events.specs.Events.{Declarations}
use Rattle.tr_folders.specs.Tree.{Tree}
use Rattle.tr_survey.specs.Listing.{streams_of}
use Rattle.tr_survey.specs.Order.{Numbered}
use Rattle.tr_survey.specs.Paths.{archives_folder, file_in}
use Rattle.tr_survey.specs.Sessions.{naming_of, sessions_of}

-- what is wrong, with names as their texts
abbrev pub by_text : {Z : Type 0} → Wrong (String Z) → Wrong (List ℕ)
by_text (Closed session) = Closed (string_bytes session)
by_text (Foreign session archive) = Foreign (string_bytes session) (string_bytes archive)
by_text (Unsound session archive channel stream) = Unsound (string_bytes session) (string_bytes archive) (string_bytes channel) stream
by_text (Unfit session archive channel stream serial) =
    Unfit (string_bytes session) (string_bytes archive) (string_bytes channel) stream serial

-- the same of an answer
abbrev pub said_by_text : {Z : Type 0} → Described (String Z) → Described (List ℕ)
said_by_text answer.Unlisted = answer.Unlisted
said_by_text answer.NoSession = answer.NoSession
said_by_text (answer.Wrong wrong) = answer.Wrong (by_text wrong)
said_by_text (answer.Done archives) = answer.Done archives

-- the first that something gives of these, if one gives any
abbrev pub first_of : {X Y : Type 0} → (X → Option Y) → List X → Option Y
first_of f [] = None
first_of f (x ∷ xs) = option_or (f x) (first_of f xs)

-- ---- what is wrong

-- this, with a stream's file in an archive of a session
abbrev pub flawed : List ℕ → List ℕ → Numbered → Flaw → Wrong (List ℕ)
flawed session archive stream flaw.Unsound = Unsound session archive stream.name stream.number
flawed session archive stream (flaw.Unfit serial) = Unfit session archive stream.name stream.number serial

-- with a stream's file
abbrev pub stream_wrong : Tree → Declarations → List ℕ → List ℕ → Numbered → List ℕ → Numbered → Option (Wrong (List ℕ))
stream_wrong t events session folder archive uuid stream =
    option_map (flawed session archive.name stream) (file_flaw events uuid stream.number (file_in t folder stream archive))

-- with an archive whose metadata are the recorder's of this identifier, or not the recorder's
abbrev pub archive_wrong_by : Tree → Declarations → List ℕ → List ℕ → Numbered → Option (List ℕ) → Option (Wrong (List ℕ))
archive_wrong_by t events session folder archive None = Some (Foreign session archive.name)
archive_wrong_by t events session folder archive (Some uuid) =
    first_of (stream_wrong t events session folder archive uuid) (streams_of t folder (archive ∷ []))

-- with an archive: its metadata, and then its streams in order
abbrev pub archive_wrong : Tree → Declarations → List ℕ → List ℕ → Numbered → Option (Wrong (List ℕ))
archive_wrong t events session folder archive = archive_wrong_by t events session folder archive (own_uuid (naming_of t folder archive))

-- with a session: that the folder of its archives can't be read, or the first thing of its archives in order
abbrev pub session_wrong : Tree → Declarations → List ℕ → List ℕ → Option (Wrong (List ℕ))
session_wrong t events dir session =
    if t.is_hidden (archives_folder dir session) then Some (Closed session)
    else first_of (archive_wrong t events session (archives_folder dir session)) (archives_in t (archives_folder dir session))

-- ---- the answer

-- this is wrong, before anything else; or else, so many archives are described
abbrev pub answer_by : Option (Wrong (List ℕ)) → ℕ → Described (List ℕ)
answer_by (Some wrong) archives = answer.Wrong wrong
answer_by None archives = answer.Done archives

-- of these sessions below a folder
abbrev pub described_by : Tree → Declarations → List ℕ → List (List ℕ) → Described (List ℕ)
described_by t events dir [] = answer.NoSession
described_by t events dir (s ∷ sessions) =
    answer_by (first_of (session_wrong t events dir) (s ∷ sessions)) (length (metadata_of_all t dir))

abbrev pub described_of : Tree → List ℕ → Declarations → Described (List ℕ)
described_of t dir events = if t.is_hidden dir then answer.Unlisted else described_by t events dir (sessions_of t dir)

-- ---- what is put

-- these texts, if archives are described
abbrev pub texts_by : {S : Type 0} → Described S → List Text → List Text
texts_by answer.Unlisted texts = []
texts_by answer.NoSession texts = []
texts_by (answer.Wrong wrong) texts = []
texts_by (answer.Done archives) texts = texts

-- the metadata of each archive, in order, unless something is wrong
abbrev pub texts_of : Tree → List ℕ → Declarations → List Text
texts_of t dir events = texts_by (described_of t dir events) (map (text_of events) (metadata_of_all t dir))

-- nothing was put, unless archives are described
abbrev pub IsPutIfDone : {S : Type 0} → Described S → Option (List Text) → Option (List Text) → Type 0
IsPutIfDone answer.Unlisted before after = after ≡ before
IsPutIfDone answer.NoSession before after = after ≡ before
IsPutIfDone (answer.Wrong wrong) before after = after ≡ before
IsPutIfDone (answer.Done archives) before after = Unit {0}

-- ---- what is found, before anything is put

-- what it is answered with
abbrev pub said_of : Found → Described (List ℕ)
said_of found.Unlisted = answer.Unlisted
said_of found.NoSession = answer.NoSession
said_of (found.Wrong wrong) = answer.Wrong (by_text wrong)
said_of (found.Archives all) = answer.Done (length all.items)

-- the texts that are then put
abbrev pub texts_found : Declarations → Found → List Text
texts_found events found.Unlisted = []
texts_found events found.NoSession = []
texts_found events (found.Wrong wrong) = []
texts_found events (found.Archives all) = map (text_of events) (map seen all.items)

-- it is what is there
pub record IsFound (t : Tree) (dir : List ℕ) (events : Declarations) (f : Found) : Type 0 where
  pub said : described_of t dir events ≡ said_of f
  pub texts : texts_of t dir events ≡ texts_found events f
