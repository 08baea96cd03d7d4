-- What is written of a session is what a survey finds nothing wrong with.
use Rattle.std.proofs.Common.{◌≡◌, ◌≢◌, ◌∙◌, ◌+◌, ◌<◌, ◌≤◌, ◌^◌, ◌||◌, ℕ, zero, suc, Bool, true, false, true≢false, cond, refl, sym, ap, subst, arith, ⊎_elim, List, [], ◌∷◌, ◌++◌, length, map, take, Some, None, slice_get, length-append}
use Rattle.std.proofs.lemmas.Bool.{cases_eq}
use Rattle.std.proofs.lemmas.List.{length-map, map-append}
use Rattle.std.specs.List.{AllByRecursion, flat_map, zip}
use Rattle.std.specs.Option.{unwrap_or}
use Rattle.tr_book.specs.Parts.{PartState}
use Rattle.tr_chunk.specs.Files.{file_name, packets_text}
use Rattle.tr_export.proofs.HeldLemmas.{part-held}
use Rattle.tr_export.specs.Archives.{archive_made, archives_made}
use Rattle.tr_folders.specs.Kept.{file_of}
use Rattle.tr_folders.specs.Tree.{Tree}
use Rattle.tr_metadata.specs.Metadata.{metadata_with}
use Rattle.tr_recorded.proofs.BelowLemmas.{same-name}
use Rattle.tr_recorded.proofs.BoxLemmas.{Box, IsBox, archives_in, boxes_made}
use Rattle.tr_recorded.proofs.FolderLemmas.{HaveMetadata, HaveStreams, files-are, stands-alone}
use Rattle.tr_recorded.proofs.LeafLemmas.{StreamAt, box_of, have-streams, leaves-plain, metadata-found, part-is, part-of, recorded-is, some-at, stream-at, stream-found}
use Rattle.tr_recorded.proofs.MadeLemmas.{made-is}
use Rattle.tr_recorded.proofs.OrderLemmas.{Numbers}
use Rattle.tr_recorded.proofs.PlainLemmas.{archive-plain, file-named, name-named, name-plain}
use Rattle.tr_recorded.proofs.StoredLemmas.{leaf_file}
use Rattle.tr_recorded.proofs.TimeLemmas.{AreWithin, book-within, follow, numbers}
use Rattle.tr_recorded.specs.Made.{Shows, is_listed, is_plain_name}
use Rattle.tr_recorded.specs.Recorded.{HasItsArchives, NoneReleased, archive_named, archives_named, recorded_of, session_recorded_text, stream_recorded, streams_recorded}
use Rattle.tr_session.specs.Audits.{packets_by_part}
use Rattle.tr_session.specs.Session.{HasItsStreams, SessionOf}
use Rattle.tr_session.specs.Sizes.{archive_released}
use Rattle.tr_session_book.specs.BookSteps.{AreChained, IsBook, archive_pending, channel_of, first_begin}
use Rattle.tr_session_book.specs.declared.archive.Archive.{Archive}
use Rattle.tr_stream.specs.Fates.{all_parts}
use Rattle.tr_stream.specs.Rules.{by_state}
use Rattle.tr_stream.specs.State.{StreamState}
use Rattle.tr_survey.proofs.SessionLemmas.{whole_is}
use Rattle.tr_survey.proofs.StampLemmas.{archive_is_of_number}
use Rattle.tr_survey.specs.Listing.{names_at, names_in_order}
use Rattle.tr_survey.specs.Metadata.{IsShort, naming_in}
use Rattle.tr_survey.specs.Names.{of_parts}
use Rattle.tr_survey.specs.Order.{Numbered}
use Rattle.tr_survey.specs.Paths.{archives_folder, file_path}
use Rattle.tr_survey.specs.Sessions.{ended_told, names_told, survey_of}
use Rattle.tr_survey.specs.Told.{told}
use Rattle.tr_survey.specs.Whole.{AreRecorded, FollowEachOther, HasFiles, HasItsFiles, NumberedFrom, StandsAlone, StreamFiles, streams_in}
use Rattle.tr_survey.specs.declared.faults.Surveyed.TheVariants.{Faults, NoSession, Unlisted}
use Rattle.tr_survey.specs.declared.naming.Naming.TheVariants.{Named}
use Rattle.tr_survey.specs.Declaring.{events_in}
use Rattle.tr_survey.specs.Streams.{trace_state}
use Rattle.tr_events.specs.Events.{Event}
use Rattle.tr_terms.specs.Names.{is_name}
use Rattle.tr_terms.specs.Offsets.{IsOffset}
use Rattle.tr_terms.specs.declared.limits.TheConstants.{LAST_MOMENT, MOST_STREAMS}

-- an audit reads its metadata as naming its identifier, and as declaring its events
abbrev pub IsReadSo : SessionOf StreamState → Type 0
IsReadSo s =
    (naming_in (Some (file_of (metadata_with s.book.events s.book.uuid) false)) ≡ Named s.book.uuid)
    × (events_in (Some (file_of (metadata_with s.book.events s.book.uuid) false)) ≡ s.book.events.events)

-- what each archive has of a stream is what a survey finds no fault in
abbrev pub Keeps : StreamState → Type 0
Keeps t = (archives : List Numbered) → length archives ≤ length (all_parts t.parts) → NoneReleased (length archives) t
    → AreRecorded t.config.uuid t.config.number (recorded_of archives t)

-- what the session's archives have of each stream is what a survey finds no fault in
abbrev pub AreAllRecorded : SessionOf StreamState → Type 0
AreAllRecorded s = (i : ℕ) (u : StreamState) → slice_get s.streams i ≡ Some u
    → AreRecorded u.config.uuid u.config.number (recorded_of (archives_named s.book) u)

-- ---- lists

first-of-zip : {X Y : Type 0} (xs : List X) (ys : List Y) → length xs ≤ length ys → map (λ (p : X × Y). p.0) (zip xs ys) ≡ xs
first-of-zip [] ys le = refl
first-of-zip (x ∷ xs) [] le = absurd (omega (arith, le))
first-of-zip {X = X} (x ∷ xs) (y ∷ ys) le = ap (λ (l : List X). x ∷ l) (first-of-zip xs ys (omega (arith, le)))

pub same-in-some : {X : Type 0} (x y : X) → Some x ≡ Some y → x ≡ y
same-in-some x y e = cc

pub never-there : {X Y : Type 0} (x : X) → None ≡ Some x → Y
never-there x e = absurd cc

pub next-too : {X : Type 0} (P : X → Type 0) (xs : List X) (i : ℕ) → ((j : ℕ) (x : X) → j < i → slice_get xs j ≡ Some x → P x)
    → ((x : X) → slice_get xs i ≡ Some x → P x) → (j : ℕ) (x : X) → j < i + 1 → slice_get xs j ≡ Some x → P x
next-too P xs i earlier this j x lt at =
    ⊎_elim (λ e. this x (subst (λ (k : ℕ). slice_get xs k ≡ Some x) e at)) (λ other. earlier j x (omega (arith, lt, other)) at) (cases_eq j i)

all-push : {X : Type 0} (P : X → Type 0) (xs : List X) (x : X) → AllByRecursion P xs → P x → AllByRecursion P (xs ++ x ∷ [])
all-push P [] x are is = (is, tt)
all-push P (y ∷ xs) x are is = (are.0, all-push P xs x are.1 is)

pub at-place : {X : Type 0} (P : X → Type 0) (xs : List X) (i : ℕ) (x : X) → AllByRecursion P xs → slice_get xs i ≡ Some x → P x
at-place P [] i x are at = absurd cc
at-place P (y ∷ xs) zero x are at = let same : y ≡ x = cc in subst P same are.0
at-place P (y ∷ xs) (suc i) x are at = at-place P xs i x are.1 at

all-first : {X : Type 0} (P : X → Type 0) (xs : List X) (k : ℕ) → ((j : ℕ) (x : X) → j < k → slice_get xs j ≡ Some x → P x) → AllByRecursion P (take k xs)
all-first P xs zero each = tt
all-first P [] (suc k) each = tt
all-first P (x ∷ xs) (suc k) each =
    (each 0 x (omega arith) refl, all-first P xs k (λ j y lt at. each (suc j) y (omega (arith, lt)) at))

number-at : (k : ℕ) (archives : List Archive) (j : ℕ) (a : Archive) → AreWithin k archives → slice_get archives j ≡ Some a → a.id ≡ k + j
number-at k [] j a own at = absurd cc
number-at k (b ∷ archives) zero a own at = let same : b ≡ a = cc in omega (arith, own.0, ap (λ (x : Archive). x.id) same)
number-at k (b ∷ archives) (suc j) a own at = let more = number-at (k + 1) archives j a own.4 at in omega (arith, more)

numbered-push : (k : ℕ) (xs : List Numbered) (x : Numbered) → NumberedFrom k xs → x.number ≡ k + length xs → k + length xs + 1 < 2 ^ 64
    → NumberedFrom k (xs ++ x ∷ [])
numbered-push k [] x are next few = (omega (arith, few), omega (arith, next), tt)
numbered-push k (y ∷ xs) x are next few =
    (are.0, are.1, numbered-push (k + 1) xs x are.2 (omega (arith, next)) (omega (arith, few)))

same-part : (p q : PartState) → Some p ≡ Some q → p ≡ q
same-part p q e = cc

-- ---- a session

module _ (s : SessionOf StreamState) (streams : (i : ℕ) → i < length s.streams → StreamAt s i) (few : length s.streams ≤ MOST_STREAMS)
    (offset : IsOffset s.book.offset) where
  small : length s.streams ≤ 2 ^ 64
  small = omega (arith, few)

  pub named-in : (archives : List Archive) → archives_in (map (box_of s) archives) ≡ map (archive_named s.book) archives
  named-in [] = refl
  named-in (a ∷ archives) = ap (λ (l : List Numbered). archive_named s.book a ∷ l) (named-in archives)

  pub are-boxes : (k : ℕ) (archives : List Archive) → AreWithin k archives → k + length archives ≤ length s.book.archives
      → AllByRecursion IsBox (map (box_of s) archives)
  are-boxes k [] own le = tt
  are-boxes k (a ∷ archives) own le =
      let number = archive_is_of_number a.begin a.end a.id s.book.offset own.2 own.3 offset (omega (arith, own.0, own.1)) in (
        record {
          number = number;
          plain = archive-plain (archive_named s.book a).name a.id number;
          leaves = leaves-plain s streams a.id (omega (arith, own.0, le)) small;
        },
        are-boxes (k + 1) archives own.4 (omega (arith, le)),
      )

  have-all : (k : ℕ) (archives : List Archive) → AreWithin k archives → k + length archives ≤ length s.book.archives
      → HaveStreams (streams_in (streams_recorded s (length s.streams))) (map (box_of s) archives)
  have-all k [] own le = tt
  have-all k (a ∷ archives) own le =
      (have-streams s streams a.id (omega (arith, own.0, le)) small, have-all (k + 1) archives own.4 (omega (arith, le)))

  have-metadata : (k : ℕ) (archives : List Archive) → AreWithin k archives → k + length archives ≤ length s.book.archives
      → HaveMetadata (metadata_with s.book.events s.book.uuid) (map (box_of s) archives)
  have-metadata k [] own le = tt
  have-metadata k (a ∷ archives) own le =
      (metadata-found s streams a.id (omega (arith, own.0, le)), have-metadata (k + 1) archives own.4 (omega (arith, le)))

  -- ---- streams

  long : (i : ℕ) → i ≤ length s.streams → length (streams_in (streams_recorded s i)) ≡ i
  long zero le = refl
  long (suc i) le =
      let below : i < length s.streams = omega (arith, le) in
      let one = stream_recorded (archives_named s.book) i (channel_of i s.book) (slice_get s.streams i) in
      let more = long i (omega (arith, le)) in
      let all = length-append (streams_in (streams_recorded s i)) (streams_in one) in
      let is = ap (λ (l : List StreamFiles). length (streams_in l)) (recorded-is s streams i below) in
      ap length (map-append (λ (f : StreamFiles). f.0) (streams_recorded s i) one) ∙ omega (arith, more, all, is)

  numbered-upto : (i : ℕ) → i ≤ length s.streams → NumberedFrom 0 (streams_in (streams_recorded s i))
  numbered-upto zero le = tt
  numbered-upto (suc i) le =
      let below : i < length s.streams = omega (arith, le) in
      let one = stream_recorded (archives_named s.book) i (channel_of i s.book) (slice_get s.streams i) in
      let upto = long i (omega (arith, le)) in
      subst (NumberedFrom 0)
      (ap (λ (l : List StreamFiles). streams_in (streams_recorded s i) ++ streams_in l) (sym (recorded-is s streams i below))
      ∙ sym (map-append (λ (f : StreamFiles). f.0) (streams_recorded s i) one))
      (numbered-push 0 (streams_in (streams_recorded s i)) (of_parts (streams i below).channel i) (numbered-upto i (omega (arith, le)))
      (omega (arith, upto)) (omega (arith, upto, below, few)))

  -- ---- their files

  module _ (t : Tree) (folder : List ℕ) where
    abbrev HasItsLeaves : Box → Type 0
    HasItsLeaves b = (name : List ℕ) → is_plain_name name ≡ true → t.file (file_path folder b.archive.name name) ≡ leaf_file name b.leaves

    files-recorded : (i : ℕ) (below : i < length s.streams) (k : ℕ) (archives : List Archive) (ps : List PartState)
        → AllByRecursion HasItsLeaves (map (box_of s) archives) → AreWithin k archives → k + length archives ≤ length s.book.archives
        → ((j : ℕ) (p : PartState) → slice_get ps j ≡ Some p → slice_get (all_parts (streams i below).stream.parts) (k + j) ≡ Some p)
        → HasFiles t folder (of_parts (streams i below).channel i) (zip (map (archive_named s.book) archives) (map (λ (p : PartState). p.packets) ps))
    files-recorded i below k [] ps has own le parts = tt
    files-recorded i below k (a ∷ archives) [] has own le parts = tt
    files-recorded i below k (a ∷ archives) (p ∷ ps) has own le parts =
        let within : a.id < length s.book.archives = omega (arith, own.0, le) in
        let its = part-of s streams a.id within i below in
        let place : k + 0 ≡ a.id = omega (arith, own.0) in
        let here : slice_get (all_parts (streams i below).stream.parts) a.id ≡ Some p =
        subst (λ (n : ℕ). slice_get (all_parts (streams i below).stream.parts) n ≡ Some p) place (parts 0 p refl) in
        let same : its.0 ≡ p = same-part its.0 p (sym its.1 ∙ here) in (
          has.0 (file_name (streams i below).channel i) (file-named (streams i below).channel i (streams i below).valid (omega (arith, below, small)))
              ∙ stream-found s streams a.id within small i below
              ∙ ap (λ (q : PartState). Some (file_of (packets_text q.packets) false)) same,
          files-recorded i below (k + 1) archives ps has.1 own.4 (omega (arith, le))
              (λ j q at.
              let next : k + suc j ≡ k + 1 + j = omega arith in
              subst (λ (n : ℕ). slice_get (all_parts (streams i below).stream.parts) n ≡ Some q) next (parts (suc j) q at)),
        )

    module _ (has : AllByRecursion HasItsLeaves (map (box_of s) s.book.archives)) (own : AreWithin 0 s.book.archives)
        (recorded : AreAllRecorded s) where
      one-stream : (i : ℕ) (below : i < length s.streams)
          → HasItsFiles t folder s.book.uuid (archives_named s.book) (of_parts (streams i below).channel i, recorded_of (archives_named s.book) (streams i below).stream)
      one-stream i below =
          let x = streams i below in
          let archives = archives_named s.book in
          let as-many = length-map s.book.archives (archive_named s.book) in
          let parts = length-map (all_parts x.stream.parts) (λ (p : PartState). p.packets) in
          let kept = recorded i x.stream x.at in
          record {
            each = first-of-zip archives (packets_by_part x.stream) (omega (arith, as-many, parts, x.parts));
            files = files-recorded i below 0 s.book.archives (all_parts x.stream.parts) has own (omega arith)
                (λ j p at. let same : j ≡ 0 + j = omega arith in subst (λ (n : ℕ). slice_get (all_parts x.stream.parts) n ≡ Some p) same at);
            packets =
                subst (λ (n : ℕ). AreRecorded s.book.uuid n (recorded_of archives x.stream)) x.number
                (subst (λ (u : List ℕ). AreRecorded u x.stream.config.number (recorded_of archives x.stream)) x.uuid kept);
          }

      pub files-upto : (i : ℕ) → i ≤ length s.streams
          → AllByRecursion (HasItsFiles t folder s.book.uuid (archives_named s.book)) (streams_recorded s i)
      files-upto zero le = tt
      files-upto (suc i) le =
          let below : i < length s.streams = omega (arith, le) in
          let P = HasItsFiles t folder s.book.uuid (archives_named s.book) in
          subst (λ (l : List StreamFiles). AllByRecursion P (streams_recorded s i ++ l)) (sym (recorded-is s streams i below))
          (all-push P (streams_recorded s i) _ (files-upto i (omega (arith, le))) (one-stream i below))

  -- ---- all of it

  module _ (own : AreWithin 0 s.book.archives) (chunk : ℕ) (chained : AreChained s.book.archives chunk) (read : IsReadSo s)
      (recorded : AreAllRecorded s) (none : HasItsArchives s) (t : Tree) (dir name : List ℕ) (named : is_name name ≡ true)
      (shows : Shows t dir (archives_made dir name s)) where
    stands : (first : Archive) (others : List Archive) → s.book.archives ≡ first ∷ others
        → StandsAlone t dir name (trace_state s.book.uuid s.book.events.events) (archives_named s.book) (streams_recorded s (length s.streams))
    stands first others is =
        let folder = archives_folder dir name in
        let boxes = map (box_of s) (first ∷ others) in
        let plain = name-plain name named in
        let its-name = name-named name named in
        let within : AreWithin 0 (first ∷ others) = subst (AreWithin 0) is own in
        let le : 0 + length (first ∷ others) ≤ length s.book.archives = let long = ap length is in omega (arith, long) in
        let seen : Shows t dir (boxes_made folder boxes) =
        subst (Shows t dir) (made-is dir name s none ∙ ap (λ (l : List Archive). boxes_made folder (map (box_of s) l)) is) shows in
        let are = are-boxes 0 (first ∷ others) within le in
        let numbered = subst (Numbers 0) (sym (named-in (first ∷ others))) (numbers s.book 0 (first ∷ others) within) in
        let same : archives_in boxes ≡ archives_named s.book =
        named-in (first ∷ others) ∙ ap (map (archive_named s.book)) (sym is) in
        let leaves = files-are t dir name (box_of s first) (map (box_of s) others) seen plain its-name are numbered in
        let files = files-upto t folder (subst (λ (l : List Archive). AllByRecursion (HasItsLeaves t folder) (map (box_of s) l)) (sym is) leaves) own recorded
        (length s.streams) (omega arith) in
        subst (λ (l : List Numbered). StandsAlone t dir name (trace_state s.book.uuid s.book.events.events) l (streams_recorded s (length s.streams))) same
        (subst (λ (es : List Event). StandsAlone t dir name (trace_state s.book.uuid es) (archives_in boxes) (streams_recorded s (length s.streams))) read.1
        (stands-alone t dir name (box_of s first) (map (box_of s) others) seen plain its-name are numbered s.book.uuid
        (metadata_with s.book.events s.book.uuid) (streams_recorded s (length s.streams)) read.0 named
        (subst (FollowEachOther 0) (sym (named-in (first ∷ others))) (follow s.book 0 (first ∷ others) chunk (subst (λ (l : List Archive). AreChained l chunk) is chained) within))
        (have-metadata 0 (first ∷ others) within le) (numbered-upto (length s.streams) (omega arith)) (have-all 0 (first ∷ others) within le)
        (subst (λ (l : List Numbered). AllByRecursion (HasItsFiles t folder s.book.uuid l) (streams_recorded s (length s.streams))) (sym same) files)))

    told-whole : (asked : Bool) (archives : List Archive) → s.book.archives ≡ archives → archives ≢ []
        → survey_of asked t dir ≡ told (session_recorded_text asked name s) (Faults 0)
    told-whole asked [] is some = absurd (some refl)
    told-whole asked (first ∷ others) is some =
        whole_is asked t dir name (trace_state s.book.uuid s.book.events.events) (archives_named s.book) (streams_recorded s (length s.streams)) (stands first others is)

-- a session whose streams are recorded without a fault
pub whole-recorded : (s : SessionOf StreamState) → IsBook s.book → s.book.begin ≤ LAST_MOMENT → IsOffset s.book.offset → (IsShort s.book.events s.book.uuid → IsReadSo s)
    → length s.book.archives ≤ 2 ^ 64 → length s.streams ≤ MOST_STREAMS → HasItsStreams s → AreAllRecorded s
    → (asked : Bool) (t : Tree) (dir name : List ℕ) → is_name name ≡ true → s.book.archives ≢ [] → HasItsArchives s
    → IsShort s.book.events s.book.uuid → Shows t dir (archives_made dir name s)
    → survey_of asked t dir ≡ told (session_recorded_text asked name s) (Faults 0)
whole-recorded s book begin offset read few streams its recorded asked t dir name named some none short shows =
    let more = archive_pending s.book.pending in
    let time = book-within s.book.archives more s.book.begin book.5.0 begin book.2.0 few in
    told-whole s (stream-at s its book.4) streams offset time.0 (first_begin more s.book.begin) time.1 (read short) recorded none t dir name named shows
    asked s.book.archives refl some

-- one whose streams keep what they took, none of which was released
module _ (s : SessionOf StreamState) (book : IsBook s.book) (its : HasItsStreams s)
    (keeps : (i : ℕ) (u : StreamState) → slice_get s.streams i ≡ Some u → Keeps u) (none : HasItsArchives s) where
  held-at : (i : ℕ) (u : StreamState) → slice_get s.streams i ≡ Some u → (j : ℕ) (p : PartState) → j < length s.book.archives
      → slice_get (all_parts u.parts) j ≡ Some p → p.released ≡ None
  held-at i u here j p within at =
      let a = some-at s.book.archives j within in
      part-held j i s u p (subst (λ (n : ℕ). archive_released by_state n s ≡ 0) (book.2.0 j a.0 a.1) (at-place (λ (b : Archive). archive_released by_state b.id s ≡ 0) s.book.archives j a.0 none a.1))
      here (part-is u.parts j ∙ at)

  held : (i : ℕ) (u : StreamState) → slice_get s.streams i ≡ Some u → (k : ℕ) → k ≤ length s.book.archives → NoneReleased k u
  held i u here k le =
      all-first (λ (p : PartState). p.released ≡ None) (all_parts u.parts) k
      (λ j p lt at. held-at i u here j p (omega (arith, lt, le)) at)

  all-recorded : AreAllRecorded s
  all-recorded i u here =
      let archives = archives_named s.book in
      let as-many = length-map s.book.archives (archive_named s.book) in
      let of = its.are i u here in
      let parts = length-append u.parts.closed (u.parts.current ∷ []) in
      keeps i u here archives (omega (arith, as-many, of.closed, parts)) (held i u here (length archives) (omega (arith, as-many)))

-- a session whose streams keep what they took
pub whole-session : (s : SessionOf StreamState) → IsBook s.book → s.book.begin ≤ LAST_MOMENT → IsOffset s.book.offset → (IsShort s.book.events s.book.uuid → IsReadSo s)
    → length s.book.archives ≤ 2 ^ 64 → length s.streams ≤ MOST_STREAMS → HasItsStreams s
    → ((i : ℕ) (u : StreamState) → slice_get s.streams i ≡ Some u → Keeps u)
    → (asked : Bool) (t : Tree) (dir name : List ℕ) → is_name name ≡ true → s.book.archives ≢ [] → HasItsArchives s
    → IsShort s.book.events s.book.uuid → Shows t dir (archives_made dir name s)
    → survey_of asked t dir ≡ told (session_recorded_text asked name s) (Faults 0)
whole-session s book begin offset read few streams its keeps asked t dir name named some none short shows =
    whole-recorded s book begin offset read few streams its (all-recorded s book its keeps none) asked t dir name named some none short shows

-- ---- without an archive

none-listed : (names : List (List ℕ)) → ((name : List ℕ) → is_listed name names ≡ false) → names ≡ []
none-listed [] none = refl
none-listed (x ∷ names) none =
    absurd (true≢false (ap (λ (b : Bool). b || is_listed x names) (sym (same-name x)) ∙ none x))

nothing-there : (asked : Bool) (t : Tree) (dir : List ℕ) → Shows t dir [] → survey_of asked t dir ≡ told [] NoSession
nothing-there asked t dir shows =
    let names : names_at t dir ≡ [] =
    ap (λ (b : Bool). cond b [] (unwrap_or (t.names dir) [])) (shows.seen [] tt) ∙ none-listed (unwrap_or (t.names dir) []) (shows.names [] tt) in
    ap (λ (b : Bool). cond b (told [] Unlisted) (ended_told (names_told asked t dir None (names_in_order (names_at t dir))))) (shows.seen [] tt)
    ∙ ap (λ (l : List (List ℕ)). ended_told (names_told asked t dir None (names_in_order l))) names

pub no-session : (s : SessionOf StreamState) (asked : Bool) (t : Tree) (dir name : List ℕ) → s.book.archives ≡ []
    → Shows t dir (archives_made dir name s) → survey_of asked t dir ≡ told [] NoSession
no-session s asked t dir name none shows =
    nothing-there asked t dir (subst (Shows t dir) (ap (flat_map (archive_made dir name s)) none) shows)
