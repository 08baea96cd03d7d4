-- What is written of a session at several times shows what would be written of it had nothing been released.
use Rattle.std.proofs.Common.{◌≡◌, ◌∙◌, ◌<◌, ◌≤◌, ◌+◌, ◌-◌, ◌⊎◌, ⊎_elim, inl, inr, ℕ, zero, suc, Bool, false, cond, refl, sym, ap, subst, arith, List, [], ◌∷◌, ◌++◌, length, Option, Some, slice_get, append-nil, append_assoc, length-append, ℤ, map, None}
use Rattle.std.proofs.lemmas.Bool.{cases_lt}
use Rattle.std.proofs.lemmas.Bool.Decides.{nat_tests}
use Rattle.std.proofs.lemmas.Grind.{flat_map-append}
use Rattle.std.proofs.lemmas.Option.{slice_get_within}
use Rattle.std.specs.List.{AllByRecursion, flat_map, last_or}
use Rattle.std.specs.Prelude.{codes, nat_eq, option_and_then, option_map}
use Rattle.tr_chunk.specs.ArchiveName.{archive_name_text}
use Rattle.tr_export.proofs.HeldLemmas.{part-held}
use Rattle.tr_export.specs.Archives.{archive_made, archives_made, chunk_made, metadata_file, part_file, part_of_stream, stream_file, stream_files}
use Rattle.tr_export.specs.Making.{Makings}
use Rattle.tr_export.specs.Paths as export
use Rattle.tr_export.specs.declared.made.Made.TheVariants as made
use Rattle.tr_metadata.specs.Metadata.{metadata_with}
use Rattle.tr_events.specs.Events.{Declarations}
use Rattle.tr_recorded.proofs.AlikeLemmas.{AreAlike, IsOnlyFile, MadeAgain, again-alike, alike-front, alike-further, alike-same, only-file}
use Rattle.tr_recorded.proofs.BoxLemmas.{Box, IsBox, box_made, boxes_made}
use Rattle.tr_recorded.proofs.LeafLemmas.{StreamAt, box_of, some-at, stream-at}
use Rattle.tr_recorded.proofs.MadeLemmas.{archive-made, made-is}
use Rattle.tr_recorded.proofs.OrderLemmas.{Numbers}
use Rattle.tr_recorded.proofs.RestoredLemmas.{first-restored}
use Rattle.tr_recorded.proofs.RestoredSessionLemmas.{AreLong, AreRestored, IsNext, all-at, all-long, as-many, closed-at, first-all, get-past, many-restored, next-all, none-released, own-archives, own-streams, parts-before, parts-held, parts-now}
use Rattle.tr_recorded.proofs.SessionLemmas.{are-boxes, at-place, named-in}
use Rattle.tr_recorded.proofs.StoredLemmas.{IsStored, all-stored}
use Rattle.tr_recorded.proofs.TimeLemmas.{AreWithin, numbers}
use Rattle.tr_recorded.specs.Made.{file_made}
use Rattle.tr_recorded.specs.Recorded.{HasItsArchives}
use Rattle.tr_recorded.specs.Written.{AreLaterStreams, AreWritten, IsLater, IsSession, IsWrittenNext, all_made, all_restored, restored, streams_restored}
use Rattle.tr_session.specs.Session.{SessionOf}
use Rattle.tr_session.specs.Sizes.{archive_released}
use Rattle.tr_session_book.specs.BookSteps.{channel_of}
use Rattle.tr_session_book.specs.declared.archive.Archive.{Archive}
use Rattle.tr_session_book.specs.declared.channel.Channel.{Channel}
use Rattle.tr_stream.specs.Rules.{by_state}
use Rattle.tr_stream.specs.State.{StreamState}
use Rattle.tr_survey.specs.Paths.{archives_folder}
use Rattle.tr_terms.specs.Offsets.{IsOffset}
use Rattle.tr_terms.specs.declared.limits.TheConstants.{MOST_STREAMS}

-- ---- lists

flat-same : {X Y : Type 0} (f g : X → List Y) (xs : List X) → AllByRecursion (λ (x : X). f x ≡ g x) xs → flat_map f xs ≡ flat_map g xs
flat-same f g [] same = refl
flat-same {Y = Y} f g (x ∷ xs) same =
    ap (λ (l : List Y). l ++ flat_map f xs) same.0 ∙ ap (λ (l : List Y). g x ++ l) (flat-same f g xs same.1)

-- ---- limits

-- archives, clock and number of streams within their limits
pub record IsLimited (s : SessionOf StreamState) : Type 0 where
  pub own : AreWithin 0 s.book.archives
  pub offset : IsOffset s.book.offset
  pub few : length s.streams ≤ MOST_STREAMS

within-front : (k : ℕ) (xs ys : List Archive) → AreWithin k (xs ++ ys) → AreWithin k xs
within-front k [] ys own = tt
within-front k (a ∷ xs) ys own = (own.0, own.1, own.2, own.3, within-front (k + 1) xs ys own.4)

later-many : (ss us : List StreamState) → AreLaterStreams ss us → length us ≡ length ss
later-many [] [] later = refl
later-many [] (u ∷ us) later = absurd later
later-many (s ∷ ss) [] later = absurd later
later-many (s ∷ ss) (u ∷ us) later = ap suc (later-many ss us later.1)

same-session : (s now : SessionOf StreamState) → Some s ≡ Some now → s ≡ now
same-session s now e = cc

-- those of the last value are those of each
limited : (s : SessionOf StreamState) (more : List (SessionOf StreamState)) (now : SessionOf StreamState) → AreWritten s more
    → last_or (Some s) more ≡ Some now → IsLimited now → IsLimited s
limited s [] now written last is = subst IsLimited (sym (same-session s now last)) is
limited s (w ∷ more) now written last is =
    let l = limited w more now written.1 last is in
    let later = written.0.later in
    let many = later-many s.streams w.streams later.streams in
    record {
      own = within-front 0 s.book.archives later.more (subst (AreWithin 0) later.archives l.own);
      offset = subst IsOffset later.offset l.offset;
      few = omega (arith, many, l.few);
    }

-- ---- what is made of an archive

module _ (s u : SessionOf StreamState) (j : ℕ) (many : length s.streams ≡ length u.streams) (uuid : s.book.uuid ≡ u.book.uuid)
    (events : s.book.events ≡ u.book.events) (channels : s.book.channels ≡ u.book.channels) (threads : s.book.threads ≡ u.book.threads)
    (parts : (i : ℕ) → part_of_stream i j s ≡ part_of_stream i j u) where
  same-channel : (i : ℕ) → channel_of i s.book ≡ channel_of i u.book
  same-channel i =
      ap (λ (cs : List (List ℕ × Channel)). option_and_then (λ place. option_map (λ (c : List ℕ × Channel). c.0) (slice_get cs place))
      (slice_get s.book.threads i)) channels
      ∙ ap (λ (ts : List ℕ). option_and_then (λ place. option_map (λ (c : List ℕ × Channel). c.0) (slice_get u.book.channels place))
      (slice_get ts i)) threads

  same-file : (folder : List ℕ) (i : ℕ) → stream_file folder j s i ≡ stream_file folder j u i
  same-file folder i =
      ap (λ (c : Option (List ℕ)). part_file folder i c (part_of_stream i j s)) (same-channel i)
      ∙ ap (part_file folder i (channel_of i u.book)) (parts i)

  same-files : (folder : List ℕ) (i : ℕ) → stream_files folder j s i ≡ stream_files folder j u i
  same-files folder zero = refl
  same-files folder (suc i) =
      ap (λ (m : Makings). m ++ stream_file folder j s i) (same-files folder i)
      ∙ ap (λ (m : Makings). stream_files folder j u i ++ m) (same-file folder i)

  same-metadata : (folder : List ℕ) → metadata_file folder s ≡ metadata_file folder u
  same-metadata folder =
      ap (λ (e : Declarations). (made.File (export.path_of folder (codes "metadata")) (metadata_with e s.book.uuid)) ∷ []) events
      ∙ ap (λ (l : List ℕ). (made.File (export.path_of folder (codes "metadata")) (metadata_with u.book.events l)) ∷ []) uuid

  same-chunk : (folder : List ℕ) → chunk_made folder j s ≡ chunk_made folder j u
  same-chunk folder =
      ap (λ (n : ℕ). made.Folder folder ∷ (stream_files folder j s n ++ metadata_file folder s)) many
      ∙ ap (λ (m : Makings). made.Folder folder ∷ (m ++ metadata_file folder s)) (same-files folder (length u.streams))
      ∙ ap (λ (m : Makings). made.Folder folder ∷ (stream_files folder j u (length u.streams) ++ m)) (same-metadata folder)

module _ (dir name : List ℕ) where
  made-held : (s : SessionOf StreamState) (a : Archive) → archive_released by_state a.id s ≡ 0
      → archive_made dir name s a ≡ chunk_made (export.folder_of dir name (archive_name_text a.begin a.end s.book.offset a.id)) a.id s
  made-held s a none =
      ap (λ (n : ℕ). cond (nat_eq n 0) (chunk_made (export.folder_of dir name (archive_name_text a.begin a.end s.book.offset a.id)) a.id s) [])
      none

  some-released : (n : ℕ) → 0 < n → nat_eq n 0 ≡ false
  some-released n lt = grind (arith, nat_tests, lt)

  made-released : (s : SessionOf StreamState) (a : Archive) → 0 < archive_released by_state a.id s → archive_made dir name s a ≡ []
  made-released s a some =
      ap (λ (b : Bool). cond b (chunk_made (export.folder_of dir name (archive_name_text a.begin a.end s.book.offset a.id)) a.id s) [])
      (some-released (archive_released by_state a.id s) some)

  -- ---- one more write

  module _ (s : SessionOf StreamState) (us : List StreamState) (w : SessionOf StreamState)
      (are : AreRestored (length s.book.archives) s.streams us) (session : IsSession s) (limits : IsLimited s) (next : IsWrittenNext s w) where
    abbrev k : ℕ
    k = length s.book.archives

    abbrev n : ℕ
    n = length w.book.archives

    abbrev later : IsLater s w
    later = next.later

    abbrev r : SessionOf StreamState
    r = record s { streams = us }

    abbrev all : SessionOf StreamState
    all = restored r w

    longer : n ≡ k + length later.more
    longer = ap length later.archives ∙ length-append s.book.archives later.more

    own-id : (j : ℕ) (a : Archive) → slice_get s.book.archives j ≡ Some a → a.id ≡ j
    own-id = session.book.2.0

    more-id : (j : ℕ) (a : Archive) → slice_get later.more j ≡ Some a → a.id ≡ k + j
    more-id j a at =
        next.session.book.2.0 (k + j) a
        (ap (λ (l : List Archive). slice_get l (k + j)) later.archives ∙ get-past s.book.archives later.more j ∙ at)

    more-at : (j : ℕ) → k ≤ j → j < n → (a : Archive) × (slice_get later.more (j - k) ≡ Some a)
    more-at j past lt = some-at later.more (j - k) (omega (arith, past, lt, longer))

    is-next : (i : ℕ) (t : StreamState) → slice_get w.streams i ≡ Some t → IsNext k n t
    is-next i t at =
        let of = next.session.streams.are i t at in
        let long : n ≤ length t.parts.closed = omega (arith, of.closed) in
        record {
          kept = next.session.kept i t at;
          within = long;
          held = λ j p past lt here.
              let a = more-at j past lt in
              let own = more-id (j - k) a.0 a.1 in
              let id : a.0.id ≡ j = omega (arith, own, past) in
              part-held j i w t p
              (subst (λ (m : ℕ). archive_released by_state m w ≡ 0) id
              (at-place (λ (b : Archive). archive_released by_state b.id w ≡ 0) later.more (j - k) a.0 next.held a.1))
              at (closed-at t.parts j (omega (arith, lt, long)) ∙ here);
        }

    pub are-next : AreRestored n w.streams (streams_restored k us w.streams)
    are-next = next-all k n (omega (arith, longer)) s.streams us w.streams are later.streams is-next

    long-next : AreLong k us w.streams
    long-next = all-long k n (omega (arith, longer)) s.streams us w.streams are later.streams is-next

    -- an archive that was there before
    made-before : (j : ℕ) (a : Archive) → slice_get s.book.archives j ≡ Some a → archive_made dir name all a ≡ archive_made dir name r a
    made-before j a at =
        let id = own-id j a at in
        let place = slice_get_within s.book.archives j a at in
        let within : a.id < k = omega (arith, id, place) in
        made-held all a (none-released n a.id (omega (arith, within, longer)) w.streams (streams_restored k us w.streams) are-next)
        ∙ ap (λ (o : ℤ). chunk_made (export.folder_of dir name (archive_name_text a.begin a.end o a.id)) a.id all) later.offset
        ∙ same-chunk all r a.id (many-restored k us w.streams long-next).0 later.uuid later.events later.channels later.threads
        (parts-before k a.id within us w.streams long-next)
        (export.folder_of dir name (archive_name_text a.begin a.end s.book.offset a.id))
        ∙ sym (made-held r a (none-released k a.id within s.streams us are))

    -- one that was made since
    made-since : (j : ℕ) (a : Archive) → slice_get later.more j ≡ Some a → archive_made dir name all a ≡ archive_made dir name w a
    made-since j a at =
        let id = more-id j a at in
        let place = slice_get_within later.more j a at in
        made-held all a (none-released n a.id (omega (arith, id, place, longer)) w.streams (streams_restored k us w.streams) are-next)
        ∙ same-chunk all w a.id (many-restored k us w.streams long-next).1 refl refl refl refl
        (parts-now k a.id (omega (arith, id)) us w.streams long-next)
        (export.folder_of dir name (archive_name_text a.begin a.end w.book.offset a.id))
        ∙ sym (made-held w a (at-place (λ (b : Archive). archive_released by_state b.id w ≡ 0) later.more j a next.held at))

    -- one that is written once more, with all its parts, is as it was
    made-again : (j : ℕ) (a : Archive) → slice_get s.book.archives j ≡ Some a
        → (archive_made dir name w a ≡ []) ⊎ (archive_made dir name w a ≡ archive_made dir name r a)
    made-again j a at =
        ⊎_elim (λ (some : 0 < archive_released by_state a.id w). inl (made-released w a some))
        (λ (none : archive_released by_state a.id w ≤ 0).
        let held : archive_released by_state a.id w ≡ 0 = omega (arith, none) in
        let id = own-id j a at in
        let place = slice_get_within s.book.archives j a at in
        let within : a.id < n = omega (arith, id, place, longer) in
        let put-back = streams_restored k us w.streams in
        inr
        (made-held w a held
        ∙ sym (same-chunk all w a.id (many-restored k us w.streams long-next).1 refl refl refl refl
        (parts-held n a.id within w.streams put-back are-next
        (λ i t p here part.
        let long = (is-next i t here).within in
        part-held a.id i w t p held here (closed-at t.parts a.id (omega (arith, within, long)) ∙ part)))
        (export.folder_of dir name (archive_name_text a.begin a.end w.book.offset a.id)))
        ∙ sym (made-held all a (none-released n a.id within w.streams put-back are-next))
        ∙ made-before j a at))
        (cases_lt 0 (archive_released by_state a.id w))

    -- ---- files beside each other

    none-of-first : HasItsArchives r
    none-of-first = own-archives s us are session.book.2

    at-first : (i : ℕ) → i < length us → StreamAt r i
    at-first = stream-at r (own-streams s us are session.streams) session.book.4

    abbrev folder : List ℕ
    folder = archives_folder dir name

    abbrev boxes : List Box
    boxes = map (box_of r) s.book.archives

    few-first : length us ≤ MOST_STREAMS
    few-first = let many = as-many k s.streams us are in omega (arith, many, limits.few)

    boxes-are : AllByRecursion IsBox boxes
    boxes-are = are-boxes r at-first few-first limits.offset 0 s.book.archives limits.own (omega arith)

    boxes-stored : AllByRecursion (IsStored folder (boxes_made folder boxes)) boxes
    boxes-stored =
        all-stored folder [] boxes tt boxes-are
        (subst (Numbers 0) (sym (named-in r at-first few-first limits.offset s.book.archives)) (numbers s.book 0 s.book.archives limits.own))

    only-here : (path : List ℕ) (archives : List Archive) → AllByRecursion IsBox (map (box_of r) archives)
        → AllByRecursion (IsStored folder (boxes_made folder boxes)) (map (box_of r) archives)
        → AllByRecursion (λ (a : Archive). archive_released by_state a.id r ≡ 0) archives
        → AllByRecursion (IsOnlyFile (archive_made dir name r) (archive_made dir name w) s.book.archives path) archives
    only-here path [] is stored none = tt
    only-here path (a ∷ archives) is stored none =
        let this = archive-made dir name r a none.0 in
        let whole = made-is dir name r none-of-first in (
          subst (λ (m : Makings). (file_made path m ≡ None) ⊎ (file_made path m ≡ file_made path (archives_made dir name r))) (sym this)
              (subst (λ (m : Makings). (file_made path (box_made folder (box_of r a)) ≡ None) ⊎ (file_made path (box_made folder (box_of r a)) ≡ file_made path m)) (sym whole)
              (only-file folder path (boxes_made folder boxes) (box_of r a) is.0 stored.0)),
          only-here path archives is.1 stored.1 none.1,
        )

    split : (f : Archive → Makings) → flat_map f w.book.archives ≡ flat_map f s.book.archives ++ flat_map f later.more
    split f = ap (flat_map f) later.archives ∙ flat_map-append f s.book.archives later.more

    pub both-alike : AreAlike (archives_made dir name r ++ archives_made dir name w) (archives_made dir name all)
    both-alike =
        let f = archive_made dir name r in
        let g = archive_made dir name w in
        let h = archive_made dir name all in
        let since = flat_map g later.more in
        let whole : archives_made dir name all ≡ archives_made dir name r ++ since =
        split h
        ∙ ap (λ (m : Makings). m ++ flat_map h later.more)
        (flat-same h f s.book.archives (all-at (λ (a : Archive). h a ≡ f a) s.book.archives made-before))
        ∙ ap (λ (m : Makings). archives_made dir name r ++ m)
        (flat-same h g later.more (all-at (λ (a : Archive). h a ≡ g a) later.more made-since)) in
        alike-further (archives_made dir name r ++ archives_made dir name w) (archives_made dir name r ++ (flat_map g s.book.archives ++ since)) (archives_made dir name all)
        (alike-same _ _ (ap (λ (m : Makings). archives_made dir name r ++ m) (split g)))
        (alike-further (archives_made dir name r ++ (flat_map g s.book.archives ++ since)) (archives_made dir name r ++ since) (archives_made dir name all)
        (again-alike f g s.book.archives since (all-at (MadeAgain f g) s.book.archives made-again)
        (λ path. only-here path s.book.archives boxes-are boxes-stored none-of-first))
        (alike-same _ _ (sym whole)))

  -- ---- all writes

  -- what is made shows what would be made of the last value, had nothing been released
  pub record Ends (all-of-it : Makings) (r now : SessionOf StreamState) : Type 0 where
    pub streams : List StreamState
    pub is : r ≡ record now { streams = streams }
    pub are : AreRestored (length now.book.archives) now.streams streams
    pub made : AreAlike all-of-it (archives_made dir name (record now { streams = streams }))

  module _ (now : SessionOf StreamState) (limits : IsLimited now) where
    ends : (s : SessionOf StreamState) (us : List StreamState) (more : List (SessionOf StreamState))
        → AreRestored (length s.book.archives) s.streams us → IsSession s → AreWritten s more → last_or (Some s) more ≡ Some now
        → Ends (archives_made dir name (record s { streams = us }) ++ all_made dir name more) (all_restored (record s { streams = us }) more) now
    ends s us [] are session written last =
        let first = archives_made dir name (record s { streams = us }) in
        subst (Ends (first ++ []) (record s { streams = us })) (same-session s now last)
        (record { streams = us; is = refl; are = are; made = alike-same (first ++ []) first (append-nil first) })
    ends s us (w ∷ more) are session written last =
        let k = length s.book.archives in
        let own = limited s (w ∷ more) now written last limits in
        let put-back = streams_restored k us w.streams in
        let e = ends w put-back more (are-next s us w are session own written.0) written.0.session written.1 last in
        let first = archives_made dir name (record s { streams = us }) in
        let second = archives_made dir name w in
        let both = archives_made dir name (record w { streams = put-back }) in
        let rest = all_made dir name more in
        record {
          streams = e.streams;
          is = e.is;
          are = e.are;
          made = alike-further (first ++ (second ++ rest)) ((first ++ second) ++ rest) (archives_made dir name (record now { streams = e.streams }))
              (alike-same _ _ (sym (append_assoc first second rest)))
              (alike-further ((first ++ second) ++ rest) (both ++ rest) (archives_made dir name (record now { streams = e.streams }))
              (alike-front (first ++ second) both rest (both-alike s us w are session own written.0))
              e.made);
        }

    first-are : (s : SessionOf StreamState) → IsSession s → HasItsArchives s → AreRestored (length s.book.archives) s.streams s.streams
    first-are s session none =
        let k = length s.book.archives in
        first-all k s.streams
        (λ i t at.
        let of = session.streams.are i t at in
        let long : k ≤ length t.parts.closed = omega (arith, of.closed) in
        first-restored k t (session.kept i t at) long
        (λ j p past lt here.
        let a = some-at s.book.archives j lt in
        part-held j i s t p
        (subst (λ (m : ℕ). archive_released by_state m s ≡ 0) (session.book.2.0 j a.0 a.1)
        (at-place (λ (b : Archive). archive_released by_state b.id s ≡ 0) s.book.archives j a.0 none a.1))
        at (closed-at t.parts j (omega (arith, lt, long)) ∙ here)))

    pub all-end : (first : SessionOf StreamState) (more : List (SessionOf StreamState)) → IsSession first → HasItsArchives first
        → AreWritten first more → last_or (Some first) more ≡ Some now
        → Ends (all_made dir name (first ∷ more)) (all_restored first more) now
    all-end first more session none written last = ends first first.streams more (first-are first session none) session written last
