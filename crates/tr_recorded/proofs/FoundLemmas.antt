-- The archive of packets that were found in an image is what a survey finds nothing wrong with.
use Rattle.std.proofs.Common.{◌≡◌, ◌≢◌, ◌∙◌, ◌+◌, ◌-◌, ◌<◌, ◌≤◌, ◌==◌, ℕ, zero, suc, Bool, true, false, cond, eqb, refl, sym, ap, subst, arith, List, [], ◌∷◌, ◌++◌, length, map, append-nil, append_assoc, lt-ltb, Option, Some, None, rules}
use Rattle.std.proofs.lemmas.Bool.Decides.{Decides-eqb}
use Rattle.std.proofs.lemmas.Grind.{common_steps}
use Rattle.std.proofs.lemmas.List.{map-append}
use Rattle.std.specs.Cmp.Lexicographic.{pointwise}
use Rattle.std.specs.List.{AllByRecursion, cons_option, filter_map}
use Rattle.std.specs.Option.{option_or}
use Rattle.std.specs.Prelude.{codes, nat_lt, pos}
use Rattle.tr_chunk.specs.Audit.{AreOfStream, capped_count}
use Rattle.tr_chunk.specs.Files.{file_name, packets_text}
use Rattle.tr_export.specs.Making.{Makings}
use Rattle.tr_export.specs.Paths as export
use Rattle.tr_export.specs.declared.made.Made.TheVariants as made
use Rattle.tr_folders.specs.Kept.{file_of}
use Rattle.tr_folders.specs.Tree.{File, Tree}
use Rattle.tr_image.specs.Kept.{AreInOrder, comes_before}
use Rattle.tr_packet.proofs.OrderLemmas.{in_order-within, moments_hold_says}
use Rattle.tr_packet.specs.Packets.{Contents, IsPacket}
use Rattle.tr_recorded.proofs.BelowLemmas.{HasNoSlash, same-name}
use Rattle.tr_recorded.proofs.BoxLemmas.{Box, IsBox, Leaf, boxes_made, leaf_made}
use Rattle.tr_recorded.proofs.FolderLemmas.{files-are, stands-alone}
use Rattle.tr_recorded.proofs.LeafLemmas.{differ, leaves-append, none-some, number-is}
use Rattle.tr_recorded.proofs.PathLemmas.{file_is, folder_is}
use Rattle.tr_recorded.proofs.PlainLemmas.{archive-plain, file-named, file-plain, name-plain}
use Rattle.tr_recorded.proofs.StoredLemmas.{leaf_file}
use Rattle.tr_recorded.specs.Found.{AreOfTrace, ArePassed, found_archive, found_files, found_recorded_text}
use Rattle.tr_recorded.specs.Made.{Shows, is_plain_name}
use Rattle.tr_recover.specs.Archive.{StreamPackets, earliest, empty_streams, files_made, latest, led_by, next_stream, part_streams, parted, parts_streams, recovered_made, streams_below, streams_found}
use Rattle.tr_survey.proofs.FileNameLemmas.{file_is_of_stream}
use Rattle.tr_survey.proofs.SessionLemmas.{whole_is}
use Rattle.tr_survey.proofs.StampLemmas.{archive_is_of_number}
use Rattle.tr_survey.specs.Metadata.{naming_in}
use Rattle.tr_survey.specs.Names.{of_parts, stream_named}
use Rattle.tr_survey.specs.Order.{Numbered}
use Rattle.tr_survey.specs.Paths.{archives_folder, file_path, path_of}
use Rattle.tr_survey.specs.Sessions.{survey_of}
use Rattle.tr_survey.specs.Told.{told}
use Rattle.tr_survey.specs.Whole.{HasItsFiles, LossesStay, NumberedFrom, streams_in}
use Rattle.tr_survey.specs.declared.faults.Surveyed.TheVariants.{Faults}
use Rattle.tr_survey.specs.declared.naming.Naming.TheVariants.{Named}
use Rattle.tr_survey.specs.Declaring.{events_in}
use Rattle.tr_survey.specs.Streams.{trace_state}
use Rattle.tr_terms.specs.declared.limits.TheConstants.{LAST_MOMENT, MOST_STREAMS}

-- ---- streams in order

-- each part's stream is above the one before, and one that a session can have
abbrev Rise : ℕ → List (List Contents) → Type 0
Rise low [] = Unit {0}
Rise low ([] ∷ parts) = ⊥
Rise low ((p ∷ ps) ∷ parts) = (low ≤ p.head.stream) × (p.head.stream < MOST_STREAMS) × Rise (p.head.stream + 1) parts

-- parts that begin with this packet
abbrev Begins : Contents → List (List Contents) → Type 0
Begins p parts = (own : List Contents) × (others : List (List Contents)) × (parts ≡ (p ∷ own) ∷ others)

begins : (p : Contents) (ps : List Contents) → Begins p (parted (p ∷ ps))
begins p ps = led (parted ps)
  where
    joined : (b : Bool) (q : Contents) (qs : List Contents) (parts : List (List Contents))
        → Begins p (cond b ((p ∷ q ∷ qs) ∷ parts) ((p ∷ []) ∷ (q ∷ qs) ∷ parts))
    joined true q qs parts = (q ∷ qs, parts, refl)
    joined false q qs parts = ([], (q ∷ qs) ∷ parts, refl)

    led : (parts : List (List Contents)) → Begins p (led_by p parts)
    led [] = ([], [], refl)
    led ([] ∷ parts) = ([], parts, refl)
    led ((q ∷ qs) ∷ parts) = joined (p.head.stream == q.head.stream) q qs parts

-- a packet that comes before another is of its stream, or of one below it
above : (p q : Contents) → comes_before p q ≡ true → p.head.stream ≤ q.head.stream
above p q before = grind (arith, common_steps, before)

rise : (low : ℕ) (p : Contents) (ps : List Contents) → low ≤ p.head.stream → AreInOrder (p ∷ ps)
    → AllByRecursion (λ (x : Contents). x.head.stream < MOST_STREAMS) (p ∷ ps) → Rise low (parted (p ∷ ps))
rise low p [] le order within = (le, within.0, tt)
rise low p (q ∷ ps) le order within =
    let more = rise q.head.stream q ps (omega arith) order.1 within.1 in
    let its = begins q ps in
    let up = above p q order.0.0 in
    subst (λ (parts : List (List Contents)). Rise low (led_by p parts)) (sym its.2)
    (by_stream its.0 its.1 (subst (Rise q.head.stream) its.2 more) up (p.head.stream == q.head.stream) refl)
  where
    by_stream : (own : List Contents) (others : List (List Contents)) → Rise q.head.stream ((q ∷ own) ∷ others) → p.head.stream ≤ q.head.stream
        → (b : Bool) → (p.head.stream == q.head.stream) ≡ b → Rise low (cond b ((p ∷ q ∷ own) ∷ others) ((p ∷ []) ∷ (q ∷ own) ∷ others))
    by_stream own others more up true same =
        let is : q.head.stream ≡ p.head.stream = sym ((Decides-eqb p.head.stream q.head.stream).0 same) in
        (le, within.0, subst (λ (n : ℕ). Rise (n + 1) others) is more.2)
    by_stream own others more up false apart =
        let not : p.head.stream ≢ q.head.stream = λ e. grind (arith, common_steps, e, apart) in
        (le, within.0, (omega (arith, up, not), more.1, more.2))

-- streams count up from a number, and a session can have each of them
abbrev Count : ℕ → List StreamPackets → Type 0
Count k [] = Unit {0}
Count k (s ∷ streams) = (s.0 ≡ k) × (k < MOST_STREAMS) × Count (k + 1) streams

count-append : (k m : ℕ) (xs ys : List StreamPackets) → k + length xs ≡ m → Count k xs → Count m ys → Count k (xs ++ ys)
count-append k m [] ys long first more = let same : m ≡ k = omega (arith, long) in subst (λ (n : ℕ). Count n ys) same more
count-append k m (x ∷ xs) ys long first more =
    (first.0, first.1, count-append (k + 1) m xs ys (omega (arith, long)) first.2 more)

count-empty : (k n : ℕ) → k + n < MOST_STREAMS → Count k (empty_streams k n)
count-empty k zero few = tt
count-empty k (suc n) few = (refl, omega (arith, few), count-empty (k + 1) n (omega (arith, few)))

long-empty : (k n : ℕ) → length (empty_streams k n) ≡ n
long-empty k zero = refl
long-empty k (suc n) = ap suc (long-empty (k + 1) n)

below-is : (low stream : ℕ) → stream < MOST_STREAMS → streams_below low stream ≡ empty_streams low (stream - low)
below-is low stream lt = ap (λ (b : Bool). cond b (empty_streams low (stream - low)) []) (lt-ltb stream MOST_STREAMS lt)

part-counts : (low : ℕ) (p : Contents) (ps : List Contents) (rest : List StreamPackets) → low ≤ p.head.stream → p.head.stream < MOST_STREAMS
    → Count (p.head.stream + 1) rest → Count low (part_streams low (p ∷ ps) ++ rest)
part-counts low p ps rest le lt more =
    let n = p.head.stream - low in
    let long = long-empty low n in
    subst (λ (l : List StreamPackets). Count low (l ++ rest))
    (ap (λ (l : List StreamPackets). l ++ (p.head.stream, p ∷ ps) ∷ []) (sym (below-is low p.head.stream lt)))
    (subst (Count low) (sym (append_assoc (empty_streams low n) ((p.head.stream, p ∷ ps) ∷ []) rest))
    (count-append low p.head.stream (empty_streams low n) ((p.head.stream, p ∷ ps) ∷ rest) (omega (arith, long, le))
    (count-empty low n (omega (arith, le, lt))) (refl, lt, more)))

capped-is : (n : ℕ) → n < MOST_STREAMS → capped_count (n + 1) ≡ n + 1
capped-is n lt = grind (arith, common_steps, lt)

counts : (low : ℕ) (parts : List (List Contents)) → Rise low parts → Count low (parts_streams low parts)
counts low [] up = tt
counts low ([] ∷ parts) up = absurd up
counts low ((p ∷ ps) ∷ parts) up =
    part-counts low p ps (parts_streams (capped_count (p.head.stream + 1)) parts) up.0 up.1
    (subst (λ (n : ℕ). Count (p.head.stream + 1) (parts_streams n parts)) (sym (capped-is p.head.stream up.1)) (counts (p.head.stream + 1) parts up.2))

-- ---- what each has

-- packets of a stream, or none
abbrev Passes : List ℕ → StreamPackets → Type 0
Passes uuid s = AreOfStream uuid s.0 s.1 × LossesStay 0 s.1

both : {X : Type 0} (P : X → Type 0) (xs ys : List X) → AllByRecursion P xs → AllByRecursion P ys → AllByRecursion P (xs ++ ys)
both P [] ys a b = b
both P (x ∷ xs) ys a b = (a.0, both P xs ys a.1 b)

none-passes : (uuid : List ℕ) (n : ℕ) → Passes uuid (n, [])
none-passes uuid n = (record { packets = tt; belong = tt; numbers = refl; serials = refl }, tt)

empty-pass : (uuid : List ℕ) (k n : ℕ) → AllByRecursion (Passes uuid) (empty_streams k n)
empty-pass uuid k zero = tt
empty-pass uuid k (suc n) = (none-passes uuid k, empty-pass uuid (k + 1) n)

below-pass : (uuid : List ℕ) (low stream : ℕ) → AllByRecursion (Passes uuid) (streams_below low stream)
below-pass uuid low stream = go (nat_lt stream MOST_STREAMS)
  where
    go : (b : Bool) → AllByRecursion (Passes uuid) (cond b (empty_streams low (stream - low)) [])
    go true = empty-pass uuid low (stream - low)
    go false = tt

all-pass : (uuid : List ℕ) (low : ℕ) (parts : List (List Contents)) → AllByRecursion (ArePassed uuid) parts → AllByRecursion (Passes uuid) (parts_streams low parts)
all-pass uuid low [] are = tt
all-pass uuid low ([] ∷ parts) are = all-pass uuid low parts are.1
all-pass uuid low ((p ∷ ps) ∷ parts) are =
    both (Passes uuid) (part_streams low (p ∷ ps)) (parts_streams (next_stream low (p ∷ ps)) parts)
    (both (Passes uuid) (streams_below low p.head.stream) ((p.head.stream, p ∷ ps) ∷ []) (below-pass uuid low p.head.stream) (are.0, tt))
    (all-pass uuid (next_stream low (p ∷ ps)) parts are.1)

-- ---- moments

-- begin and end are within the limit
abbrev Timely : Contents → Type 0
Timely p = (p.head.begin ≤ LAST_MOMENT) × (p.head.end ≤ LAST_MOMENT)

timely : (p : Contents) → IsPacket p → Timely p
timely p is =
    let hold = moments_hold_says p.head.begin p.head.end p.records is.records.moments in
    let le = in_order-within p.head.begin p.head.end p.records hold.order in (omega (arith, le, hold.limit), hold.limit)

all-timely : (ps : List Contents) → AllByRecursion IsPacket ps → AllByRecursion Timely ps
all-timely [] are = tt
all-timely (p ∷ ps) are = (timely p are.0, all-timely ps are.1)

parts-timely : (uuid : List ℕ) (parts : List (List Contents)) → AllByRecursion (ArePassed uuid) parts → AllByRecursion (AllByRecursion Timely) parts
parts-timely uuid [] are = tt
parts-timely uuid ([] ∷ parts) are = (tt, parts-timely uuid parts are.1)
parts-timely uuid ((p ∷ ps) ∷ parts) are = (all-timely (p ∷ ps) are.0.0.packets, parts-timely uuid parts are.1)

-- what holds of all packets in parts holds of all
in-parts : (P : Contents → Type 0) (ps : List Contents) → AllByRecursion (AllByRecursion P) (parted ps) → AllByRecursion P ps
in-parts P [] are = tt
in-parts P (p ∷ ps) are = let its = led (parted ps) are in (its.0, in-parts P ps its.1)
  where
    joined : (b : Bool) (q : Contents) (qs : List Contents) (parts : List (List Contents))
        → AllByRecursion (AllByRecursion P) (cond b ((p ∷ q ∷ qs) ∷ parts) ((p ∷ []) ∷ (q ∷ qs) ∷ parts))
        → P p × AllByRecursion (AllByRecursion P) ((q ∷ qs) ∷ parts)
    joined true q qs parts are = (are.0.0, (are.0.1, are.1))
    joined false q qs parts are = (are.0.0, are.1)

    led : (parts : List (List Contents)) → AllByRecursion (AllByRecursion P) (led_by p parts) → P p × AllByRecursion (AllByRecursion P) parts
    led [] are = (are.0.0, tt)
    led ([] ∷ parts) are = (are.0.0, (tt, are.1))
    led ((q ∷ qs) ∷ parts) are = joined (p.head.stream == q.head.stream) q qs parts are

early : (found : ℕ) (ps : List Contents) → found ≤ LAST_MOMENT → AllByRecursion Timely ps → earliest found ps ≤ LAST_MOMENT
early found [] le are = le
early found (p ∷ ps) le are = go (nat_lt p.head.begin found) (early p.head.begin ps are.0.0 are.1) (early found ps le are.1)
  where
    go : (b : Bool) → earliest p.head.begin ps ≤ LAST_MOMENT → earliest found ps ≤ LAST_MOMENT → earliest (cond b p.head.begin found) ps ≤ LAST_MOMENT
    go true this other = this
    go false this other = other

late : (found : ℕ) (ps : List Contents) → found ≤ LAST_MOMENT → AllByRecursion Timely ps → latest found ps ≤ LAST_MOMENT
late found [] le are = le
late found (p ∷ ps) le are = go (nat_lt found p.head.end) (late p.head.end ps are.0.1 are.1) (late found ps le are.1)
  where
    go : (b : Bool) → latest p.head.end ps ≤ LAST_MOMENT → latest found ps ≤ LAST_MOMENT → latest (cond b p.head.end found) ps ≤ LAST_MOMENT
    go true this other = this
    go false this other = other

-- ---- files

abbrev ring : List ℕ
ring = codes "ring"

abbrev leaf_of : StreamPackets → Leaf
leaf_of s = (file_name ring s.0, packets_text s.1)

abbrev leaves_of : List StreamPackets → List ℕ → List Leaf
leaves_of streams metadata = map leaf_of streams ++ (codes "metadata", metadata) ∷ []

read-as : (n : ℕ) → n < MOST_STREAMS → stream_named (file_name ring n) ≡ Some (of_parts ring n)
read-as n lt = file_is_of_stream ring n refl (omega (arith, lt))

not-same : (m n : ℕ) → m < MOST_STREAMS → n < MOST_STREAMS → m ≢ n → pointwise eqb (file_name ring m) (file_name ring n) ≡ false
not-same m n low high apart =
    differ (file_name ring m) (file_name ring n) (λ e. apart (number-is _ _ (sym (read-as m low) ∙ ap stream_named e ∙ read-as n high)))

not-metadata : (n : ℕ) → n < MOST_STREAMS → pointwise eqb (file_name ring n) (codes "metadata") ≡ false
not-metadata n lt = differ (file_name ring n) (codes "metadata") (λ e. none-some _ (sym (ap stream_named e) ∙ read-as n lt))

module _ (metadata : List ℕ) where
  -- no later file has its name
  not-later : (n k : ℕ) (streams : List StreamPackets) → n < MOST_STREAMS → n < k → Count k streams
      → leaf_file (file_name ring n) (leaves_of streams metadata) ≡ None
  not-later n k [] lt less up =
      ap (λ (b : Bool). option_or None (cond b (Some (file_of metadata false)) None)) (not-metadata n lt)
  not-later n k (s ∷ streams) lt less up =
      ap (λ (o : Option File). option_or o (cond (pointwise eqb (file_name ring n) (file_name ring s.0)) (Some (file_of (packets_text s.1) false)) None))
      (not-later n (k + 1) streams lt (omega (arith, less)) up.2)
      ∙ ap (λ (b : Bool). option_or None (cond b (Some (file_of (packets_text s.1) false)) None))
      (not-same n s.0 lt (omega (arith, up.0, up.1)) (λ e. omega (arith, e, less, up.0)))

  abbrev HasFile : List Leaf → StreamPackets → Type 0
  HasFile leaves s = leaf_file (file_name ring s.0) leaves ≡ Some (file_of (packets_text s.1) false)

  -- more files before do no harm
  with-first : (l : Leaf) (leaves : List Leaf) (streams : List StreamPackets) → AllByRecursion (HasFile leaves) streams → AllByRecursion (HasFile (l ∷ leaves)) streams
  with-first l leaves [] have = tt
  with-first l leaves (s ∷ streams) have = (
    ap (λ (o : Option File). option_or o (cond (pointwise eqb (file_name ring s.0) l.0) (Some (file_of l.1 false)) None)) have.0,
    with-first l leaves streams have.1,
  )

  have-files : (k : ℕ) (streams : List StreamPackets) → Count k streams → AllByRecursion (HasFile (leaves_of streams metadata)) streams
  have-files k [] up = tt
  have-files k (s ∷ streams) up = (
    ap (λ (o : Option File). option_or o (cond (pointwise eqb (file_name ring s.0) (file_name ring s.0)) (Some (file_of (packets_text s.1) false)) None))
        (not-later s.0 (k + 1) streams (omega (arith, up.0, up.1)) (omega (arith, up.0)) up.2)
        ∙ ap (λ (b : Bool). option_or None (cond b (Some (file_of (packets_text s.1) false)) None)) (same-name (file_name ring s.0)),
    with-first (leaf_of s) (leaves_of streams metadata) streams (have-files (k + 1) streams up.2),
  )

  plain : (k : ℕ) (streams : List StreamPackets) → Count k streams → AllByRecursion (λ (l : Leaf). HasNoSlash l.0) (leaves_of streams metadata)
  plain k [] up = ((refl, (refl, (refl, (refl, (refl, (refl, (refl, (refl, tt)))))))), tt)
  plain k (s ∷ streams) up = (file-plain ring s.0 refl (omega (arith, up.0, up.1)), plain (k + 1) streams up.2)

  module _ (a : Numbered) where
    names : (k : ℕ) (streams : List StreamPackets) → Count k streams
        → filter_map stream_named (map (λ (l : Leaf). l.0) (leaves_of streams metadata)) ≡ streams_in (map (found_files a) streams)
    names k [] up = refl
    names k (s ∷ streams) up =
        ap (λ (o : Option Numbered). cons_option o (filter_map stream_named (map (λ (l : Leaf). l.0) (leaves_of streams metadata))))
        (read-as s.0 (omega (arith, up.0, up.1)))
        ∙ ap (λ (l : List Numbered). of_parts ring s.0 ∷ l) (names (k + 1) streams up.2)

    numbered : (k : ℕ) (streams : List StreamPackets) → Count k streams → NumberedFrom k (streams_in (map (found_files a) streams))
    numbered k [] up = tt
    numbered k (s ∷ streams) up = (omega (arith, up.1), up.0, numbered (k + 1) streams up.2)

    -- each stream's file has its packets, and these pass
    module _ (t : Tree) (folder uuid : List ℕ) (leaves : List Leaf)
        (there : (name : List ℕ) → is_plain_name name ≡ true → t.file (file_path folder a.name name) ≡ leaf_file name leaves) where
      its-files : (k : ℕ) (streams : List StreamPackets) → Count k streams → AllByRecursion (HasFile leaves) streams → AllByRecursion (Passes uuid) streams
          → AllByRecursion (HasItsFiles t folder uuid (a ∷ [])) (map (found_files a) streams)
      its-files k [] up have pass = tt
      its-files k (s ∷ streams) up have pass = (
        record {
          each = refl;
          files = (there (file_name ring s.0) (file-named ring s.0 refl (omega (arith, up.0, up.1))) ∙ have.0, tt);
          packets = record {
            sound = subst (AreOfStream uuid s.0) (sym (append-nil s.1)) pass.0.0;
            losses = subst (LossesStay 0) (sym (append-nil s.1)) pass.0.1;
          };
        },
        its-files (k + 1) streams up.2 have.1 pass.1,
      )

-- ---- all of it

files-made : (dir name : List ℕ) (streams : List StreamPackets)
    → files_made (export.folder_of dir (codes "recovered") name) streams
    ≡ map (leaf_made (archives_folder dir (codes "recovered")) name) (map leaf_of streams)
files-made dir name [] = refl
files-made dir name (s ∷ streams) =
    ap (λ (path : List ℕ). made.File path (packets_text s.1) ∷ files_made (export.folder_of dir (codes "recovered") name) streams)
    (sym (file_is dir (codes "recovered") name (file_name ring s.0)))
    ∙ ap (λ (ms : Makings). made.File (file_path (archives_folder dir (codes "recovered")) name (file_name ring s.0)) (packets_text s.1) ∷ ms)
    (files-made dir name streams)

module _ (dir metadata uuid : List ℕ) (p : Contents) (ps : List Contents) (are : AreOfTrace uuid (p ∷ ps)) where
  abbrev archive : Numbered
  archive = found_archive p ps

  abbrev folder : List ℕ
  folder = archives_folder dir (codes "recovered")

  abbrev streams : List StreamPackets
  streams = streams_found (p ∷ ps)

  abbrev box : Box
  box = record { archive = archive; leaves = leaves_of streams metadata }

  up : Count 0 streams
  up = counts 0 (parted (p ∷ ps)) (rise 0 p ps (omega arith) are.order are.within)

  made-is : recovered_made dir metadata (p ∷ ps) ≡ boxes_made folder (box ∷ [])
  made-is =
      let name = archive.name in
      let at = export.folder_of dir (codes "recovered") name in
      ap (λ (ms : Makings). made.Folder at ∷ (ms ++ made.File (export.path_of at (codes "metadata")) metadata ∷ [])) (files-made dir name streams)
      ∙ ap (λ (path : List ℕ). made.Folder at ∷ (map (leaf_made folder name) (map leaf_of streams) ++ made.File path metadata ∷ []))
      (sym (file_is dir (codes "recovered") name (codes "metadata")))
      ∙ ap (λ (ms : Makings). made.Folder at ∷ ms) (sym (map-append (leaf_made folder name) (map leaf_of streams) ((codes "metadata", metadata) ∷ [])))
      ∙ ap (λ (path : List ℕ). made.Folder path ∷ map (leaf_made folder name) (leaves_of streams metadata)) (sym (folder_is dir (codes "recovered") name))
      ∙ sym (append-nil (made.Folder (path_of folder name) ∷ map (leaf_made folder name) (leaves_of streams metadata)))

  is-box : IsBox box
  is-box =
      let all = in-parts Timely (p ∷ ps) (parts-timely uuid (parted (p ∷ ps)) are.passed) in
      let number =
      archive_is_of_number (earliest p.head.begin ps) (latest p.head.end ps) 0 (pos 0) (early p.head.begin ps all.0.0 all.1)
      (late p.head.end ps all.0.1 all.1) (search rules) (omega arith) in
      record { number = number; plain = archive-plain archive.name 0 number; leaves = plain metadata 0 streams up }

  pub found-whole : (asked : Bool) (t : Tree) → naming_in (Some (file_of metadata false)) ≡ Named uuid → Shows t dir (recovered_made dir metadata (p ∷ ps))
      → survey_of asked t dir
      ≡ told (found_recorded_text asked (trace_state uuid (events_in (Some (file_of metadata false)))) p ps) (Faults 0)
  found-whole asked t read shows =
      let seen : Shows t dir (boxes_made folder (box ∷ [])) = subst (Shows t dir) made-is shows in
      let are-boxes : AllByRecursion IsBox (box ∷ []) = (is-box, tt) in
      let slashless = name-plain (codes "recovered") refl in
      let leaves = files-are t dir (codes "recovered") box [] seen slashless refl are-boxes (refl, tt) in
      whole_is asked t dir (codes "recovered") (trace_state uuid (events_in (Some (file_of metadata false)))) (archive ∷ []) (map (found_files archive) streams)
      (stands-alone t dir (codes "recovered") box [] seen slashless refl are-boxes (refl, tt) uuid metadata (map (found_files archive) streams) read refl refl
      (leaves-append (codes "metadata") (map leaf_of streams) ((codes "metadata", metadata) ∷ []), tt)
      (numbered metadata archive 0 streams up) (names metadata archive 0 streams up, tt)
      (its-files metadata archive t folder uuid (leaves_of streams metadata) leaves.0 0 streams up (have-files metadata 0 streams up)
      (all-pass uuid 0 (parted (p ∷ ps)) are.passed)))
