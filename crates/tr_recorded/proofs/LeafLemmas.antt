-- The files of a session's archives.
use Rattle.std.proofs.Common.{◌≡◌, ◌≢◌, ◌∙◌, ◌<◌, ◌≤◌, ◌^◌, ◌⊎◌, ⊎_elim, ℕ, zero, suc, Bool, true, false, cond, eqb, refl, sym, ap, subst, arith, List, [], ◌∷◌, ◌++◌, length, map, Option, Some, None, slice_get, append-nil}
use Rattle.std.proofs.Math.Bridge.{le_prop}
use Rattle.std.proofs.Math.Dec.{eqb-suc-suc, eqb-suc-zero, eqb-zero-suc}
use Rattle.std.proofs.lemmas.Bool.{cases_order}
use Rattle.std.proofs.lemmas.List.{map-append}
use Rattle.std.proofs.lemmas.List.Elements.{filter_map-append}
use Rattle.std.specs.Cmp.Lexicographic.{bytes_decides, pointwise}
use Rattle.std.specs.List.{AllByRecursion, cons_option, filter_map, list_all}
use Rattle.std.specs.Option.{option_or}
use Rattle.std.specs.Prelude.{codes, option_and_then, option_map}
use Rattle.tr_book.specs.Parts.{PartState, PartsState, part_at}
use Rattle.tr_chunk.specs.Files.{file_name, packets_text}
use Rattle.tr_export.specs.Archives.{part_of_stream}
use Rattle.tr_folders.specs.Kept.{file_of}
use Rattle.tr_folders.specs.Tree.{File}
use Rattle.tr_metadata.specs.Metadata.{metadata_with}
use Rattle.tr_recorded.proofs.BelowLemmas.{HasNoSlash, same-name}
use Rattle.tr_recorded.proofs.BoxLemmas.{Box, Leaf}
use Rattle.tr_recorded.proofs.PlainLemmas.{file-plain}
use Rattle.tr_recorded.proofs.StoredLemmas.{leaf_file, or-assoc, or-none}
use Rattle.tr_recorded.specs.Recorded.{archive_named, archives_named, recorded_of, stream_recorded, streams_recorded}
use Rattle.tr_session.specs.Session.{HasItsStreams, SessionOf}
use Rattle.tr_session_book.specs.BookSteps.{channel_of}
use Rattle.tr_session_book.specs.Names.{AreNamed}
use Rattle.tr_session_book.specs.declared.archive.Archive.{Archive}
use Rattle.tr_session_book.specs.declared.channel.Channel.{Channel}
use Rattle.tr_stream.specs.Fates.{all_parts}
use Rattle.tr_stream.specs.State.{StreamState}
use Rattle.tr_survey.proofs.FileNameLemmas.{file_is_of_stream}
use Rattle.tr_survey.specs.Names.{of_parts, stream_named}
use Rattle.tr_survey.specs.Order.{Numbered}
use Rattle.tr_survey.specs.Whole.{StreamFiles, streams_in}
use Rattle.tr_terms.proofs.BoolLemmas.{both}
use Rattle.tr_terms.specs.Names.{is_name}

-- ---- a session's streams

-- stream i, its channel's name, and the session's archives among its parts
pub record StreamAt (s : SessionOf StreamState) (i : ℕ) : Type 0 where
  pub channel : List ℕ
  pub stream : StreamState
  pub named : channel_of i s.book ≡ Some channel
  pub valid : is_name channel ≡ true
  pub at : slice_get s.streams i ≡ Some stream
  pub uuid : stream.config.uuid ≡ s.book.uuid
  pub number : stream.config.number ≡ i
  pub parts : length s.book.archives ≤ length (all_parts stream.parts)

pub some-at : {X : Type 0} (xs : List X) (i : ℕ) → i < length xs → (x : X) × (slice_get xs i ≡ Some x)
some-at [] i within = absurd (omega (arith, within))
some-at (x ∷ xs) zero within = (x, refl)
some-at (x ∷ xs) (suc i) within = some-at xs i (omega (arith, within))

valid-at : (cs : List (List ℕ × Channel)) (k : ℕ) (c : List ℕ × Channel) → AreNamed cs → slice_get cs k ≡ Some c → is_name c.0 ≡ true
valid-at [] k c are at = absurd cc
valid-at (d ∷ cs) zero c are at =
    let same : d ≡ c = cc in
    ap (λ (x : List ℕ × Channel). is_name x.0) (sym same) ∙ (both (is_name d.0) (list_all (λ (x : List ℕ × Channel). is_name x.0) cs) are).0
valid-at (d ∷ cs) (suc k) c are at = valid-at cs k c (both (is_name d.0) (list_all (λ (x : List ℕ × Channel). is_name x.0) cs) are).1 at

length-more : {X : Type 0} (xs : List X) (x : X) → length xs ≤ length (xs ++ x ∷ [])
length-more [] x = omega arith
length-more (y ∷ xs) x = let more = length-more xs x in omega (arith, more)

pub stream-at : (s : SessionOf StreamState) → HasItsStreams s → AreNamed s.book.channels → (i : ℕ) → i < length s.streams → StreamAt s i
stream-at s its named i within =
    let t = some-at s.streams i within in
    let of = its.are i t.0 t.1 in
    let more = length-more t.0.parts.closed t.0.parts.current in
    record {
      channel = of.channel.0;
      stream = t.0;
      named = ap (option_and_then (λ place. option_map (λ (c : List ℕ × Channel). c.0) (slice_get s.book.channels place))) of.has_place
          ∙ ap (option_map (λ (c : List ℕ × Channel). c.0)) of.has_channel;
      valid = valid-at s.book.channels of.place of.channel named of.has_channel;
      at = t.1;
      uuid = ap (λ c. c.uuid) of.config;
      number = ap (λ c. c.number) of.config;
      parts = omega (arith, of.closed, more);
    }

-- parts by place
pub part-is : (ps : PartsState) (k : ℕ) → part_at k ps ≡ slice_get (all_parts ps) k
part-is ps k = go ps.closed k
  where
    go : (closed : List PartState) (k : ℕ) → cond (eqb k (length closed)) (Some ps.current) (slice_get closed k) ≡ slice_get (closed ++ ps.current ∷ []) k
    go [] zero = refl
    go [] (suc k) = ap (λ (b : Bool). cond b (Some ps.current) None) (eqb-suc-zero k)
    go (p ∷ closed) zero = ap (λ (b : Bool). cond b (Some ps.current) (Some p)) (eqb-zero-suc (length closed))
    go (p ∷ closed) (suc k) = ap (λ (b : Bool). cond b (Some ps.current) (slice_get closed k)) (eqb-suc-suc k (length closed)) ∙ go closed k

-- ---- files of an archive

abbrev pub leaf_of : ℕ → Option (List ℕ) → Option PartState → List Leaf
leaf_of i None part = []
leaf_of i (Some channel) None = []
leaf_of i (Some channel) (Some part) = (file_name channel i, packets_text part.packets) ∷ []

-- of the first streams
abbrev pub leaves_of : SessionOf StreamState → ℕ → ℕ → List Leaf
leaves_of s id zero = []
leaves_of s id (suc i) = leaves_of s id i ++ leaf_of i (channel_of i s.book) (part_of_stream i id s)

abbrev pub metadata_leaf : SessionOf StreamState → List Leaf
metadata_leaf s = (codes "metadata", metadata_with s.book.events s.book.uuid) ∷ []

abbrev pub box_of : SessionOf StreamState → Archive → Box
box_of s a = record {
  archive = archive_named s.book a;
  leaves = leaves_of s a.id (length s.streams) ++ metadata_leaf s;
}

abbrev names-of : List Leaf → List (List ℕ)
names-of = map (λ (l : Leaf). l.0)

all-then : (ls : List Leaf) (l : Leaf) → AllByRecursion (λ (x : Leaf). HasNoSlash x.0) ls → HasNoSlash l.0
    → AllByRecursion (λ (x : Leaf). HasNoSlash x.0) (ls ++ l ∷ [])
all-then [] l are is = (is, tt)
all-then (x ∷ ls) l are is = (are.0, all-then ls l are.1 is)

pub differ : (name other : List ℕ) → (name ≡ other → ⊥) → pointwise eqb name other ≡ false
differ name other apart = go (pointwise eqb name other) refl
  where
    go : (b : Bool) → pointwise eqb name other ≡ b → b ≡ false
    go false e = refl
    go true e = absurd (apart ((bytes_decides name other).0 e))

pub number-is : (a b : Numbered) → Some a ≡ Some b → a.number ≡ b.number
number-is a b e = let same : a ≡ b = cc in ap (λ (n : Numbered). n.number) same

pub none-some : (a : Numbered) → None ≡ Some a → ⊥
none-some a e = absurd cc

pub leaves-append : (name : List ℕ) (xs ys : List Leaf) → leaf_file name (xs ++ ys) ≡ option_or (leaf_file name ys) (leaf_file name xs)
leaves-append name [] ys = sym (or-none (leaf_file name ys))
leaves-append name (l ∷ xs) ys =
    ap (λ (o : Option File). option_or o (cond (pointwise eqb name l.0) (Some (file_of l.1 false)) None)) (leaves-append name xs ys)
    ∙ or-assoc (leaf_file name ys) (leaf_file name xs) (cond (pointwise eqb name l.0) (Some (file_of l.1 false)) None)

module _ (s : SessionOf StreamState) (streams : (i : ℕ) → i < length s.streams → StreamAt s i) where
  pub recorded-is : (i : ℕ) (below : i < length s.streams)
      → stream_recorded (archives_named s.book) i (channel_of i s.book) (slice_get s.streams i)
      ≡ (of_parts (streams i below).channel i, recorded_of (archives_named s.book) (streams i below).stream) ∷ []
  recorded-is i below =
      ap (λ (c : Option (List ℕ)). stream_recorded (archives_named s.book) i c (slice_get s.streams i)) (streams i below).named
      ∙ ap (stream_recorded (archives_named s.book) i (Some (streams i below).channel)) (streams i below).at

module _ (s : SessionOf StreamState) (streams : (i : ℕ) → i < length s.streams → StreamAt s i) (id : ℕ) (within : id < length s.book.archives) where
  -- the part of a stream, and its file
  pub part-of : (i : ℕ) (below : i < length s.streams)
      → (p : PartState) × (slice_get (all_parts (streams i below).stream.parts) id ≡ Some p) × (part_of_stream i id s ≡ Some p)
  part-of i below =
      let t = streams i below in
      let p = some-at (all_parts t.stream.parts) id (omega (arith, t.parts, within)) in
      (p.0, p.1, ap (option_and_then (λ (u : StreamState). part_at id u.parts)) t.at ∙ part-is t.stream.parts id ∙ p.1)

  leaf-is : (i : ℕ) (below : i < length s.streams)
      → leaf_of i (channel_of i s.book) (part_of_stream i id s) ≡ (file_name (streams i below).channel i, packets_text (part-of i below).0.packets) ∷ []
  leaf-is i below =
      ap (λ (c : Option (List ℕ)). leaf_of i c (part_of_stream i id s)) (streams i below).named
      ∙ ap (leaf_of i (Some (streams i below).channel)) (part-of i below).2

  module _ (few : length s.streams ≤ 2 ^ 64) where
    read-as : (i : ℕ) (below : i < length s.streams) → stream_named (file_name (streams i below).channel i) ≡ Some (of_parts (streams i below).channel i)
    read-as i below = file_is_of_stream (streams i below).channel i (streams i below).valid (omega (arith, below, few))

    -- their names are read as those of the streams
    named-upto : (i : ℕ) → i ≤ length s.streams → filter_map stream_named (names-of (leaves_of s id i)) ≡ streams_in (streams_recorded s i)
    named-upto zero le = refl
    named-upto (suc i) le =
        let below : i < length s.streams = omega (arith, le) in
        let leaf = leaf_of i (channel_of i s.book) (part_of_stream i id s) in
        let one = stream_recorded (archives_named s.book) i (channel_of i s.book) (slice_get s.streams i) in
        ap (filter_map stream_named) (map-append (λ (l : Leaf). l.0) (leaves_of s id i) leaf)
        ∙ filter_map-append stream_named (names-of (leaves_of s id i)) (names-of leaf)
        ∙ ap (λ (l : List Numbered). l ++ filter_map stream_named (names-of leaf)) (named-upto i (omega (arith, le)))
        ∙ ap (λ (l : List Numbered). streams_in (streams_recorded s i) ++ l)
        (ap (λ (l : List Leaf). filter_map stream_named (names-of l)) (leaf-is i below)
        ∙ ap (λ (o : Option Numbered). cons_option o []) (read-as i below)
        ∙ ap streams_in (sym (recorded-is s streams i below)))
        ∙ sym (map-append (λ (f : StreamFiles). f.0) (streams_recorded s i) one)

    pub have-streams : filter_map stream_named (names-of (leaves_of s id (length s.streams) ++ metadata_leaf s)) ≡ streams_in (streams_recorded s (length s.streams))
    have-streams =
        ap (filter_map stream_named) (map-append (λ (l : Leaf). l.0) (leaves_of s id (length s.streams)) (metadata_leaf s))
        ∙ filter_map-append stream_named (names-of (leaves_of s id (length s.streams))) (names-of (metadata_leaf s))
        ∙ append-nil (filter_map stream_named (names-of (leaves_of s id (length s.streams))))
        ∙ named-upto (length s.streams) (omega arith)

    -- they have no slash
    plain-upto : (i : ℕ) → i ≤ length s.streams → AllByRecursion (λ (l : Leaf). HasNoSlash l.0) (leaves_of s id i)
    plain-upto zero le = tt
    plain-upto (suc i) le =
        let below : i < length s.streams = omega (arith, le) in
        subst (λ (l : List Leaf). AllByRecursion (λ (x : Leaf). HasNoSlash x.0) (leaves_of s id i ++ l)) (sym (leaf-is i below))
        (all-then (leaves_of s id i) _ (plain-upto i (omega (arith, le)))
        (file-plain (streams i below).channel i (streams i below).valid (omega (arith, below, few))))

    pub leaves-plain : AllByRecursion (λ (l : Leaf). HasNoSlash l.0) (leaves_of s id (length s.streams) ++ metadata_leaf s)
    leaves-plain =
        all-then (leaves_of s id (length s.streams)) (codes "metadata", metadata_with s.book.events s.book.uuid) (plain-upto (length s.streams) (omega arith))
        (refl, (refl, (refl, (refl, (refl, (refl, (refl, (refl, tt))))))))

    -- ---- a stream's file

    not-same : (i j : ℕ) (low : i < length s.streams) (high : j < length s.streams) → i ≢ j
        → pointwise eqb (file_name (streams i low).channel i) (file_name (streams j high).channel j) ≡ false
    not-same i j low high apart =
        differ (file_name (streams i low).channel i) (file_name (streams j high).channel j)
        (λ e. apart (number-is _ _ (sym (read-as i low) ∙ ap stream_named e ∙ read-as j high)))

    not-metadata : (i : ℕ) (below : i < length s.streams) → pointwise eqb (file_name (streams i below).channel i) (codes "metadata") ≡ false
    not-metadata i below =
        differ (file_name (streams i below).channel i) (codes "metadata")
        (λ e. none-some _ (sym (ap stream_named e) ∙ read-as i below))

    -- what is found first of the file of stream k, and then of those of the first m
    abbrev Found : (i : ℕ) → i < length s.streams → (k : ℕ) → k < length s.streams → ℕ → Type 0
    Found i below k high m =
        option_or (cond (pointwise eqb (file_name (streams i below).channel i) (file_name (streams k high).channel k)) (Some (file_of (packets_text (part-of k high).0.packets) false)) None)
        (leaf_file (file_name (streams i below).channel i) (leaves_of s id m))
        ≡ Some (file_of (packets_text (part-of i below).0.packets) false)

    its-own : (i : ℕ) (below : i < length s.streams) (m : ℕ) → Found i below i below m
    its-own i below m =
        ap (λ (b : Bool). option_or (cond b (Some (file_of (packets_text (part-of i below).0.packets) false)) None) (leaf_file (file_name (streams i below).channel i) (leaves_of s id m)))
        (same-name (file_name (streams i below).channel i))

    by-place : (i : ℕ) (below : i < length s.streams) (m : ℕ) (high : m < length s.streams) → i ≡ m → Found i below m high m
    by-place i below m high same =
        subst (λ (k : ℕ). (h : k < length s.streams) → Found i below k h m) same
        (λ (h : i < length s.streams). subst (λ (z : i < length s.streams). Found i below i z m) (le_prop below h) (its-own i below m)) high

    found-upto : (i : ℕ) (below : i < length s.streams) (n : ℕ) → i < n → n ≤ length s.streams
        → leaf_file (file_name (streams i below).channel i) (leaves_of s id n) ≡ Some (file_of (packets_text (part-of i below).0.packets) false)
    found-upto i below zero lt le = absurd (omega (arith, lt))
    found-upto i below (suc m) lt le =
        let high : m < length s.streams = omega (arith, le) in
        let name = file_name (streams i below).channel i in
        let text = packets_text (part-of m high).0.packets in
        let found : Found i below m high m =
        ⊎_elim (by-place i below m high)
        (λ (other : (i < m) ⊎ (m < i)). ⊎_elim
        (λ (less : i < m). ap (λ (b : Bool). option_or (cond b (Some (file_of text false)) None) (leaf_file name (leaves_of s id m)))
        (not-same i m below high (λ e. omega (arith, e, less))) ∙ found-upto i below m less (omega (arith, le)))
        (λ (more : m < i). absurd (omega (arith, more, lt))) other) (cases_order i m) in
        leaves-append name (leaves_of s id m) (leaf_of m (channel_of m s.book) (part_of_stream m id s))
        ∙ ap (λ (l : List Leaf). option_or (leaf_file name l) (leaf_file name (leaves_of s id m))) (leaf-is m high)
        ∙ found

    pub stream-found : (i : ℕ) (below : i < length s.streams)
        → leaf_file (file_name (streams i below).channel i) (leaves_of s id (length s.streams) ++ metadata_leaf s)
        ≡ Some (file_of (packets_text (part-of i below).0.packets) false)
    stream-found i below =
        let name = file_name (streams i below).channel i in
        leaves-append name (leaves_of s id (length s.streams)) (metadata_leaf s)
        ∙ ap (λ (b : Bool). option_or (cond b (Some (file_of (metadata_with s.book.events s.book.uuid) false)) None) (leaf_file name (leaves_of s id (length s.streams)))) (not-metadata i below)
        ∙ found-upto i below (length s.streams) below (omega arith)

  pub metadata-found : leaf_file (codes "metadata") (leaves_of s id (length s.streams) ++ metadata_leaf s) ≡ Some (file_of (metadata_with s.book.events s.book.uuid) false)
  metadata-found = leaves-append (codes "metadata") (leaves_of s id (length s.streams)) (metadata_leaf s)
