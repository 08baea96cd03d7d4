-- The packets of each stream, apart.
use Rattle.std.proofs.Common.{◌≡◌, ◌<◌, ◌≤◌, ◌+◌, ◌-◌, ◌∙◌, ℕ, zero, suc, Bool, true, false, List, [], ◌∷◌, ◌++◌, ◌==◌, Option, None, Some, append_assoc, cond, drop, drop-cons, get_or, length, lt-ltb, take, refl, sym, ap, arith}
use Rattle.std.specs.List.{flat_map}
use Rattle.std.proofs.lemmas.Bool.{false_from_ne_true}
use Rattle.std.proofs.lemmas.Bool.Decides.{Decides-eqb}
use Rattle.std.proofs.lemmas.List.{append-nil, length-drop, map-append}
use Rattle.tr_packet.specs.Packets.{Contents}
use Rattle.tr_chunk.specs.Files.{packets_text}
use Rattle.tr_export.specs.Making.{Makings, and_then_made}
use Rattle.tr_recover.specs.Archive.{StreamPackets, empty_streams, files_made, lead_count, led_by, next_stream, part_streams, parted, parts_streams, stream_file, streams_below}
use Rattle.tr_terms.specs.declared.limits.TheConstants.{MOST_STREAMS}

-- ---- how many are of the first one's stream

two_first : (ps : List Contents) (at : ℕ) (p q : Contents) → at + 1 < length ps → p ≡ get_or ps at p → q ≡ get_or ps (at + 1) q
    → drop at ps ≡ p ∷ q ∷ drop (suc (suc at)) ps
two_first ps at p q within is next =
    let one : suc at ≡ at + 1 = omega arith in
    drop-cons ps at p (omega (arith, within)) ∙ ap (λ (x : Contents). x ∷ drop (suc at) ps) (sym is)
    ∙ ap (λ (xs : List Contents). p ∷ xs)
    (drop-cons ps (suc at) q (omega (arith, within)) ∙ ap (λ (n : ℕ). get_or ps n q ∷ drop (suc (suc at)) ps) one
    ∙ ap (λ (x : Contents). x ∷ drop (suc (suc at)) ps) (sym next))

pub lead_goes_on : (ps : List Contents) (at : ℕ) (p q : Contents) → at + 1 < length ps → p ≡ get_or ps at p → q ≡ get_or ps (at + 1) q
    → (p.head.stream == q.head.stream) ≡ true → lead_count (drop at ps) ≡ 1 + lead_count (drop (at + 1) ps)
lead_goes_on ps at p q within is next same =
    let one : suc at ≡ at + 1 = omega arith in
    let both = two_first ps at p q within is next in
    let rest : drop (at + 1) ps ≡ q ∷ drop (suc (suc at)) ps =
    ap (λ (n : ℕ). drop n ps) (sym one) ∙ (drop-cons ps (suc at) q (omega (arith, within))
    ∙ ap (λ (n : ℕ). get_or ps n q ∷ drop (suc (suc at)) ps) one ∙ ap (λ (x : Contents). x ∷ drop (suc (suc at)) ps) (sym next)) in
    ap lead_count both ∙ rw same (ap suc (ap lead_count (sym rest)) ∙ omega arith)

pub lead_ends : (ps : List Contents) (at : ℕ) (p q : Contents) → at + 1 < length ps → p ≡ get_or ps at p → q ≡ get_or ps (at + 1) q
    → (p.head.stream == q.head.stream) ≡ false → lead_count (drop at ps) ≡ 1
lead_ends ps at p q within is next other = ap lead_count (two_first ps at p q within is next) ∙ rw other refl

pub lead_is_last : (ps : List Contents) (at : ℕ) → at < length ps → length ps ≤ at + 1 → lead_count (drop at ps) ≡ 1
lead_is_last ps at within last = go (drop at ps) (omega (arith, within, last, length-drop at ps))
  where
    go : (xs : List Contents) → length xs ≡ 1 → lead_count xs ≡ 1
    go (x ∷ []) e = refl
    go [] e = absurd (omega (arith, e))
    go (x ∷ y ∷ xs) e = absurd (omega (arith, e))

pub other_stream : (one other : ℕ) → (one ≡ other → ⊥) → (one == other) ≡ false
other_stream one other differ = false_from_ne_true (one == other) (λ e. differ ((Decides-eqb one other).0 e))

-- ---- they are the first part

lead_some : (p : Contents) (ps : List Contents) → 1 ≤ lead_count (p ∷ ps)
lead_some p [] = omega arith
lead_some p (q ∷ ps) = go (p.head.stream == q.head.stream)
  where
    go : (same : Bool) → 1 ≤ cond same (suc (lead_count (q ∷ ps))) 1
    go true = omega arith
    go false = omega arith

pub some_lead : (ps : List Contents) → 1 ≤ length ps → 1 ≤ lead_count ps
some_lead [] some = absurd (omega (arith, some))
some_lead (p ∷ ps) some = lead_some p ps

pub lead_few : (ps : List Contents) → lead_count ps ≤ length ps
lead_few [] = omega arith
lead_few (p ∷ []) = omega arith
lead_few (p ∷ q ∷ ps) = go (p.head.stream == q.head.stream) (lead_few (q ∷ ps))
  where
    go : (same : Bool) → lead_count (q ∷ ps) ≤ length (q ∷ ps) → cond same (suc (lead_count (q ∷ ps))) 1 ≤ suc (length (q ∷ ps))
    go true few = omega (arith, few)
    go false few = omega arith

pub parted_lead : (p : Contents) (ps : List Contents)
    → parted (p ∷ ps) ≡ take (lead_count (p ∷ ps)) (p ∷ ps) ∷ parted (drop (lead_count (p ∷ ps)) (p ∷ ps))
parted_lead p [] = refl
parted_lead p (q ∷ ps) =
    ap (led_by p) (parted_lead q ps) ∙ by_count (lead_count (q ∷ ps)) refl (lead_some q ps) (p.head.stream == q.head.stream) refl
    (parted_lead q ps)
  where
    by_count : (n : ℕ) → lead_count (q ∷ ps) ≡ n → 1 ≤ n → (same : Bool) → (p.head.stream == q.head.stream) ≡ same
        → parted (q ∷ ps) ≡ take (lead_count (q ∷ ps)) (q ∷ ps) ∷ parted (drop (lead_count (q ∷ ps)) (q ∷ ps))
        → led_by p (take (lead_count (q ∷ ps)) (q ∷ ps) ∷ parted (drop (lead_count (q ∷ ps)) (q ∷ ps)))
        ≡ take (lead_count (p ∷ q ∷ ps)) (p ∷ q ∷ ps) ∷ parted (drop (lead_count (p ∷ q ∷ ps)) (p ∷ q ∷ ps))
    by_count zero e some same e' whole = absurd (omega (arith, some))
    by_count (suc n) e some true e' whole = rw (e, e') refl
    by_count (suc n) e some false e' whole =
        let parts : take (suc n) (q ∷ ps) ∷ parted (drop (suc n) (q ∷ ps)) ≡ parted (q ∷ ps) = sym (rw e at whole) in
        rw (e, e') (ap (λ (xs : List (List Contents)). (p ∷ []) ∷ xs) parts)

pub parts_lead : {X : Type 0} (made : List Contents → List X) (ps own rest : List Contents) (n : ℕ) → 1 ≤ length ps → n ≡ lead_count ps
    → own ≡ take n ps → rest ≡ drop n ps → flat_map made (parted ps) ≡ made own ++ flat_map made (parted rest)
parts_lead made [] own rest n some count one two = absurd (omega (arith, some))
parts_lead made (p ∷ ps) own rest n some count one two =
    let whole = parted_lead p ps in
    ap (λ (parts : List (List Contents)). flat_map made parts) whole
    ∙ ap (λ (k : ℕ). made (take k (p ∷ ps)) ++ flat_map made (parted (drop k (p ∷ ps)))) (sym count)
    ∙ ap (λ (xs : List Contents). made xs ++ flat_map made (parted (drop n (p ∷ ps)))) (sym one)
    ∙ ap (λ (xs : List Contents). made own ++ flat_map made (parted xs)) (sym two)

-- the first part's streams, and those of the others
pub streams_lead : (next : ℕ) (ps own rest : List Contents) (n : ℕ) → 1 ≤ length ps → n ≡ lead_count ps → own ≡ take n ps → rest ≡ drop n ps
    → parts_streams next (parted ps) ≡ part_streams next own ++ parts_streams (next_stream next own) (parted rest)
streams_lead next [] own rest n some count one two = absurd (omega (arith, some))
streams_lead next (p ∷ ps) own rest n some count one two =
    let streams = λ (xs : List Contents) (ys : List Contents). part_streams next xs ++ parts_streams (next_stream next xs) (parted ys) in
    ap (parts_streams next) (parted_lead p ps)
    ∙ ap (λ (k : ℕ). streams (take k (p ∷ ps)) (drop k (p ∷ ps))) (sym count)
    ∙ ap (λ (xs : List Contents). streams xs (drop n (p ∷ ps))) (sym one)
    ∙ ap (λ (ys : List Contents). streams own ys) (sym two)

-- ---- their files

pub files_append : (folder : List ℕ) (xs ys : List StreamPackets) → files_made folder (xs ++ ys) ≡ files_made folder xs ++ files_made folder ys
files_append folder xs ys = map-append (λ (s : StreamPackets). stream_file folder s.0 (packets_text s.1)) xs ys

pub files_lead : (folder : List ℕ) (next : ℕ) (ps own rest : List Contents) (n : ℕ) → 1 ≤ length ps → n ≡ lead_count ps → own ≡ take n ps
    → rest ≡ drop n ps
    → files_made folder (parts_streams next (parted ps))
    ≡ files_made folder (part_streams next own) ++ files_made folder (parts_streams (next_stream next own) (parted rest))
files_lead folder next ps own rest n some count one two =
    ap (files_made folder) (streams_lead next ps own rest n some count one two)
    ∙ files_append folder (part_streams next own) (parts_streams (next_stream next own) (parted rest))

-- what is made of the packets of one stream
pub part_is : (folder : List ℕ) (next stream : ℕ) (ps others : List Contents) (p : Contents) → ps ≡ p ∷ others → stream ≡ p.head.stream
    → files_made folder (part_streams next ps) ≡ files_made folder (streams_below next stream) ++ stream_file folder stream (packets_text ps) ∷ []
part_is folder next stream ps others p are same =
    let made = λ (n : ℕ) (xs : List Contents). files_made folder (streams_below next n) ++ stream_file folder n (packets_text xs) ∷ [] in
    ap (λ (xs : List Contents). files_made folder (part_streams next xs)) are
    ∙ files_append folder (streams_below next p.head.stream) ((p.head.stream, p ∷ others) ∷ [])
    ∙ ap (made p.head.stream) (sym are) ∙ ap (λ (n : ℕ). made n ps) (sym same)

-- ---- streams without packets

pub none_made : (known : Option Makings) → known ≡ and_then_made known []
none_made None = refl
none_made (Some before) = ap Some (sym (append-nil before))

-- the files of so many of them
abbrev pub empty_files : List ℕ → ℕ → ℕ → Makings
empty_files folder next n = files_made folder (empty_streams next n)

one_empty : (folder : List ℕ) (next n : ℕ) → 1 ≤ n → empty_files folder next n ≡ stream_file folder next [] ∷ empty_files folder (next + 1) (n - 1)
one_empty folder next zero some = absurd (omega (arith, some))
one_empty folder next (suc n) some =
    let same : suc n - 1 ≡ n = omega arith in
    ap (λ (k : ℕ). stream_file folder next [] ∷ empty_files folder (next + 1) k) (sym same)

-- the next one, and those after it, where some were made
pub empty_more : (folder : List ℕ) (first stream number : ℕ) (done : Makings) → number < stream
    → empty_files folder first (stream - first) ≡ done ++ empty_files folder number (stream - number)
    → empty_files folder first (stream - first) ≡ (done ++ stream_file folder number [] ∷ []) ++ empty_files folder (number + 1) (stream - (number + 1))
empty_more folder first stream number done lt before =
    let less : stream - number - 1 ≡ stream - (number + 1) = omega (arith, lt) in
    before ∙ ap (λ (ms : Makings). done ++ ms) (one_empty folder number (stream - number) (omega (arith, lt)))
    ∙ ap (λ (k : ℕ). done ++ stream_file folder number [] ∷ empty_files folder (number + 1) k) less
    ∙ sym (append_assoc done (stream_file folder number [] ∷ []) (empty_files folder (number + 1) (stream - (number + 1))))

pub files_within : (folder : List ℕ) (next stream : ℕ) → stream < MOST_STREAMS
    → files_made folder (streams_below next stream) ≡ empty_files folder next (stream - next)
files_within folder next stream lt =
    ap (λ (b : Bool). files_made folder (cond b (empty_streams next (stream - next)) [])) (lt-ltb stream MOST_STREAMS lt)
