-- How an image is gone through, place by place and window by window.
use Rattle.std.proofs.Common.{◌≡◌, ◌<◌, ◌≤◌, ◌+◌, ◌∙◌, ℕ, zero, suc, List, [], ◌∷◌, ◌++◌, Option, length, take, drop, refl, sym, ap, arith, append_assoc, append-nil, length-append, subst, take_all, ◌*◌, ◌-◌}
use Rattle.std.proofs.lemmas.List.{drop_at, length-take, take_at}
use Rattle.std.specs.List.{copy_within}
use Rattle.tr_packet.specs.Packets.{Contents}
use Rattle.tr_record.proofs.Fields.{AreBytes-drop, AreBytes-take}
use Rattle.tr_record.specs.Whole.{AreBytes}
use Rattle.tr_image.specs.Image.{if_any, packet_at, packets_before, packets_in}
use Rattle.tr_image.specs.Kept.{gathered}
use Rattle.tr_image.proofs.KeptLemmas.{gathered-append}
use Rattle.tr_image.proofs.MemoryLemmas.{AreBytes-append, enough}
use Rattle.tr_image.proofs.WindowLemmas.{joined, moved}
use Rattle.tr_terms.specs.declared.limits.TheConstants.{LARGEST_PACKET}

-- ---- place by place

before_more : (uuid bytes : List ℕ) (at : ℕ) → at < length bytes
    → packets_before (suc at) uuid bytes ≡ packets_before at uuid bytes ++ if_any (packet_at uuid (drop at bytes))
before_more uuid [] at within = absurd (omega (arith, within))
before_more uuid (b ∷ []) zero within = append-nil (if_any (packet_at uuid (b ∷ [])))
before_more uuid (b ∷ c ∷ bytes) zero within = append-nil (if_any (packet_at uuid (b ∷ c ∷ bytes)))
before_more uuid (b ∷ bytes) (suc at) within =
    ap (λ (ps : List Contents). if_any (packet_at uuid (b ∷ bytes)) ++ ps) (before_more uuid bytes at (omega (arith, within)))
    ∙ sym (append_assoc (if_any (packet_at uuid (b ∷ bytes))) (packets_before at uuid bytes) (if_any (packet_at uuid (drop at bytes))))

pub none_before : (uuid bytes : List ℕ) → packets_before 0 uuid bytes ≡ []
none_before uuid [] = refl
none_before uuid (b ∷ bytes) = refl

-- one place more
pub one_more : (uuid bytes : List ℕ) (at : ℕ) (found : Option Contents) (first : List Contents) → at < length bytes
    → found ≡ packet_at uuid (drop at bytes)
    → gathered first (packets_before (at + 1) uuid bytes) ≡ gathered (gathered first (packets_before at uuid bytes)) (if_any found)
one_more uuid bytes at found first within is =
    let next : at + 1 ≡ suc at = omega arith in
    ap (λ (n : ℕ). gathered first (packets_before n uuid bytes)) next ∙ ap (gathered first) (before_more uuid bytes at within)
    ∙ gathered-append first (packets_before at uuid bytes) (if_any (packet_at uuid (drop at bytes)))
    ∙ ap (λ (o : Option Contents). gathered (gathered first (packets_before at uuid bytes)) (if_any o)) (sym is)

-- ---- window by window

AreBytes-rest : (b : ℕ) (bytes : List ℕ) → AreBytes (b ∷ bytes) → AreBytes bytes
AreBytes-rest b bytes small i = small (suc i)

scan_on : (uuid window rest : List ℕ) (until : ℕ) → AreBytes window → AreBytes rest → until + LARGEST_PACKET ≤ length window
    → packets_in uuid (window ++ rest) ≡ packets_before until uuid window ++ packets_in uuid (drop until window ++ rest)
scan_on uuid [] rest until small more long = absurd (omega (arith, long))
scan_on uuid (b ∷ window) rest zero small more long = refl
scan_on uuid (b ∷ window) rest (suc until) small more long =
    ap (λ (o : Option Contents). if_any o ++ packets_in uuid (window ++ rest)) (enough uuid (b ∷ window) rest small more (omega (arith, long)))
    ∙ ap (λ (ps : List Contents). if_any (packet_at uuid (b ∷ window)) ++ ps)
    (scan_on uuid window rest until (AreBytes-rest b window small) more (omega (arith, long)))
    ∙ sym
    (append_assoc (if_any (packet_at uuid (b ∷ window))) (packets_before until uuid window) (packets_in uuid (drop until window ++ rest)))

scan_all : (uuid bytes : List ℕ) → packets_before (length bytes) uuid bytes ≡ packets_in uuid bytes
scan_all uuid [] = refl
scan_all uuid (b ∷ bytes) = ap (λ (ps : List Contents). if_any (packet_at uuid (b ∷ bytes)) ++ ps) (scan_all uuid bytes)

-- a window that isn't the last one
pub gathers_on : (uuid window rest : List ℕ) (until : ℕ) (kept new : List Contents) → AreBytes window → AreBytes rest
    → until + LARGEST_PACKET ≤ length window → new ≡ gathered kept (packets_before until uuid window)
    → gathered kept (packets_in uuid (window ++ rest)) ≡ gathered new (packets_in uuid (drop until window ++ rest))
gathers_on uuid window rest until kept new small more long is =
    ap (gathered kept) (scan_on uuid window rest until small more long)
    ∙ gathered-append kept (packets_before until uuid window) (packets_in uuid (drop until window ++ rest))
    ∙ ap (λ (ps : List Contents). gathered ps (packets_in uuid (drop until window ++ rest))) (sym is)

-- and the last one
pub gathers_all : (uuid window rest : List ℕ) (until : ℕ) (kept new : List Contents) → rest ≡ [] → until ≡ length window
    → new ≡ gathered kept (packets_before until uuid window) → gathered kept (packets_in uuid (window ++ rest)) ≡ new
gathers_all uuid window rest until kept new none all is =
    ap (λ (t : List ℕ). gathered kept (packets_in uuid (window ++ t))) none
    ∙ ap (λ (t : List ℕ). gathered kept (packets_in uuid t)) (append-nil window) ∙ ap (gathered kept) (sym (scan_all uuid window))
    ∙ ap (λ (n : ℕ). gathered kept (packets_before n uuid window)) (sym all) ∙ sym is

-- ---- what is read joins what was there

-- a file ended
pub last_window : (uuid window front room rest more bytes : List ℕ) (len n : ℕ) (kept new all : List Contents) → front ≡ take len window
    → len ≤ length window → n ≤ length room → rest ≡ take n room ++ more → more ≡ [] → bytes ≡ take (len + n) (front ++ room)
    → new ≡ gathered kept (packets_before (len + n) uuid bytes) → all ≡ gathered kept (packets_in uuid (take len window ++ rest)) → new ≡ all
last_window uuid window front room rest more bytes len n kept new all is within there split end taken gathers so_far =
    let joins = joined window front room rest more len n is within there split in
    let few : length front ≡ len = omega (arith, within, ap (λ (t : List ℕ). length t) is, length-take len window) in
    let count : len + n ≡ length bytes =
    omega (arith, few, there, ap (λ (t : List ℕ). length t) taken, length-take (len + n) (front ++ room), length-append front room) in
    sym
    (so_far ∙ ap (λ (t : List ℕ). gathered kept (packets_in uuid t)) (joins ∙ ap (λ (t : List ℕ). t ++ more) (sym taken))
    ∙ gathers_all uuid bytes more (len + n) kept new end count gathers)

AreBytes-front : (xs ys : List ℕ) → AreBytes (xs ++ ys) → AreBytes xs
AreBytes-front xs ys small = subst AreBytes (take_at xs ys (length xs) refl) (AreBytes-take (length xs) (xs ++ ys) small)

AreBytes-behind : (xs ys : List ℕ) → AreBytes (xs ++ ys) → AreBytes ys
AreBytes-behind xs ys small = subst AreBytes (drop_at xs ys (length xs) refl) (AreBytes-drop (length xs) (xs ++ ys) small)

-- a file goes on
pub next_window : (uuid window front room rest more next : List ℕ) (len n : ℕ) (kept new all : List Contents) → AreBytes window → AreBytes rest
    → length window ≡ 2 * LARGEST_PACKET → front ≡ take len window → length room ≡ length window - len → n ≤ length room
    → 2 * LARGEST_PACKET ≤ len + n → len ≤ LARGEST_PACKET
    → rest ≡ take n room ++ more → next ≡ copy_within (front ++ room) LARGEST_PACKET (2 * LARGEST_PACKET) 0
    → new ≡ gathered kept (packets_before LARGEST_PACKET uuid (front ++ room)) → all ≡ gathered kept (packets_in uuid (take len window ++ rest))
    → (length next ≡ 2 * LARGEST_PACKET) × AreBytes more × (all ≡ gathered new (packets_in uuid (take LARGEST_PACKET next ++ more)))
next_window uuid window front room rest more next len n kept new all small unread long is lasts there full low split copied gathers so_far =
    let within : len ≤ length window = omega (arith, long, low) in
    let joins = joined window front room rest more len n is within there split in
    let few : length front ≡ len = omega (arith, within, ap (λ (t : List ℕ). length t) is, length-take len window) in
    let size : length (front ++ room) ≡ 2 * LARGEST_PACKET = omega (arith, few, lasts, long, low, length-append front room) in
    let whole : take (len + n) (front ++ room) ≡ front ++ room = take_all (len + n) (front ++ room) (omega (arith, size, full)) in
    let filled : take n room ≡ room = take_all n room (omega (arith, lasts, long, full, low)) in
    let parts : AreBytes (room ++ more) = subst AreBytes (split ∙ ap (λ (t : List ℕ). t ++ more) filled) unread in
    let later : AreBytes more = AreBytes-behind room more parts in
    let bytes : AreBytes (front ++ room) =
    AreBytes-append front room (subst AreBytes (sym is) (AreBytes-take len window small)) (AreBytes-front room more parts) in
    let move = moved LARGEST_PACKET (front ++ room) next size copied in (
      move.1,
      later,
      so_far ∙ ap (λ (t : List ℕ). gathered kept (packets_in uuid t)) (joins ∙ ap (λ (t : List ℕ). t ++ more) whole)
          ∙ gathers_on uuid (front ++ room) more LARGEST_PACKET kept new bytes later (omega (arith, size)) gathers
          ∙ ap (λ (t : List ℕ). gathered new (packets_in uuid (t ++ more))) (sym move.0),
    )
