-- How a packet takes its place among those that are kept.
use Rattle.std.proofs.Common.{◌≡◌, ◌∙◌, ◌<◌, ◌≤◌, ℕ, zero, suc, false, List, [], ◌∷◌, ◌++◌, get_or, length, take, drop, set, refl, sym, ap, arith, drop-cons}
use Rattle.std.proofs.lemmas.Bool.{le-ltb, lt-ltb}
use Rattle.std.proofs.lemmas.List.{get_or_default}
use Rattle.tr_packet.specs.Packets.{Contents}
use Rattle.tr_image.specs.Kept.{comes_before, fuller, gathered, placed}

-- one is another one then
set_in_parts : (xs : List Contents) (i : ℕ) (y : Contents) → i < length xs → set xs i y ≡ take i xs ++ y ∷ drop (suc i) xs
set_in_parts [] i y within = absurd (omega (arith, within))
set_in_parts (x ∷ xs) zero y within = refl
set_in_parts (x ∷ xs) (suc i) y within = ap (λ (zs : List Contents). x ∷ zs) (set_in_parts xs i y (omega (arith, within)))

-- it comes before neither, so they are of one stream and number
meets : (p q : Contents) (rest : List Contents) → comes_before q p ≡ false → comes_before p q ≡ false → placed p (q ∷ rest) ≡ fuller q p ∷ rest
meets p q rest one two = rw (one, two) refl

-- the packets q and r are that at this place
pub same_place : (p q r : Contents) (kept : List Contents) (at : ℕ) → at < length kept → q ≡ get_or kept at q → r ≡ get_or kept at r
    → placed p kept ≡ take at kept ++ placed p (drop at kept) → comes_before r p ≡ false → comes_before p q ≡ false
    → placed p kept ≡ take at kept ++ fuller q p ∷ drop (suc at) kept
same_place p q r kept at within is other placed_so one two =
    let same : r ≡ q = other ∙ get_or_default kept at r q within ∙ sym is in
    let rest : drop at kept ≡ q ∷ drop (suc at) kept = drop-cons kept at q within ∙ ap (λ (x : Contents). x ∷ drop (suc at) kept) (sym is) in
    placed_so ∙ ap (λ (xs : List Contents). take at kept ++ placed p xs) rest
    ∙ ap (λ (xs : List Contents). take at kept ++ xs)
    (meets p q (drop (suc at) kept) (ap (λ (x : Contents). comes_before x p) (sym same) ∙ one) two)

pub more_records : (p q : Contents) → length q.records < length p.records → fuller q p ≡ p
more_records p q more = rw (lt-ltb (length q.records) (length p.records) more) refl

pub no_more_records : (p q : Contents) → length p.records ≤ length q.records → fuller q p ≡ q
no_more_records p q few = rw (le-ltb (length q.records) (length p.records) few) refl

pub is_set : (kept : List Contents) (at : ℕ) (y : Contents) (all : List Contents) → at < length kept → all ≡ take at kept ++ y ∷ drop (suc at) kept
    → set kept at y ≡ all
is_set kept at y all within is = set_in_parts kept at y within ∙ sym is

-- ---- one after another

pub gathered-append : (kept ps qs : List Contents) → gathered kept (ps ++ qs) ≡ gathered (gathered kept ps) qs
gathered-append kept [] qs = refl
gathered-append kept (p ∷ ps) qs = gathered-append (placed p kept) ps qs
