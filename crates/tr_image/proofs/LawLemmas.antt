-- What is recovered of an image, seen as a whole.
use Rattle.std.proofs.Common.{◌≡◌, ◌<◌, ◌∙◌, ◌⊎◌, ◌&&◌, ◌||◌, ◌==◌, inl, inr, ℕ, zero, suc, Bool, true, false, List, [], ◌∷◌, ◌++◌, Option, Some, None, length, drop, nat_lt, refl, sym, ap, subst, arith, cond, drop-cons, get_or}
use Rattle.std.specs.List.{AllByRecursion}
use Rattle.std.proofs.lemmas.Bool.{ltb-false, ltb-true}
use Rattle.std.proofs.lemmas.Grind.{common_steps}
use Rattle.std.proofs.lemmas.List.{length-drop}
use Rattle.tr_packet.specs.Packets.{Contents}
use Rattle.tr_record.specs.Whole.{AreBytes}
use Rattle.tr_subbuf.specs.Stores.{Stands}
use Rattle.tr_image.specs.Image.{StandsIn, if_any, packet_at, packets_in}
use Rattle.tr_image.specs.Kept.{AreInOrder, OneOf, StandsFor, comes_before, gathered, placed, recovered_from}
use Rattle.tr_image.proofs.MemoryLemmas.{found_stands, stands_found}

-- ---- numbers in order

abbrev before : ℕ → ℕ → ℕ → ℕ → Bool
before a c b d = nat_lt a b || ((a == b) && nat_lt c d)

meet : (a c b d : ℕ) → before a c b d ≡ false → before b d a c ≡ false → (a ≡ b) × (c ≡ d)
meet a c b d one two = (grind (arith, common_steps), grind (arith, common_steps))

follow : (a c b d e f : ℕ) → before a c b d ≡ true → before b d e f ≡ true → before a c e f ≡ true
follow a c b d e f one two = grind (arith, common_steps)

alike : (p q : Contents) → comes_before p q ≡ false → comes_before q p ≡ false → (p.head.stream ≡ q.head.stream) × (p.head.seq ≡ q.head.seq)
alike p q one two = meet p.head.stream p.head.seq q.head.stream q.head.seq one two

later : (p q r : Contents) → comes_before p q ≡ true → comes_before q r ≡ true → comes_before p r ≡ true
later p q r one two = follow p.head.stream p.head.seq q.head.stream q.head.seq r.head.stream r.head.seq one two

same_before : (p q r : Contents) → (p.head.stream ≡ q.head.stream) × (p.head.seq ≡ q.head.seq) → comes_before q r ≡ comes_before p r
same_before p q r same = rw (same.0, same.1) refl

-- ---- what holds of each

all_placed : (Does : Contents → Type 0) (p : Contents) (kept : List Contents) → Does p → AllByRecursion Does kept → AllByRecursion Does (placed p kept)
all_placed Does p [] own all = (own, tt)
all_placed Does p (q ∷ kept) own all = go (comes_before q p) (comes_before p q) (nat_lt (length q.records) (length p.records)) (all_placed Does p kept own all.1)
  where
    go : (one two more : Bool) → AllByRecursion Does (placed p kept)
        → AllByRecursion Does (cond one (q ∷ placed p kept) (cond two (p ∷ q ∷ kept) (cond more p q ∷ kept)))
    go true two more rest = (all.0, rest)
    go false true more rest = (own, all)
    go false false true rest = (own, all.1)
    go false false false rest = (all.0, all.1)

all_gathered : (Does : Contents → Type 0) (kept ps : List Contents) → AllByRecursion Does kept → AllByRecursion Does ps
    → AllByRecursion Does (gathered kept ps)
all_gathered Does kept [] all new = all
all_gathered Does kept (p ∷ ps) all new = all_gathered Does (placed p kept) ps (all_placed Does p kept new.0 all) new.1

-- ---- each stands in the image

abbrev IsFound : List ℕ → List ℕ → Contents → Type 0
IsFound uuid image p = StandsIn p image × (p.head.uuid ≡ uuid)

next_place : (image : List ℕ) (b : ℕ) (bytes : List ℕ) (place : ℕ) → drop place image ≡ b ∷ bytes
    → (place < length image) × (drop (suc place) image ≡ bytes)
next_place image b bytes place is =
    let within : place < length image = omega (arith, ap (λ (t : List ℕ). length t) is, length-drop place image) in
    let both : get_or image place 0 ∷ drop (suc place) image ≡ b ∷ bytes = sym (drop-cons image place 0 within) ∙ is in (within, cc)

all_stand : (uuid image bytes : List ℕ) (place : ℕ) → drop place image ≡ bytes → AreBytes bytes → AllByRecursion (IsFound uuid image) (packets_in uuid bytes)
all_stand uuid image [] place is small = tt
all_stand uuid image (b ∷ bytes) place is small =
    go (packet_at uuid (b ∷ bytes)) refl
    (all_stand uuid image bytes (suc place) (next_place image b bytes place is).1 (λ i. small (suc i)))
  where
    go : (found : Option Contents) → packet_at uuid (b ∷ bytes) ≡ found → AllByRecursion (IsFound uuid image) (packets_in uuid bytes)
        → AllByRecursion (IsFound uuid image) (if_any found ++ packets_in uuid bytes)
    go None e rest = rest
    go (Some p) e rest =
        let it = found_stands uuid (b ∷ bytes) p small e in
        ((record { place = place; within = (next_place image b bytes place is).0; stands = subst (Stands p) (sym is) it.0 }, it.1), rest)

pub all_recovered : (uuid image : List ℕ) → AreBytes image → AllByRecursion (IsFound uuid image) (recovered_from uuid image)
all_recovered uuid image small = all_gathered (IsFound uuid image) [] (packets_in uuid image) tt (all_stand uuid image image 0 refl small)

-- ---- each that stands there is stood for

own_placed : (p : Contents) (kept : List Contents) → OneOf (StandsFor p) (placed p kept)
own_placed p [] = inl (record { stream = refl; seq = refl; records = omega arith })
own_placed p (q ∷ kept) =
    go (comes_before q p) refl (comes_before p q) refl (nat_lt (length q.records) (length p.records)) refl (own_placed p kept)
  where
    itself : StandsFor p p
    itself = record { stream = refl; seq = refl; records = omega arith }

    go : (one : Bool) → comes_before q p ≡ one → (two : Bool) → comes_before p q ≡ two → (more : Bool)
        → nat_lt (length q.records) (length p.records) ≡ more → OneOf (StandsFor p) (placed p kept)
        → OneOf (StandsFor p) (cond one (q ∷ placed p kept) (cond two (p ∷ q ∷ kept) (cond more p q ∷ kept)))
    go true e two e' more e'' rest = inr rest
    go false e true e' more e'' rest = inl itself
    go false e false e' true e'' rest = inl itself
    go false e false e' false e'' rest =
        let same = alike p q e' e in
        inl (record { stream = same.0; seq = same.1; records = ltb-false (length q.records) (length p.records) e'' })

still_placed : (r p : Contents) (kept : List Contents) → OneOf (StandsFor r) kept → OneOf (StandsFor r) (placed p kept)
still_placed r p [] has = absurd has
still_placed r p (q ∷ kept) has =
    go (comes_before q p) refl (comes_before p q) refl (nat_lt (length q.records) (length p.records)) refl (still_placed r p kept) has
  where
    go : (one : Bool) → comes_before q p ≡ one → (two : Bool) → comes_before p q ≡ two → (more : Bool)
        → nat_lt (length q.records) (length p.records) ≡ more → (OneOf (StandsFor r) kept → OneOf (StandsFor r) (placed p kept))
        → (StandsFor r q ⊎ OneOf (StandsFor r) kept)
        → OneOf (StandsFor r) (cond one (q ∷ placed p kept) (cond two (p ∷ q ∷ kept) (cond more p q ∷ kept)))
    go true e two e' more e'' rest (inl it) = inl it
    go true e two e' more e'' rest (inr others) = inr (rest others)
    go false e true e' more e'' rest it = inr it
    go false e false e' true e'' rest (inl it) =
        let same = alike p q e' e in
        inl (record {
          stream = it.stream ∙ sym same.0;
          seq = it.seq ∙ sym same.1;
          records = omega (arith, it.records, ltb-true (length q.records) (length p.records) e'');
        })
    go false e false e' true e'' rest (inr others) = inr others
    go false e false e' false e'' rest it = it

still_gathered : (r : Contents) (kept ps : List Contents) → OneOf (StandsFor r) kept → OneOf (StandsFor r) (gathered kept ps)
still_gathered r kept [] has = has
still_gathered r kept (p ∷ ps) has = still_gathered r (placed p kept) ps (still_placed r p kept has)

own_gathered : (p : Contents) (kept ps : List Contents) → OneOf (λ q. q ≡ p) ps → OneOf (StandsFor p) (gathered kept ps)
own_gathered p kept [] none = absurd none
own_gathered p kept (q ∷ ps) (inl same) =
    still_gathered p (placed q kept) ps (subst (λ (r : Contents). OneOf (StandsFor r) (placed q kept)) same (own_placed q kept))
own_gathered p kept (q ∷ ps) (inr others) = own_gathered p (placed q kept) ps others

behind : (Does : Contents → Type 0) (first ps : List Contents) → OneOf Does ps → OneOf Does (first ++ ps)
behind Does [] ps one = one
behind Does (p ∷ first) ps one = inr (behind Does first ps one)

one_stands : (uuid image : List ℕ) (p : Contents) (place : ℕ) → place < length image → Stands p (drop place image) → p.head.uuid ≡ uuid
    → OneOf (λ q. q ≡ p) (packets_in uuid image)
one_stands uuid [] p place within stands same = absurd (omega (arith, within))
one_stands uuid (b ∷ bytes) p zero within stands same =
    subst (λ (o : Option Contents). OneOf (λ q. q ≡ p) (if_any o ++ packets_in uuid bytes)) (sym (stands_found uuid (b ∷ bytes) p stands same)) (inl refl)
one_stands uuid (b ∷ bytes) p (suc place) within stands same =
    behind (λ q. q ≡ p) (if_any (packet_at uuid (b ∷ bytes))) (packets_in uuid bytes)
    (one_stands uuid bytes p place (omega (arith, within)) stands same)

pub stood_for : (uuid image : List ℕ) (p : Contents) (place : ℕ) → place < length image → Stands p (drop place image) → p.head.uuid ≡ uuid
    → OneOf (StandsFor p) (recovered_from uuid image)
stood_for uuid image p place within stands same = own_gathered p [] (packets_in uuid image) (one_stands uuid image p place within stands same)

-- ---- they are in order

all_later : (p q : Contents) (kept : List Contents) → comes_before p q ≡ true → AllByRecursion (λ r. comes_before q r ≡ true) kept
    → AllByRecursion (λ r. comes_before p r ≡ true) kept
all_later p q [] first all = tt
all_later p q (r ∷ kept) first all = (later p q r first all.0, all_later p q kept first all.1)

all_same : (p q : Contents) (kept : List Contents) → (p.head.stream ≡ q.head.stream) × (p.head.seq ≡ q.head.seq)
    → AllByRecursion (λ r. comes_before q r ≡ true) kept → AllByRecursion (λ r. comes_before p r ≡ true) kept
all_same p q [] same all = tt
all_same p q (r ∷ kept) same all = (sym (same_before p q r same) ∙ all.0, all_same p q kept same all.1)

in_order_placed : (p : Contents) (kept : List Contents) → AreInOrder kept → AreInOrder (placed p kept)
in_order_placed p [] order = (tt, tt)
in_order_placed p (q ∷ kept) order = go (comes_before q p) refl (comes_before p q) refl (nat_lt (length q.records) (length p.records))
    (in_order_placed p kept order.1)
  where
    go : (one : Bool) → comes_before q p ≡ one → (two : Bool) → comes_before p q ≡ two → (more : Bool) → AreInOrder (placed p kept)
        → AreInOrder (cond one (q ∷ placed p kept) (cond two (p ∷ q ∷ kept) (cond more p q ∷ kept)))
    go true e two e' more rest = (all_placed (λ r. comes_before q r ≡ true) p kept e order.0, rest)
    go false e true e' more rest = ((e', all_later p q kept e' order.0), order)
    go false e false e' true rest = (all_same p q kept (alike p q e' e) order.0, order.1)
    go false e false e' false rest = order

in_order_gathered : (kept ps : List Contents) → AreInOrder kept → AreInOrder (gathered kept ps)
in_order_gathered kept [] order = order
in_order_gathered kept (p ∷ ps) order = in_order_gathered (placed p kept) ps (in_order_placed p kept order)

pub in_order : (uuid image : List ℕ) → AreInOrder (recovered_from uuid image)
in_order uuid image = in_order_gathered [] (packets_in uuid image) tt
