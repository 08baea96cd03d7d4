-- A search among packets whose serials rise.
use Rattle.std.proofs.Common.{◌≡◌, ◌≢◌, ℕ, ◌+◌, ◌-◌, ◌<◌, ◌≤◌, zero, suc, Bool, true, false, cond, eqb, leb, nat_lt, List, [], ◌∷◌, length, get_or, Option, Some, None, refl, sym, ◌∙◌, ap, arith}
use Rattle.std.proofs.lemmas.Bool.Decides.{nat_tests}
use Rattle.std.proofs.lemmas.Grind.{common_steps}
use Rattle.std.specs.List.Sorted.{IsNonDecreasingBy, IsPartitionPoint}
use Rattle.tr_book.specs.Parts.{seq_among}
use Rattle.tr_book.specs.Runs.{AreInRow, GapsShow, PacketsRise, RecordsRise, SerialsFollow, first_in, lost_before, next_serial}
use Rattle.tr_packet.specs.Packets.{Contents}
use Rattle.tr_record.specs.Records.{Entry, has_serial}

-- ---- one packet

has-first : (n : ℕ) (e : Entry) (es : List Entry) → has_serial n (e ∷ es) ≡ cond (eqb e.serial n) true (has_serial n es)
has-first n e es = either (eqb e.serial n) refl
  where
    either : (b : Bool) → eqb e.serial n ≡ b → has_serial n (e ∷ es) ≡ cond (eqb e.serial n) true (has_serial n es)
    either true f = rw f refl
    either false f = rw f refl

-- serials that follow each other are those from the first on
follow-has : (n low : ℕ) (es : List Entry) → SerialsFollow low es
    → has_serial n es ≡ cond (leb low n) (nat_lt (n - low) (length es)) false
follow-has n low [] follow = grind (arith, nat_tests)
follow-has n low (e ∷ es) follow =
    has-first n e es ∙ grind (arith, nat_tests, common_steps, follow.0, follow-has n (low + 1) es follow.1)

pub row-has : (n : ℕ) (e : Entry) (es : List Entry) → AreInRow (e ∷ es)
    → has_serial n (e ∷ es) ≡ cond (leb e.serial n) (nat_lt (n - e.serial) (length (e ∷ es))) false
row-has n e es row = follow-has n e.serial (e ∷ es) (refl, row)

-- a serial below them is none of those that rise
below-none : (n low : ℕ) (es : List Entry) → RecordsRise low es → n < low → has_serial n es ≡ false
below-none n low [] rise below = refl
below-none n low (e ∷ es) rise below =
    let other : eqb e.serial n ≡ false = grind (arith, nat_tests, rise.0, below) in
    has-first n e es
    ∙ ap (λ (b : Bool). cond b true (has_serial n es)) other
    ∙ below-none n (e.serial + 1) es rise.1 (omega (arith, rise.0, below))

pub next-high : (low : ℕ) (es : List Entry) → RecordsRise low es → low ≤ next_serial low es
next-high low [] rise = omega arith
next-high low (e ∷ es) rise = omega (arith, rise.0, next-high (e.serial + 1) es rise.1)

-- nor one past them
pub past-none : (n low : ℕ) (es : List Entry) → RecordsRise low es → next_serial low es ≤ n → has_serial n es ≡ false
past-none n low [] rise past = refl
past-none n low (e ∷ es) rise past =
    let other : eqb e.serial n ≡ false = grind (arith, nat_tests, next-high (e.serial + 1) es rise.1, past) in
    has-first n e es
    ∙ ap (λ (b : Bool). cond b true (has_serial n es)) other
    ∙ past-none n (e.serial + 1) es rise.1 past

-- a serial before the first one
pub before-none : (n low : ℕ) (es : List Entry) → RecordsRise low es → n < first_in es 0 → has_serial n es ≡ false
before-none n low [] rise before = refl
before-none n low (e ∷ es) rise before =
    let other : eqb e.serial n ≡ false = grind (arith, nat_tests, before) in
    has-first n e es
    ∙ ap (λ (b : Bool). cond b true (has_serial n es)) other
    ∙ below-none n (e.serial + 1) es rise.1 (omega (arith, before))

pub first-least : (low : ℕ) (es : List Entry) → es ≢ [] → RecordsRise low es → low ≤ first_in es 0
first-least low [] some rise = absurd (some refl)
first-least low (e ∷ es) some rise = rise.0

pub first-below : (low : ℕ) (es : List Entry) → es ≢ [] → RecordsRise low es → first_in es 0 < next_serial low es
first-below low [] some rise = absurd (some refl)
first-below low (e ∷ es) some rise = omega (arith, next-high (e.serial + 1) es rise.1)

-- ---- many

first-packet : (n : ℕ) (p : Contents) (ps : List Contents)
    → seq_among n (p ∷ ps) ≡ cond (has_serial n p.records) (Some p.head.seq) (seq_among n ps)
first-packet n p ps = either (has_serial n p.records) refl
  where
    either : (b : Bool) → has_serial n p.records ≡ b
        → seq_among n (p ∷ ps) ≡ cond (has_serial n p.records) (Some p.head.seq) (seq_among n ps)
    either true e = rw e refl
    either false e = rw e refl

-- packets that begin later don't have it
all-later : (n low : ℕ) (ps : List Contents) → PacketsRise low ps
    → ((k : ℕ) (d : Contents) → k < length ps → leb (first_in (get_or ps k d).records 0) n ≡ false) → seq_among n ps ≡ None
all-later n low [] rise later = refl
all-later n low (p ∷ ps) rise later =
    let here : leb (first_in p.records 0) n ≡ false = later 0 p (grind (arith, common_steps)) in
    let outside = before-none n low p.records rise.1 (grind (arith, nat_tests, here)) in
    let rest = all-later n (next_serial low p.records) ps rise.2 (λ k d within. later (suc k) d (grind (arith, common_steps, within))) in
    first-packet n p ps ∙ ap (λ (b : Bool). cond b (Some p.head.seq) (seq_among n ps)) outside ∙ rest

-- that those up to a place begin at the serial or before, and later ones after it
abbrev pub Turns : ℕ → List Contents → ℕ → Type 0
Turns n ps i = IsPartitionPoint (λ (p : Contents). leb (first_in p.records 0) n ≡ true)
    (λ (p : Contents). leb (first_in p.records 0) n ≡ false) ps i

-- before the turn nothing begins
pub none-begins : (n low : ℕ) (ps : List Contents) → PacketsRise low ps → Turns n ps 0 → None ≡ seq_among n ps
none-begins n low ps rise point = sym (all-later n low ps rise (λ k d within. point.1 k d (omega arith) within))

-- the last packet that begins before the turn is the only one that may have it
pub last-begins : (n low : ℕ) (ps : List Contents) (i : ℕ) (d : Contents) → PacketsRise low ps → i < length ps
    → Turns n ps (i + 1)
    → seq_among n ps ≡ cond (has_serial n (get_or ps i d).records) (Some (get_or ps i d).head.seq) None
last-begins n low [] i d rise within point = absurd (omega (arith, within))
last-begins n low (p ∷ ps) zero d rise within point =
    first-packet n p ps
    ∙ ap (λ (o : Option ℕ). cond (has_serial n p.records) (Some p.head.seq) o)
    (all-later n (next_serial low p.records) ps rise.2
    (λ k e below. point.1 (suc k) e (omega arith) (grind (arith, common_steps, below))))
last-begins n low (p ∷ ps) (suc i) d rise within point =
    let more : i < length ps = grind (arith, common_steps, within) in
    let next = second ps rise.2 more (λ e. point.0 1 e (omega arith) (omega arith)) in
    let outside = past-none n low p.records rise.1 next in
    first-packet n p ps
    ∙ ap (λ (b : Bool). cond b (Some p.head.seq) (seq_among n ps)) outside
    ∙ last-begins n (next_serial low p.records) ps i d rise.2 more (
      λ k e least below. point.0 (suc k) e (omega arith) (omega (arith, below)),
      λ k e least below. point.1 (suc k) e (omega (arith, least)) (grind (arith, common_steps, below)),
    )
  where
    second : (qs : List Contents) → PacketsRise (next_serial low p.records) qs → i < length qs
        → ((e : Contents) → leb (first_in (get_or (p ∷ qs) 1 e).records 0) n ≡ true) → next_serial low p.records ≤ n
    second [] rise' some begun = absurd (omega (arith, some))
    second (q ∷ qs) rise' some begun =
        let b : leb (first_in q.records 0) n ≡ true = begun q in
        grind (arith, nat_tests, b, first-least (next_serial low p.records) q.records rise'.0 rise'.1)

-- first serials rise
least-first : (low : ℕ) (ps : List Contents) (j : ℕ) (d : Contents) → PacketsRise low ps → j < length ps
    → low ≤ first_in (get_or ps j d).records 0
least-first low [] j d rise within = absurd (omega (arith, within))
least-first low (p ∷ ps) zero d rise within = first-least low p.records rise.0 rise.1
least-first low (p ∷ ps) (suc j) d rise within =
    let more = least-first (next_serial low p.records) ps j d rise.2 (grind (arith, common_steps, within)) in
    omega (arith, more, next-high low p.records rise.1)

pub firsts-rise : (low : ℕ) (ps : List Contents) → PacketsRise low ps → IsNonDecreasingBy (λ (p : Contents). first_in p.records 0) ps
firsts-rise low [] rise = λ i j d le within. absurd (omega (arith, within))
firsts-rise low (p ∷ ps) rise = go (firsts-rise (next_serial low p.records) ps rise.2)
  where
    go : IsNonDecreasingBy (λ (q : Contents). first_in q.records 0) ps
        → IsNonDecreasingBy (λ (q : Contents). first_in q.records 0) (p ∷ ps)
    go later zero zero d le within = omega arith
    go later zero (suc j) d le within =
        let more = least-first (next_serial low p.records) ps j d rise.2 (grind (arith, common_steps, within)) in
        omega (arith, more, first-below low p.records rise.0 rise.1)
    go later (suc i) zero d le within = absurd (omega (arith, le))
    go later (suc i) (suc j) d le within = later i j d (omega (arith, le)) (grind (arith, common_steps, within))

-- ---- gaps

-- a packet with the `lost` of the one before has its serials in a row
pub shown-in-row : (lost : ℕ) (ps : List Contents) (i : ℕ) (d : Contents) → GapsShow lost ps → i < length ps
    → (get_or ps i d).head.lost ≡ lost_before lost i ps → AreInRow (get_or ps i d).records
shown-in-row lost [] i d show within = absurd (omega (arith, within))
shown-in-row lost (p ∷ ps) zero d show within = show.0
shown-in-row lost (p ∷ ps) (suc i) d show within = shown-in-row p.head.lost ps i d show.1 (grind (arith, common_steps, within))

pub lost-at : (lost : ℕ) (ps : List Contents) (i : ℕ) (d : Contents) → i < length ps
    → (get_or ps i d).head.lost ≡ lost_before lost (suc i) ps
lost-at lost [] i d within = absurd (omega (arith, within))
lost-at lost (p ∷ ps) zero d within = refl
lost-at lost (p ∷ ps) (suc i) d within = lost-at p.head.lost ps i d (grind (arith, common_steps, within))
