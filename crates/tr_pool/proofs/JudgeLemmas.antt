-- Records that are judged one after another.
use Rattle.std.proofs.Common.{◌≡◌, ℕ, zero, suc, ◌+◌, ◌<◌, ◌≤◌, List, [], ◌∷◌, ◌++◌, Option, Some, None, length, take, ap, sym, subst, refl, ◌∙◌, arith, inl, inr, ⊎_elim, append_assoc, append-nil, Bool, length-append, ne_eqb, eq-eqb, if◌then◌else◌}
use Rattle.std.specs.List.{AllByRecursion, flat_map, sum_by}
use Rattle.std.specs.Prelude.{slice_get}
use Rattle.std.proofs.lemmas.List.{flat_map_more}
use Rattle.tr_book.specs.Parts.{PartState, PartsState, part_at}
use Rattle.tr_stream.specs.Calls.{in_ring, ring_records}
use Rattle.tr_stream.specs.Fates.{all_parts}
use Rattle.std.proofs.lemmas.Grind.{common_steps}
use Rattle.tr_threads.proofs.FeedLemmas.{all_append}
use Rattle.tr_pool.specs.Judging.{Judges}
use Rattle.tr_pool.specs.Logs.{HasWrong, IsLeastWrong, IsLogged, packet_records, parts_records}
use Rattle.tr_threads.specs.declared.items.Item.{Item}
use Rattle.tr_record.specs.Records.{Entry}
use Rattle.tr_ring.specs.ClosedBuffer.{ClosedBuffer}
use Rattle.tr_ring.specs.Ring.{RingState}

all_weaker : {X : Type 0} (P Q : X → Type 0) (xs : List X) → ((x : X) → P x → Q x) → AllByRecursion P xs → AllByRecursion Q xs
all_weaker P Q [] f a = tt
all_weaker P Q (x ∷ xs) f a = (f x a.0, all_weaker P Q xs f a.1)

wrong_left : (items : List Item) (n : ℕ) (xs ys : List Entry) → HasWrong items n xs → HasWrong items n (xs ++ ys)
wrong_left items n [] ys w = absurd w
wrong_left items n (x ∷ xs) ys w = ⊎_elim (λ here. inl here) (λ later. inr (wrong_left items n xs ys later)) w

wrong_right : (items : List Item) (n : ℕ) (xs ys : List Entry) → HasWrong items n ys → HasWrong items n (xs ++ ys)
wrong_right items n [] ys w = w
wrong_right items n (x ∷ xs) ys w = inr (wrong_right items n xs ys w)

-- a record that is logged changes nothing
pub judges_logged : (items : List Item) (e : Entry) (o : Option ℕ) → IsLogged items e → Judges items (e ∷ []) o o
judges_logged items e None is seen was = all_append (IsLogged items) seen (e ∷ []) was (is, tt)
judges_logged items e (Some n) is seen was =
    (wrong_left items n seen (e ∷ []) was.0, all_append (λ (x : Entry). x.serial < n → IsLogged items x) seen (e ∷ []) was.1 ((λ low. is), tt))

-- nor does a wrong one after a lesser serial
pub judges_later : (items : List Item) (e : Entry) (n : ℕ) → n < e.serial → Judges items (e ∷ []) (Some n) (Some n)
judges_later items e n above seen was = (
  wrong_left items n seen (e ∷ []) was.0,
  all_append (λ (x : Entry). x.serial < n → IsLogged items x) seen (e ∷ []) was.1 ((λ low. absurd (omega (arith, low, above))), tt),
)

-- a wrong one is the least, if no lesser serial was wrong
pub judges_least : (items : List Item) (e : Entry) (o : Option ℕ) → (¬ IsLogged items e) → ((n : ℕ) → o ≡ Some n → e.serial ≤ n) → Judges items (e ∷ []) o (Some e.serial)
judges_least items e None wrong least seen was = (
  wrong_right items e.serial seen (e ∷ []) (inl (refl, wrong)),
  all_append (λ (x : Entry). x.serial < e.serial → IsLogged items x) seen (e ∷ [])
      (all_weaker (IsLogged items) (λ (x : Entry). x.serial < e.serial → IsLogged items x) seen (λ x is low. is) was)
      ((λ low. absurd (omega (arith, low))), tt),
)
judges_least items e (Some n) wrong least seen was =
    let low : e.serial ≤ n = least n refl in (
      wrong_right items e.serial seen (e ∷ []) (inl (refl, wrong)),
      all_append (λ (x : Entry). x.serial < e.serial → IsLogged items x) seen (e ∷ [])
          (all_weaker (λ (x : Entry). x.serial < n → IsLogged items x) (λ (x : Entry). x.serial < e.serial → IsLogged items x) seen
          (λ x is below. is (omega (arith, below, low))) was.1)
          ((λ below. absurd (omega (arith, below))), tt),
    )

pub judges_none : (items : List Item) (o : Option ℕ) → Judges items [] o o
judges_none items o seen was = subst (λ es. IsLeastWrong items es o) (sym (append-nil seen)) was

pub judges_then : (items : List Item) (xs ys : List Entry) (a b c : Option ℕ) → Judges items xs a b → Judges items ys b c → Judges items (xs ++ ys) a c
judges_then items xs ys a b c first second seen was =
    subst (λ es. IsLeastWrong items es c) (append_assoc seen xs ys) (second (seen ++ xs) (first seen was))

pub judges_all : (items : List Item) (es : List Entry) (o : Option ℕ) → Judges items es None o → IsLeastWrong items es o
judges_all items es o judged = judged [] tt

-- the records of one more
records_more : {X : Type 0} (f : X → List Entry) (n : ℕ) (xs : List X) (x : X) → slice_get xs n ≡ Some x
    → flat_map f (take (n + 1) xs) ≡ flat_map f (take n xs) ++ f x
records_more f n [] x at = absurd cc
records_more f zero (y ∷ ys) x at = let same : y ≡ x = cc in append-nil (f y) ∙ ap f same
records_more f (suc n) (y ∷ ys) x at =
    let one : suc n + 1 ≡ suc (n + 1) = omega arith in
    ap (λ k. flat_map f (take k (y ∷ ys))) one ∙ ap (λ (es : List Entry). f y ++ es) (records_more f n ys x at) ∙ sym (append_assoc (f y) (flat_map f (take n ys)) (f x))

pub judges_more : {X : Type 0} (f : X → List Entry) (items : List Item) (n : ℕ) (xs : List X) (x : X) (a b c : Option ℕ) → slice_get xs n ≡ Some x
    → Judges items (flat_map f (take n xs)) a b → Judges items (f x) b c → Judges items (flat_map f (take (n + 1) xs)) a c
judges_more f items n xs x a b c at first second =
    subst (λ es. Judges items es a c) (sym (records_more f n xs x at)) (judges_then items (flat_map f (take n xs)) (f x) a b c first second)

singles : (es : List Entry) → flat_map (λ (e : Entry). e ∷ []) es ≡ es
singles [] = refl
singles (e ∷ es) = ap (λ (xs : List Entry). e ∷ xs) (singles es)

pub judges_singles : (items : List Item) (es : List Entry) (a b : Option ℕ) → Judges items (flat_map (λ (e : Entry). e ∷ []) es) a b → Judges items es a b
judges_singles items es a b judged = subst (λ xs. Judges items xs a b) (singles es) judged

-- ---- how many records and parts there are

length_flat : {X : Type 0} (f : X → List Entry) (xs : List X) → length (flat_map f xs) ≡ sum_by (λ (x : X). length (f x)) xs
length_flat f [] = refl
length_flat f (x ∷ xs) = let rest = length_flat f xs in let one = length-append (f x) (flat_map f xs) in grind (arith, common_steps, rest, one)

pub ring_length : (r : RingState) → length (ring_records r) ≡ in_ring r
ring_length r =
    length-append (flat_map (λ (b : ClosedBuffer). b.records) r.waiting) r.current
    ∙ ap (λ (n : ℕ). n + length r.current) (length_flat (λ (b : ClosedBuffer). b.records) r.waiting)

pub item_at : {X : Type 0} (xs : List X) (i : ℕ) → i < length xs → (x : X) × (slice_get xs i ≡ Some x)
item_at [] i within = absurd (omega (arith, within))
item_at (x ∷ xs) zero within = (x, refl)
item_at (x ∷ xs) (suc i) within = item_at xs i (grind (arith, common_steps, within))

pub part_below : (ps : PartsState) (k : ℕ) (x : PartState) → k < length ps.closed → slice_get ps.closed k ≡ Some x → part_at k ps ≡ Some x
part_below ps k x low at = ap (λ (b : Bool). if b then Some ps.current else slice_get ps.closed k) (ne_eqb k (length ps.closed) (λ same. omega (arith, same, low))) ∙ at

pub part_last : (ps : PartsState) → part_at (length ps.closed) ps ≡ Some ps.current
part_last ps = ap (λ (b : Bool). if b then Some ps.current else slice_get ps.closed (length ps.closed)) (eq-eqb (length ps.closed) (length ps.closed) refl)

-- the current part comes after the closed ones
pub judges_parts : (items : List Item) (ps : PartsState) (a b c : Option ℕ) → Judges items (parts_records ps.closed) a b
    → Judges items (packet_records ps.current.packets) b c → Judges items (parts_records (all_parts ps)) a c
judges_parts items ps a b c first second =
    subst (λ es. Judges items es a c)
    (flat_map_more (λ (p : PartState). packet_records p.packets) [] ps.closed ps.current)
    (judges_then items (parts_records ps.closed) (packet_records ps.current.packets) a b c first second)
