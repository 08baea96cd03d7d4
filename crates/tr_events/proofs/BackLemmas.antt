-- A word that says something is the word that is written of what it says.
use Rattle.std.proofs.Common.{◌≡◌, ◌<◌, ◌≤◌, ◌&&◌, ℕ, zero, suc, ℤ, Bool, true, false, cond, eqb, ltb, leb, refl, sym, ap, ap₂, subst, ◌∙◌, arith, List, [], ◌∷◌, ◌++◌, length, map, get_or, append_assoc, append-nil, Option, Some, None, Ok, Err}
use Rattle.std.specs.Prelude.{not, bytes_eq}
use Rattle.std.specs.Fmt.{decimal, signed_decimal}
use Rattle.std.specs.List.{after_first, before_first, flat_map, join_with_byte, position_or_len, slice_split}
use Rattle.std.specs.Option.{option_and_then, option_map}
use Rattle.std.proofs.lemmas.Bool.{eqb-true, leb-true, ltb-true}
use Rattle.std.proofs.lemmas.Bool.Decides.{Decides-eqb}
use Rattle.std.proofs.lemmas.Fmt.{decimal-digits_value}
use Rattle.std.proofs.lemmas.List.Splits.{join_with_byte-slice_split, length-slice_split}
use Rattle.std.proofs.lemmas.List.Sums.{prefix_len_stops, split_at_first}
use Rattle.std.proofs.lemmas.Slice.Eq.{bytes_eq-Decides, ends_is}
use Rattle.std.proofs.lemmas.Str.Parse.{numerals_by_value, tells_digits}
use Rattle.tr_terms.specs.Names.{is_name}
use Rattle.tr_terms.proofs.BoolLemmas.{both}
use Rattle.tr_events.specs.declared.faults.EventFault.{EventFault}
use Rattle.tr_events.specs.declared.faults.EventFault.TheVariants.{BadEvent, NotAlone, FieldTwice, TooMany}
use Rattle.tr_events.specs.declared.layouts.Layout.TheVariants.{One}
use Rattle.tr_events.specs.declared.layouts.Number.{Number}
use Rattle.tr_events.specs.declared.layouts.TheConstants.{MOST_FIELDS, MOST_ID, MOST_PAYLOAD}
use Rattle.tr_events.specs.Declarations.{word_of, words_for}
use Rattle.tr_events.specs.Events.{Event, event, Field, field, Label, is_apart}
use Rattle.tr_events.specs.Lines.{Declared, are_names_apart, checked, event_by, event_if, event_in, field_by, field_in, field_of, fields_after, fields_in, id_if, is_event_name, is_field_name, least, names_of}
use Rattle.tr_events.specs.Numbers.{below_zero, has_spare_zero, integer_from, integer_of, number_of}
use Rattle.tr_events.specs.Types.{Type_named, are_labels_apart, counted, counted_by, is_byte, is_value, is_whole, label_by, label_in, labelled, labels_among, labels_if_apart, labels_in, named_whole, number_named, parted_at, plain, type_by, type_in, without_end}
use Rattle.tr_events.specs.Words.{label_rest, label_word, labels_word, layout_word, number_word}
use Rattle.tr_events.proofs.NumberLemmas.{all_digits}
use Rattle.tr_events.proofs.SplitLemmas.{joined}

-- ---- what an answer says of its tests

yes : (xs ys : List ℕ) → bytes_eq xs ys ≡ true → xs ≡ ys
yes xs ys e = (bytes_eq-Decides xs ys).0 e

pub if_some : {A : Type 0} (test : Bool) (o : Option A) (y : A) → cond test o None ≡ Some y → (test ≡ true) × (o ≡ Some y)
if_some true o y e = (refl, e)
if_some false o y e = absurd cc

then_some : {A B : Type 0} (o : Option A) (f : A → Option B) (y : B) → option_and_then f o ≡ Some y → (x : A) × (o ≡ Some x) × (f x ≡ Some y)
then_some (Some x) f y e = (x, refl, e)
then_some None f y e = absurd cc

map_some : {A B : Type 0} (o : Option A) (f : A → B) (y : B) → option_map f o ≡ Some y → (x : A) × (o ≡ Some x) × (f x ≡ y)
map_some (Some x) f y e = (x, refl, cc)
map_some None f y e = absurd cc

some_is : {A : Type 0} (x y : A) → Some x ≡ Some y → x ≡ y
some_is x y e = cc

pub ok_is : {A : Type 0} (x y : A) (r : Declared A) → r ≡ Ok x → r ≡ Ok y → x ≡ y
ok_is x y r a b = cc

-- ---- numbers

pick : (word this : List ℕ) (x k : Number) (rest : Option Number) → cond (bytes_eq word this) (Some x) rest ≡ Some k
    → number_word x ≡ this → (rest ≡ Some k → number_word k ≡ word) → number_word k ≡ word
pick word this x k rest e is others = go (bytes_eq word this) refl e
  where
    go : (test : Bool) → bytes_eq word this ≡ test → cond test (Some x) rest ≡ Some k → number_word k ≡ word
    go true t e = ap number_word (sym (some_is x k e)) ∙ is ∙ sym (yes word this t)
    go false t e = others e

no_number : (word : List ℕ) (k : Number) → None ≡ Some k → number_word k ≡ word
no_number word k e = absurd cc

number_back : (word : List ℕ) (k : Number) → number_named word ≡ Some k → number_word k ≡ word
number_back word k e =
    pick word _ _ k _ e refl (λ e. pick word _ _ k _ e refl (λ e. pick word _ _ k _ e refl (λ e. pick word _ _ k _ e refl (λ e. pick word _ _ k _ e refl (λ e. pick word _ _ k _ e refl (λ e. pick word _ _ k _ e refl (λ e. pick word _ _ k _ e refl (λ e. pick word _ _ k _ e refl (λ e. pick word _ _ k _ e refl (λ e. pick word _ _ k _ e refl (λ e. pick word _ _ k _ e refl (λ e. pick word _ _ k _ e refl (λ e. pick word _ _ k _ e refl (λ e. pick word _ _ k _ e refl (λ e. no_number word k e)))))))))))))))

no_zero_first : (text : List ℕ) → has_spare_zero text ≡ false → get_or text 0 0 ≡ 48 → 0 < length text → length text ≡ 1
no_zero_first [] none first some = absurd (omega arith)
no_zero_first (b ∷ []) none first some = refl
no_zero_first (b ∷ c ∷ rest) none first some = absurd (let e : eqb b 48 ≡ true = ap (λ (n : ℕ). eqb n 48) first in cc)

not_true : (b : Bool) → not b ≡ true → b ≡ false
not_true true e = absurd cc
not_true false e = refl

decimal_back : (text : List ℕ) (n : ℕ) → number_of text ≡ Some n → decimal n ≡ text
decimal_back text n e =
    let a = if_some _ _ n e in
    let b = both _ _ a.0 in
    let c = both _ _ b.1 in
    let d = both _ _ c.1 in
    let some = ltb-true _ _ b.0 in
    ap decimal (sym (some_is _ _ a.1))
    ∙ decimal-digits_value (numerals_by_value _ tells_digits) text (all_digits text c.0) some
    (λ first. no_zero_first text (not_true _ d.0) first some) (ltb-true _ _ d.1)

integer_back : (text : List ℕ) (z : ℤ) → integer_of text ≡ Some z → signed_decimal z ≡ text
integer_back [] z e = absurd cc
integer_back (b ∷ text) z e = go (eqb b 45) refl e
  where
    below : (n : ℕ) → below_zero n ≡ Some z → signed_decimal z ≡ 45 ∷ decimal n
    below zero e = absurd cc
    below (suc n) e = ap signed_decimal (sym (some_is _ _ (if_some _ _ z e).1))

    go : (t : Bool) → eqb b 45 ≡ t → cond t (option_and_then below_zero (number_of text)) (option_and_then integer_from (number_of (b ∷ text))) ≡ Some z
        → signed_decimal z ≡ b ∷ text
    go true t e =
        let s = then_some (number_of text) below_zero z e in
        below s.0 s.2 ∙ ap₂ (λ (c : ℕ) (l : List ℕ). c ∷ l) (sym (eqb-true b 45 t)) (decimal_back text s.0 s.1)
    go false t e =
        let s = then_some (number_of (b ∷ text)) integer_from z e in
        ap signed_decimal (sym (some_is _ _ (if_some _ _ z s.2).1)) ∙ decimal_back (b ∷ text) s.0 s.1

-- ---- texts in two

not_not : (b : Bool) → not b ≡ false → b ≡ true
not_not true e = refl
not_not false e = absurd cc

parted_back : (b : ℕ) (text : List ℕ) (p : List ℕ × List ℕ) → parted_at b text ≡ Some p → p.0 ++ (b ∷ p.1) ≡ text
parted_back b text p e =
    let a = if_some _ _ p e in
    let below = ltb-true _ _ a.0 in
    let at : get_or text (position_or_len (is_byte b) text) 0 ≡ b =
    eqb-true _ _ (not_not _ (prefix_len_stops (λ c. not (is_byte b c)) text 0 below)) in
    ap (λ (q : List ℕ × List ℕ). q.0 ++ (b ∷ q.1)) (sym (some_is _ _ a.1))
    ∙ ap (λ (c : ℕ). before_first (is_byte b) text ++ (c ∷ after_first (is_byte b) text)) (sym at)
    ∙ sym (split_at_first (is_byte b) text 0 below)

end_back : (b : ℕ) (text front : List ℕ) → without_end b text ≡ Some front → front ++ (b ∷ []) ≡ text
end_back b text front e =
    let a = if_some _ _ front e in
    ap (λ (l : List ℕ). l ++ (b ∷ [])) (sym (some_is _ _ a.1)) ∙ sym ((ends_is Decides-eqb text (b ∷ []) _ refl).0 a.0)

-- ---- labels

label_back : (k : Number) (word : List ℕ) (l : Label) → label_in k word ≡ Some l → label_word l ≡ word
label_back k word l e = go (parted_at 61 word) refl e
  where
    go : (o : Option (List ℕ × List ℕ)) → parted_at 61 word ≡ o → label_by k o ≡ Some l → label_word l ≡ word
    go None is e = absurd cc
    go (Some p) is e =
        let named = if_some (is_name p.0) _ l e in
        let valued = then_some (integer_of p.1) _ l named.1 in
        let made = if_some (is_value k valued.0) _ l valued.2 in
        ap label_word (sym (some_is _ _ made.1))
        ∙ ap (λ (t : List ℕ). p.0 ++ (61 ∷ t)) (integer_back p.1 valued.0 valued.1)
        ∙ parted_back 61 word p is

labels_back : (k : Number) (words : List (List ℕ)) (labels : List Label) → labels_among k words ≡ Some labels → map label_word labels ≡ words
labels_back k [] labels e = ap (map label_word) (sym (some_is _ _ e))
labels_back k (word ∷ words) labels e =
    let s = then_some (label_in k word) _ labels e in
    let m = map_some (labels_among k words) (λ ls. s.0 ∷ ls) labels s.2 in
    ap (map label_word) (sym m.2) ∙ ap₂ (λ (w : List ℕ) (ws : List (List ℕ)). w ∷ ws) (label_back k word s.0 s.1) (labels_back k words m.0 m.1)

labels_text_back : (k : Number) (text : List ℕ) (labels : List Label) → labels_in k text ≡ Some labels
    → labels_word labels ≡ 123 ∷ (text ++ (125 ∷ []))
labels_text_back k text labels e =
    let s = then_some (labels_among k (slice_split (is_byte 44) text)) labels_if_apart labels e in
    let kept = if_some (are_labels_apart s.0) _ labels s.2 in
    let words = ap (map label_word) (sym (some_is s.0 labels kept.1)) ∙ labels_back k (slice_split (is_byte 44) text) s.0 s.1 in
    go labels words
  where
    go : (labels : List Label) → map label_word labels ≡ slice_split (is_byte 44) text → labels_word labels ≡ 123 ∷ (text ++ (125 ∷ []))
    go [] is = absurd (let n = length-slice_split (is_byte 44) text in let m = ap length is in omega (arith, n, m))
    go (l ∷ labels) is =
        ap (λ (t : List ℕ). 123 ∷ t) (sym (append_assoc (label_word l) (flat_map label_rest labels) (125 ∷ []))
        ∙ ap (λ (t : List ℕ). t ++ (125 ∷ [])) (sym (joined 44 label_word (label_word l) labels) ∙ ap (join_with_byte 44) is ∙ join_with_byte-slice_split 44 text))

-- ---- types

labelled_back : (word rest : List ℕ) (t : Type_named) → labelled word rest ≡ Some t → layout_word t.0 t.1 ≡ word ++ (123 ∷ rest)
labelled_back word rest t e =
    let k = then_some (number_named word) _ t e in
    let w = if_some (is_whole k.0.sort) _ t k.2 in
    let inner = then_some (without_end 125 rest) _ t w.1 in
    let labels = map_some (labels_in k.0 inner.0) _ t inner.2 in
    ap (λ (x : Type_named). layout_word x.0 x.1) (sym labels.2)
    ∙ ap₂ (λ (a b : List ℕ). a ++ b) (number_back word k.0 k.1)
    (labels_text_back k.0 inner.0 labels.0 labels.1 ∙ ap (λ (b : List ℕ). 123 ∷ b) (end_back 125 rest inner.0 inner.1))

counted_by_back : (k : Number) (text : List ℕ) (t : Type_named) → counted_by k text ≡ Some t
    → layout_word t.0 t.1 ≡ number_word k ++ (91 ∷ (text ++ (93 ∷ [])))
counted_by_back k [] t e = ap (λ (x : Type_named). layout_word x.0 x.1) (sym (some_is _ _ e))
counted_by_back k (b ∷ text) t e =
    let n = then_some (number_of (b ∷ text)) _ t e in
    let some = if_some _ _ t n.2 in
    ap (λ (x : Type_named). layout_word x.0 x.1) (sym (some_is _ _ some.1))
    ∙ ap (λ (d : List ℕ). number_word k ++ (91 ∷ (d ++ (93 ∷ [])))) (decimal_back (b ∷ text) n.0 n.1)

counted_back : (word rest : List ℕ) (t : Type_named) → counted word rest ≡ Some t → layout_word t.0 t.1 ≡ word ++ (91 ∷ rest)
counted_back word rest t e =
    let k = then_some (number_named word) _ t e in
    let inner = then_some (without_end 93 rest) (counted_by k.0) t k.2 in
    counted_by_back k.0 inner.0 t inner.2
    ∙ ap₂ (λ (a b : List ℕ). a ++ (91 ∷ b)) (number_back word k.0 k.1) (end_back 93 rest inner.0 inner.1)

pick_layout : (word this : List ℕ) (x t : Type_named) (rest : Option Type_named) → cond (bytes_eq word this) (Some x) rest ≡ Some t
    → layout_word x.0 x.1 ≡ this → (rest ≡ Some t → layout_word t.0 t.1 ≡ word) → layout_word t.0 t.1 ≡ word
pick_layout word this x t rest e is others = go (bytes_eq word this) refl e
  where
    go : (test : Bool) → bytes_eq word this ≡ test → cond test (Some x) rest ≡ Some t → layout_word t.0 t.1 ≡ word
    go true s e = ap (λ (y : Type_named). layout_word y.0 y.1) (sym (some_is x t e)) ∙ is ∙ sym (yes word this s)
    go false s e = others e

one_back : (word : List ℕ) (t : Type_named) → option_and_then (λ k. plain (One k)) (number_named word) ≡ Some t → layout_word t.0 t.1 ≡ word
one_back word t e =
    let k = then_some (number_named word) (λ k. plain (One k)) t e in
    ap (λ (x : Type_named). layout_word x.0 x.1) (sym (some_is _ _ k.2)) ∙ append-nil (number_word k.0) ∙ number_back word k.0 k.1

whole_back : (word : List ℕ) (t : Type_named) → named_whole word ≡ Some t → layout_word t.0 t.1 ≡ word
whole_back word t e =
    pick_layout word _ _ t _ e refl (λ e. pick_layout word _ _ t _ e refl (λ e. pick_layout word _ _ t _ e refl (λ e. one_back word t e)))

type_back : (word : List ℕ) (t : Type_named) → type_in word ≡ Some t → layout_word t.0 t.1 ≡ word
type_back word t e = go (parted_at 123 word) (parted_at 91 word) refl refl e
  where
    go : (braces brackets : Option (List ℕ × List ℕ)) → parted_at 123 word ≡ braces → parted_at 91 word ≡ brackets
        → type_by word braces brackets ≡ Some t → layout_word t.0 t.1 ≡ word
    go (Some p) brackets is other e = labelled_back p.0 p.1 t e ∙ parted_back 123 word p is
    go None (Some p) other is e = counted_back p.0 p.1 t e ∙ parted_back 91 word p is
    go None None a b e = whole_back word t e

-- ---- fields

pub if_ok : {A : Type 0} (test : Bool) (r : Declared A) (fault : EventFault) (y : A) → cond test r (Err fault) ≡ Ok y → (test ≡ true) × (r ≡ Ok y)
if_ok true r fault y e = (refl, e)
if_ok false r fault y e = absurd cc

field_back : (word : List ℕ) (f : Field) → field_in word ≡ Ok f → word_of f ≡ word
field_back word f e = go (parted_at 58 word) refl e
  where
    typed : (name text : List ℕ) (o : Option Type_named) → type_in text ≡ o → field_of name o ≡ Ok f → word_of f ≡ name ++ (58 ∷ text)
    typed name text None is e = absurd cc
    typed name text (Some t) is e =
        let made : field name t.0 t.1 ≡ f = ok_is (field name t.0 t.1) f _ refl e in
        ap word_of (sym made) ∙ ap (λ (w : List ℕ). name ++ (58 ∷ w)) (type_back text t is)

    go : (o : Option (List ℕ × List ℕ)) → parted_at 58 word ≡ o → field_by o ≡ Ok f → word_of f ≡ word
    go None is e = absurd cc
    go (Some p) is e =
        let named = if_ok (is_field_name p.0) _ _ f e in
        typed p.0 p.1 (type_in p.1) refl named.1 ∙ parted_back 58 word p is

fields_back : (words : List (List ℕ)) (fields : List Field) → fields_in words ≡ Ok fields → map word_of fields ≡ words
fields_back [] fields e = ap (map word_of) (sym (ok_is [] fields _ refl e))
fields_back (word ∷ words) fields e = go (fields_back words) (field_in word) (fields_in words) refl refl e
  where
    go : ((fs : List Field) → fields_in words ≡ Ok fs → map word_of fs ≡ words) → (first : Declared Field) (others : Declared (List Field)) → field_in word ≡ first → fields_in words ≡ others
        → fields_after first others ≡ Ok fields → map word_of fields ≡ word ∷ words
    go rest (Err fault) others a b e = absurd cc
    go rest (Ok f) (Err fault) a b e = absurd cc
    go rest (Ok f) (Ok fs) a b e =
        let made : f ∷ fs ≡ fields = ok_is (f ∷ fs) fields _ refl e in
        ap (map word_of) (sym made) ∙ ap₂ (λ (w : List ℕ) (ws : List (List ℕ)). w ∷ ws) (field_back word f a) (rest fs b)

-- ---- events

-- what an event passes that may have its fields
pub checks : (apart alone small : Bool) (x e : Event)
    → cond (not apart) (Err FieldTwice) (cond (not alone) (Err NotAlone) (cond (not small) (Err TooMany) (Ok x))) ≡ Ok e
    → (apart ≡ true) × (alone ≡ true) × (small ≡ true) × (x ≡ e)
checks false alone small x e is = absurd cc
checks true false small x e is = absurd cc
checks true true false x e is = absurd cc
checks true true true x e is = (refl, refl, refl, ok_is x e _ refl is)

pub may_be : (x e : Event) → checked x ≡ Ok e
    → (are_names_apart (flat_map names_of x.fields) ≡ true) × (is_apart x.fields ≡ true)
    × ((leb (length x.fields) MOST_FIELDS && leb (least x.fields) MOST_PAYLOAD) ≡ true) × (x ≡ e)
may_be x e is = checks (are_names_apart (flat_map names_of x.fields)) (is_apart x.fields) (leb (length x.fields) MOST_FIELDS && leb (least x.fields) MOST_PAYLOAD) x e is

-- what words say of the event that they declare
pub record Says (words : List (List ℕ)) (e : Event) : Type 0 where
  pub are : words_for e ≡ words
  pub name : is_event_name e.name ≡ true
  pub above : 0 < e.id
  pub below : e.id ≤ MOST_ID
  pub apart : is_apart e.fields ≡ true

pub event_back : (words : List (List ℕ)) (e : Event) → event_in words ≡ Ok e → Says words e
event_back [] e is = absurd cc
event_back (name ∷ []) e is = absurd cc
event_back (name ∷ id ∷ words) e is = go (number_of id) refl is
  where
    made : (n : ℕ) → decimal n ≡ id → is_event_name name ≡ true → 0 < n → n ≤ MOST_ID → (fields : Declared (List Field))
        → fields_in words ≡ fields → event_by name n fields ≡ Ok e → Says (name ∷ id ∷ words) e
    made n back named above below (Err fault) b is = absurd cc
    made n back named above below (Ok fs) b is =
        let m = may_be (event name n fs) e is in
        subst (Says (name ∷ id ∷ words)) m.3 (record {
          are = ap₂ (λ (w : List ℕ) (ws : List (List ℕ)). name ∷ w ∷ ws) back (fields_back words fs b);
          name = named;
          above = above;
          below = below;
          apart = m.1;
        })

    by : (n : ℕ) → number_of id ≡ Some n → (o : Option ℕ) → id_if n ≡ o → event_if name o words ≡ Ok e → Says (name ∷ id ∷ words) e
    by n a None b is = absurd cc
    by n a (Some m) b is =
        let named = if_ok (is_event_name name) (event_by name m (fields_in words)) BadEvent e is in
        let tested = if_some (ltb 0 n && leb n MOST_ID) (Some n) m b in
        let same : n ≡ m = some_is n m tested.1 in
        let above = ltb-true 0 n (both _ _ tested.0).0 in
        let below = leb-true n MOST_ID (both _ _ tested.0).1 in
        made m (ap decimal (sym same) ∙ decimal_back id n a) named.0 (omega (arith, above, same)) (omega (arith, below, same)) (fields_in words) refl named.1

    go : (o : Option ℕ) → number_of id ≡ o → event_if name (option_and_then id_if o) words ≡ Ok e → Says (name ∷ id ∷ words) e
    go None a is = absurd cc
    go (Some n) a is = by n a (id_if n) refl is
