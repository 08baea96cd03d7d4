-- What was unpacked packs to the same bytes.
use Rattle.std.proofs.Common.{◌≡◌, ℕ, zero, suc, ◌^◌, Bool, true, false, cond, eqb, List, [], ◌∷◌, ◌++◌, map, length, Some, None, refl, sym, ap, subst, ◌∙◌, append-nil, arith}
use Rattle.std.specs.Int.{w8, w16, w32, from_le_bytes, to_le_bytes}
use Rattle.std.specs.List.{flat_map}
use Rattle.std.proofs.lemmas.Bool.{eqb-true}
use Rattle.std.proofs.lemmas.List.{nil_from_length}
use Rattle.std.proofs.lemmas.Nat.{le_bytes_2, from_le_bytes-to_le_bytes_2}
use Rattle.tr_record.specs.Reading.{◌>>=◌, number_at}
use Rattle.tr_record.specs.Whole.{AreBytes}
use Rattle.tr_record.proofs.Fields.{Parted, Parted-then, IsNumeral, numeral_32, numeral_64, number_takes, some_step, some_is}
use Rattle.tr_events.specs.declared.layouts.Layout.{Layout}
use Rattle.tr_events.specs.declared.layouts.Layout.TheVariants.{One, Array, Sequence, Text, All}
use Rattle.tr_events.specs.declared.layouts.Number.{Number}
use Rattle.tr_events.specs.declared.layouts.Size.{Size}
use Rattle.tr_events.specs.declared.layouts.Size.TheVariants.{Bits8, Bits16, Bits32, Bits64}
use Rattle.tr_events.specs.Events.{Field, Event, Atom, Natural, Value, Single, Several, Bytes, width_of, atom_of, atom_at, atoms_at, string_at, layout_at, fields_at, values_of}
use Rattle.tr_events.specs.Packing.{limit_of, bits_of, atom_text, value_text, pack}
use Rattle.tr_events.proofs.PackLemmas.{bits_back}

-- ---- a payload that has values ends with them

some_if : {A : Type 0} (test : Bool) (x y : A) → cond test (Some x) None ≡ Some y → (test ≡ true) × (x ≡ y)
some_if true x y e = (refl, some_is x y e)
some_if false x y e = absurd cc

pub values_end : (e : Event) (payload : List ℕ) (values : List Value) → values_of e payload ≡ Some values → fields_at e.fields payload ≡ Some (values, [])
unfolding values_of
values_end e payload values is =
    let a = some_step (fields_at e.fields payload) (λ v. cond (eqb (length v.1) 0) (Some v.0) None) values is in
    let b = some_if (eqb (length a.0.1) 0) a.0.0 values a.2 in
    let none = nil_from_length a.0.1 (eqb-true (length a.0.1) 0 b.0) in
    a.1 ∙ ap (λ (x : List ℕ). Some (a.0.0, x)) none ∙ ap (λ (x : List Value). Some (x, [])) b.1

-- ---- numbers

one_byte : (bytes : List ℕ) → length bytes ≡ 1 → AreBytes bytes → to_le_bytes w8 (from_le_bytes w8 bytes) ≡ bytes
one_byte [] len small = absurd (omega arith)
one_byte (b ∷ []) len small = ap (λ (n : ℕ). n ∷ []) (omega (arith, small 0))
one_byte (b ∷ c ∷ bytes) len small = absurd (omega arith)

numeral_8 : IsNumeral w8 (2 ^ 8)
numeral_8 = record {
  len = λ n. refl;
  written = one_byte;
  read = λ n below. omega arith;
  below = λ bytes small. omega (arith, small 0);
}

numeral_16 : IsNumeral w16 (2 ^ 16)
numeral_16 = record {
  len = λ n. refl;
  written = λ bytes len small. le_bytes_2 bytes _ len small refl;
  read = λ n below. from_le_bytes-to_le_bytes_2 n below;
  below = λ bytes small. omega (arith, small 0, small 1);
}

numeral : (size : Size) → IsNumeral (width_of size) (limit_of size)
numeral Bits8 = numeral_8
numeral Bits16 = numeral_16
numeral Bits32 = numeral_32
numeral Bits64 = numeral_64

atom_forth : (k : Number) (bytes : List ℕ) (v : Atom × List ℕ) → AreBytes bytes → atom_at k bytes ≡ Some v → Parted (atom_text k v.0) v.1 bytes
unfolding atom_at
atom_forth k bytes v small e =
    let w = width_of k.size in
    let s = some_step (number_at w bytes) (λ n. Some (atom_of k n.0, n.1)) v e in
    let t = number_takes w (limit_of k.size) (numeral k.size) bytes s.0 small s.1 in
    let again = bits_back k.sort k.size s.0.0 t.1 in
    subst (λ (y : Atom × List ℕ). Parted (atom_text k y.0) y.1 bytes) (some_is (atom_of k s.0.0, s.0.1) v s.2)
    (subst (λ (n : ℕ). Parted (to_le_bytes w n) s.0.1 bytes) (sym again) t.0)

nothing : (bytes : List ℕ) → AreBytes bytes → Parted [] bytes bytes
nothing bytes small = record { parts = refl; small = small }

atoms_forth : (k : Number) (n : ℕ) (bytes : List ℕ) (v : List Atom × List ℕ) → AreBytes bytes → atoms_at k n bytes ≡ Some v
    → Parted (flat_map (atom_text k) v.0) v.1 bytes × (length v.0 ≡ n)
unfolding atoms_at
atoms_forth k zero bytes v small e =
    subst (λ (y : List Atom × List ℕ). Parted (flat_map (atom_text k) y.0) y.1 bytes × (length y.0 ≡ 0)) (some_is ([], bytes) v e)
    (nothing bytes small, refl)
atoms_forth k (suc n) bytes v small e =
    let a = some_step (atom_at k bytes) (λ first. atoms_at k n first.1 >>= λ others. Some (first.0 ∷ others.0, others.1)) v e in
    let b = some_step (atoms_at k n a.0.1) (λ others. Some (a.0.0 ∷ others.0, others.1)) v a.2 in
    let first = atom_forth k bytes a.0 small a.1 in
    let others = atoms_forth k n a.0.1 b.0 first.small b.1 in
    subst (λ (y : List Atom × List ℕ). Parted (flat_map (atom_text k) y.0) y.1 bytes × (length y.0 ≡ suc n))
    (some_is (a.0.0 ∷ b.0.0, b.0.1) v b.2)
    (Parted-then (atom_text k a.0.0) (flat_map (atom_text k) b.0.0) bytes a.0.1 b.0.1 first others.0, ap suc others.1)

-- ---- text

tail_small : (b : ℕ) (bytes : List ℕ) → AreBytes (b ∷ bytes) → AreBytes bytes
tail_small b bytes small i = small (suc i)

string_step : (ends : Bool) (b : ℕ) (bytes : List ℕ) (v : List ℕ × List ℕ) → (ends ≡ true → b ≡ 0) → AreBytes bytes
    → ((u : List ℕ × List ℕ) → string_at bytes ≡ Some u → Parted (u.0 ++ 0 ∷ []) u.1 bytes)
    → cond ends (Some ([], bytes)) (string_at bytes >>= λ others. Some (b ∷ others.0, others.1)) ≡ Some v
    → Parted (v.0 ++ 0 ∷ []) v.1 (b ∷ bytes)
string_step true b bytes v none small more e =
    subst (λ (y : List ℕ × List ℕ). Parted (y.0 ++ 0 ∷ []) y.1 (b ∷ bytes)) (some_is ([], bytes) v e)
    (record { parts = ap (λ (n : ℕ). n ∷ bytes) (none refl); small = small })
string_step false b bytes v none small more e =
    let s = some_step (string_at bytes) (λ others. Some (b ∷ others.0, others.1)) v e in
    let m = more s.0 s.1 in
    subst (λ (y : List ℕ × List ℕ). Parted (y.0 ++ 0 ∷ []) y.1 (b ∷ bytes)) (some_is (b ∷ s.0.0, s.0.1) v s.2)
    (record { parts = ap (λ (t : List ℕ). b ∷ t) m.parts; small = m.small })

string_forth : (bytes : List ℕ) (v : List ℕ × List ℕ) → AreBytes bytes → string_at bytes ≡ Some v → Parted (v.0 ++ 0 ∷ []) v.1 bytes
unfolding string_at
string_forth [] v small e = absurd cc
string_forth (b ∷ bytes) v small e =
    let rest = tail_small b bytes small in
    string_step (eqb b 0) b bytes v (λ same. eqb-true b 0 same) rest (λ u is. string_forth bytes u rest is) e

naturals_forth : (bytes : List ℕ) → map (bits_of w32) (map Natural bytes) ≡ bytes
naturals_forth [] = refl
naturals_forth (b ∷ bytes) = ap (λ (t : List ℕ). b ∷ t) (naturals_forth bytes)

-- ---- fields

all_of : (bytes : List ℕ) → Parted (map (bits_of w32) (map Natural bytes)) [] bytes
all_of bytes = record { parts = sym (append-nil (map (bits_of w32) (map Natural bytes)) ∙ naturals_forth bytes); small = λ i. omega arith }

value_forth : (l : Layout) (bytes : List ℕ) (v : Value × List ℕ) → AreBytes bytes → layout_at l bytes ≡ Some v → Parted (value_text l v.0) v.1 bytes
unfolding layout_at
value_forth (One k) bytes v small e =
    let s = some_step (atom_at k bytes) (λ x. Some (Single x.0, x.1)) v e in
    subst (λ (y : Value × List ℕ). Parted (value_text (One k) y.0) y.1 bytes) (some_is (Single s.0.0, s.0.1) v s.2) (atom_forth k bytes s.0 small s.1)
value_forth (Array k count) bytes v small e =
    let s = some_step (atoms_at k count bytes) (λ x. Some (Several x.0, x.1)) v e in
    subst (λ (y : Value × List ℕ). Parted (value_text (Array k count) y.0) y.1 bytes) (some_is (Several s.0.0, s.0.1) v s.2)
    (atoms_forth k count bytes s.0 small s.1).0
value_forth (Sequence k) bytes v small e =
    let a = some_step (number_at w32 bytes) (λ n. atoms_at k n.0 n.1 >>= λ x. Some (Several x.0, x.1)) v e in
    let b = some_step (atoms_at k a.0.0 a.0.1) (λ x. Some (Several x.0, x.1)) v a.2 in
    let n = number_takes w32 (2 ^ 32) numeral_32 bytes a.0 small a.1 in
    let atoms = atoms_forth k a.0.0 a.0.1 b.0 n.0.small b.1 in
    subst (λ (y : Value × List ℕ). Parted (value_text (Sequence k) y.0) y.1 bytes) (some_is (Several b.0.0, b.0.1) v b.2)
    (Parted-then (to_le_bytes w32 (length b.0.0)) (flat_map (atom_text k) b.0.0) bytes a.0.1 b.0.1
    (subst (λ (c : ℕ). Parted (to_le_bytes w32 c) a.0.1 bytes) (sym atoms.1) n.0) atoms.0)
value_forth Text bytes v small e =
    let s = some_step (string_at bytes) (λ x. Some (Bytes x.0, x.1)) v e in
    subst (λ (y : Value × List ℕ). Parted (value_text Text y.0) y.1 bytes) (some_is (Bytes s.0.0, s.0.1) v s.2) (string_forth bytes s.0 small s.1)
value_forth (All form) bytes v small e =
    subst (λ (y : Value × List ℕ). Parted (value_text (All form) y.0) y.1 bytes) (some_is (Several (map Natural bytes), []) v e) (all_of bytes)

fields_forth : (fields : List Field) (bytes : List ℕ) (v : List Value × List ℕ) → AreBytes bytes → fields_at fields bytes ≡ Some v
    → Parted (pack fields v.0) v.1 bytes
unfolding fields_at
fields_forth [] bytes v small e =
    subst (λ (y : List Value × List ℕ). Parted (pack [] y.0) y.1 bytes) (some_is ([], bytes) v e) (nothing bytes small)
fields_forth (f ∷ fields) bytes v small e =
    let a = some_step (layout_at f.layout bytes) (λ first. fields_at fields first.1 >>= λ others. Some (first.0 ∷ others.0, others.1)) v e in
    let b = some_step (fields_at fields a.0.1) (λ others. Some (a.0.0 ∷ others.0, others.1)) v a.2 in
    let first = value_forth f.layout bytes a.0 small a.1 in
    let others = fields_forth fields a.0.1 b.0 first.small b.1 in
    subst (λ (y : List Value × List ℕ). Parted (pack (f ∷ fields) y.0) y.1 bytes) (some_is (a.0.0 ∷ b.0.0, b.0.1) v b.2)
    (Parted-then (value_text f.layout a.0.0) (pack fields b.0.0) bytes a.0.1 b.0.1 first others)

pub packed_again : (e : Event) (payload : List ℕ) (values : List Value) → AreBytes payload → values_of e payload ≡ Some values
    → pack e.fields values ≡ payload
packed_again e payload values small is =
    sym ((fields_forth e.fields payload (values, []) small (values_end e payload values is)).parts ∙ append-nil (pack e.fields values))
