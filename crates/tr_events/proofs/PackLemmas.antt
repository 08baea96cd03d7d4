-- What was packed is unpacked.
use Rattle.std.proofs.Common.{◌≡◌, ℕ, ◌<◌, Bool, true, false, not, ◌||◌, eqb, ltb, List, [], ◌∷◌, ◌++◌, map, length, Option, Some, refl, sym, ap, ◌∙◌, append_assoc, append-nil, length-append, arith}
use Rattle.std.specs.Prelude.{IsTrue}
use Rattle.std.specs.Int.{w8, w16, w32, w64, byte_len, from_le_bytes, to_le_bytes, cast_unsigned, cast_signed}
use Rattle.std.specs.List.{AllByRecursion, flat_map, list_any}
use Rattle.std.proofs.lemmas.Bool.{le-ltb}
use Rattle.std.proofs.lemmas.Int.{of_z-to_z}
use Rattle.std.proofs.lemmas.List.{take_at, drop_at}
use Rattle.std.proofs.lemmas.Nat.{from_le_bytes-to_le_bytes_2, from_le_bytes-to_le_bytes_4, from_le_bytes-to_le_bytes_8}
use Rattle.tr_record.specs.Reading.{◌>>=◌, number_at}
use Rattle.tr_events.specs.declared.layouts.Layout.{Layout}
use Rattle.tr_events.specs.declared.layouts.Layout.TheVariants.{One, Array, Sequence, Text, All}
use Rattle.tr_events.specs.declared.layouts.Number.{Number}
use Rattle.tr_events.specs.declared.layouts.Size.{Size}
use Rattle.tr_events.specs.declared.layouts.Size.TheVariants.{Bits8, Bits16, Bits32, Bits64}
use Rattle.tr_events.specs.declared.layouts.Sort.{Sort}
use Rattle.tr_events.specs.declared.layouts.Sort.TheVariants.{Unsigned, Signed, Hexadecimal, Floating, Flag}
use Rattle.tr_events.specs.Events.{Field, Event, Atom, Natural, Value, Single, Several, Bytes, width_of, atom_as, atom_of, atom_at, atoms_at, string_at, layout_at, fields_at, values_of, is_all, has_all, is_apart}
use Rattle.tr_events.specs.Packing.{limit_of, IsOf, bits_of, atom_text, IsNatural, IsFor, value_text, AreFor, pack}

-- ---- numbers

len_again : (size : Size) (n : ℕ) → length (to_le_bytes (width_of size) n) ≡ byte_len (width_of size)
len_again Bits8 n = refl
len_again Bits16 n = refl
len_again Bits32 n = refl
len_again Bits64 n = refl

read_again : (size : Size) (n : ℕ) → n < limit_of size → from_le_bytes (width_of size) (to_le_bytes (width_of size) n) ≡ n
read_again Bits8 n below = omega arith
read_again Bits16 n below = from_le_bytes-to_le_bytes_2 n below
read_again Bits32 n below = from_le_bytes-to_le_bytes_4 n below
read_again Bits64 n below = from_le_bytes-to_le_bytes_8 n below

number_back : (size : Size) (n : ℕ) (rest : List ℕ) → n < limit_of size
    → number_at (width_of size) (to_le_bytes (width_of size) n ++ rest) ≡ Some (n, rest)
number_back size n rest below =
    let w = width_of size in
    let text = to_le_bytes w n in
    let len = len_again size n in
    let long : ltb (length (text ++ rest)) (byte_len w) ≡ false = le-ltb _ _ (omega (arith, length-append text rest)) in
    rw (long, take_at text rest (byte_len w) len, drop_at text rest (byte_len w) len, read_again size n below) refl

signed_back : (size : Size) (n : ℕ) → n < limit_of size → cast_unsigned (width_of size) (cast_signed (width_of size) n) ≡ n
signed_back Bits8 n below = of_z-to_z w8 n below
signed_back Bits16 n below = of_z-to_z w16 n below
signed_back Bits32 n below = of_z-to_z w32 n below
signed_back Bits64 n below = of_z-to_z w64 n below

pub bits_back : (sort : Sort) (size : Size) (n : ℕ) → n < limit_of size → bits_of (width_of size) (atom_as sort (width_of size) n) ≡ n
bits_back Unsigned size n below = refl
bits_back Signed size n below = signed_back size n below
bits_back Hexadecimal size n below = refl
bits_back Floating size n below = refl
bits_back Flag size n below = refl

atom_back : (k : Number) (a : Atom) (rest : List ℕ) → IsOf k a → atom_at k (atom_text k a ++ rest) ≡ Some (a, rest)
unfolding atom_at
atom_back k a rest of =
    let w = width_of k.size in
    let same : bits_of w a ≡ of.number = ap (bits_of w) of.is ∙ bits_back k.sort k.size of.number of.below in
    let again = number_back k.size of.number rest of.below in
    ap (λ (n : ℕ). number_at w (to_le_bytes w n ++ rest) >>= λ x. Some (atom_of k x.0, x.1)) same
    ∙ ap (λ (o : Option (ℕ × List ℕ)). o >>= λ x. Some (atom_of k x.0, x.1)) again
    ∙ ap (λ (x : Atom). Some (x, rest)) (sym of.is)

atoms_back : (k : Number) (atoms : List Atom) (rest : List ℕ) → AllByRecursion (IsOf k) atoms
    → atoms_at k (length atoms) (flat_map (atom_text k) atoms ++ rest) ≡ Some (atoms, rest)
unfolding atoms_at
atoms_back k [] rest of = refl
atoms_back k (a ∷ atoms) rest of =
    let more = flat_map (atom_text k) atoms in
    ap (λ (t : List ℕ). atom_at k t >>= λ first. atoms_at k (length atoms) first.1 >>= λ others. Some (first.0 ∷ others.0, others.1))
    (append_assoc (atom_text k a) more rest)
    ∙ rw (atom_back k a (more ++ rest) of.0, atoms_back k atoms rest of.1) refl

string_back : (text rest : List ℕ) → list_any (λ b. eqb b 0) text ≡ false → string_at ((text ++ 0 ∷ []) ++ rest) ≡ Some (text, rest)
unfolding string_at
string_back [] rest none = refl
string_back (b ∷ text) rest none =
    let n = neither (eqb b 0) (list_any (λ b. eqb b 0) text) none in
    rw (n.0, string_back text rest n.1) refl
  where
    neither : (a b : Bool) → (a || b) ≡ false → (a ≡ false) × (b ≡ false)
    neither true b e = absurd cc
    neither false b e = (refl, e)

naturals_back : (atoms : List Atom) → AllByRecursion IsNatural atoms → map Natural (map (bits_of w32) atoms) ≡ atoms
naturals_back [] all = refl
naturals_back (a ∷ atoms) all =
    ap (λ (x : Atom). x ∷ map Natural (map (bits_of w32) atoms)) (sym all.0) ∙ ap (λ (x : List Atom). a ∷ x) (naturals_back atoms all.1)

-- ---- values

value_back : (l : Layout) (v : Value) (rest : List ℕ) → is_all l ≡ false → IsFor l v → layout_at l (value_text l v ++ rest) ≡ Some (v, rest)
unfolding layout_at
value_back (One k) (Single a) rest some is = rw (atom_back k a rest is) refl
value_back (One k) (Several atoms) rest some is = absurd is
value_back (One k) (Bytes text) rest some is = absurd is
value_back (Array k count) (Single a) rest some is = absurd is
value_back (Array k count) (Several atoms) rest some is =
    ap (λ (n : ℕ). atoms_at k n (flat_map (atom_text k) atoms ++ rest) >>= λ v. Some (Several v.0, v.1)) (sym is.0)
    ∙ rw (atoms_back k atoms rest is.1) refl
value_back (Array k count) (Bytes text) rest some is = absurd is
value_back (Sequence k) (Single a) rest some is = absurd is
value_back (Sequence k) (Several atoms) rest some is =
    let more = flat_map (atom_text k) atoms in
    ap (λ (t : List ℕ). number_at w32 t >>= λ n. atoms_at k n.0 n.1 >>= λ v. Some (Several v.0, v.1))
    (append_assoc (to_le_bytes w32 (length atoms)) more rest)
    ∙ rw (number_back Bits32 (length atoms) (more ++ rest) is.0, atoms_back k atoms rest is.1) refl
value_back (Sequence k) (Bytes text) rest some is = absurd is
value_back Text (Single a) rest some is = absurd is
value_back Text (Several atoms) rest some is = absurd is
value_back Text (Bytes text) rest some is = rw (string_back text rest is) refl
value_back (All form) v rest some is = absurd cc

fields_back : (fields : List Field) (values : List Value) → has_all fields ≡ false → AreFor fields values
    → fields_at fields (pack fields values) ≡ Some (values, [])
unfolding fields_at
fields_back [] [] some are = refl
fields_back [] (v ∷ values) some are = absurd are
fields_back (f ∷ fields) [] some are = absurd are
fields_back (f ∷ fields) (v ∷ values) some are =
    let n = neither (is_all f.layout) (has_all fields) some in
    rw (value_back f.layout v (pack fields values) n.0 are.0, fields_back fields values n.1 are.1) refl
  where
    neither : (a b : Bool) → (a || b) ≡ false → (a ≡ false) × (b ≡ false)
    neither true b e = absurd cc
    neither false b e = (refl, e)

only_back : (f : Field) (l : Layout) (v : Value) → f.layout ≡ l → IsFor l v → fields_at (f ∷ []) (value_text l v ++ []) ≡ Some (v ∷ [], [])
unfolding fields_at layout_at
only_back f (One k) v same is = rw (same, value_back (One k) v [] refl is) refl
only_back f (Array k count) v same is = rw (same, value_back (Array k count) v [] refl is) refl
only_back f (Sequence k) v same is = rw (same, value_back (Sequence k) v [] refl is) refl
only_back f Text v same is = rw (same, value_back Text v [] refl is) refl
only_back f (All form) (Single a) same is = absurd is
only_back f (All form) (Several atoms) same is = rw (same, append-nil (map (bits_of w32) atoms), naturals_back atoms is) refl
only_back f (All form) (Bytes text) same is = absurd is

not_true : (b : Bool) → IsTrue (not b) → b ≡ false
not_true true e = absurd cc
not_true false e = refl

apart_back : (fields : List Field) (values : List Value) → IsTrue (is_apart fields) → AreFor fields values
    → fields_at fields (pack fields values) ≡ Some (values, [])
apart_back [] values apart are = fields_back [] values refl are
apart_back (f ∷ []) [] apart are = absurd are
apart_back (f ∷ []) (v ∷ []) apart are = only_back f f.layout v refl are.0
apart_back (f ∷ []) (v ∷ u ∷ values) apart are = absurd are.1
apart_back (f ∷ g ∷ fields) values apart are = fields_back (f ∷ g ∷ fields) values (not_true (has_all (f ∷ g ∷ fields)) apart) are

pub packed_back : (e : Event) (values : List Value) → IsTrue (is_apart e.fields) → AreFor e.fields values → values_of e (pack e.fields values) ≡ Some values
unfolding values_of
packed_back e values apart are = rw (apart_back e.fields values apart are) refl
