-- The values of a payload's fields are what its members show, whatever follows the payload.
use Rattle.std.proofs.Common.{◌≡◌, ℕ, zero, suc, ◌≤◌, Bool, true, false, not, cond, ◌||◌, ltb, eqb, List, [], ◌∷◌, ◌++◌, map, length, take, drop, Some, refl, sym, ap, ◌∙◌, length-append, arith}
use Rattle.std.specs.Prelude.{codes, bytes_eq, IsTrue}
use Rattle.std.specs.Int.{Width, w8, w32, byte_len, from_le_bytes}
use Rattle.std.specs.List.{flat_map}
use Rattle.std.proofs.lemmas.Bool.{ltb-false, le-ltb}
use Rattle.std.proofs.lemmas.List.{take-append-le, drop-append-le}
use Rattle.std.proofs.lemmas.Slice.Eq.{bytes_eq-Decides}
use Rattle.tr_record.specs.Reading.{◌>>=◌, number_at}
use Rattle.tr_record.proofs.Fields.{some_step, some_is, passed}
use Rattle.tr_events.specs.Events.{Label, Field, Atom, Natural, Value, Single, Several, Bytes, width_of, atom_as, atom_of, atom_at, atoms_at, string_at, layout_at, fields_at, is_all, has_all, is_apart}
use Rattle.tr_metadata.specs.Reader.{Scalar, String, Fixed, Counted, Characters, Member, member, number, members_as, members_of, Known, known_as, learn, len_name, type_at, members_at, count_in, shown_as, shown}
use Rattle.tr_events.specs.declared.layouts.Form.{Form}
use Rattle.tr_events.specs.declared.layouts.Form.TheVariants.{AsText, AsBytes}
use Rattle.tr_events.specs.declared.layouts.Layout.{Layout}
use Rattle.tr_events.specs.declared.layouts.Layout.TheVariants.{One, Array, Sequence, Text, All}
use Rattle.tr_events.specs.declared.layouts.Number.{Number}
use Rattle.tr_events.specs.declared.layouts.Size.TheVariants.{Bits8, Bits32}
use Rattle.tr_events.specs.declared.layouts.Sort.{Sort}
use Rattle.tr_events.specs.declared.layouts.Sort.TheVariants.{Unsigned, Hexadecimal}

-- ---- more bytes behind those that are read

-- what is read, with more bytes behind it
abbrev pub with_more : {A : Type 0} → List ℕ → A × List ℕ → A × List ℕ
with_more tail v = (v.0, v.1 ++ tail)

number_more : (w : Width) (bytes tail : List ℕ) (v : ℕ × List ℕ) → number_at w bytes ≡ Some v → number_at w (bytes ++ tail) ≡ Some (with_more tail v)
number_more w bytes tail v e =
    let p = passed (ltb (length bytes) (byte_len w)) (from_le_bytes w (take (byte_len w) bytes), drop (byte_len w) bytes) v e in
    let long : byte_len w ≤ length bytes = ltb-false _ _ p.0 in
    let longer : ltb (length (bytes ++ tail)) (byte_len w) ≡ false = le-ltb _ _ (omega (arith, length-append bytes tail)) in
    rw (longer, take-append-le (byte_len w) bytes tail long, drop-append-le (byte_len w) bytes tail long)
    (ap (λ (x : ℕ × List ℕ). Some (with_more tail x)) p.1)

atom_more : (k : Number) (bytes tail : List ℕ) (v : Atom × List ℕ) → atom_at k bytes ≡ Some v → atom_at k (bytes ++ tail) ≡ Some (with_more tail v)
unfolding atom_at
atom_more k bytes tail v e =
    let s = some_step (number_at (width_of k.size) bytes) (λ n. Some (atom_of k n.0, n.1)) v e in
    rw (number_more (width_of k.size) bytes tail s.0 s.1)
    (ap (λ (x : Atom × List ℕ). Some (with_more tail x)) (some_is (atom_of k s.0.0, s.0.1) v s.2))

atoms_more : (k : Number) (n : ℕ) (bytes tail : List ℕ) (v : List Atom × List ℕ) → atoms_at k n bytes ≡ Some v
    → atoms_at k n (bytes ++ tail) ≡ Some (with_more tail v)
unfolding atoms_at
atoms_more k zero bytes tail v e = ap (λ (x : List Atom × List ℕ). Some (with_more tail x)) (some_is ([], bytes) v e)
atoms_more k (suc n) bytes tail v e =
    let a = some_step (atom_at k bytes) (λ first. atoms_at k n first.1 >>= λ others. Some (first.0 ∷ others.0, others.1)) v e in
    let b = some_step (atoms_at k n a.0.1) (λ others. Some (a.0.0 ∷ others.0, others.1)) v a.2 in
    rw (atom_more k bytes tail a.0 a.1, atoms_more k n a.0.1 tail b.0 b.1)
    (ap (λ (x : List Atom × List ℕ). Some (with_more tail x)) (some_is (a.0.0 ∷ b.0.0, b.0.1) v b.2))

string_step : (ends : Bool) (b : ℕ) (bytes tail : List ℕ) (v : List ℕ × List ℕ)
    → ((u : List ℕ × List ℕ) → string_at bytes ≡ Some u → string_at (bytes ++ tail) ≡ Some (with_more tail u))
    → cond ends (Some ([], bytes)) (string_at bytes >>= λ others. Some (b ∷ others.0, others.1)) ≡ Some v
    → cond ends (Some ([], bytes ++ tail)) (string_at (bytes ++ tail) >>= λ others. Some (b ∷ others.0, others.1)) ≡ Some (with_more tail v)
string_step true b bytes tail v more e = ap (λ (x : List ℕ × List ℕ). Some (with_more tail x)) (some_is ([], bytes) v e)
string_step false b bytes tail v more e =
    let s = some_step (string_at bytes) (λ others. Some (b ∷ others.0, others.1)) v e in
    rw (more s.0 s.1) (ap (λ (x : List ℕ × List ℕ). Some (with_more tail x)) (some_is (b ∷ s.0.0, s.0.1) v s.2))

string_more : (bytes tail : List ℕ) (v : List ℕ × List ℕ) → string_at bytes ≡ Some v → string_at (bytes ++ tail) ≡ Some (with_more tail v)
unfolding string_at
string_more [] tail v e = cc
string_more (b ∷ bytes) tail v e = string_step (eqb b 0) b bytes tail v (λ u. string_more bytes tail u) e

-- ---- members

-- a member, and what is read behind it
one_member : (m : Member) (members : List Member) (known : Known) (bytes rest : List ℕ) (v : Value) (o : List (List ℕ × Value) × List ℕ)
    → type_at m.type known bytes ≡ Some (v, rest) → members_at members (learn m.name v known) rest ≡ Some o
    → members_at (m ∷ members) known bytes ≡ Some ((m.name, v) ∷ o.0, o.1)
unfolding members_at
one_member m members known bytes rest v o first others = rw (first, others) refl

pub same_name : (name : List ℕ) → bytes_eq name name ≡ true
same_name name = (bytes_eq-Decides name name).1 refl

-- the last one learnt is known
pub just_learnt : (name : List ℕ) (n : ℕ) (known : Known) → known_as name ((name, n) ∷ known) ≡ Some n
just_learnt name n known = rw (same_name name) refl

atoms_count : (k : Number) (n : ℕ) (bytes : List ℕ) (v : List Atom × List ℕ) → atoms_at k n bytes ≡ Some v → length v.0 ≡ n
unfolding atoms_at
atoms_count k zero bytes v e = sym (ap (λ (x : List Atom × List ℕ). length x.0) (some_is ([], bytes) v e))
atoms_count k (suc n) bytes v e =
    let a = some_step (atom_at k bytes) (λ first. atoms_at k n first.1 >>= λ others. Some (first.0 ∷ others.0, others.1)) v e in
    let b = some_step (atoms_at k n a.0.1) (λ others. Some (a.0.0 ∷ others.0, others.1)) v a.2 in
    sym (ap (λ (x : List Atom × List ℕ). length x.0) (some_is (a.0.0 ∷ b.0.0, b.0.1) v b.2)) ∙ ap suc (atoms_count k n a.0.1 b.0 b.1)

-- the length before a sequence
length_read : (known : Known) (bytes tail : List ℕ) (n : ℕ × List ℕ) (count : ℕ) → number_at w32 bytes ≡ Some n → count ≡ n.0
    → type_at (Scalar (number Unsigned Bits32) []) known (bytes ++ tail) ≡ Some (Single (Natural count), n.1 ++ tail)
unfolding type_at atom_at
length_read known bytes tail n count e same = rw (number_more w32 bytes tail n e, same) refl

-- a field's value is what its members show, if the members behind it are read whatever is known
field_read : (name : List ℕ) (labels : List Label) (l : Layout) → is_all l ≡ false → (bytes tail : List ℕ) (v : Value × List ℕ)
    → layout_at l bytes ≡ Some v → (members : List Member) (o : List (List ℕ × Value) × List ℕ)
    → ((known : Known) → members_at members known (v.1 ++ tail) ≡ Some o)
    → (known : Known) → members_at (members_as name labels l ++ members) known (bytes ++ tail) ≡ Some (shown_as name l v.0 ++ o.0, o.1)
unfolding layout_at type_at
field_read name labels (One k) some bytes tail v e members o others known =
    let s = some_step (atom_at k bytes) (λ x. Some (Single x.0, x.1)) v e in
    let is = some_is (Single s.0.0, s.0.1) v s.2 in
    one_member (member name (Scalar k labels)) members known (bytes ++ tail) (v.1 ++ tail) v.0 o
    (rw (atom_more k bytes tail s.0 s.1) (ap (λ (x : Value × List ℕ). Some (with_more tail x)) is))
    (others (learn name v.0 known))
field_read name labels (Array k count) some bytes tail v e members o others known =
    let s = some_step (atoms_at k count bytes) (λ x. Some (Several x.0, x.1)) v e in
    let is = some_is (Several s.0.0, s.0.1) v s.2 in
    one_member (member name (Fixed k count)) members known (bytes ++ tail) (v.1 ++ tail) v.0 o
    (rw (atoms_more k count bytes tail s.0 s.1) (ap (λ (x : Value × List ℕ). Some (with_more tail x)) is))
    (others (learn name v.0 known))
field_read name labels Text some bytes tail v e members o others known =
    let s = some_step (string_at bytes) (λ x. Some (Bytes x.0, x.1)) v e in
    let is = some_is (Bytes s.0.0, s.0.1) v s.2 in
    one_member (member name String) members known (bytes ++ tail) (v.1 ++ tail) v.0 o
    (rw (string_more bytes tail s.0 s.1) (ap (λ (x : Value × List ℕ). Some (with_more tail x)) is))
    (others (learn name v.0 known))
field_read name labels (Sequence k) some bytes tail v e members o others known =
    let by = name ++ codes "_length" in
    let a = some_step (number_at w32 bytes) (λ n. atoms_at k n.0 n.1 >>= λ x. Some (Several x.0, x.1)) v e in
    let b = some_step (atoms_at k a.0.0 a.0.1) (λ x. Some (Several x.0, x.1)) v a.2 in
    let is = some_is (Several b.0.0, b.0.1) v b.2 in
    let count : count_in v.0 ≡ a.0.0 = sym (ap (λ (x : Value × List ℕ). count_in x.0) is) ∙ atoms_count k a.0.0 a.0.1 b.0 b.1 in
    one_member (member by (Scalar (number Unsigned Bits32) [])) (member name (Counted k by) ∷ members) known (bytes ++ tail)
    (a.0.1 ++ tail) (Single (Natural (count_in v.0))) ((name, v.0) ∷ o.0, o.1)
    (length_read known bytes tail a.0 (count_in v.0) a.1 count)
    (one_member (member name (Counted k by)) members ((by, count_in v.0) ∷ known) (a.0.1 ++ tail) (v.1 ++ tail) v.0 o
    (rw (same_name by, count, atoms_more k a.0.0 a.0.1 tail b.0 b.1) (ap (λ (x : Value × List ℕ). Some (with_more tail x)) is))
    (others (learn name v.0 ((by, count_in v.0) ∷ known))))
field_read name labels (All form) some bytes tail v e members o others known = absurd cc

neither : (a b : Bool) → (a || b) ≡ false → (a ≡ false) × (b ≡ false)
neither true b e = absurd cc
neither false b e = (refl, e)

-- fields of which none is all of the payload
fields_read : (fields : List Field) → has_all fields ≡ false → (bytes tail : List ℕ) (v : List Value × List ℕ)
    → fields_at fields bytes ≡ Some v → (known : Known)
    → members_at (flat_map members_of fields) known (bytes ++ tail) ≡ Some (shown fields v.0, v.1 ++ tail)
unfolding fields_at members_at
fields_read [] some bytes tail v e known =
    ap (λ (x : List Value × List ℕ). Some ([], x.1 ++ tail)) (some_is ([], bytes) v e)
fields_read (f ∷ fields) some bytes tail v e known =
    let a = some_step (layout_at f.layout bytes) (λ first. fields_at fields first.1 >>= λ others. Some (first.0 ∷ others.0, others.1)) v e in
    let b = some_step (fields_at fields a.0.1) (λ others. Some (a.0.0 ∷ others.0, others.1)) v a.2 in
    let not_all = neither (is_all f.layout) (has_all fields) some in
    field_read (95 ∷ f.name) f.labels f.layout not_all.0 bytes tail a.0 a.1 (flat_map members_of fields) (shown fields b.0.0, b.0.1 ++ tail)
    (fields_read fields not_all.1 a.0.1 tail b.0 b.1) known
    ∙ ap (λ (x : List Value × List ℕ). Some (shown (f ∷ fields) x.0, x.1 ++ tail)) (some_is (a.0.0 ∷ b.0.0, b.0.1) v b.2)

-- ---- all of the payload

byte_read : (sort : Sort) (b : ℕ) (bytes : List ℕ) → atom_as sort w8 b ≡ Natural b
    → atom_at (number sort Bits8) (b ∷ bytes) ≡ Some (Natural b, bytes)
unfolding atom_at
byte_read sort b bytes plain =
    let long : ltb (length (b ∷ bytes)) 1 ≡ false = le-ltb _ _ (omega arith) in
    rw (long, plain) refl

bytes_read : (sort : Sort) → ((n : ℕ) → atom_as sort w8 n ≡ Natural n) → (bytes tail : List ℕ)
    → atoms_at (number sort Bits8) (length bytes) (bytes ++ tail) ≡ Some (map Natural bytes, tail)
unfolding atoms_at
bytes_read sort plain [] tail = refl
bytes_read sort plain (b ∷ bytes) tail = rw (byte_read sort b (bytes ++ tail) (plain b), bytes_read sort plain bytes tail) refl

-- the member that is as long as `len` says
pub all_read : (name : List ℕ) (sort : Sort) → ((n : ℕ) → atom_as sort w8 n ≡ Natural n) → (bytes tail : List ℕ) (known : Known)
    → members_at (member name (Counted (number sort Bits8) len_name) ∷ []) ((len_name, length bytes) ∷ known) (bytes ++ tail)
    ≡ Some ((name, Several (map Natural bytes)) ∷ [], tail)
unfolding type_at members_at
all_read name sort plain bytes tail known = rw (bytes_read sort plain bytes tail) refl

text_read : (name : List ℕ) (bytes tail : List ℕ) (known : Known)
    → members_at (member name (Characters len_name) ∷ []) ((len_name, length bytes) ∷ known) (bytes ++ tail)
    ≡ Some ((name, Several (map Natural bytes)) ∷ [], tail)
unfolding type_at members_at
text_read name bytes tail known = rw (bytes_read Unsigned (λ n. refl) bytes tail) refl

only_all : (name : List ℕ) (labels : List Label) (form : Form) (bytes tail : List ℕ) (values : List Value) (known : Known)
    → fields_at (record { name = name; layout = All form; labels = labels } ∷ []) bytes ≡ Some (values, [])
    → members_at (members_of (record { name = name; layout = All form; labels = labels }) ++ []) ((len_name, length bytes) ∷ known) (bytes ++ tail)
    ≡ Some (shown (record { name = name; layout = All form; labels = labels } ∷ []) values, tail)
unfolding fields_at layout_at
only_all name labels AsText bytes tail values known e =
    text_read (95 ∷ name) bytes tail known
    ∙ ap (λ (x : List Value × List ℕ). Some (shown (record { name = name; layout = All AsText; labels = labels } ∷ []) x.0, tail))
    (some_is (Several (map Natural bytes) ∷ [], []) (values, []) e)
only_all name labels AsBytes bytes tail values known e =
    all_read (95 ∷ name) Hexadecimal (λ n. refl) bytes tail known
    ∙ ap (λ (x : List Value × List ℕ). Some (shown (record { name = name; layout = All AsBytes; labels = labels } ∷ []) x.0, tail))
    (some_is (Several (map Natural bytes) ∷ [], []) (values, []) e)

-- the only field
only_read : (name : List ℕ) (labels : List Label) (l : Layout) (bytes tail : List ℕ) (values : List Value) (known : Known)
    → fields_at (record { name = name; layout = l; labels = labels } ∷ []) bytes ≡ Some (values, [])
    → members_at (flat_map members_of (record { name = name; layout = l; labels = labels } ∷ [])) ((len_name, length bytes) ∷ known) (bytes ++ tail)
    ≡ Some (shown (record { name = name; layout = l; labels = labels } ∷ []) values, tail)
only_read name labels (One k) bytes tail values known e = fields_read (record { name = name; layout = One k; labels = labels } ∷ []) refl bytes tail (values, []) e ((len_name, length bytes) ∷ known)
only_read name labels (Array k count) bytes tail values known e = fields_read (record { name = name; layout = Array k count; labels = labels } ∷ []) refl bytes tail (values, []) e ((len_name, length bytes) ∷ known)
only_read name labels (Sequence k) bytes tail values known e = fields_read (record { name = name; layout = Sequence k; labels = labels } ∷ []) refl bytes tail (values, []) e ((len_name, length bytes) ∷ known)
only_read name labels Text bytes tail values known e = fields_read (record { name = name; layout = Text; labels = labels } ∷ []) refl bytes tail (values, []) e ((len_name, length bytes) ∷ known)
only_read name labels (All form) bytes tail values known e = only_all name labels form bytes tail values known e

not_true : (b : Bool) → IsTrue (not b) → b ≡ false
not_true true e = absurd cc
not_true false e = refl

-- fields that may stand together
pub apart_read : (fields : List Field) → IsTrue (is_apart fields) → (bytes tail : List ℕ) (values : List Value) (known : Known)
    → fields_at fields bytes ≡ Some (values, [])
    → members_at (flat_map members_of fields) ((len_name, length bytes) ∷ known) (bytes ++ tail) ≡ Some (shown fields values, tail)
apart_read [] apart bytes tail values known e = fields_read [] refl bytes tail (values, []) e ((len_name, length bytes) ∷ known)
apart_read (f ∷ []) apart bytes tail values known e = only_read f.name f.labels f.layout bytes tail values known e
apart_read (f ∷ g ∷ fields) apart bytes tail values known e = fields_read (f ∷ g ∷ fields) (not_true (has_all (f ∷ g ∷ fields)) apart) bytes tail (values, []) e ((len_name, length bytes) ∷ known)
