-- Where fields end, without their values.
use Rattle.std.proofs.Common.{◌≡◌, ℕ, zero, suc, ◌+◌, ◌*◌, Bool, true, false, cond, eqb, ltb, List, [], ◌∷◌, length, take, drop, Option, Some, None, refl, sym, ap, ◌∙◌, arith, inl, inr}
use Rattle.std.specs.Prelude.{is_some, option_map, unwrap_or}
use Rattle.std.specs.Int.{Width, w32, byte_len, from_le_bytes}
use Rattle.std.proofs.Math.Nat.{suc-mul}
use Rattle.std.proofs.lemmas.Bool.{cases_lt, lt-ltb, le-ltb, ne_eqb}
use Rattle.std.proofs.lemmas.Bool.Decides.{nat_tests}
use Rattle.tr_record.proofs.Fields.{some_step}
use Rattle.std.proofs.lemmas.List.{drop-drop, length-drop}
use Rattle.tr_record.specs.Reading.{◌>>=◌, number_at}
use Rattle.tr_events.specs.declared.layouts.Layout.{Layout}
use Rattle.tr_events.specs.declared.layouts.Layout.TheVariants.{One, Array, Sequence, Text, All}
use Rattle.tr_events.specs.declared.layouts.Number.{Number}
use Rattle.tr_events.specs.Events.{Field, Event, Value, Single, Several, Bytes, width_of, atom_of, atom_at, atoms_at, string_at, layout_at, fields_at, values_of, fits, cut, atoms_behind, string_behind, behind, end_there, fixed, exact}

-- ---- what is left

-- what is left behind what was read
abbrev pub left : {A : Type 0} → Option (A × List ℕ) → Option (List ℕ)
left o = option_map (λ v. v.1) o

left_map : {A B : Type 0} (f : A → B) (o : Option (A × List ℕ)) → left (o >>= λ v. Some (f v.0, v.1)) ≡ left o
left_map f None = refl
left_map f (Some v) = refl

-- one after another
left_then : {A B C : Type 0} (o : Option (A × List ℕ)) (g : List ℕ → Option (B × List ℕ)) (h : A → B → C)
    → left (o >>= λ a. g a.1 >>= λ b. Some (h a.0 b.0, b.1)) ≡ left o >>= λ r. left (g r)
left_then None g h = refl
left_then (Some a) g h = left_map (h a.0) (g a.1)

left_number : (w : Width) (bytes : List ℕ) → left (number_at w bytes) ≡ cut (byte_len w) bytes
left_number w bytes = step (ltb (length bytes) (byte_len w)) (from_le_bytes w (take (byte_len w) bytes)) (drop (byte_len w) bytes)
  where
    step : (short : Bool) (n : ℕ) (rest : List ℕ) → left {A = ℕ} (cond short None (Some (n, rest))) ≡ cond short None (Some rest)
    step true n rest = refl
    step false n rest = refl

cut_cut : (a b : ℕ) (bytes : List ℕ) → cut a bytes >>= cut b ≡ cut (a + b) bytes
cut_cut a b bytes =
    elim (cases_lt (length bytes) a) [
      | inl short ↦
          let first : ltb (length bytes) a ≡ true = lt-ltb _ _ short in
          let both : ltb (length bytes) (a + b) ≡ true = lt-ltb _ _ (omega arith) in
          rw (first, both) refl
      | inr long ↦
          let first : ltb (length bytes) a ≡ false = le-ltb _ _ long in
          elim (cases_lt (length bytes) (a + b)) [
            | inl short ↦
                let second : ltb (length (drop a bytes)) b ≡ true = lt-ltb _ _ (omega (arith, length-drop a bytes)) in
                let both : ltb (length bytes) (a + b) ≡ true = lt-ltb _ _ short in
                rw (first, second, both) refl
            | inr enough ↦
                let second : ltb (length (drop a bytes)) b ≡ false = le-ltb _ _ (omega (arith, length-drop a bytes)) in
                let both : ltb (length bytes) (a + b) ≡ false = le-ltb _ _ enough in
                rw (first, second, both, drop-drop) refl
          ]
    ]

cut_none : (n : ℕ) (bytes : List ℕ) → n ≡ 0 → Some bytes ≡ cut n bytes
cut_none n bytes none =
    let enough : ltb (length bytes) n ≡ false = le-ltb _ _ (omega arith) in
    rw (enough, none) refl

left_atom : (k : Number) (bytes : List ℕ) → left (atom_at k bytes) ≡ cut (byte_len (width_of k.size)) bytes
unfolding atom_at
left_atom k bytes = left_map (atom_of k) (number_at (width_of k.size) bytes) ∙ left_number (width_of k.size) bytes

left_atoms : (k : Number) (n : ℕ) (bytes : List ℕ) → left (atoms_at k n bytes) ≡ atoms_behind k n bytes
unfolding atoms_at
left_atoms k zero bytes = cut_none (zero * byte_len (width_of k.size)) bytes (omega arith)
left_atoms k (suc n) bytes =
    let w = byte_len (width_of k.size) in
    left_then (atom_at k bytes) (atoms_at k n) (λ x xs. x ∷ xs)
    ∙ rw (left_atom k bytes) (next (cut w bytes) (λ r. left_atoms k n r))
    ∙ cut_cut w (n * w) bytes
    ∙ ap (λ (size : ℕ). cut size bytes) (more w n)
  where
    next : {g h : List ℕ → Option (List ℕ)} (o : Option (List ℕ)) → ((r : List ℕ) → g r ≡ h r) → o >>= g ≡ o >>= h
    next None same = refl
    next (Some r) same = same r

    more : (w n : ℕ) → w + n * w ≡ suc n * w
    more w n = omega (arith, suc-mul n w)

left_string : (bytes : List ℕ) → left (string_at bytes) ≡ string_behind bytes
unfolding string_at
left_string [] = refl
left_string (b ∷ bytes) = step (eqb b 0) b bytes (left_string bytes)
  where
    step : (ends : Bool) (b : ℕ) (bytes : List ℕ) → left (string_at bytes) ≡ string_behind bytes
        → left (cond ends (Some ([], bytes)) (string_at bytes >>= λ others. Some (b ∷ others.0, others.1))) ≡ cond ends (Some bytes) (string_behind bytes)
    step true b bytes same = refl
    step false b bytes same = left_map (λ text. b ∷ text) (string_at bytes) ∙ same

left_layout : (l : Layout) (bytes : List ℕ) → left (layout_at l bytes) ≡ behind l bytes
unfolding layout_at
left_layout (One k) bytes =
    left_map Single (atom_at k bytes) ∙ left_atom k bytes ∙ ap (λ (size : ℕ). cut size bytes) (omega arith)
left_layout (Array k count) bytes = left_map Several (atoms_at k count bytes) ∙ left_atoms k count bytes
left_layout (Sequence k) bytes = counted (number_at w32 bytes)
  where
    counted : (o : Option (ℕ × List ℕ)) → left (o >>= λ n. atoms_at k n.0 n.1 >>= λ v. Some (Several v.0, v.1)) ≡ o >>= λ n. atoms_behind k n.0 n.1
    counted None = refl
    counted (Some n) = left_map Several (atoms_at k n.0 n.1) ∙ left_atoms k n.0 n.1
left_layout Text bytes = left_map Bytes (string_at bytes) ∙ left_string bytes
left_layout (All form) bytes = refl

-- the values, if nothing is left
abbrev closed : Option (List Value × List ℕ) → Option (List Value)
closed o = o >>= λ v. cond (eqb (length v.1) 0) (Some v.0) None

abbrev put : Value → Option (List Value × List ℕ) → Option (List Value × List ℕ)
put v o = o >>= λ others. Some (v ∷ others.0, others.1)

abbrev put_first : List Field → Option (Value × List ℕ) → Option (List Value × List ℕ)
put_first fields o = o >>= λ v. put v.0 (fields_at fields v.1)

closed_put : (v : Value) (o : Option (List Value × List ℕ)) → is_some (closed o) ≡ is_some (closed (put v o))
closed_put v None = refl
closed_put v (Some x) = each (eqb (length x.1) 0) v x.0
  where
    each : (none : Bool) (v : Value) (vs : List Value) → is_some {T = List Value} (cond none (Some vs) None) ≡ is_some {T = List Value} (cond none (Some (v ∷ vs)) None)
    each true v vs = refl
    each false v vs = refl

-- fields end there if their values do
ends : (fields : List Field) (bytes : List ℕ) → end_there fields bytes ≡ is_some (closed (fields_at fields bytes))
unfolding fields_at
ends [] bytes = step (eqb (length bytes) 0)
  where
    step : (none : Bool) → none ≡ is_some {T = List Value} (cond none (Some []) None)
    step true = refl
    step false = refl
ends (f ∷ fields) bytes = rw (← left_layout f.layout bytes) (first (layout_at f.layout bytes) (λ r. ends fields r))
  where
    first : (o : Option (Value × List ℕ)) → ((r : List ℕ) → end_there fields r ≡ is_some (closed (fields_at fields r)))
        → unwrap_or (option_map (end_there fields) (left o)) false ≡ is_some (closed (put_first fields o))
    first None others = refl
    first (Some v) others = others v.1 ∙ closed_put v.0 (fields_at fields v.1)

pub fits_is : (e : Event) (payload : List ℕ) → fits e payload ≡ end_there e.fields payload
unfolding values_of
fits_is e payload = sym (ends e.fields payload)

-- ---- fields of one size

cut_same : (a b : ℕ) (bytes : List ℕ) → a ≡ b → cut a bytes ≡ cut b bytes
cut_same a b bytes same = ap (λ (n : ℕ). cut n bytes) same

none_some : {A : Type 0} (x : A) → None ≡ Some x → ⊥
none_some x e = cc

one_of : (x y : ℕ) → Some x ≡ Some y → x ≡ y
one_of x y e = cc

fixed_behind : (l : Layout) (n : ℕ) (bytes : List ℕ) → fixed l ≡ Some n → behind l bytes ≡ cut n bytes
fixed_behind (One k) n bytes e =
    cut_same (1 * byte_len (width_of k.size)) n bytes (omega (arith, one_of (byte_len (width_of k.size)) n e))
fixed_behind (Array k count) n bytes e = cut_same (count * byte_len (width_of k.size)) n bytes (one_of (count * byte_len (width_of k.size)) n e)
fixed_behind (Sequence k) n bytes e = absurd (none_some n e)
fixed_behind Text n bytes e = absurd (none_some n e)
fixed_behind (All form) n bytes e = absurd (none_some n e)

-- behind the first bytes the rest has the other size
rest_size : (a b : ℕ) (bytes : List ℕ) (test : List ℕ → Bool) → ((r : List ℕ) → test r ≡ eqb (length r) b)
    → unwrap_or (option_map test (cut a bytes)) false ≡ eqb (length bytes) (a + b)
rest_size a b bytes test is =
    elim (cases_lt (length bytes) a) [
      | inl short ↦
          let first : ltb (length bytes) a ≡ true = lt-ltb _ _ short in
          let other : eqb (length bytes) (a + b) ≡ false = ne_eqb (length bytes) (a + b) (λ same. omega arith) in
          rw (first, other) refl
      | inr long ↦
          let first : ltb (length bytes) a ≡ false = le-ltb _ _ long in
          rw first (is (drop a bytes) ∙ shifted (length (drop a bytes)) a b (length bytes) (omega (arith, length-drop a bytes)))
    ]
  where
    shifted : (r a b n : ℕ) → n ≡ a + r → eqb r b ≡ eqb n (a + b)
    shifted r a b n sum = grind (arith, nat_tests)

pub exact_is : (fields : List Field) (n : ℕ) → exact fields ≡ Some n → (bytes : List ℕ) → end_there fields bytes ≡ eqb (length bytes) n
exact_is [] n e bytes = ap (λ (x : ℕ). eqb (length bytes) x) (one_of 0 n e)
exact_is (f ∷ fields) n e bytes =
    let a = some_step (fixed f.layout) (λ a. exact fields >>= λ b. Some (a + b)) n e in
    let b = some_step (exact fields) (λ b. Some (a.0 + b)) n a.2 in
    ap (λ (o : Option (List ℕ)). unwrap_or (option_map (end_there fields) o) false) (fixed_behind f.layout a.0 bytes a.1)
    ∙ rest_size a.0 b.0 bytes (end_there fields) (λ r. exact_is fields b.0 b.1 r)
    ∙ ap (λ (x : ℕ). eqb (length bytes) x) (one_of (a.0 + b.0) n b.2)

pub exact_fits : (e : Event) (n : ℕ) (payload : List ℕ) → exact e.fields ≡ Some n → fits e payload ≡ eqb (length payload) n
exact_fits e n payload is = fits_is e payload ∙ exact_is e.fields n is payload
