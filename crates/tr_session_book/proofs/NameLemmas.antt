-- What calls do to a map by name, in terms of the names' texts.
use Rattle.std.proofs.Common.{◌≡◌, ◌∙◌, ℕ, zero, suc, Bool, cond, true, false, true≢false, List, [], ◌∷◌, ◌++◌, length, Option, Some, None, is_some, refl, sym, ap}
use Rattle.std.proofs.lemmas.List.{length-map}
use Rattle.std.proofs.lemmas.List.Folds.{list_all-append}
use Rattle.std.specs.List.{list_all}
use Rattle.std.specs.Map.{lookup, set_value}
use Rattle.std.specs.Prelude.{IfSome, IsSome, String, slice_get}
use Rattle.std.specs.Str.{bytes_eq}
use Rattle.std.specs.String.{string_bytes, string_eq}
use Rattle.indexmap.specs.IndexMap.{insert_entry}
use Rattle.tr_session_book.specs.Names.{AreNamed, by_name}
use Rattle.tr_terms.proofs.BoolLemmas.{both}
use Rattle.tr_terms.specs.Names.{is_name}

module _ {Z X : Type 0} where
  pub length-by_name : (es : List (String Z × X)) → length (by_name es) ≡ length es
  length-by_name es = length-map es (λ (e : String Z × X). (string_bytes e.0, e.1))

  -- what is read at a text
  pub lookup-by_name : (name : List ℕ) (es : List (String Z × X))
      → lookup (λ key. bytes_eq name (string_bytes key)) es ≡ lookup (bytes_eq name) (by_name es)
  lookup-by_name name [] = refl
  lookup-by_name name (e ∷ es) = ap (λ (rest : Option X). cond (bytes_eq name (string_bytes e.0)) (Some e.1) rest) (lookup-by_name name es)

  pub is_some-by_name : (name : List ℕ) (es : List (String Z × X))
      → is_some (lookup (λ key. bytes_eq name (string_bytes key)) es) ≡ is_some (lookup (bytes_eq name) (by_name es))
  is_some-by_name name es = ap is_some (lookup-by_name name es)

  -- what is written at a text
  pub set_value-by_name : (name : List ℕ) (es : List (String Z × X)) (w : X)
      → by_name (set_value (λ key. bytes_eq name (string_bytes key)) es w) ≡ set_value (bytes_eq name) (by_name es) w
  set_value-by_name name [] w = refl
  set_value-by_name name (e ∷ es) w = go (bytes_eq name (string_bytes e.0)) (set_value-by_name name es w)
    where
      go : (b : Bool) → by_name (set_value (λ key. bytes_eq name (string_bytes key)) es w) ≡ set_value (bytes_eq name) (by_name es) w
          → by_name (cond b ((e.0, w) ∷ es) (e ∷ set_value (λ key. bytes_eq name (string_bytes key)) es w))
          ≡ cond b ((string_bytes e.0, w) ∷ by_name es)
          ((string_bytes e.0, e.1) ∷ set_value (bytes_eq name) (by_name es) w)
      go true rest = refl
      go false rest = ap (λ (fs : List (List ℕ × X)). (string_bytes e.0, e.1) ∷ fs) rest

  -- a new name goes last
  pub insert_entry-by_name : (es : List (String Z × X)) (key : String Z) (value : X) → lookup (bytes_eq (string_bytes key)) (by_name es) ≡ None
      → by_name (insert_entry string_eq es key value) ≡ by_name es ++ (string_bytes key, value) ∷ []
  insert_entry-by_name [] key value free = refl
  insert_entry-by_name (e ∷ es) key value free =
      go (bytes_eq (string_bytes key) (string_bytes e.0)) free (λ later. insert_entry-by_name es key value later)
    where
      go : (b : Bool) → cond b (Some e.1) (lookup (bytes_eq (string_bytes key)) (by_name es)) ≡ None
          → (lookup (bytes_eq (string_bytes key)) (by_name es) ≡ None
          → by_name (insert_entry string_eq es key value) ≡ by_name es ++ (string_bytes key, value) ∷ [])
          → by_name (cond b ((e.0, value) ∷ es) (e ∷ insert_entry string_eq es key value)) ≡ by_name (e ∷ es) ++ (string_bytes key, value) ∷ []
      go true found rest = absurd (true≢false (ap is_some found))
      go false found rest = ap (λ (fs : List (List ℕ × X)). (string_bytes e.0, e.1) ∷ fs) (rest found)

  -- the same for a name that the code has as a text
  pub insert_entry-new_name : (name : List ℕ) (es after : List (String Z × X)) (key : String Z) (value : X) → string_bytes key ≡ name
      → is_some (lookup (λ k. bytes_eq name (string_bytes k)) es) ≡ false → after ≡ insert_entry string_eq es key value
      → by_name after ≡ by_name es ++ (name, value) ∷ []
  insert_entry-new_name name es after key value named free is =
      ap by_name is ∙ insert_entry-by_name es key value (rw named (none (lookup (bytes_eq name) (by_name es)) (sym (is_some-by_name name es) ∙ free)))
      ∙ ap (λ (n : List ℕ). by_name es ++ (n, value) ∷ []) named
    where
      none : (o : Option X) → is_some o ≡ false → o ≡ None
      none None e = refl
      none (Some x) e = absurd (true≢false e)

-- ---- valid names

-- the name of a valid text
pub name-made : (o : Option (List ℕ)) (text : List ℕ) → IsSome o → IfSome o (λ name. name ≡ text) → o ≡ Some text
name-made None text some is = cc
name-made (Some name) text some is = ap (λ (n : List ℕ). Some n) is

module _ {X : Type 0} where
  -- one more
  pub named-more : (es : List (List ℕ × X)) (name : List ℕ) (x : X) → AreNamed es → is_name name ≡ true → AreNamed (es ++ (name, x) ∷ [])
  named-more es name x are is = list_all-append (λ (e : List ℕ × X). is_name e.0) es ((name, x) ∷ []) ∙ rw (are, is) refl

  -- the one at a place
  pub named-at : {Z : Type 0} (es : List (String Z × X)) (k : ℕ) (e : String Z × X) → AreNamed (by_name es)
      → slice_get es k ≡ Some e → is_name (string_bytes e.0) ≡ true
  named-at [] k e are at = cc
  named-at {Z = Z} (f ∷ es) zero e are at =
      let here = both (is_name (string_bytes f.0)) (list_all (λ (g : List ℕ × X). is_name g.0) (by_name es)) are in
      let same : f ≡ e = cc in
      ap (λ (g : String Z × X). is_name (string_bytes g.0)) (sym same) ∙ here.0
  named-at (f ∷ es) (suc k) e are at =
      named-at es k e (both (is_name (string_bytes f.0)) (list_all (λ (g : List ℕ × X). is_name g.0) (by_name es)) are).1 at
