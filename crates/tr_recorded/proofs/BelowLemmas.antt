-- The names through which paths lead below folders.
use Rattle.std.proofs.Common.{◌≡◌, ◌∙◌, ℕ, Bool, true, false, true≢false, cond, eqb, ◌&&◌, refl, ap, arith, List, [], ◌∷◌, ◌++◌, Option, Some, None}
use Rattle.std.proofs.lemmas.Grind.{common_steps}
use Rattle.std.specs.Cmp.Lexicographic.{pointwise}
use Rattle.std.specs.List.{AllByRecursion}
use Rattle.tr_recorded.specs.Made.{first_name, name_below}

abbrev pub HasNoSlash : List ℕ → Type 0
HasNoSlash = AllByRecursion (λ (b : ℕ). eqb b 47 ≡ false)

pub same-byte : (b : ℕ) → eqb b b ≡ true
same-byte b = grind (arith, common_steps)

pub turned : (b : ℕ) → eqb b 47 ≡ false → eqb 47 b ≡ false
turned b other = grind (arith, common_steps, other)

pub same-name : (name : List ℕ) → pointwise eqb name name ≡ true
same-name [] = refl
same-name (b ∷ name) = ap (λ (t : Bool). t && pointwise eqb name name) (same-byte b) ∙ same-name name

whole-name : (name : List ℕ) → HasNoSlash name → first_name name ≡ name
whole-name [] none = refl
whole-name (b ∷ name) none =
    ap (λ (t : Bool). cond t [] (b ∷ first_name name)) none.0 ∙ ap (λ (l : List ℕ). b ∷ l) (whole-name name none.1)

front-name : (name rest : List ℕ) → HasNoSlash name → first_name (name ++ (47 ∷ rest)) ≡ name
front-name [] rest none = refl
front-name (b ∷ name) rest none =
    ap (λ (t : Bool). cond t [] (b ∷ first_name (name ++ (47 ∷ rest)))) none.0 ∙ ap (λ (l : List ℕ). b ∷ l) (front-name name rest none.1)

pub below-front : (front folder path : List ℕ) → name_below (front ++ folder) (front ++ path) ≡ name_below folder path
below-front [] folder path = refl
below-front (b ∷ front) folder path =
    ap (λ (t : Bool). cond t (name_below (front ++ folder) (front ++ path)) None) (same-byte b) ∙ below-front front folder path

below-here : (folder path : List ℕ) → name_below folder (folder ++ path) ≡ name_below [] path
below-here [] path = refl
below-here (b ∷ folder) path =
    ap (λ (t : Bool). cond t (name_below folder (folder ++ path)) None) (same-byte b) ∙ below-here folder path

-- right below a folder
pub below-is : (folder name : List ℕ) → HasNoSlash name → name_below folder (folder ++ (47 ∷ name)) ≡ Some name
below-is folder name none = below-here folder (47 ∷ name) ∙ ap Some (whole-name name none)

-- further below
pub further-below : (folder name rest : List ℕ) → HasNoSlash name → name_below folder (folder ++ (47 ∷ (name ++ (47 ∷ rest)))) ≡ Some name
further-below folder name rest none = below-here folder (47 ∷ (name ++ (47 ∷ rest))) ∙ ap Some (front-name name rest none)

none-if : {X : Type 0} (t p : Bool) (o : Option X) → (t && p) ≡ false → (p ≡ false → o ≡ None) → cond t o None ≡ None
none-if true p o other none = none other
none-if false p o other none = refl

-- below a folder of another name beside it
pub beside : (name other rest : List ℕ) → HasNoSlash name → HasNoSlash other → pointwise eqb name other ≡ false
    → name_below name (other ++ (47 ∷ rest)) ≡ None
beside [] [] rest own its differ = absurd (true≢false differ)
beside [] (c ∷ other) rest own its differ = ap (λ (t : Bool). cond t (Some (first_name (other ++ (47 ∷ rest)))) None) its.0
beside (b ∷ name) [] rest own its differ = ap (λ (t : Bool). cond t (name_below name rest) None) own.0
beside (b ∷ name) (c ∷ other) rest own its differ =
    none-if (eqb b c) (pointwise eqb name other) (name_below name (other ++ (47 ∷ rest))) differ (beside name other rest own.1 its.1)

-- a folder beside it is not below it, and it isn't below itself
pub not-below : (name other : List ℕ) → HasNoSlash name → HasNoSlash other → name_below name other ≡ None
not-below [] [] own its = refl
not-below [] (c ∷ other) own its = ap (λ (t : Bool). cond t (Some (first_name other)) None) its.0
not-below (b ∷ name) [] own its = refl
not-below (b ∷ name) (c ∷ other) own its = either (eqb b c) (name_below name other) (not-below name other own.1 its.1)
  where
    either : (t : Bool) (o : Option (List ℕ)) → o ≡ None → cond t o None ≡ None
    either true o none = none
    either false o none = refl

-- ---- paths of files

pub same-front : (front path other : List ℕ) → pointwise eqb (front ++ path) (front ++ other) ≡ pointwise eqb path other
same-front [] path other = refl
same-front (b ∷ front) path other =
    ap (λ (t : Bool). t && pointwise eqb (front ++ path) (front ++ other)) (same-byte b) ∙ same-front front path other

not-both : (t p q : Bool) → (t && p) ≡ false → (p ≡ false → q ≡ false) → (t && q) ≡ false
not-both true p q other none = none other
not-both false p q other none = refl

-- of a folder of another name
pub other-path : (name other file its_file : List ℕ) → HasNoSlash name → HasNoSlash other → pointwise eqb name other ≡ false
    → pointwise eqb (name ++ (47 ∷ file)) (other ++ (47 ∷ its_file)) ≡ false
other-path [] [] file its_file own its differ = absurd (true≢false differ)
other-path [] (c ∷ other) file its_file own its differ =
    ap (λ (t : Bool). t && pointwise eqb file (other ++ (47 ∷ its_file))) (turned c its.0)
other-path (b ∷ name) [] file its_file own its differ =
    ap (λ (t : Bool). t && pointwise eqb (name ++ (47 ∷ file)) its_file) own.0
other-path (b ∷ name) (c ∷ other) file its_file own its differ =
    not-both (eqb b c) (pointwise eqb name other) (pointwise eqb (name ++ (47 ∷ file)) (other ++ (47 ∷ its_file))) differ
    (other-path name other file its_file own.1 its.1)
