-- The names of archives and of streams' files have no slash and no dot.
use Rattle.std.proofs.Common.{◌≡◌, ◌≢◌, ◌∙◌, ◌<◌, ◌≤◌, ◌^◌, ℕ, Bool, true, false, true≢false, cond, not, eqb, ◌&&◌, ◌||◌, refl, sym, ap, subst, arith, List, [], ◌∷◌, ◌++◌, length, take, drop, Option, Some, None}
use Rattle.std.specs.Fmt.{decimal}
use Rattle.std.specs.List.{AllByRecursion, list_all, zip}
use Rattle.std.specs.Prelude.{nat_le, nat_lt}
use Rattle.std.proofs.lemmas.Grind.{common_steps}
use Rattle.std.proofs.lemmas.List.{length-take, take-append-drop}
use Rattle.std.specs.Str.Parse.{digits_value}
use Rattle.tr_chunk.specs.Files.{file_name}
use Rattle.tr_recorded.proofs.BelowLemmas.{HasNoSlash}
use Rattle.tr_recorded.specs.Made.{is_plain_name}
use Rattle.tr_events.proofs.NumberLemmas.{digits_written}
use Rattle.tr_events.specs.Numbers.{has_spare_zero, is_digit, number_of}
use Rattle.tr_survey.specs.Names.{archive_number, fits, form_of_stamps}
use Rattle.tr_terms.proofs.BoolLemmas.{both}
use Rattle.tr_terms.specs.Names.{is_letter, is_name, is_of_name, is_plain}

-- without this byte
abbrev Lacks : ℕ → List ℕ → Type 0
Lacks c = AllByRecursion (λ (b : ℕ). eqb b c ≡ false)

-- what passes a test that the byte doesn't
lacks : (P : ℕ → Bool) (c : ℕ) → P c ≡ false → (b : ℕ) → P b ≡ true → eqb b c ≡ false
lacks P c fails b passes = go (eqb b c) refl
  where
    go : (t : Bool) → eqb b c ≡ t → t ≡ false
    go false e = refl
    go true e = let is : b ≡ c = grind (arith, e) in absurd (true≢false (sym passes ∙ ap P is ∙ fails))

all-lack : (P : ℕ → Bool) (c : ℕ) → P c ≡ false → (text : List ℕ) → list_all P text ≡ true → Lacks c text
all-lack P c fails [] pass = tt
all-lack P c fails (b ∷ text) pass =
    let p = both (P b) (list_all P text) pass in (lacks P c fails b p.0, all-lack P c fails text p.1)

ends-lack : (c : ℕ) (front back : List ℕ) → Lacks c front → Lacks c back → Lacks c (front ++ back)
ends-lack c [] back a b = b
ends-lack c (d ∷ front) back a b = (a.0, ends-lack c front back a.1 b)

some-if : (t : Bool) (o : Option ℕ) (n : ℕ) → cond t o None ≡ Some n → (t ≡ true) × (o ≡ Some n)
some-if true o n e = (refl, e)
some-if false o n e = absurd cc

neither : (a b c d : Bool) → c ≡ false → d ≡ false → cond a false (cond b c d) ≡ false
neither true b c d e f = refl
neither false true c d e f = e
neither false false c d e f = f

swapped : (b c : ℕ) → eqb b c ≡ false → eqb c b ≡ false
swapped b c other = grind (arith, common_steps, other)

-- a byte that no name and no digit has, and no form of stamps
module _ (c : ℕ) (letter : is_letter c ≡ false) (in-name : is_of_name c ≡ false) (digit : is_digit c ≡ false) (line : eqb 95 c ≡ false)
    (sign : (eqb c 43 || eqb c 45) ≡ false) (form : list_all (λ b. not (eqb b c)) form_of_stamps ≡ true) (itself : not (eqb c c) ≡ false) where
  name-lacks : (name : List ℕ) → is_name name ≡ true → Lacks c name
  name-lacks [] is = absurd (true≢false (sym is))
  name-lacks (b ∷ name) is =
      let p = both _ _ is in
      (lacks is_letter c letter b p.0, all-lack is_of_name c in-name name (both _ _ p.1).0)

  file-lacks : (channel : List ℕ) (i : ℕ) → is_name channel ≡ true → i < 2 ^ 64 → Lacks c (file_name channel i)
  file-lacks channel i is small =
      ends-lack c channel (95 ∷ decimal i) (name-lacks channel is) (line, all-lack is_digit c digit (decimal i) (digits_written i small))

  form-lacks : (stamps text : List ℕ) → Lacks c stamps → length text ≤ length stamps
      → list_all (λ (p : ℕ × ℕ). fits p.0 p.1) (zip stamps text) ≡ true → Lacks c text
  form-lacks [] [] its long pass = tt
  form-lacks [] (b ∷ text) its long pass = absurd (omega (arith, long))
  form-lacks (f ∷ stamps) [] its long pass = tt
  form-lacks (f ∷ stamps) (b ∷ text) its long pass =
      let p = both (fits f b) (list_all (λ (q : ℕ × ℕ). fits q.0 q.1) (zip stamps text)) pass in
      let fails : fits f c ≡ false =
      ap (λ (t : Bool). cond (eqb f 48) t (cond (eqb f 43) (eqb c 43 || eqb c 45) (eqb c f))) digit
      ∙ neither (eqb f 48) (eqb f 43) (eqb c 43 || eqb c 45) (eqb c f) sign (swapped f c its.0) in
      (lacks (fits f) c fails b p.0, form-lacks stamps text its.1 (omega (arith, long)) p.1)

  archive-lacks : (name : List ℕ) (n : ℕ) → archive_number name ≡ Some n → Lacks c name
  archive-lacks name n is =
      let front = length-take 42 name in
      let long : length (take 42 name) ≤ 42 = omega (arith, front) in
      let p = some-if (nat_le 42 (length name) && list_all (λ (p : ℕ × ℕ). fits p.0 p.1) (zip form_of_stamps (take 42 name))) (number_of (drop 42 name)) n is in
      let stamps = (both _ _ p.0).1 in
      let text = drop 42 name in
      let q = some-if (nat_lt 0 (length text) && (list_all is_digit text && (not (has_spare_zero text) && nat_lt (digits_value 10 text) (2 ^ 64))))
      (Some (digits_value 10 text)) n p.1 in
      let digits = (both _ _ (both _ _ q.0).1).0 in
      let own : Lacks c form_of_stamps = all-lack (λ b. not (eqb b c)) c itself form_of_stamps form in
      subst (Lacks c) (take-append-drop 42 name)
      (ends-lack c (take 42 name) text (form-lacks form_of_stamps (take 42 name) own long stamps) (all-lack is_digit c digit text digits))

-- ---- without a slash

pub name-plain : (name : List ℕ) → is_name name ≡ true → HasNoSlash name
name-plain = name-lacks 47 refl refl refl refl refl refl refl

pub file-plain : (channel : List ℕ) (i : ℕ) → is_name channel ≡ true → i < 2 ^ 64 → HasNoSlash (file_name channel i)
file-plain = file-lacks 47 refl refl refl refl refl refl refl

pub archive-plain : (name : List ℕ) (n : ℕ) → archive_number name ≡ Some n → HasNoSlash name
archive-plain = archive-lacks 47 refl refl refl refl refl refl refl

-- ---- and without a dot

plain-by : (text : List ℕ) → Lacks 46 text → Lacks 47 text → list_all is_plain text ≡ true
plain-by [] dot slash = refl
plain-by (b ∷ text) dot slash =
    ap (λ (t : Bool). not (t || eqb b 47) && list_all is_plain text) dot.0
    ∙ ap (λ (t : Bool). not t && list_all is_plain text) slash.0 ∙ plain-by text dot.1 slash.1

named-by : (name : List ℕ) → name ≢ [] → list_all is_plain name ≡ true → is_plain_name name ≡ true
named-by [] some plain = absurd (some refl)
named-by (b ∷ name) some plain = plain

pub name-named : (name : List ℕ) → is_name name ≡ true → is_plain_name name ≡ true
name-named name is =
    named-by name (λ e. true≢false (sym is ∙ ap is_name e))
    (plain-by name (name-lacks 46 refl refl refl refl refl refl refl name is) (name-plain name is))

not-none : (n : ℕ) → None ≡ Some n → ⊥
not-none n e = absurd cc

pub archive-is-named : (name : List ℕ) (n : ℕ) → archive_number name ≡ Some n → is_plain_name name ≡ true
archive-is-named name n is =
    named-by name (λ e. not-none n (sym (ap archive_number e) ∙ is))
    (plain-by name (archive-lacks 46 refl refl refl refl refl refl refl name n is) (archive-plain name n is))

some-file : (channel : List ℕ) (i : ℕ) → file_name channel i ≢ []
some-file [] i e = absurd cc
some-file (b ∷ channel) i e = absurd cc

pub file-named : (channel : List ℕ) (i : ℕ) → is_name channel ≡ true → i < 2 ^ 64 → is_plain_name (file_name channel i) ≡ true
file-named channel i is small =
    named-by (file_name channel i) (some-file channel i)
    (plain-by (file_name channel i) (file-lacks 46 refl refl refl refl refl refl refl channel i is small) (file-plain channel i is small))
