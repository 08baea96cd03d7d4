-- The counts of a stream, and lists that change at one place.
use Rattle.std.proofs.Common.{◌≡◌, ◌≢◌, ℕ, ◌-◌, ◌<◌, ◌≤◌, ⊎_elim, List, [], ◌∷◌, ◌++◌, length, get_or, true, false, cond, eqb, eq-eqb, ne_eqb, refl, sym, subst, arith}
use Rattle.std.proofs.lemmas.Bool.Decides.{eqb_tells}
use Rattle.std.proofs.lemmas.Grind.{get_or_default_zero}
use Rattle.std.proofs.lemmas.List.{get_or_push, length_push}
use Rattle.std.proofs.lemmas.List.Elements.{Contains-append_left}
use Rattle.std.proofs.lemmas.List.Sorted.{IsNonDecreasingBy-push}
use Rattle.std.specs.Prelude.{Bool}
use Rattle.tr_tally.specs.Views.{AreWatchers, IsAmong, IsListed, Rise, last_of}

pub last_of-push : (counts : List ℕ) (n : ℕ) → last_of (counts ++ n ∷ []) ≡ n
last_of-push counts n = get_or_push (0 ∷ counts) n 0 (length (counts ++ n ∷ [])) (omega (arith, length_push counts n))

pub rise-push : (counts : List ℕ) (n : ℕ) → Rise counts → last_of counts ≤ n → Rise (counts ++ n ∷ [])
rise-push counts n rise up = IsNonDecreasingBy-push (λ x. x) (0 ∷ counts) n rise last
  where
    last : (d : ℕ) → 0 < length (0 ∷ counts) → get_or (0 ∷ counts) (length (0 ∷ counts) - 1) d ≤ n
    last d some =
        let at : length (0 ∷ counts) - 1 ≡ length counts = omega arith in
        let within : length counts < length (0 ∷ counts) = omega arith in
        let is = get_or_default_zero (0 ∷ counts) (length counts) d within in
        rw at (rw is up)

pub zero-among : (counts : List ℕ) → IsAmong 0 counts
zero-among counts = (0, omega arith, refl)

pub last-among : (counts : List ℕ) → IsAmong (last_of counts) counts
last-among counts =
    let within : length counts < length (0 ∷ counts) = omega arith in
    (length counts, within, get_or_default_zero (0 ∷ counts) (length counts) (last_of counts) within)

pub among-push : (count : ℕ) (counts : List ℕ) (n : ℕ) → IsAmong count counts → IsAmong count (counts ++ n ∷ [])
among-push count counts n among = Contains-append_left (0 ∷ counts) (n ∷ []) count among

-- none of them is above the last
pub among-last : (count : ℕ) (counts : List ℕ) → Rise counts → IsAmong count counts → count ≤ last_of counts
among-last count counts rise among =
    let at = among.0 in
    let is : get_or (0 ∷ counts) at count ≡ count = among.2 in
    let within : length counts < length (0 ∷ counts) = omega arith in
    let below : at ≤ length counts = omega (arith, among.1) in
    let last = get_or_default_zero (0 ∷ counts) (length counts) count within in
    let up : get_or (0 ∷ counts) at count ≤ get_or (0 ∷ counts) (length counts) count =
    rise at (length counts) count below within in
    omega (arith, is, last, up)

-- a function of numbers, changed at one of them
module _ {A : Type 0} where
  abbrev pub changed : (ℕ → A) → ℕ → A → ℕ → A
  changed f i a j = cond (eqb j i) a (f j)

  pub changed-here : (f : ℕ → A) (i : ℕ) (a : A) → changed f i a i ≡ a
  changed-here f i a = rw (eq-eqb i i refl) refl

  pub changed-else : (f : ℕ → A) (i j : ℕ) (a : A) → j ≢ i → changed f i a j ≡ f j
  changed-else f i j a apart = rw (ne_eqb j i apart) refl

-- what holds at one number, and at each other one, holds at each
pub at-each : (P : ℕ → Type 0) (i : ℕ) → P i → ((j : ℕ) → j ≢ i → P j) → (j : ℕ) → P j
at-each P i here else j =
    ⊎_elim
    (λ (t : (eqb j i ≡ true) × (j ≡ i)). subst P (sym t.1) here)
    (λ (t : (eqb j i ≡ false) × (j ≢ i)). else j t.1)
    (eqb_tells j i)

-- what a teller's view lists, and its count
pub listed-within : (is_watched : Bool) (counts : List ℕ) (count : ℕ) → IsListed is_watched counts count → last_of counts ≤ count
listed-within true counts count is = omega (arith, is)
listed-within false counts count is = is

pub listed-last : (is_watched : Bool) (counts : List ℕ) (count watchers : ℕ) → IsListed is_watched counts count
    → AreWatchers is_watched watchers → 0 < watchers → last_of counts ≡ count
listed-last true counts count watchers is some watched = is
listed-last false counts count watchers is none watched = absurd (omega (arith, none, watched))

pub some-watchers : (is_watched : Bool) (watchers : ℕ) → AreWatchers is_watched watchers → is_watched ≡ true → 0 < watchers
some-watchers true watchers some is = some
some-watchers false watchers none is = cc
