-- What is made one after another.
use Rattle.std.proofs.Common.{◌≡◌, ◌∙◌, ℕ, ◌+◌, ◌<◌, List, [], ◌∷◌, ◌++◌, length, get_or, take, drop, Option, Some, None, ◌⊎◌, inl, inr, ⊎_elim, refl, subst, sym, ap, append_assoc, append-nil}
use Rattle.std.proofs.lemmas.List.{take_more, take-append-drop}
use Rattle.std.proofs.lemmas.List.Concat.{flat_map-append}
use Rattle.std.specs.List.{flat_map}
use Rattle.std.specs.Prelude.{Result, Ok, Err, OnErr}
use Rattle.tr_export.specs.Failures.{FailedByWrite, HasNotFailed}
use Rattle.tr_export.specs.declared.faults.ExportFault.{ExportFault}
use Rattle.tr_export.specs.declared.faults.ExportFault.TheVariants.{Write, NoMemory}
use Rattle.tr_export.specs.Making.{Makings, and_then_made, broken_first, MadePrefix}
use Rattle.tr_export.specs.declared.made.Made.TheVariants.{Folder, File, Broken}

and_then_made-none : (known : Option Makings) → and_then_made known [] ≡ known
and_then_made-none None = refl
and_then_made-none (Some before) = ap Some (append-nil before)

-- first a, then b
pub and_then_made-append : (known : Option Makings) (a b : Makings) → and_then_made (and_then_made known a) b ≡ and_then_made known (a ++ b)
and_then_made-append None a b = refl
and_then_made-append (Some before) a b = ap Some (append_assoc before a b)

-- first a, and then all of what was to be made after it
pub made_after : (start now after : Option Makings) (a b : Makings) → now ≡ and_then_made start a
    → after ≡ and_then_made now b → after ≡ and_then_made start (a ++ b)
made_after start now after a b first then = then ∙ ap (λ k. and_then_made k b) first ∙ and_then_made-append start a b

-- nothing of it was made
pub front_none : (start after : Option Makings) (all : Makings) → after ≡ start → MadePrefix start after all
front_none start after all same = ([], all, refl, inl (same ∙ sym (and_then_made-none start)))

-- what comes first, and a prefix of the rest
pub front_after : (start now after : Option Makings) (a b all : Makings) → all ≡ a ++ b → now ≡ and_then_made start a
    → MadePrefix now after b → MadePrefix start after all
front_after start now after a b all is first made = (
  a ++ made.0,
  made.1,
  is ∙ ap (λ (ms : Makings). a ++ ms) made.2 ∙ sym (append_assoc a made.0 made.1),
  ⊎_elim
      (λ whole. inl (made_after start now after a made.0 first whole))
      (λ cut. inr (made_after start now after a (made.0 ++ broken_first made.1) first cut
      ∙ ap (and_then_made start) (sym (append_assoc a made.0 (broken_first made.1))))) made.3,
)

-- what is first stays so, whatever comes after it
cut_before : (start after : Option Makings) (front rest b : Makings)
    → after ≡ and_then_made start (front ++ broken_first rest)
    → (after ≡ and_then_made start front) ⊎ (after ≡ and_then_made start (front ++ broken_first (rest ++ b)))
cut_before start after front [] b cut = inl (cut ∙ ap (and_then_made start) (append-nil front))
cut_before start after front (Folder path ∷ rest) b cut = inr cut
cut_before start after front (File path text ∷ rest) b cut = inr cut
cut_before start after front (Broken path ∷ rest) b cut = inr cut

-- a prefix of what comes first
pub front_before : (start after : Option Makings) (a b all : Makings) → all ≡ a ++ b → MadePrefix start after a → MadePrefix start after all
front_before start after a b all is made = (
  made.0,
  made.1 ++ b,
  is ∙ ap (λ (ms : Makings). ms ++ b) made.2 ∙ append_assoc made.0 made.1 b,
  ⊎_elim inl (cut_before start after made.0 made.1 b) made.3,
)

module _ {X : Type 0} (f : X → Makings) where
  one_more : (xs : List X) (i : ℕ) (x : X) → i < length xs → x ≡ get_or xs i x → flat_map f (take (i + 1) xs) ≡ flat_map f (take i xs) ++ f x
  one_more xs i x within is =
      ap (flat_map f) (take_more xs i x within) ∙ flat_map-append f (take i xs) (get_or xs i x ∷ [])
      ∙ ap (λ (ms : Makings). flat_map f (take i xs) ++ ms) (append-nil (f (get_or xs i x)))
      ∙ ap (λ (y : X). flat_map f (take i xs) ++ f y) (sym is)

  -- what one more element makes
  pub each_more : (start now after : Option Makings) (items xs : List X) (i : ℕ) (x : X) → items ≡ xs → i < length items
      → x ≡ get_or items i x → now ≡ and_then_made start (flat_map f (take i xs))
      → after ≡ and_then_made now (f x) → after ≡ and_then_made start (flat_map f (take (i + 1) xs))
  each_more start now after items xs i x same within is first then =
      made_after start now after (flat_map f (take i xs)) (f x) first then
      ∙ ap (and_then_made start)
      (sym (one_more xs i x (subst (λ (l : List X). i < length l) same within)
      (subst (λ (l : List X). x ≡ get_or l i x) same is)))

  -- a prefix of what one more element makes
  pub each_cut : (start now after : Option Makings) (items xs : List X) (i : ℕ) (x : X) → items ≡ xs → i < length items
      → x ≡ get_or items i x → now ≡ and_then_made start (flat_map f (take i xs))
      → MadePrefix now after (f x) → MadePrefix start after (flat_map f xs)
  each_cut start now after items xs i x same within is first made =
      let next = one_more xs i x (subst (λ (l : List X). i < length l) same within) (subst (λ (l : List X). x ≡ get_or l i x) same is) in
      let whole : flat_map f xs ≡ flat_map f (take (i + 1) xs) ++ flat_map f (drop (i + 1) xs) =
      ap (flat_map f) (sym (take-append-drop (i + 1) xs)) ∙ flat_map-append f (take (i + 1) xs) (drop (i + 1) xs) in
      front_before start after (flat_map f (take (i + 1) xs)) (flat_map f (drop (i + 1) xs)) (flat_map f xs) whole
      (front_after start now after (flat_map f (take i xs)) (f x) (flat_map f (take (i + 1) xs)) next first made)

-- what holds whatever the answer
pub OnErr-always : {T E : Type 0} {P : Type 0} (r : Result T E) → P → OnErr r P
OnErr-always (Ok t) p = tt
OnErr-always (Err e) p = p

-- no failure before, and then what a call did
pub failed_since : (start now after : Option ℕ) (r : Result (Unit {0}) ExportFault) → HasNotFailed start now
    → FailedByWrite now after r → FailedByWrite start after r
failed_since start now after (Ok done) none then = λ n e. then n (none n e)
failed_since start now after (Err Write) none then = λ n e. then n (none n e)
failed_since start now after (Err NoMemory) none then = λ n e. then n (none n e)
