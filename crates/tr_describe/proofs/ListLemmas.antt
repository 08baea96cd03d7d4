-- Lists that are looked through in order, until something is wrong.
use Rattle.std.proofs.Common.{◌≡◌, ◌+◌, ◌<◌, ℕ, refl, sym, ap, ◌∙◌, true, false, List, [], ◌∷◌, ◌++◌, get_or, length, map, take, Option, Some, None, append_assoc, append-nil}
use Rattle.std.specs.Prelude.{is_some, option_map}
use Rattle.std.specs.List.{filter_map, flat_map}
use Rattle.std.specs.Option.{option_or}
use Rattle.std.proofs.lemmas.Bool.{false≢true}
use Rattle.std.proofs.lemmas.Grind.{flat_map-append}
use Rattle.std.proofs.lemmas.List.{map-append, take_more}
use Rattle.std.proofs.lemmas.List.Elements.{filter_map-append}
use Rattle.tr_describe.specs.Answers.{first_of}

-- it is wrong, and so is the first thing of all
pub stops : {A B W : Type 0} (f : A → Option B) (view : W → B) (wrong : Option W) (x : A) (xs : List A) (all : Option B)
    → all ≡ first_of f (x ∷ xs) → option_map view wrong ≡ f x → is_some wrong ≡ true → option_map view wrong ≡ all
stops f view None x xs all first is some = absurd (false≢true some)
stops f view (Some w) x xs all first is some = sym (first ∙ ap (λ o. option_or o (first_of f xs)) (sym is))

-- nothing is wrong with it, and the first thing is one of the rest
pub goes : {A B W : Type 0} (f : A → Option B) (view : W → B) (wrong : Option W) (x : A) (xs : List A) (all : Option B)
    → all ≡ first_of f (x ∷ xs) → option_map view wrong ≡ f x → is_some wrong ≡ false → all ≡ first_of f xs
goes f view None x xs all first is none = first ∙ ap (λ o. option_or o (first_of f xs)) (sym is)
goes f view (Some w) x xs all first is none = absurd (false≢true (sym none))

pub none_by : {W : Type 0} (wrong : Option W) → is_some wrong ≡ false → wrong ≡ None
none_by None none = refl
none_by (Some w) none = absurd (false≢true (sym none))

-- ---- places

pub take_next : {A B : Type 0} (f : A → B) (xs : List A) (i : ℕ) (x : A) → i < length xs → x ≡ get_or xs i x
    → map f (take (i + 1) xs) ≡ map f (take i xs) ++ f x ∷ []
take_next f xs i x within is =
    ap (map f) (take_more xs i x within) ∙ map-append f (take i xs) (get_or xs i x ∷ []) ∙ ap (λ a. map f (take i xs) ++ f a ∷ []) (sym is)

-- what was found, and what is found at one more
pub found_more : {X Y : Type 0} (h : X → Option Y) (first before after : List Y) (xs : List X) (x : X) → before ≡ first ++ filter_map h xs
    → after ≡ before ++ filter_map h (x ∷ []) → after ≡ first ++ filter_map h (xs ++ x ∷ [])
found_more h first before after xs x so_far is =
    is ∙ ap (λ l. l ++ filter_map h (x ∷ [])) so_far
    ∙ append_assoc first (filter_map h xs) (filter_map h (x ∷ []))
    ∙ ap (λ l. first ++ l) (sym (filter_map-append h xs (x ∷ [])))

pub joined_more : {X Y : Type 0} (h : X → List Y) (first before after : List Y) (xs : List X) (x : X) → before ≡ first ++ flat_map h xs
    → after ≡ before ++ h x → after ≡ first ++ flat_map h (xs ++ x ∷ [])
joined_more h first before after xs x so_far is =
    is ∙ ap (λ l. l ++ h x) so_far
    ∙ append_assoc first (flat_map h xs) (h x)
    ∙ ap (λ l. first ++ (flat_map h xs ++ l)) (sym (append-nil (h x)))
    ∙ ap (λ l. first ++ l) (sym (flat_map-append h xs (x ∷ [])))
