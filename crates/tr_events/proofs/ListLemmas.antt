-- What loops leave of a list.
use Rattle.std.proofs.Common.{◌≡◌, ◌<◌, ◌-◌, ℕ, Bool, true, false, cond, eqb, refl, sym, ap, ◌∙◌, arith, List, [], ◌∷◌, ◌++◌, Bor, length, map, take, Option, Some, None, Ok, Err}
use Rattle.std.specs.Option.{option_and_then, option_map}
use Rattle.std.specs.List.{ends_with, join_by, join_with_byte}
use Rattle.std.proofs.lemmas.Bool.Decides.{Decides-eqb}
use Rattle.std.proofs.lemmas.Slice.Eq.{ends_is}
use Rattle.std.proofs.lemmas.Str.{encode_ascii}
use Rattle.std.proofs.Math.Utf8.{encode}
use Rattle.tr_events.specs.Events.{Field}
use Rattle.tr_events.specs.Lines.{Declared, event_in}
use Rattle.tr_events.specs.declared.faults.EventFault.TheVariants.{BadEvent}
use Rattle.tr_events.specs.declared.layouts.Layout.TheVariants.{One}
use Rattle.tr_events.specs.declared.layouts.Number.{Number}
use Rattle.tr_events.proofs.SplitLemmas.{joined}
use Rattle.tr_events.specs.Types.{Type_named, counted, counted_by, is_whole, labelled, labels_in, number_named, without_end}

-- fields after these
abbrev pub after : List Field → Declared (List Field) → Declared (List Field)
after front (Err fault) = Err fault
after front (Ok fields) = Ok (front ++ fields)

-- ---- a byte at the end

pub no_end : (b : ℕ) (text : List ℕ) → b < 128 → ((front : List ℕ) → text ≡ front ++ encode b → ⊥) → None ≡ without_end b text
no_end b text low none = go (ends_with eqb text (b ∷ [])) refl
  where
    go : (t : Bool) → ends_with eqb text (b ∷ []) ≡ t → None ≡ cond (ends_with eqb text (b ∷ [])) (Some (take (length text - 1) text)) None
    go true e =
        absurd (none (take (length text - 1) text)
        ((ends_is Decides-eqb text (b ∷ []) _ refl).0 e ∙ ap (λ (l : List ℕ). take (length text - 1) text ++ l) (sym (encode_ascii b low))))
    go false e = rw e refl

pub none_counted : (word rest : List ℕ) → None ≡ without_end 93 rest → None ≡ counted word rest
none_counted word rest none = go (number_named word)
  where
    go : (o : Option Number) → None ≡ option_and_then (λ k. option_and_then (counted_by k) (without_end 93 rest)) o
    go None = refl
    go (Some k) = ap (option_and_then (counted_by k)) none

pub none_labelled : (word rest : List ℕ) → None ≡ without_end 125 rest → None ≡ labelled word rest
none_labelled word rest none = go (number_named word)
  where
    labels : Number → List ℕ → Option Type_named
    labels k text = option_map (λ labels. (One k, labels)) (labels_in k text)

    by : (k : Number) (t : Bool) → None ≡ cond t (option_and_then (labels k) (without_end 125 rest)) None
    by k true = ap (option_and_then (labels k)) none
    by k false = refl

    go : (o : Option Number) → None ≡ option_and_then (λ k. cond (is_whole k.sort) (option_and_then (labels k) (without_end 125 rest)) None) o
    go None = refl
    go (Some k) = by k (is_whole k.sort)

-- ---- words of a line

pub too_few : (words : List (Bor (List ℕ))) → length words < 2 → Err BadEvent ≡ event_in (map (λ w. w.now) words)
too_few [] few = refl
too_few (name ∷ []) few = refl
too_few (name ∷ id ∷ words) few = absurd (omega (arith, few))

-- words that were joined are one space apart
pub spaces : (words : List (Bor (List ℕ))) → join_by (λ (w : Bor (List ℕ)). w.now) (32 ∷ []) words ≡ join_with_byte 32 (map (λ w. w.now) words)
spaces [] = refl
spaces (word ∷ words) = sym (joined 32 (λ (w : Bor (List ℕ)). w.now) word.now words)
