-- A text in two.
use Rattle.std.proofs.Common.{◌≡◌, ◌<◌, ◌+◌, ℕ, Bool, true, false, cond, ltb, refl, sym, ap, ap₂, ◌∙◌, arith, List, [], ◌∷◌, ◌++◌, length, take, drop, Option, Some, None}
use Rattle.std.specs.List.{after_first, before_first, position_or_len}
use Rattle.std.specs.Option.{option_map}
use Rattle.std.proofs.lemmas.Bool.{lt-ltb, ltb-true}
use Rattle.std.proofs.lemmas.Str.Pattern.{IsSplitOnceResult, split_once_first}
use Rattle.tr_events.specs.Types.{is_byte, parts_at, parted_at}

none_there : (b : ℕ) (text : List ℕ) → position_or_len (is_byte b) text ≡ length text → None ≡ parted_at b text
none_there b text none = go (ltb (position_or_len (is_byte b) text) (length text)) refl
  where
    go : (t : Bool) → ltb (position_or_len (is_byte b) text) (length text) ≡ t
        → None ≡ cond (ltb (position_or_len (is_byte b) text) (length text)) (Some (parts_at b text)) None
    go true e = let below = ltb-true _ _ e in absurd (omega (arith, none, below))
    go false e = rw e refl

one_there : (b : ℕ) (text front back : List ℕ) → position_or_len (is_byte b) text < length text → front ≡ before_first (is_byte b) text
    → back ≡ after_first (is_byte b) text → Some (front, back) ≡ parted_at b text
one_there b text front back there f g =
    let both : (front, back) ≡ parts_at b text = ap₂ (λ (x y : List ℕ). (x, y)) f g in
    ap (λ (p : List ℕ × List ℕ). Some p) both ∙ ap (λ (t : Bool). cond t (Some (parts_at b text)) None) (sym (lt-ltb _ _ there))

pub parted : (b : ℕ) (text : List ℕ) (r : Option _) → IsSplitOnceResult b text r → b < 128
    → option_map (λ p. (p.0.now, p.1.now)) r ≡ parted_at b text
parted b text None is low = none_there b text (split_once_first b text None is low)
parted b text (Some p) is low = let s = split_once_first b text (Some p) is low in one_there b text p.0.now p.1.now s.0 s.1 s.2
