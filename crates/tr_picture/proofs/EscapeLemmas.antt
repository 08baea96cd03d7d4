-- What an escaped name is made of.
use Rattle.std.proofs.Common.{◌≡◌, ◌≢◌, ◌≤◌, ◌||◌, ℕ, Bool, true, false, cond, List, [], ◌∷◌, map, inl, inr, refl, arith}
use Rattle.std.specs.Prelude.{codes, nat_eq, nat_lt}
use Rattle.std.specs.List.{AllByRecursion}
use Rattle.tr_picture.specs.Escape.{IsPart, IsPlain, escaped_byte}

not_it : (b n : ℕ) → nat_eq b n ≡ false → b ≢ n
not_it b n is same = grind (arith, is, same)

low : (b : ℕ) → (nat_lt b 32 || nat_lt 126 b) ≡ false → 32 ≤ b
low b is = grind (arith, is)

high : (b : ℕ) → (nat_lt b 32 || nat_lt 126 b) ≡ false → b ≤ 126
high b is = grind (arith, is)

question : IsPlain 63
question = record {
  printable = (omega arith, omega arith);
  no_mark = (not_it 63 38 refl, not_it 63 60 refl, not_it 63 62 refl, not_it 63 34 refl, not_it 63 39 refl);
}

part_by : (b : ℕ) (amp lt gt quote apos other : Bool) → nat_eq b 38 ≡ amp → nat_eq b 60 ≡ lt → nat_eq b 62 ≡ gt → nat_eq b 34 ≡ quote → nat_eq b 39 ≡ apos
    → (nat_lt b 32 || nat_lt 126 b) ≡ other
    → IsPart (cond amp (codes "&amp;") (cond lt (codes "&lt;") (cond gt (codes "&gt;") (cond quote (codes "&quot;") (cond apos (codes "&apos;")
    (cond other (63 ∷ []) (b ∷ [])))))))
part_by b true lt gt quote apos other p q r s t u = inr (inl refl)
part_by b false true gt quote apos other p q r s t u = inr (inr (inl refl))
part_by b false false true quote apos other p q r s t u = inr (inr (inr (inl refl)))
part_by b false false false true apos other p q r s t u = inr (inr (inr (inr (inl refl))))
part_by b false false false false true other p q r s t u = inr (inr (inr (inr (inr refl))))
part_by b false false false false false true p q r s t u = inl (63, refl, question)
part_by b false false false false false false p q r s t u = inl (
  b,
  refl,
  record {
    printable = (low b u, high b u);
    no_mark = (not_it b 38 p, not_it b 60 q, not_it b 62 r, not_it b 34 s, not_it b 39 t);
  },
)

part : (b : ℕ) → IsPart (escaped_byte b)
part b = part_by b _ _ _ _ _ _ refl refl refl refl refl refl

pub all_parts : (name : List ℕ) → AllByRecursion IsPart (map escaped_byte name)
all_parts [] = tt
all_parts (b ∷ name) = (part b, all_parts name)
