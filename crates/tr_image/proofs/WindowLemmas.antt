-- What is read into a window, behind what it has, and how its second half becomes the first one.
use Rattle.std.proofs.Common.{◌≡◌, ◌≤◌, ◌+◌, ◌∙◌, ◌*◌, ◌-◌, ℕ, List, ◌++◌, length, take, drop, sym, ap, arith, append_assoc, take_all}
use Rattle.std.proofs.Math.Seq.{take-append-add}
use Rattle.std.proofs.lemmas.List.{length-drop, length-take}
use Rattle.std.proofs.lemmas.List.Edits.{length-paste, take-paste}
use Rattle.std.specs.List.{copy_within}
use lib.Seq.{paste}

-- the window's first bytes, in front, and n more of what was left
pub joined : (window front room rest more : List ℕ) (len n : ℕ) → front ≡ take len window → len ≤ length window → n ≤ length room
    → rest ≡ take n room ++ more → take len window ++ rest ≡ take (len + n) (front ++ room) ++ more
joined window front room rest more len n is within there split =
    let few : length front ≡ len = omega (arith, within, ap (λ (t : List ℕ). length t) is, length-take len window) in
    let all : take (len + n) (front ++ room) ≡ front ++ take n room =
    ap (λ (k : ℕ). take (k + n) (front ++ room)) (sym few) ∙ take-append-add front room n in
    ap (λ (t : List ℕ). t ++ rest) (sym is) ∙ ap (λ (t : List ℕ). front ++ t) split ∙ sym (append_assoc front (take n room) more)
    ∙ ap (λ (t : List ℕ). t ++ more) (sym all)

-- the second half of a window comes first in the next one
pub moved : (half : ℕ) (bytes next : List ℕ) → length bytes ≡ 2 * half → next ≡ copy_within bytes half (2 * half) 0
    → (take half next ≡ drop half bytes) × (length next ≡ 2 * half)
moved half bytes next long is =
    let rest = drop half bytes in
    let count : length rest ≡ half = omega (arith, long, length-drop half bytes) in
    let size : 2 * half - half ≡ half = omega arith in
    let first : half ≡ 0 + half = omega arith in
    let pasted : next ≡ paste bytes 0 rest half = is ∙ ap (paste bytes 0 rest) size in (
      ap (λ (n : ℕ). take n next) first ∙ ap (take (0 + half)) pasted
          ∙ take-paste bytes 0 rest half (omega (arith, long)) (omega (arith, count)) ∙ take_all half rest (omega (arith, count)),
      ap (λ (t : List ℕ). length t) pasted ∙ length-paste bytes 0 rest half (omega (arith, long)) (omega (arith, count)) ∙ long,
    )
