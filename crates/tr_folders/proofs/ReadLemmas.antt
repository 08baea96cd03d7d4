-- What is read of a file, piece by piece.
use Rattle.std.proofs.Common.{zero, ◌<◌, drop-drop, take-append-drop, ◌≡◌, ◌+◌, ◌≤◌, ℕ, suc, List, [], ◌∷◌, ◌++◌, length, take, drop, Some, None, Option, Bool, true, false, refl, sym, ap, ◌∙◌, arith, append-nil, append_assoc}
use Rattle.std.proofs.lemmas.Grind.{common_steps}
use Rattle.std.proofs.lemmas.List.{length-append, take-append-le, take_all}
use borrow.Rule.Slice.PartMut.{put_mid, post_of}
use Rattle.tr_folders.specs.Tree.{File, IsBroken, Opens, Reads, ReadsOn}
use Rattle.tr_folders.specs.Kept.{file_of}

pub take_over : {A : Type 0} (xs ys zs : List A) (n : ℕ) → n ≤ length ys → take (length xs + n) (xs ++ (ys ++ zs)) ≡ xs ++ take n ys
take_over [] ys zs n within =
    let e : 0 + n ≡ n = omega arith in
    ap (λ (m : ℕ). take m (ys ++ zs)) e ∙ take-append-le n ys zs within
take_over (x ∷ xs) ys zs n within =
    let e : suc (length xs) + n ≡ suc (length xs + n) = omega arith in
    ap (λ (m : ℕ). take m (x ∷ (xs ++ (ys ++ zs)))) e ∙ ap (λ l. x ∷ l) (take_over xs ys zs n within)

-- n bytes more at the front of what comes after place a
pub front_more : (a k n : ℕ) (xs ys : List ℕ) → a ≤ length xs → n ≤ length ys → take (a + n) (put_mid a k xs ys) ≡ take a xs ++ take n ys
front_more a k n xs ys within some =
    let is : length (take a xs) ≡ a = grind (arith, common_steps) in
    let e : a + n ≡ length (take a xs) + n = omega (arith, is) in
    ap (λ (m : ℕ). take m (put_mid a k xs ys)) e ∙ take_over (take a xs) ys (post_of a k xs) n some

-- a step of reading
pub reads_more : (a k n : ℕ) (xs ys bytes : List ℕ) (rest : File) (left : Option File) → a ≤ length xs → n ≤ length ys → bytes ≡ take a xs ++ rest.bytes
    → Reads rest (take n ys) left
    → (more : List ℕ) × (bytes ≡ take (a + n) (put_mid a k xs ys) ++ more) × (left ≡ Some (file_of more rest.breaks))
reads_more a k n xs ys bytes rest left within some is reads = (
  reads.rest,
  is ∙ ap (λ (l : List ℕ). take a xs ++ l) reads.is ∙ sym (append_assoc (take a xs) (take n ys) reads.rest)
      ∙ ap (λ (l : List ℕ). l ++ reads.rest) (sym (front_more a k n xs ys within some)),
  reads.left_is,
)

-- the end of a file
pub reads_all : (a k : ℕ) (xs ys bytes : List ℕ) (rest : File) (left : Option File) → a ≤ length xs → bytes ≡ take a xs ++ rest.bytes
    → Reads rest [] left → take a (put_mid a k xs ys) ≡ take (length xs) bytes
reads_all a k xs ys bytes rest left within is reads =
    let none : rest.bytes ≡ [] = reads.is ∙ (reads.end refl).0 in
    let whole : bytes ≡ take a xs = is ∙ ap (λ (l : List ℕ). take a xs ++ l) none ∙ append-nil (take a xs) in
    let l : length (take a xs) ≡ a = grind (arith, common_steps) in
    take-append-le a (take a xs) (ys ++ post_of a k xs) (omega (arith, l)) ∙ take_all a (take a xs) (omega (arith, l)) ∙ sym whole
    ∙ sym (take_all (length xs) bytes (let m = ap length whole in omega (arith, l, m)))

pub reads_on : (a k : ℕ) (xs ys : List ℕ) (file rest : File) (left : Option File) (Ends : Type 0) → a ≤ length xs → file.bytes ≡ take a xs ++ rest.bytes
    → rest.breaks ≡ file.breaks → Reads rest [] left → ReadsOn file (take a (put_mid a k xs ys)) Ends left
reads_on a k xs ys file rest left Ends within is same reads =
    let none : reads.rest ≡ [] = (reads.end refl).0 in
    let l : length (take a xs) ≡ a = grind (arith, common_steps) in
    let kept : take a (put_mid a k xs ys) ≡ take a xs =
    take-append-le a (take a xs) (ys ++ post_of a k xs) (omega (arith, l)) ∙ take_all a (take a xs) (omega (arith, l)) in
    record {
      rest = reads.rest;
      is = is ∙ ap (λ (t : List ℕ). take a xs ++ t) reads.is ∙ ap (λ (t : List ℕ). t ++ reads.rest) (sym kept);
      left_is = reads.left_is ∙ ap (λ (b : Bool). Some (file_of reads.rest b)) same;
      end = λ ends. (none, sym same ∙ (reads.end refl).1);
    }

-- a file that was read to its end has as many bytes as were read
pub all_read : (a : ℕ) (xs bytes : List ℕ) (rest : List ℕ) → a < length xs → bytes ≡ take a xs ++ rest → rest ≡ [] → length bytes < length xs
all_read a xs bytes rest within is none =
    let whole : bytes ≡ take a xs = is ∙ ap (λ (l : List ℕ). take a xs ++ l) none ∙ append-nil (take a xs) in
    let l : length (take a xs) ≡ a = grind (arith, common_steps) in
    let m = ap length whole in omega (arith, l, m)

-- a buffer that is full has no fewer bytes than the file
pub not_few : (a : ℕ) (xs bytes rest : List ℕ) → length xs ≤ a → bytes ≡ take a xs ++ rest → length bytes < length xs → ⊥
not_few a xs bytes rest full is few =
    let l : take a xs ≡ xs = take_all a xs full in
    let m = ap length (is ∙ ap (λ (x : List ℕ). x ++ rest) l) in omega (arith, m, few, length-append xs rest)

-- a file was opened, or none is there
pub closed : (file : Option File) (is_file : Bool) (left : Option File) → is_file ≡ false → Opens file is_file left → file ≡ None
closed file true left e opens = absurd cc
closed file false left e opens = opens

pub opened : (file : Option File) (is_file : Bool) (left : Option File) → is_file ≡ true → Opens file is_file left
    → (one : File) × (file ≡ Some one) × (left ≡ Some one)
opened file true left e opens = opens
opened file false left e opens = absurd cc

-- ---- reading from memory

empty : (xs : List ℕ) → length xs ≡ 0 → xs ≡ []
empty [] e = refl
empty (x ∷ xs) e = absurd (omega arith)

-- bytes after a place were copied to the front of a buffer, none only at the end
pub reads_copied : (all : List ℕ) (at n : ℕ) (breaks : Bool) (copied tail : List ℕ) → copied ≡ take n (drop at all) → n ≤ length (drop at all)
    → (n ≡ 0 → length (drop at all) ≡ 0) → (length (drop at all) ≡ 0 → breaks ≡ false)
    → Reads (file_of (drop at all) breaks) (take n (copied ++ tail)) (Some (file_of (drop (at + n) all) breaks))
reads_copied all at n breaks copied tail is within end whole =
    let l : length copied ≡ n = ap length is ∙ length-take-le n (drop at all) within in
    let front : take n (copied ++ tail) ≡ copied =
    take-append-le n copied tail (omega (arith, l)) ∙ take_all n copied (omega (arith, l)) in
    record {
      rest = drop (at + n) all;
      is =
          sym (take-append-drop n (drop at all)) ∙ ap (λ (x : List ℕ). x ++ drop n (drop at all)) (sym is ∙ sym front)
          ∙ ap (λ (x : List ℕ). take n (copied ++ tail) ++ x) (drop-drop n at all);
      left_is = refl;
      end = λ none.
          let zero : n ≡ 0 = let m = ap length (sym front ∙ none) in omega (arith, l, m) in
          let empty_left : drop at all ≡ [] = empty (drop at all) (end zero) in
          (sym (drop-drop n at all) ∙ ap (drop n) empty_left ∙ drop-nil n, whole (end zero));
    }
  where
    length-take-le : (n : ℕ) (xs : List ℕ) → n ≤ length xs → length (take n xs) ≡ n
    length-take-le n xs h = grind (arith, common_steps)

    drop-nil : (n : ℕ) → drop {A = ℕ} n [] ≡ []
    drop-nil zero = refl
    drop-nil (suc n) = refl
