-- The words of a line, cut at one space after the other.
use Rattle.std.proofs.Common.{Result, Ok, Err, OnErr, OnOk, ◌≡◌, ◌∙◌, ◌<◌, ◌≤◌, ◌+◌, ◌-◌, ℕ, Bool, true, false, refl, sym, ap, ap₂, subst, arith, List, [], ◌∷◌, ◌++◌, length, length-append, take, drop, get_or, filter, append_assoc, append-nil}
use Rattle.std.specs.List.{All, slice_split}
use Rattle.std.specs.Str.{IsCharBoundary, IsUtf8}
use Rattle.std.proofs.Math.Seq.{take-append_seam}
use Rattle.std.proofs.lemmas.List.{drop_all, drop_more}
use Rattle.std.proofs.lemmas.List.Elements.{All-nil, All-push, filter-append}
use Rattle.std.proofs.lemmas.List.Splits.{slice_split_at, slice_split_none}
use Rattle.std.proofs.lemmas.Bool.Decides.{Decides-eqb}
use Rattle.std.proofs.lemmas.Str.{IsCharBoundary-after_ascii, IsCharBoundary-before_ascii, IsCharBoundary-start, IsUtf8-between, IsUtf8-drop}
use Rattle.tr_lines.specs.Words.{is_space, is_word, part_words, words_of}

abbrev pub HasNoSpace : List ℕ → Type 0
HasNoSpace part = All (λ b. is_space b ≡ false) part

pub no_space : (b : ℕ) → (b ≡ 32 → ⊥) → is_space b ≡ false
no_space b other = go (is_space b) refl
  where
    go : (t : Bool) → is_space b ≡ t → t ≡ false
    go true is = absurd (other ((Decides-eqb b 32).0 is))
    go false is = refl

words_of-part : (part rest : List ℕ) → HasNoSpace part → words_of (part ++ 32 ∷ rest) ≡ part_words part ++ words_of rest
words_of-part part rest none =
    ap (filter is_word) (slice_split_at is_space part 32 rest none refl) ∙ filter-append is_word (part ∷ []) (slice_split is_space rest)

words_of-last : (part : List ℕ) → HasNoSpace part → words_of part ≡ part_words part
words_of-last part none = ap (filter is_word) (slice_split_none is_space part none)

-- a text is cut up to `at`: the words before `start` are added, and what comes since has no space
pub record Cut (old now : List (List ℕ)) (text : List ℕ) (start at : ℕ) : Type 0 where
  pub done : List (List ℕ)
  pub added : now ≡ old ++ done
  pub all : words_of text ≡ done ++ words_of (drop start text)
  pub boundary : IsCharBoundary text start
  pub part : List ℕ
  pub none : HasNoSpace part
  pub size : start + length part ≡ at
  pub rest : drop start text ≡ part ++ drop at text

pub cut-first : (old : List (List ℕ)) (text : List ℕ) → IsUtf8 text → Cut old old text 0 0
cut-first old text is = record {
  done = [];
  added = sym (append-nil old);
  all = refl;
  boundary = IsCharBoundary-start text is;
  part = [];
  none = All-nil (λ b. is_space b ≡ false);
  size = refl;
  rest = refl;
}

module _ (old now : List (List ℕ)) (text : List ℕ) (start at : ℕ) (c : Cut old now text start at) where
  part-is : take (at - start) (drop start text) ≡ c.part
  part-is =
      let size : at - start ≡ length c.part = omega (arith, c.size) in
      ap₂ (λ (n : ℕ) (bs : List ℕ). take n bs) size c.rest ∙ take-append_seam c.part (drop at text)

  pub cut-order : start ≤ at
  cut-order = omega (arith, c.size)

  -- a byte that is no space
  pub cut-on : at < length text → is_space (get_or text at 0) ≡ false → Cut old now text start (at + 1)
  cut-on within other = record {
    done = c.done;
    added = c.added;
    all = c.all;
    boundary = c.boundary;
    part = c.part ++ get_or text at 0 ∷ [];
    none = All-push (λ b. is_space b ≡ false) c.part (get_or text at 0) c.none other;
    size = omega (arith, c.size, length-append c.part (get_or text at 0 ∷ []));
    rest = c.rest ∙ ap (λ bs. c.part ++ bs) (drop_more text at 0 within) ∙ sym (append_assoc c.part (get_or text at 0 ∷ []) (drop (at + 1) text));
  }

  -- a space: what comes before it is added, if it is a word
  pub cut-part : (new : List (List ℕ)) → IsUtf8 text → at < length text → is_space (get_or text at 0) ≡ true
      → new ≡ now ++ part_words (take (at - start) (drop start text)) → Cut old new text (at + 1) (at + 1)
  cut-part new utf8 within space is =
      let byte : get_or text at 0 ≡ 32 = (Decides-eqb (get_or text at 0) 32).0 space in
      let small : get_or text at 0 < 128 = omega (arith, byte) in
      let words : words_of (drop start text) ≡ part_words c.part ++ words_of (drop (at + 1) text) =
      ap words_of (c.rest ∙ ap (λ bs. c.part ++ bs) (drop_more text at 0 within ∙ ap (λ b. b ∷ drop (at + 1) text) byte))
      ∙ words_of-part c.part (drop (at + 1) text) c.none in
      record {
        done = c.done ++ part_words c.part;
        added = is ∙ ap₂ (λ (xs : List (List ℕ)) (bs : List ℕ). xs ++ part_words bs) c.added part-is ∙ append_assoc old c.done (part_words c.part);
        all = c.all ∙ ap (λ ws. c.done ++ ws) words ∙ sym (append_assoc c.done (part_words c.part) (words_of (drop (at + 1) text)));
        boundary = IsCharBoundary-after_ascii text at utf8 within small;
        part = [];
        none = All-nil (λ b. is_space b ≡ false);
        size = omega arith;
        rest = refl;
      }

  pub cut-part-utf8 : IsUtf8 text → at < length text → is_space (get_or text at 0) ≡ true → IsUtf8 (take (at - start) (drop start text))
  cut-part-utf8 utf8 within space =
      let byte : get_or text at 0 ≡ 32 = (Decides-eqb (get_or text at 0) 32).0 space in
      let small : get_or text at 0 < 128 = omega (arith, byte) in
      IsUtf8-between text start at utf8 cut-order c.boundary (IsCharBoundary-before_ascii text at within small)

  -- the last part
  pub cut-last : (new : List (List ℕ)) → length text ≤ at → new ≡ now ++ part_words (drop start text) → new ≡ old ++ words_of text
  cut-last new end is =
      let whole : drop start text ≡ c.part = c.rest ∙ ap (λ bs. c.part ++ bs) (drop_all at text end) ∙ append-nil c.part in
      let last : part_words (drop start text) ≡ words_of (drop start text) = sym (words_of-last (drop start text) (subst HasNoSpace (sym whole) c.none)) in
      is ∙ ap₂ (λ (xs ws : List (List ℕ)). xs ++ ws) c.added last ∙ append_assoc old c.done (words_of (drop start text)) ∙ ap (λ ws. old ++ ws) (sym c.all)

  pub cut-last-utf8 : IsUtf8 text → IsUtf8 (drop start text)
  cut-last-utf8 utf8 = IsUtf8-drop text start utf8 c.boundary

  -- the words so far are the first of all
  pub cut-failed : now ≡ old ++ take (length c.done) (words_of text)
  cut-failed = c.added ∙ ap (λ ws. old ++ ws) (sym (ap (take (length c.done)) c.all ∙ take-append_seam c.done (words_of (drop start text))))

-- what holds anyway holds at an error
pub OnErr-always : {T E P : Type 0} (r : Result T E) → P → OnErr r P
OnErr-always (Ok x) p = tt
OnErr-always (Err x) p = p

pub OnOk-map : {T E P Q : Type 0} (r : Result T E) → (P → Q) → OnOk r P → OnOk r Q
OnOk-map (Ok x) f p = f p
OnOk-map (Err x) f p = tt

pub OnErr-map : {T E P Q : Type 0} (r : Result T E) → (P → Q) → OnErr r P → OnErr r Q
OnErr-map (Ok x) f p = tt
OnErr-map (Err x) f p = f p
