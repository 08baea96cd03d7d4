-- Lines and words: what a split gives, and what was joined.
use Rattle.std.proofs.Common.{◌≡◌, ◌<◌, ◌&&◌, ℕ, suc, Bool, true, false, cond, eqb, ltb, refl, sym, ap, ap₂, subst, ◌∙◌, arith, List, [], ◌∷◌, ◌++◌, length, map, append_assoc, append-nil}
use Rattle.std.specs.Prelude.{IsTrue, not, nat_lt}
use Rattle.std.specs.List.{All, AllByRecursion, filter, flat_map, join_with_byte, list_all, onto_first, slice_split}
use Rattle.std.proofs.lemmas.Bool.{leb-true, lt-ltb, ne_eqb}
use Rattle.std.proofs.lemmas.List.Elements.{All-from_recursion}
use Rattle.std.proofs.lemmas.List.Splits.{slice_split_at, slice_split_none}
use Rattle.tr_lines.specs.Lines.{is_feed, is_printable}
use Rattle.tr_lines.specs.Words.{is_space, is_word, words_of}
use Rattle.tr_terms.proofs.BoolLemmas.{both}
use Rattle.tr_events.specs.Declarations.{IsWord}

-- ---- what stands between

-- what is written with a byte before each, after a first one, is joined by the byte
pub joined : {X : Type 0} (c : ℕ) (g : X → List ℕ) (first : List ℕ) (xs : List X)
    → join_with_byte c (first ∷ map g xs) ≡ first ++ flat_map (λ x. c ∷ g x) xs
joined c g first [] = sym (append-nil first)
joined c g first (x ∷ xs) = ap (λ (t : List ℕ). first ++ (c ∷ t)) (joined c g (g x) xs)

-- ---- words of a line

-- a byte of a word
abbrev pub is_of_word : ℕ → Bool
is_of_word b = is_printable b && not (is_space b)

abbrev pub IsPart : List ℕ → Type 0
IsPart part = list_all is_of_word part ≡ true

two : (a b : Bool) → a ≡ true → b ≡ true → (a && b) ≡ true
two a b e f = rw (e, f) refl

not_false : (b : Bool) → b ≡ false → not b ≡ true
not_false b e = rw e refl

onto : (b : ℕ) (parts : List (List ℕ)) → is_of_word b ≡ true → AllByRecursion IsPart parts → AllByRecursion IsPart (onto_first b parts)
onto b [] e all = (two (is_of_word b) true e refl, tt)
onto b (part ∷ parts) e all = (two (is_of_word b) (list_all is_of_word part) e all.0, all.1)

parts_are : (line : List ℕ) → list_all is_printable line ≡ true → AllByRecursion IsPart (slice_split is_space line)
parts_are [] e = (refl, tt)
parts_are (b ∷ line) e = go (parts_are line (both _ _ e).1) (is_space b) refl
  where
    go : AllByRecursion IsPart (slice_split is_space line) → (t : Bool) → is_space b ≡ t
        → AllByRecursion IsPart (cond t ([] ∷ slice_split is_space line) (onto_first b (slice_split is_space line)))
    go rest true s = (refl, rest)
    go rest false s = onto b (slice_split is_space line) (two _ _ (both _ _ e).0 (not_false _ s)) rest

some : (part : List ℕ) → is_word part ≡ true → nat_lt 0 (length part) ≡ true
some [] e = absurd cc
some (b ∷ part) e = lt-ltb 0 (length (b ∷ part)) (omega arith)

kept : (parts : List (List ℕ)) → AllByRecursion IsPart parts → AllByRecursion IsWord (filter is_word parts)
kept [] all = tt
kept (part ∷ parts) all = go (kept parts all.1) (is_word part) refl
  where
    go : AllByRecursion IsWord (filter is_word parts) → (t : Bool) → is_word part ≡ t
        → AllByRecursion IsWord (cond t (part ∷ filter is_word parts) (filter is_word parts))
    go rest true e = ((some part e, all.0), rest)
    go rest false e = rest

pub words_are : (line : List ℕ) → list_all is_printable line ≡ true → AllByRecursion IsWord (words_of line)
words_are line e = kept (slice_split is_space line) (parts_are line e)

-- ---- words that were joined

not_both : (t : Bool) → not t ≡ true → t ≡ false
not_both true n = absurd cc
not_both false n = refl

no_space : (b : ℕ) → is_of_word b ≡ true → is_space b ≡ false
no_space b e = not_both (is_space b) (both (is_printable b) (not (is_space b)) e).1

none_in : (part : List ℕ) → IsPart part → AllByRecursion (λ b. is_space b ≡ false) part
none_in [] e = tt
none_in (b ∷ part) e = (no_space b (both _ _ e).0, none_in part (both _ _ e).1)

without_space : (part : List ℕ) → IsPart part → All (λ b. is_space b ≡ false) part
without_space part e = All-from_recursion (λ b. is_space b ≡ false) part (none_in part e)

is_kept : (part : List ℕ) → nat_lt 0 (length part) ≡ true → is_word part ≡ true
is_kept [] e = absurd cc
is_kept (b ∷ part) e = not_false _ (ne_eqb (length (b ∷ part)) 0 (λ z. absurd (omega (arith, z))))

kept_first : (part : List ℕ) (parts : List (List ℕ)) → nat_lt 0 (length part) ≡ true → filter is_word (part ∷ parts) ≡ part ∷ filter is_word parts
kept_first part parts e = ap (λ (t : Bool). cond t (part ∷ filter is_word parts) (filter is_word parts)) (is_kept part e)

pub words_back : (word : List ℕ) (words : List (List ℕ)) → AllByRecursion IsWord (word ∷ words)
    → words_of (join_with_byte 32 (word ∷ words)) ≡ word ∷ words
words_back word [] all =
    ap (filter is_word) (slice_split_none is_space word (without_space word all.0.1)) ∙ kept_first word [] all.0.0
words_back word (next ∷ words) all =
    ap (filter is_word) (slice_split_at is_space word 32 (join_with_byte 32 (next ∷ words)) (without_space word all.0.1) refl)
    ∙ kept_first word (slice_split is_space (join_with_byte 32 (next ∷ words))) all.0.0
    ∙ ap (λ (ws : List (List ℕ)). word ∷ ws) (words_back next words all.1)

-- ---- a line of words

printed_part : (part : List ℕ) → IsPart part → list_all is_printable part ≡ true
printed_part [] e = refl
printed_part (b ∷ part) e = two _ _ (both _ _ (both _ _ e).0).0 (printed_part part (both _ _ e).1)

printed_both : (a b : List ℕ) → list_all is_printable a ≡ true → list_all is_printable b ≡ true → list_all is_printable (a ++ b) ≡ true
printed_both [] b e f = f
printed_both (x ∷ a) b e f = two _ _ (both _ _ e).0 (printed_both a b (both _ _ e).1 f)

pub line_is_printed : (word : List ℕ) (words : List (List ℕ)) → AllByRecursion IsWord (word ∷ words)
    → list_all is_printable (join_with_byte 32 (word ∷ words)) ≡ true
line_is_printed word [] all = printed_part word all.0.1
line_is_printed word (next ∷ words) all =
    printed_both word (32 ∷ join_with_byte 32 (next ∷ words)) (printed_part word all.0.1) (line_is_printed next words all.1)

no_feed : (b : ℕ) → is_printable b ≡ true → is_feed b ≡ false
no_feed b e = ne_eqb b 10 (λ ten. absurd (let above = leb-true 0x20 b (both _ _ e).0 in omega (arith, above, ten)))

no_feeds : (line : List ℕ) → list_all is_printable line ≡ true → AllByRecursion (λ b. is_feed b ≡ false) line
no_feeds [] e = tt
no_feeds (b ∷ line) e = (no_feed b (both _ _ e).0, no_feeds line (both _ _ e).1)

-- what is printed and ends with a newline is a line
pub line_split : (line rest : List ℕ) → list_all is_printable line ≡ true → slice_split is_feed (line ++ (10 ∷ rest)) ≡ line ∷ slice_split is_feed rest
line_split line rest e = slice_split_at is_feed line 10 rest (All-from_recursion (λ b. is_feed b ≡ false) line (no_feeds line e)) refl
