-- Lines, and how they make up a script.
use Rattle.std.proofs.Common.{◌≡◌, ◌∙◌, ◌<◌, ◌≤◌, ◌+◌, ◌-◌, ◌&&◌, ℕ, Bool, zero, suc, cond, true, false, refl, sym, ap, ap₂, inl, inr, length-append, arith, List, [], ◌∷◌, ◌++◌, Option, Some, None, length, take, get_or, nat_le, true≢false, lit<, lt-ltb, append_assoc, append-nil, add-one, drop-cons}
use Rattle.std.specs.List.{flat_map, list_all, onto_first, position, position_or_len}
use Rattle.std.specs.Str.{IsAscii, IsUtf8}
use Rattle.std.proofs.Math.ListN.{drop}
use Rattle.std.proofs.lemmas.Str.{IsUtf8-from_ascii}
use Rattle.std.proofs.lemmas.List.{take-append-drop, take-append-le}
use Rattle.std.proofs.lemmas.List.Elements.{All-from_get_or}
use Rattle.std.proofs.lemmas.List.Folds.{list_all-append}
use Rattle.std.proofs.lemmas.List.Quantifiers.{position-Some}
use Rattle.std.proofs.lemmas.List.Splits.{slice_split_at, slice_split_none}
use Rattle.std.proofs.lemmas.Bool.{cases_lt, false_from_ne_true}
use Rattle.std.proofs.lemmas.List.Sums.{fails_before_first, position_or_len_is}
use Rattle.std.proofs.lemmas.Bool.Decides.{Decides-eqb}
use Rattle.std.proofs.lemmas.Grind.{common_steps}
use Rattle.memchr.specs.Find.{IsFirstByte, is_byte}
use Rattle.tr_lines.specs.Lines.{HasNoFeed, all_but_last, is_feed, is_printable, keep_more, lines_of, lines_of_parts, parts_of, text_of_line, whole_lines_of, with_last}
use Rattle.tr_terms.proofs.BoolLemmas.{both}

below_128 : (b : ℕ) → is_printable b ≡ true → b < 128
below_128 b e = let low = (both (nat_le 0x20 b) (nat_le b 0x7e) e).1 in grind (arith, common_steps)

pub printable_is_ascii : (text : List ℕ) → list_all is_printable text ≡ true → IsAscii text
printable_is_ascii [] e i = lit< tt
printable_is_ascii (b ∷ bytes) e zero = below_128 b (both (is_printable b) (list_all is_printable bytes) e).0
printable_is_ascii (b ∷ bytes) e (suc i) = printable_is_ascii bytes (both (is_printable b) (list_all is_printable bytes) e).1 i

pub printable_is_text : (text : List ℕ) → list_all is_printable text ≡ true → IsUtf8 text
printable_is_text text e = IsUtf8-from_ascii text (printable_is_ascii text e)

-- ---- a line in parts

-- what is bad stays bad
long_stays : (m n : ℕ) → nat_le (m + n) 4096 ≡ true → nat_le m 4096 ≡ true
long_stays m n e = grind (arith, common_steps)

-- a line that is kept in parts is kept as a whole
pub keep_more-text : (line part : List ℕ) → keep_more (text_of_line line) part ≡ text_of_line (line ++ part)
keep_more-text line part = go (nat_le (length line) 4096 && list_all is_printable line) refl
  where
    go : (t : Bool) → (nat_le (length line) 4096 && list_all is_printable line) ≡ t → keep_more (text_of_line line) part ≡ text_of_line (line ++ part)
    go true e = rw e refl
    go false e =
        let still = false_from_ne_true (nat_le (length (line ++ part)) 4096 && list_all is_printable (line ++ part)) (λ good.
        let parts = both (nat_le (length (line ++ part)) 4096) (list_all is_printable (line ++ part)) good in
        let size : nat_le (length line + length part) 4096 ≡ true = ap (λ n. nat_le n 4096) (sym (length-append line part)) ∙ parts.0 in
        let front = both (list_all is_printable line) (list_all is_printable part) (sym (list_all-append is_printable line part) ∙ parts.1) in
        true≢false (sym (rw (long_stays (length line) (length part) size, front.0) refl) ∙ e)) in
        rw (e, still) refl

-- ---- newlines

-- the first newline is the first byte 10
pub first_feed : (bytes : List ℕ) (found : Option ℕ) → IsFirstByte (is_byte 10) bytes found → found ≡ position is_feed bytes
first_feed bytes None none =
    let end = position_or_len_is is_feed bytes (length bytes) 0 (omega arith)
    (λ k lt. false_from_ne_true (is_feed (get_or bytes k 0)) (none k (omega arith) lt)) (λ lt. absurd (omega (arith, lt))) in
    rw end (grind (arith, common_steps))
first_feed bytes (Some at) first =
    let end = position_or_len_is is_feed bytes at 0 (omega (arith, first.0.high))
    (λ k lt. false_from_ne_true (is_feed (get_or bytes k 0)) (first.0.before k (omega arith) lt)) (λ _. first.1) in
    let inside : at < length bytes = first.0.high in
    rw end (grind (arith, common_steps))

pub no_feed_before : (bytes : List ℕ) (i : ℕ) → position is_feed bytes ≡ Some i → HasNoFeed (take i bytes)
no_feed_before bytes i e =
    let first = position-Some is_feed bytes i 0 e in
    All-from_get_or (λ b. is_feed b ≡ false) (take i bytes) 0 (λ k lt.
    let inside : k < i = grind (arith, common_steps) in
    let same : get_or (take i bytes) k 0 ≡ get_or bytes k 0 = grind (arith, common_steps) in
    ap is_feed same ∙ first.2 k inside)

pub no_feed_at_all : (bytes : List ℕ) → position is_feed bytes ≡ None → HasNoFeed bytes
no_feed_at_all bytes none = elim (cases_lt (position_or_len is_feed bytes) (length bytes)) [
  | inl inside ↦ let found : Some (position_or_len is_feed bytes) ≡ None =
      rw (lt-ltb (position_or_len is_feed bytes) (length bytes) inside) at none in cc
  | inr past ↦ All-from_get_or (λ b. is_feed b ≡ false) bytes 0 (λ k lt. fails_before_first is_feed bytes k 0 (omega arith))
]

pub feed_splits : (bytes : List ℕ) (i : ℕ) → position is_feed bytes ≡ Some i → bytes ≡ take i bytes ++ 10 ∷ drop (i + 1) bytes
feed_splits bytes i e =
    let first = position-Some is_feed bytes i 0 e in
    let feed : get_or bytes i 0 ≡ 10 = (Decides-eqb (get_or bytes i 0) 10).0 first.1 in
    sym (take-append-drop i bytes)
    ∙ ap (λ bs. take i bytes ++ bs)
    (drop-cons bytes i 0 first.0 ∙ ap₂ (λ (b : ℕ) (n : ℕ). b ∷ drop n bytes) feed (sym (add-one i)))

-- ---- the lines of a script

first_line : (line rest : List ℕ) → HasNoFeed line → parts_of (line ++ 10 ∷ rest) ≡ line ∷ parts_of rest
first_line line rest none = slice_split_at is_feed line 10 rest none refl

-- a part comes from any bytes
some_parts : (bytes : List ℕ) → (part : List ℕ) × (parts : List (List ℕ)) × (parts_of bytes ≡ part ∷ parts)
some_parts [] = ([], [], refl)
some_parts (b ∷ bytes) = go (is_feed b) (some_parts bytes)
  where
    go : (t : Bool) → ((part : List ℕ) × (parts : List (List ℕ)) × (parts_of bytes ≡ part ∷ parts))
        → (part : List ℕ) × (parts : List (List ℕ)) × (cond t ([] ∷ parts_of bytes) (onto_first b (parts_of bytes)) ≡ part ∷ parts)
    go true h = ([], parts_of bytes, refl)
    go false h = (b ∷ h.0, h.1, ap (onto_first b) h.2)

pub lines_of-line : (line rest : List ℕ) → HasNoFeed line → lines_of (line ++ 10 ∷ rest) ≡ line ∷ lines_of rest
lines_of-line line rest none =
    let h = some_parts rest in
    ap lines_of_parts (first_line line rest none ∙ ap (λ ps. line ∷ ps) h.2) ∙ ap (λ ps. line ∷ lines_of_parts ps) (sym h.2)

pub whole_lines_of-line : (line rest : List ℕ) → HasNoFeed line → whole_lines_of (line ++ 10 ∷ rest) ≡ line ∷ whole_lines_of rest
whole_lines_of-line line rest none =
    let h = some_parts rest in
    ap all_but_last (first_line line rest none ∙ ap (λ ps. line ∷ ps) h.2) ∙ ap (λ ps. line ∷ all_but_last ps) (sym h.2)

pub lines_of-last : (line : List ℕ) → HasNoFeed line → lines_of line ≡ with_last line
lines_of-last line none = ap lines_of_parts (slice_split_none is_feed line none)

pub whole_lines_of-last : (line : List ℕ) → HasNoFeed line → whole_lines_of line ≡ []
whole_lines_of-last line none = ap all_but_last (slice_split_none is_feed line none)

-- no line has a newline in it
abbrev pub AreLines : List (List ℕ) → Type 0
AreLines [] = Unit {0}
AreLines (line ∷ lines) = HasNoFeed line × AreLines lines

-- the lines, each with its newline
abbrev pub joined : List (List ℕ) → List ℕ
joined lines = flat_map (λ line. line ++ 10 ∷ []) lines

-- the lines that came, and then those of the rest
pub lines_of-joined : (lines : List (List ℕ)) (rest : List ℕ) → AreLines lines → lines_of (joined lines ++ rest) ≡ lines ++ lines_of rest
lines_of-joined [] rest h = refl
lines_of-joined (line ∷ lines) rest h =
    ap lines_of (append_assoc (line ++ 10 ∷ []) (joined lines) rest ∙ append_assoc line (10 ∷ []) (joined lines ++ rest))
    ∙ lines_of-line line (joined lines ++ rest) h.0 ∙ ap (λ ls. line ∷ ls) (lines_of-joined lines rest h.1)

pub whole_lines_of-joined : (lines : List (List ℕ)) (rest : List ℕ) → AreLines lines
    → whole_lines_of (joined lines ++ rest) ≡ lines ++ whole_lines_of rest
whole_lines_of-joined [] rest h = refl
whole_lines_of-joined (line ∷ lines) rest h =
    ap whole_lines_of (append_assoc (line ++ 10 ∷ []) (joined lines) rest ∙ append_assoc line (10 ∷ []) (joined lines ++ rest))
    ∙ whole_lines_of-line line (joined lines ++ rest) h.0 ∙ ap (λ ls. line ∷ ls) (whole_lines_of-joined lines rest h.1)

-- ---- how many lines are whole

onto_first-length : (b : ℕ) (bytes : List ℕ) → length (onto_first b (parts_of bytes)) ≡ length (parts_of bytes)
onto_first-length b bytes = let h = some_parts bytes in ap (λ (ps : List (List ℕ)). length (onto_first b ps)) h.2 ∙ sym (ap length h.2)

parts-more : (bytes more : List ℕ) → length (parts_of bytes) ≤ length (parts_of (bytes ++ more))
parts-more [] more = omega (arith, ap length (some_parts more).2)
parts-more (b ∷ bytes) more = go (is_feed b) (parts-more bytes more)
  where
    go : (t : Bool) → length (parts_of bytes) ≤ length (parts_of (bytes ++ more))
        → length (cond t ([] ∷ parts_of bytes) (onto_first b (parts_of bytes)))
        ≤ length (cond t ([] ∷ parts_of (bytes ++ more)) (onto_first b (parts_of (bytes ++ more))))
    go true rest = omega (arith, rest)
    go false rest = omega (arith, rest, onto_first-length b bytes, onto_first-length b (bytes ++ more))

all_but_last-length : (part : List ℕ) (parts : List (List ℕ)) → length (all_but_last (part ∷ parts)) ≡ length parts
all_but_last-length part [] = refl
all_but_last-length part (next ∷ parts) = ap suc (all_but_last-length next parts)

whole_lines-parts : (bytes : List ℕ) → length (whole_lines_of bytes) + 1 ≡ length (parts_of bytes)
whole_lines-parts bytes =
    let h = some_parts bytes in
    omega (arith, ap (λ (ps : List (List ℕ)). length (all_but_last ps)) h.2, all_but_last-length h.0 h.1, ap length h.2)

-- without at least as many bytes as the rest has, no more lines are whole than in the front
pub whole_lines-front : (front rest : List ℕ) (n : ℕ) → length rest ≤ n
    → length (whole_lines_of (take (length (front ++ rest) - n) (front ++ rest))) ≤ length (whole_lines_of front)
whole_lines-front front rest n short =
    let count = length (front ++ rest) - n in
    let within : count ≤ length front = omega (arith, short, length-append front rest) in
    let same : take count (front ++ rest) ≡ take count front = take-append-le count front rest within in
    let more = parts-more (take count front) (drop count front) in
    let all = ap (λ (bs : List ℕ). length (parts_of bs)) (take-append-drop count front) in
    omega (
      arith,
      more,
      all,
      ap (λ (bs : List ℕ). length (whole_lines_of bs)) same,
      whole_lines-parts (take count front),
      whole_lines-parts front,
    )

pub joined-push : (lines : List (List ℕ)) (line : List ℕ) → joined (lines ++ line ∷ []) ≡ joined lines ++ (line ++ 10 ∷ [])
joined-push [] line = append-nil (line ++ 10 ∷ [])
joined-push (first ∷ lines) line =
    ap (λ bs. (first ++ 10 ∷ []) ++ bs) (joined-push lines line)
    ∙ sym (append_assoc (first ++ 10 ∷ []) (joined lines) (line ++ 10 ∷ []))

pub AreLines-push : (lines : List (List ℕ)) (line : List ℕ) → AreLines lines → HasNoFeed line → AreLines (lines ++ line ∷ [])
AreLines-push [] line h none = (none, tt)
AreLines-push (first ∷ lines) line h none = (h.0, AreLines-push lines line h.1 none)
