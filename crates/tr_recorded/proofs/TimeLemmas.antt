-- A session's archives, by number and name, follow each other.
use Rattle.std.proofs.Common.{◌≡◌, ◌∙◌, ◌<◌, ◌≤◌, ◌+◌, ◌^◌, ℕ, suc, true, eqb, refl, sym, ap, arith, List, [], ◌∷◌, ◌++◌, length, take, drop, map, Some, ℤ, pos, negsuc, append_assoc, length-append}
use Rattle.std.proofs.lemmas.List.{drop_at, take_at}
use Rattle.std.specs.Cmp.Lexicographic.{pointwise}
use Rattle.std.specs.Fmt.{decimal}
use Rattle.std.specs.Prelude.{slice_get}
use Rattle.tr_chunk.specs.ArchiveName.{archive_name_text, stamp_text}
use Rattle.tr_recorded.proofs.BelowLemmas.{same-name}
use Rattle.tr_recorded.proofs.OrderLemmas.{Numbers}
use Rattle.tr_recorded.specs.Recorded.{archive_named}
use Rattle.tr_session_book.specs.Book.{SessionBookState}
use Rattle.tr_session_book.specs.BookSteps.{AreChained, first_begin}
use Rattle.tr_session_book.specs.declared.archive.Archive.{Archive}
use Rattle.tr_survey.specs.Heads.{is_next}
use Rattle.tr_survey.specs.Names.{begin_stamp, end_stamp}
use Rattle.tr_survey.specs.Whole.{FollowEachOther}
use Rattle.tr_terms.specs.declared.limits.TheConstants.{LAST_MOMENT}

-- numbered from this number on, and within the limits of moments and numbers
abbrev pub AreWithin : ℕ → List Archive → Type 0
AreWithin k [] = Unit {0}
AreWithin k (a ∷ archives) = (a.id ≡ k) × (k < 2 ^ 64) × (a.begin ≤ LAST_MOMENT) × (a.end ≤ LAST_MOMENT) × AreWithin (k + 1) archives

-- ---- moments

-- the first ones of several
front-chained : (archives more : List Archive) (chunk : ℕ) → AreChained (archives ++ more) chunk → AreChained archives (first_begin more chunk)
front-chained [] more chunk are = tt
front-chained (a ∷ []) more chunk are = (are.0, are.1, tt)
front-chained (a ∷ b ∷ archives) more chunk are = (are.0, are.1, front-chained (b ∷ archives) more chunk are.2)

first-within : (archives : List Archive) (chunk : ℕ) → AreChained archives chunk → chunk ≤ LAST_MOMENT → first_begin archives chunk ≤ LAST_MOMENT
first-within [] chunk are le = le
first-within (a ∷ archives) chunk are le = let more = first-within archives chunk are.2 le in omega (arith, are.0, are.1, more)

within : (k : ℕ) (archives : List Archive) (chunk : ℕ) → AreChained archives chunk → chunk ≤ LAST_MOMENT
    → ((i : ℕ) (a : Archive) → slice_get archives i ≡ Some a → a.id ≡ k + i) → k + length archives ≤ 2 ^ 64 → AreWithin k archives
within k [] chunk are le numbered few = tt
within k (a ∷ archives) chunk are le numbered few =
    let next = first-within archives chunk are.2 le in
    let first = numbered 0 a refl in (
      omega (arith, first),
      omega (arith, few),
      omega (arith, are.0, are.1, next),
      omega (arith, are.1, next),
      within (k + 1) archives chunk are.2 le (λ i b at. let own = numbered (suc i) b at in omega (arith, own)) (omega (arith, few)),
    )

-- of a session's book
pub book-within : (archives more : List Archive) (chunk : ℕ) → AreChained (archives ++ more) chunk → chunk ≤ LAST_MOMENT
    → ((i : ℕ) (a : Archive) → slice_get archives i ≡ Some a → a.id ≡ i) → length archives ≤ 2 ^ 64
    → AreWithin 0 archives × AreChained archives (first_begin more chunk)
book-within archives more chunk are le numbered few =
    let front = front-chained archives more chunk are in (
      within 0 archives (first_begin more chunk) front (more-within more chunk (back archives more chunk are) le)
          (λ i a at. let own = numbered i a at in omega (arith, own)) (omega (arith, few)),
      front,
    )
  where
    back : (archives more : List Archive) (chunk : ℕ) → AreChained (archives ++ more) chunk → AreChained more chunk
    back [] more chunk are = are
    back (a ∷ archives) more chunk are = back archives more chunk are.2

    more-within : (more : List Archive) (chunk : ℕ) → AreChained more chunk → chunk ≤ LAST_MOMENT → first_begin more chunk ≤ LAST_MOMENT
    more-within more chunk are le = first-within more chunk are le

-- ---- names

stamp-long : (moment : ℕ) (minutes : ℤ) → length (stamp_text moment minutes) ≡ 20
unfolding stamp_text
stamp-long moment (pos n) = refl
stamp-long moment (negsuc n) = refl

begins : (begin end id : ℕ) (offset : ℤ) → begin_stamp (archive_name_text begin end offset id) ≡ stamp_text begin offset
unfolding archive_name_text
begins begin end id offset = take_at (stamp_text begin offset) (45 ∷ (stamp_text end offset ++ (45 ∷ decimal id))) 20 (stamp-long begin offset)

ends : (begin end id : ℕ) (offset : ℤ) → end_stamp (archive_name_text begin end offset id) ≡ stamp_text end offset
unfolding archive_name_text
ends begin end id offset =
    let first = stamp_text begin offset in
    let second = stamp_text end offset in
    let rest = second ++ (45 ∷ decimal id) in
    let long : length (first ++ 45 ∷ []) ≡ 21 = omega (arith, length-append first (45 ∷ []), stamp-long begin offset) in
    ap (λ (l : List ℕ). take 20 (drop 21 l)) (sym (append_assoc first (45 ∷ []) rest))
    ∙ ap (take 20) (drop_at (first ++ 45 ∷ []) rest 21 long)
    ∙ take_at second (45 ∷ decimal id) 20 (stamp-long end offset)

next-is : (s : SessionBookState) (a b : Archive) → a.end ≡ b.begin → is_next (archive_named s a) (archive_named s b) ≡ true
next-is s a b e =
    ap (λ (l : List ℕ). pointwise eqb l (begin_stamp (archive_named s b).name)) (ends a.begin a.end a.id s.offset)
    ∙ ap (pointwise eqb (stamp_text a.end s.offset)) (begins b.begin b.end b.id s.offset)
    ∙ ap (λ (n : ℕ). pointwise eqb (stamp_text a.end s.offset) (stamp_text n s.offset)) (sym e)
    ∙ same-name (stamp_text a.end s.offset)

pub follow : (s : SessionBookState) (k : ℕ) (archives : List Archive) (chunk : ℕ) → AreChained archives chunk → AreWithin k archives
    → FollowEachOther k (map (archive_named s) archives)
follow s k [] chunk are own = tt
follow s k (a ∷ []) chunk are own = own.0
follow s k (a ∷ b ∷ archives) chunk are own = (own.0, next-is s a b are.1, follow s (k + 1) (b ∷ archives) chunk are.2 own.4)

pub numbers : (s : SessionBookState) (k : ℕ) (archives : List Archive) → AreWithin k archives → Numbers k (map (archive_named s) archives)
numbers s k [] own = tt
numbers s k (a ∷ archives) own = (own.0, numbers s (k + 1) archives own.4)
