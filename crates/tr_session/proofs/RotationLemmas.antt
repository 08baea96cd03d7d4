-- A whole rotation of a session: each stream is cut, and nothing is refused once it has begun.
use Rattle.std.proofs.Common.{◌≡◌, ◌≢◌, ◌∙◌, ℕ, ◌+◌, ◌≤◌, ◌<◌, zero, suc, true, false, List, [], ◌∷◌, length, map, Some, Result, Ok, Err, ap, refl, subst, arith}
use Rattle.std.proofs.lemmas.Bool.Decides.{nat_tests}
use Rattle.std.specs.Prelude.{IfErr, IfOk, nat_lt}
use Rattle.tr_session.proofs.ListLemmas.{changed_before, changed_before-all, changed_before-more}
use Rattle.tr_session.specs.Session.{SessionOf}
use Rattle.tr_session.specs.Steps.{session_after_cut, after_cut_if_due, session_after_rotate_begin, change_at, cut_first, session_after_rotate_finish, with_rotation}
use Rattle.tr_session_book.specs.Book.{SessionBookState}
use Rattle.tr_session_book.specs.BookSteps.{archive_ended, with_archive, cut_moment, book_rotate_begin_answer, book_rotate_finish_answer, with_pending, unless_refused}
use Rattle.tr_session_book.specs.declared.archive.Archive.{Archive}
use Rattle.tr_session_book.specs.declared.faults.SessionFault.{SessionFault}
use Rattle.tr_stream.specs.Rules.{by_state}
use Rattle.tr_stream.specs.State.{StreamState}
use Rattle.tr_stream.specs.StateSteps.{state_after_cut}

-- a book whose pending rotation makes this archive, and has cut `n` streams
abbrev cutting : SessionBookState → Archive → ℕ → SessionBookState
cutting b a n = record b { pending = Some (record { archive = a; cut = n }) }

-- the cut that is next is due
next-due : (b : SessionBookState) (a : Archive) (n : ℕ) → n < length b.threads → cut_moment n (cutting b a n) ≡ Ok a.end
next-due b a n within =
    let here : nat_lt n (length b.threads) ≡ true = grind (arith, nat_tests, within) in
    let same : nat_lt n n ≡ false = grind (arith, nat_tests) in
    rw (here, same) refl

-- `n` cuts, one after another
cuts-are : (b : SessionBookState) (a : Archive) (ts : List StreamState) → length ts ≡ length b.threads → (n : ℕ) → n ≤ length ts
    → cut_first by_state n (record { book = cutting b a 0; streams = ts })
    ≡ record { book = cutting b a n; streams = changed_before n (state_after_cut a.end) ts }
cuts-are b a [] as_many zero within = refl
cuts-are b a (t ∷ ts) as_many zero within = refl
cuts-are b a ts as_many (suc n) within =
    let before = cuts-are b a ts as_many n (omega (arith, within)) in
    let due = next-due b a n (omega (arith, within, as_many)) in
    let now : List StreamState = changed_before n (state_after_cut a.end) ts in
    let one : n + 1 ≡ suc n = omega arith in
    let more : change_at n (state_after_cut a.end) now ≡ changed_before (suc n) (state_after_cut a.end) ts =
    changed_before-more (state_after_cut a.end) n ts now _ (omega (arith, within)) refl refl
    ∙ ap (λ (k : ℕ). changed_before k (state_after_cut a.end) ts) one in
    ap (session_after_cut by_state n) before
    ∙ ap (λ (r : Result ℕ SessionFault). after_cut_if_due by_state r n (record { book = cutting b a n; streams = now })) due
    ∙ ap (λ (k : ℕ). (let s : SessionOf StreamState = record { book = cutting b a k; streams = change_at n (state_after_cut a.end) now } in s)) one
    ∙ ap (λ (us : List StreamState). (let s : SessionOf StreamState = record { book = cutting b a (suc n); streams = us } in s)) more

-- all of them
all-cuts-are : (b : SessionBookState) (a : Archive) (ts : List StreamState) → length ts ≡ length b.threads
    → cut_first by_state (length ts) (record { book = cutting b a 0; streams = ts })
    ≡ record { book = cutting b a (length ts); streams = map (state_after_cut a.end) ts }
all-cuts-are b a ts as_many =
    cuts-are b a ts as_many (length ts) (omega arith)
    ∙ ap (λ (us : List StreamState).
    (let s : SessionOf StreamState = record { book = cutting b a (length ts); streams = us } in s))
    (changed_before-all (state_after_cut a.end) (length ts) ts refl)

-- a rotation that has cut every stream ends
ends : (b : SessionBookState) (a : Archive) (n : ℕ) → n ≡ length b.threads → book_rotate_finish_answer (cutting b a n) ≡ Ok a
ends b a n all = let none : nat_lt n (length b.threads) ≡ false = grind (arith, nat_tests, all) in rw none refl

-- a rotation that has begun, and has cut every stream, is whole
pub rotation-is : (moment id : ℕ) (s begin cut after : SessionOf StreamState) (answer : Result Archive SessionFault)
    → book_rotate_begin_answer s.book ≡ Ok id → begin ≡ session_after_rotate_begin moment s
    → length begin.streams ≡ length begin.book.threads
    → cut ≡ cut_first by_state (length begin.streams) begin → answer ≡ book_rotate_finish_answer cut.book
    → after ≡ session_after_rotate_finish cut
    → (answer ≡ Ok (archive_ended moment s.book)) × (after ≡ with_rotation by_state moment s)
rotation-is moment id s begin cut after answer begins is as_many cuts answers ends_so = (
  answers ∙ ap (λ (t : SessionOf StreamState). book_rotate_finish_answer t.book) cut-is ∙ end,
  ends_so ∙ ap session_after_rotate_finish cut-is
      ∙ ap (λ (r : Result Archive SessionFault).
      (let t : SessionOf StreamState =
      record {
        book = with_archive r (cutting book a (length s.streams));
        streams = map (state_after_cut a.end) s.streams;
      } in t)) end,
)
  where
    book : SessionBookState
    book = with_pending moment s.book

    a : Archive
    a = archive_ended moment s.book

    begun-is : session_after_rotate_begin moment s ≡ record { book = cutting book a 0; streams = s.streams }
    begun-is = ap (λ (r : Result ℕ SessionFault). (let t : SessionOf StreamState =
        record { book = unless_refused r book s.book; streams = s.streams } in t)) begins

    many : length s.streams ≡ length s.book.threads
    many = subst (λ (t : SessionOf StreamState). length t.streams ≡ length t.book.threads) (is ∙ begun-is) as_many

    cut-is : cut ≡ record { book = cutting book a (length s.streams); streams = map (state_after_cut a.end) s.streams }
    cut-is = cuts ∙ ap (λ (t : SessionOf StreamState). cut_first by_state (length t.streams) t) (is ∙ begun-is) ∙ all-cuts-are book a s.streams many

    end : book_rotate_finish_answer (cutting book a (length s.streams)) ≡ Ok a
    end = ends book a (length s.streams) many

-- what holds of an answer that is no refusal
pub is-whole : (answer : Result Archive SessionFault) (a : Archive) (after whole : SessionOf StreamState) → answer ≡ Ok a
    → after ≡ whole → IfOk answer (λ archive. (archive ≡ a) × (after ≡ whole))
is-whole (Ok archive) a after whole is same = let it : archive ≡ a = cc in (it, same)
is-whole (Err fault) a after whole is same = absurd cc

pub not-refused : (answer : Result Archive SessionFault) (a : Archive) (begin : Result ℕ SessionFault) → answer ≡ Ok a
    → IfErr answer (λ fault. fault ≢ SessionFault.NoMemory → begin ≡ Err fault)
not-refused (Ok archive) a begin is = tt
not-refused (Err fault) a begin is = absurd cc
