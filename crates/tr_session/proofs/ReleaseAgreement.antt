-- Releases by what a session's streams hold, and by their histories: both take the same steps.
use Rattle.std.proofs.Common.{◌≡◌, ◌∙◌, ℕ, Bool, cond, List, [], ◌∷◌, map, Result, Ok, Err, ap, ap₂, refl}
use Rattle.std.specs.List.{list_any}
use Rattle.std.specs.Option.{option_map_or}
use Rattle.std.specs.Prelude.{◌||◌, is_ok, slice_get}
use Rattle.tr_session.proofs.Agreement.{agree-unless, all-changed, same-at}
use Rattle.tr_session.specs.Agreement.{AllAgree, SessionsAgree}
use Rattle.tr_session.specs.Session.{SessionOf}
use Rattle.tr_session.specs.Steps.{any_part_left, has_part, if_allowed, release_allowed_at, release_as_session, session_after_release, session_after_release_all, session_release_all_answer, session_release_answer}
use Rattle.tr_session_book.specs.Book.{SessionBookState}
use Rattle.tr_session_book.specs.BookSteps.{book_release_answer}
use Rattle.tr_session_book.specs.declared.faults.SessionFault.TheVariants.{NoStream}
use Rattle.tr_session_book.specs.declared.faults.SessionFault.TheVariants.{Released as AlreadyReleased}
use Rattle.tr_session_book.specs.declared.faults.SessionFault.{SessionFault}
use Rattle.tr_stream.proofs.RuleLemmas.{agree-released, same-released}
use Rattle.tr_stream.specs.Rules.{Traced, by_history, by_state}
use Rattle.tr_stream.specs.State.{StreamState}
use Rattle.tr_stream.specs.declared.answers.Released.{Released}

-- ---- one stream

pub same-release : (a : SessionOf StreamState) (b : SessionOf Traced) → SessionsAgree a b → (i k : ℕ)
    → session_release_answer by_state i k a ≡ session_release_answer by_history i k b
same-release a b is i k =
    ap (λ (r : Result Released SessionFault). if_allowed (release_allowed_at i k a.book) r)
    (same-at i (λ s. release_as_session (by_state.release_answer k s)) (λ t. release_as_session (by_history.release_answer k t)) _
    a.streams b.streams (λ s t agree. ap release_as_session (same-released s t k agree)) is.streams)
    ∙ ap (λ (c : SessionBookState). if_allowed (release_allowed_at i k c)
    (option_map_or (λ (t : Traced). release_as_session (by_history.release_answer k t)) (slice_get b.streams i) (Err NoStream)))
    is.book

pub agree-release : (a : SessionOf StreamState) (b : SessionOf Traced) → SessionsAgree a b → (i k : ℕ)
    → SessionsAgree (session_after_release by_state i k a) (session_after_release by_history i k b)
agree-release a b is i k =
    agree-unless a b is (release_allowed_at i k a.book) (release_allowed_at i k b.book) _ _ (ap (release_allowed_at i k) is.book)
    (record {
      book = is.book;
      made = is.made;
      streams =
          all-changed i (by_state.after_release k) (by_history.after_release k) a.streams b.streams
          (λ s t agree. agree-released s t k agree) is.streams;
    })

-- ---- the whole session

same-left : (k : ℕ) (ss : List StreamState) (ts : List Traced) → AllAgree ss ts
    → list_any (has_part by_state k) ss ≡ list_any (has_part by_history k) ts
same-left k [] [] agree = refl
same-left k [] (t ∷ ts) agree = absurd agree
same-left k (s ∷ ss) [] agree = absurd agree
same-left k (s ∷ ss) (t ∷ ts) agree =
    ap₂ (λ (a b : Bool). a || b) (ap is_ok (same-released s t k agree.0)) (same-left k ss ts agree.1)

agree-all : (k : ℕ) (ss : List StreamState) (ts : List Traced) → AllAgree ss ts
    → AllAgree (map (by_state.after_release k) ss) (map (by_history.after_release k) ts)
agree-all k [] [] agree = tt
agree-all k [] (t ∷ ts) agree = absurd agree
agree-all k (s ∷ ss) [] agree = absurd agree
agree-all k (s ∷ ss) (t ∷ ts) agree = (agree-released s t k agree.0, agree-all k ss ts agree.1)

pub same-release_all : (k : ℕ) (a : SessionOf StreamState) (b : SessionOf Traced) → SessionsAgree a b
    → session_release_all_answer by_state k a ≡ session_release_all_answer by_history k b
same-release_all k a b is =
    ap (λ (c : SessionBookState). if_allowed (book_release_answer k c) (any_part_left by_state k a.streams)) is.book
    ∙ ap (λ (left : Bool). if_allowed (book_release_answer k b.book)
    (let r : Result Unit SessionFault = cond left (Ok tt) (Err AlreadyReleased) in r)) (same-left k a.streams b.streams is.streams)

pub agree-release_all : (k : ℕ) (a : SessionOf StreamState) (b : SessionOf Traced) → SessionsAgree a b
    → SessionsAgree (session_after_release_all by_state k a) (session_after_release_all by_history k b)
agree-release_all k a b is =
    agree-unless a b is (book_release_answer k a.book) (book_release_answer k b.book) _ _ (ap (book_release_answer k) is.book)
    (record { book = is.book; made = is.made; streams = agree-all k a.streams b.streams is.streams })
