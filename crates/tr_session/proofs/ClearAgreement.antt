-- Clears of a session by what its streams hold, and by their histories: both take the same steps.
use Rattle.std.proofs.Common.{◌≡◌, ◌∙◌, ℕ, zero, suc, length, Result, Err, ap, refl, subst}
use Rattle.std.specs.Option.{option_map_or}
use Rattle.std.specs.Prelude.{slice_get}
use Rattle.tr_session.proofs.Agreement.{agree-unless, all-changed, same-at, same-length, same-sum}
use Rattle.tr_session.specs.Agreement.{SessionsAgree}
use Rattle.tr_session.specs.Session.{SessionOf}
use Rattle.tr_session.specs.Sizes.{all_cleared}
use Rattle.tr_session.specs.Steps.{and_records, clear_as_session, clear_first, clear_first_answer, if_allowed, session_after_clear, session_after_clear_all, session_clear_all_answer, session_clear_answer}
use Rattle.tr_session_book.specs.Book.{SessionBookState}
use Rattle.tr_session_book.specs.BookSteps.{book_clear_answer, clear_allowed_at}
use Rattle.tr_session_book.specs.declared.faults.SessionFault.TheVariants.{NoStream}
use Rattle.tr_session_book.specs.declared.faults.SessionFault.{SessionFault}
use Rattle.tr_stream.proofs.RuleLemmas.{agree-cleared, same-cleared, same-counted}
use Rattle.tr_book.specs.declared.counts.Counts.{Counts}
use Rattle.tr_stream.specs.Rules.{Traced, by_history, by_state}
use Rattle.tr_stream.specs.State.{StreamState}
use Rattle.tr_stream.specs.declared.answers.Cleared.{Cleared}

-- ---- one stream

pub same-clear : (a : SessionOf StreamState) (b : SessionOf Traced) → SessionsAgree a b → (i : ℕ)
    → session_clear_answer by_state i a ≡ session_clear_answer by_history i b
same-clear a b is i =
    ap (λ (r : Result Cleared SessionFault). if_allowed (clear_allowed_at i a.book) r)
    (same-at i (λ s. clear_as_session (by_state.clear_answer s)) (λ t. clear_as_session (by_history.clear_answer t)) _
    a.streams b.streams (λ s t agree. ap clear_as_session (same-cleared s t agree)) is.streams)
    ∙ ap (λ (c : SessionBookState). if_allowed (clear_allowed_at i c)
    (option_map_or (λ (t : Traced). clear_as_session (by_history.clear_answer t)) (slice_get b.streams i) (Err NoStream)))
    is.book

pub agree-clear : (a : SessionOf StreamState) (b : SessionOf Traced) → SessionsAgree a b → (i : ℕ)
    → SessionsAgree (session_after_clear by_state i a) (session_after_clear by_history i b)
agree-clear a b is i =
    agree-unless a b is (clear_allowed_at i a.book) (clear_allowed_at i b.book) _ _ (ap (clear_allowed_at i) is.book)
    (record {
      book = is.book;
      made = is.made;
      streams =
          all-changed i by_state.after_clear by_history.after_clear a.streams b.streams
          (λ s t agree. agree-cleared s t agree) is.streams;
    })

-- ---- the whole session

agree-clear_first : (n : ℕ) (a : SessionOf StreamState) (b : SessionOf Traced) → SessionsAgree a b
    → SessionsAgree (clear_first by_state n a) (clear_first by_history n b)
agree-clear_first zero a b is = is
agree-clear_first (suc n) a b is =
    agree-clear (clear_first by_state n a) (clear_first by_history n b) (agree-clear_first n a b is) n

same-clear_first : (n : ℕ) (a : SessionOf StreamState) (b : SessionOf Traced) → SessionsAgree a b
    → clear_first_answer by_state n a ≡ clear_first_answer by_history n b
same-clear_first zero a b is = refl
same-clear_first (suc n) a b is =
    ap (λ (r : Result ℕ SessionFault). and_records r (session_clear_answer by_state n (clear_first by_state n a)))
    (same-clear_first n a b is)
    ∙ ap (and_records (clear_first_answer by_history n b))
    (same-clear (clear_first by_state n a) (clear_first by_history n b) (agree-clear_first n a b is) n)

pub same-clear_all : (a : SessionOf StreamState) (b : SessionOf Traced) → SessionsAgree a b
    → session_clear_all_answer by_state a ≡ session_clear_all_answer by_history b
same-clear_all a b is =
    ap (λ (c : SessionBookState). if_allowed (book_clear_answer c) (clear_first_answer by_state (length a.streams) a)) is.book
    ∙ ap (λ (n : ℕ). if_allowed (book_clear_answer b.book) (clear_first_answer by_state n a))
    (same-length a.streams b.streams is.streams)
    ∙ ap (if_allowed (book_clear_answer b.book)) (same-clear_first (length b.streams) a b is)

pub agree-clear_all : (a : SessionOf StreamState) (b : SessionOf Traced) → SessionsAgree a b
    → SessionsAgree (session_after_clear_all by_state a) (session_after_clear_all by_history b)
agree-clear_all a b is =
    agree-unless a b is (book_clear_answer a.book) (book_clear_answer b.book) _ _ (ap book_clear_answer is.book)
    (subst (λ (n : ℕ). SessionsAgree (clear_first by_state (length a.streams) a) (clear_first by_history n b))
    (same-length a.streams b.streams is.streams) (agree-clear_first (length a.streams) a b is))

pub same-all_cleared : (a : SessionOf StreamState) (b : SessionOf Traced) → SessionsAgree a b → all_cleared by_state a ≡ all_cleared by_history b
same-all_cleared a b is =
    same-sum (λ s. (by_state.counts s).cleared) (λ t. (by_history.counts t).cleared) a.streams b.streams
    (λ s t agree. ap (λ (n : Counts). n.cleared) (same-counted s t agree)) is.streams
