-- A whole clear of a session: one stream after another.
use Rattle.std.proofs.Common.{◌≡◌, ◌≢◌, ◌∙◌, ℕ, ◌+◌, ◌*◌, ◌^◌, ◌≤◌, ◌<◌, zero, suc, List, length, map, take, Some, Result, Ok, Err, ap, arith, refl, subst, sym, ⊎_elim}
use Rattle.std.proofs.lemmas.List.{take_all}
use Rattle.std.specs.List.{sum_by}
use Rattle.std.specs.Prelude.{IsOk, slice_get}
use Rattle.tr_session.proofs.AskedLemmas.{asked-there, next-asked}
use Rattle.tr_session.proofs.CallLemmas.{wants-memory}
use Rattle.tr_session.proofs.ListLemmas.{changed-next, changed_before, changed_before-all}
use Rattle.tr_session.proofs.SessionLemmas.{at-there}
use Rattle.tr_session.proofs.SizeLemmas.{sum-more}
use Rattle.tr_session.proofs.StreamLemmas.{mode-at}
use Rattle.tr_book.specs.declared.counts.Counts.{Counts}
use Rattle.tr_session.specs.Session.{HasItsStreams, SessionOf}
use Rattle.tr_session.specs.Sizes.{all_cleared}
use Rattle.tr_session.specs.Steps.{ClearsPackets, IsClearedSome, and_records, change_at, clear_as_session, clear_first, clear_first_answer, cleared_in_all, records_cleared, session_after_clear, session_clear_answer, with_first_cleared}
use Rattle.tr_session_book.specs.BookSteps.{book_clear_answer, clear_allowed_at, unless_refused}
use Rattle.tr_session_book.specs.declared.faults.SessionFault.TheVariants.{NoMemory}
use Rattle.tr_session_book.specs.declared.faults.SessionFault.{SessionFault}
use Rattle.tr_stream.proofs.SessionLemmas.{in-local}
use Rattle.tr_stream.specs.Rules.{by_state}
use Rattle.tr_stream.specs.State.{StreamState}
use Rattle.tr_stream.specs.StateSteps.{state_counts, state_after_clear, state_clear_answer, state_cleared}
use Rattle.tr_stream.specs.declared.answers.ClearFault.{ClearFault}
use Rattle.tr_stream.specs.declared.answers.ClearFault.TheVariants as clear_fault
use Rattle.tr_stream.specs.declared.answers.Cleared.{Cleared}
use Rattle.tr_terms.specs.declared.session_mode.SessionMode.TheVariants.{Local}

-- in a local session a stream can be cleared
pub clear-can : (s : SessionOf StreamState) (i : ℕ) → HasItsStreams s → s.book.mode ≡ Local
    → book_clear_answer s.book ≡ Ok tt → i < length s.streams → IsOk (session_clear_answer by_state i s)
clear-can s i is local allowed within =
    let there = at-there i s.streams within in
    let t = there.0 in
    let at : clear_allowed_at i s.book ≡ Ok tt =
    asked-there i (book_clear_answer s.book) s.book (subst (λ (n : ℕ). i < n) is.as_many within) ∙ allowed in
    let clears : state_clear_answer t ≡ Ok (state_cleared t) =
    in-local t.config.session (Ok (state_cleared t)) (Err clear_fault.SnapshotMode) (mode-at s i t is there.1 ∙ local) in
    rw (at, there.1, clears) refl

-- so only a failed allocation refuses it
pub clear-wants : (r : Result Cleared SessionFault) (fault : SessionFault) → IsOk r
    → ((let q : Result Cleared SessionFault = Err fault in q) ≢ Err NoMemory → Err fault ≡ r) → fault ≡ NoMemory
clear-wants r fault can refused =
    ⊎_elim (λ is. cc)
    (λ isnt. absurd (no_way r (refused isnt) can)) (wants-memory (let q : Result Cleared SessionFault = Err fault in q))
  where
    no_way : (q : Result Cleared SessionFault) → Err fault ≡ q → IsOk q → ⊥
    no_way (Ok cleared) e is = absurd cc
    no_way (Err other) e is = absurd cc

-- ---- one after another

-- the next stream is as it was
pub next-same : (n : ℕ) (s : SessionOf StreamState)
    → session_clear_answer by_state n (with_first_cleared by_state n s) ≡ session_clear_answer by_state n s
next-same n s =
    next-asked (λ t. clear_as_session (by_state.clear_answer t)) state_after_clear (clear_allowed_at n s.book) n s.book s.streams

-- and is cleared
next-cleared : (n : ℕ) (s : SessionOf StreamState) → book_clear_answer s.book ≡ Ok tt → length s.streams ≡ length s.book.threads
    → n < length s.streams
    → session_after_clear by_state n (with_first_cleared by_state n s) ≡ with_first_cleared by_state (suc n) s
next-cleared n s allowed as_many within =
    let at : clear_allowed_at n s.book ≡ Ok tt =
    asked-there n (book_clear_answer s.book) s.book (subst (λ (m : ℕ). n < m) as_many within) ∙ allowed in
    ap (λ (r : Result Unit SessionFault). unless_refused r
    (let t : SessionOf StreamState =
    record { book = s.book; streams = change_at n state_after_clear (changed_before n state_after_clear s.streams) } in t)
    (with_first_cleared by_state n s)) at
    ∙ ap (λ (ts : List StreamState). (let t : SessionOf StreamState = record { book = s.book; streams = ts } in t))
    (changed-next state_after_clear n s.streams within)

-- `n` clears, one after another
pub clears-are : (s : SessionOf StreamState) → book_clear_answer s.book ≡ Ok tt → length s.streams ≡ length s.book.threads
    → (n : ℕ) → n ≤ length s.streams → clear_first by_state n s ≡ with_first_cleared by_state n s
clears-are s allowed as_many zero within = refl
clears-are s allowed as_many (suc n) within =
    ap (session_after_clear by_state n) (clears-are s allowed as_many n (omega (arith, within)))
    ∙ next-cleared n s allowed as_many (omega (arith, within))

both-ok : (a : Result ℕ SessionFault) (b : Result Cleared SessionFault) → IsOk a → IsOk b → IsOk (and_records a b)
both-ok (Ok records) (Ok cleared) x y = refl
both-ok (Ok records) (Err fault) x y = y
both-ok (Err fault) b x y = x

-- none of them is refused
pub clears-can : (s : SessionOf StreamState) → HasItsStreams s → s.book.mode ≡ Local → book_clear_answer s.book ≡ Ok tt
    → (n : ℕ) → n ≤ length s.streams → IsOk (clear_first_answer by_state n s)
clears-can s is local allowed zero within = refl
clears-can s is local allowed (suc n) within =
    let next : session_clear_answer by_state n (clear_first by_state n s) ≡ session_clear_answer by_state n s =
    ap (session_clear_answer by_state n) (clears-are s allowed is.as_many n (omega (arith, within))) ∙ next-same n s in
    both-ok (clear_first_answer by_state n s) (session_clear_answer by_state n (clear_first by_state n s))
    (clears-can s is local allowed n (omega (arith, within)))
    (subst (λ (r : Result Cleared SessionFault). IsOk r) (sym next) (clear-can s n is local allowed (omega (arith, within))))

-- ---- the loop over the streams

-- the first `n` streams are cleared, and had `records` records
pub record ClearsSo (n : ℕ) (s now : SessionOf StreamState) (records : ℕ) : Type 0 where
  pub is : now ≡ with_first_cleared by_state n s
  pub answer : clear_first_answer by_state n s ≡ Ok records
  pub sum : records ≡ sum_by (λ t. records_cleared (by_state.clear_answer t)) (take n s.streams)
  pub few : records ≤ n * 2 ^ 64

pub clears-none : (s : SessionOf StreamState) → ClearsSo 0 s s 0
clears-none s = record { is = refl; answer = refl; sum = refl; few = omega arith }

records-told : (r : Result Cleared ClearFault) (cleared : Cleared) → Ok cleared ≡ clear_as_session r → records_cleared r ≡ cleared.records
records-told (Ok other) cleared is = let same : cleared ≡ other = cc in ap (λ (c : Cleared). c.records) (sym same)
records-told (Err clear_fault.SnapshotMode) cleared is = absurd cc
records-told (Err clear_fault.NoMemory) cleared is = absurd cc

pub clears-more : (n records : ℕ) (s now next : SessionOf StreamState) (cleared : Cleared) → HasItsStreams s
    → book_clear_answer s.book ≡ Ok tt → n < length s.streams → ClearsSo n s now records
    → Ok cleared ≡ session_clear_answer by_state n now → next ≡ session_after_clear by_state n now
    → cleared.records < 2 ^ 64 → ClearsSo (n + 1) s next (records + cleared.records)
clears-more n records s now next cleared has allowed within so told done small =
    let one : suc n ≡ n + 1 = omega arith in
    let there = at-there n s.streams within in
    let first : clear_first by_state n s ≡ with_first_cleared by_state n s =
    clears-are s allowed has.as_many n (omega (arith, within)) in
    let own : Ok cleared ≡ session_clear_answer by_state n s =
    told ∙ ap (session_clear_answer by_state n) so.is ∙ next-same n s in
    let at : clear_allowed_at n s.book ≡ Ok tt =
    asked-there n (book_clear_answer s.book) s.book (subst (λ (m : ℕ). n < m) has.as_many within) ∙ allowed in
    let its : Ok cleared ≡ clear_as_session (state_clear_answer there.0) = own ∙ rw (at, there.1) refl in
    let count : records_cleared (state_clear_answer there.0) ≡ cleared.records =
    records-told (state_clear_answer there.0) cleared its in
    let more = sum-more (λ (t : StreamState). records_cleared (state_clear_answer t)) n s.streams there.0 there.1 in
    record {
      is = done ∙ ap (session_after_clear by_state n) so.is ∙ next-cleared n s allowed has.as_many within
          ∙ ap (λ (m : ℕ). with_first_cleared by_state m s) one;
      answer = ap (λ (m : ℕ). clear_first_answer by_state m s) (sym one)
          ∙ ap (λ (r : Result ℕ SessionFault). and_records r (session_clear_answer by_state n (clear_first by_state n s))) so.answer
          ∙ ap (λ (t : SessionOf StreamState). and_records (Ok records) (session_clear_answer by_state n t)) (first ∙ sym so.is)
          ∙ ap (and_records (Ok records)) (sym told);
      sum = ap (λ (m : ℕ). m + cleared.records) so.sum
          ∙ ap (λ (m : ℕ). sum_by (λ (t : StreamState). records_cleared (state_clear_answer t)) (take n s.streams) + m) (sym count)
          ∙ sym more;
      few = omega (arith, so.few, small);
    }

-- a clear of a stream that was refused memory
pub clears-end : (n records : ℕ) (s now next : SessionOf StreamState) → n < length s.streams → ClearsSo n s now records
    → next ≡ now → ClearsPackets (session_clear_answer by_state n now) → IsClearedSome by_state s next
clears-end n records s now next within so same packets = record {
  clears = n;
  within = within;
  is = same ∙ so.is;
  next = subst ClearsPackets (ap (session_clear_answer by_state n) so.is ∙ next-same n s) packets;
}

-- all streams are cleared
pub clears-all : (n records : ℕ) (s now : SessionOf StreamState) → n ≡ length s.streams → ClearsSo n s now records
    → (records ≡ cleared_in_all by_state s) × (now ≡ record s { streams = map by_state.after_clear s.streams })
clears-all n records s now all so = (
  so.sum ∙ ap (λ (ts : List StreamState). sum_by (λ (t : StreamState). records_cleared (state_clear_answer t)) ts)
      (take_all n s.streams (omega (arith, all))),
  so.is ∙ ap (λ (ts : List StreamState). (let t : SessionOf StreamState = record { book = s.book; streams = ts } in t))
      (changed_before-all state_after_clear n s.streams all),
)

-- ---- how many records were cleared

-- those of the first streams
pub record CountsSo (n : ℕ) (s : SessionOf StreamState) (records : ℕ) : Type 0 where
  pub sum : records ≡ sum_by (λ t. (by_state.counts t).cleared) (take n s.streams)
  pub few : records ≤ n * 2 ^ 64

pub counts-more : (n records : ℕ) (s : SessionOf StreamState) (t : StreamState) (counts : Counts) → CountsSo n s records
    → slice_get s.streams n ≡ Some t → counts ≡ state_counts t → counts.cleared < 2 ^ 64
    → CountsSo (n + 1) s (records + counts.cleared)
counts-more n records s t counts so at is small =
    let more = sum-more (λ (u : StreamState). (state_counts u).cleared) n s.streams t at in
    let one : counts.cleared ≡ (state_counts t).cleared = ap (λ (c : Counts). c.cleared) is in
    record { sum = rw (so.sum, one) (sym more); few = omega (arith, so.few, small) }

pub counts-all : (n records : ℕ) (s : SessionOf StreamState) → length s.streams ≤ n → CountsSo n s records → records ≡ all_cleared by_state s
counts-all n records s past so =
    so.sum ∙ ap (λ (ts : List StreamState). sum_by (λ (t : StreamState). (state_counts t).cleared) ts) (take_all n s.streams past)
