-- A release of a whole archive: one stream after another.
use Rattle.std.proofs.Common.{◌≡◌, ◌∙◌, ℕ, ◌+◌, ◌<◌, zero, suc, Bool, true, false, List, [], ◌∷◌, length, map, take, Some, Result, Ok, Err, ap, ap₂, arith, refl, subst, sym}
use Rattle.std.proofs.lemmas.List.{take_all}
use Rattle.std.specs.List.{list_any}
use Rattle.std.specs.Prelude.{◌||◌, IsOk, is_ok, slice_get}
use Rattle.tr_session.proofs.AskedLemmas.{asked-there, next-asked}
use Rattle.tr_session.proofs.ListLemmas.{changed-next, changed_before, changed_before-all}
use Rattle.tr_session.proofs.SessionLemmas.{at-there}
use Rattle.tr_session.specs.Session.{HasItsStreams, SessionOf}
use Rattle.tr_session.specs.Steps.{IsReleasedSome, ReleasesPackets, any_part_left, change_at, has_part, release_allowed_at, release_as_session, session_after_release, session_release_answer, with_first_released}
use Rattle.tr_session_book.specs.BookSteps.{book_release_answer, unless_refused}
use Rattle.tr_session_book.specs.declared.faults.SessionFault.{SessionFault}
use Rattle.tr_stream.proofs.ReleaseLemmas.{refused-stays}
use Rattle.tr_stream.specs.Rules.{by_state}
use Rattle.tr_stream.specs.State.{StreamState}
use Rattle.tr_stream.specs.StateSteps.{state_after_release, state_release_answer}
use Rattle.tr_stream.specs.declared.answers.ReleaseFault.{ReleaseFault}
use Rattle.tr_stream.specs.declared.answers.ReleaseFault.TheVariants as release_fault
use Rattle.tr_stream.specs.declared.answers.Released.{Released}

-- a session refuses what the stream refuses
as-session : (r : Result Released ReleaseFault) → is_ok (release_as_session r) ≡ is_ok r
as-session (Ok released) = refl
as-session (Err release_fault.NoPart) = refl
as-session (Err release_fault.Released) = refl
as-session (Err release_fault.NoMemory) = refl

-- ---- the loop over the streams

-- the first streams have released their parts; whether one of them had it
pub record ReleasesSo (k n : ℕ) (s now : SessionOf StreamState) (left : Bool) : Type 0 where
  pub is : now ≡ with_first_released by_state k n s
  pub any : left ≡ list_any (has_part by_state k) (take n s.streams)

pub releases-none : (k : ℕ) (s : SessionOf StreamState) → ReleasesSo k 0 s s false
releases-none k s = record { is = refl; any = refl }

-- the book allows it where there is a stream
allowed-there : (k n : ℕ) (s : SessionOf StreamState) → HasItsStreams s → book_release_answer k s.book ≡ Ok tt → n < length s.streams
    → release_allowed_at n k s.book ≡ Ok tt
allowed-there k n s has allowed within =
    asked-there n (book_release_answer k s.book) s.book (subst (λ (m : ℕ). n < m) has.as_many within) ∙ allowed

-- the next stream answers as it would have at first
next-answer : (k n : ℕ) (s : SessionOf StreamState) (t : StreamState) → HasItsStreams s → book_release_answer k s.book ≡ Ok tt
    → n < length s.streams → slice_get s.streams n ≡ Some t
    → session_release_answer by_state n k (with_first_released by_state k n s) ≡ release_as_session (state_release_answer k t)
next-answer k n s t has allowed within at =
    next-asked (λ u. release_as_session (state_release_answer k u)) (state_after_release k) (release_allowed_at n k s.book) n s.book s.streams
    ∙ rw (allowed-there k n s has allowed within, at) refl

-- and its part is released
next-released : (k n : ℕ) (s : SessionOf StreamState) → HasItsStreams s → book_release_answer k s.book ≡ Ok tt → n < length s.streams
    → session_after_release by_state n k (with_first_released by_state k n s) ≡ with_first_released by_state k (suc n) s
next-released k n s has allowed within =
    ap (λ (r : Result Unit SessionFault). unless_refused r
    (let t : SessionOf StreamState =
    record { book = s.book; streams = change_at n (state_after_release k) (changed_before n (state_after_release k) s.streams) } in t)
    (with_first_released by_state k n s)) (allowed-there k n s has allowed within)
    ∙ ap (λ (ts : List StreamState). (let t : SessionOf StreamState = record { book = s.book; streams = ts } in t))
    (changed-next (state_after_release k) n s.streams within)

any-more : {X : Type 0} (p : X → Bool) (n : ℕ) (xs : List X) (x : X) → slice_get xs n ≡ Some x
    → list_any p (take (suc n) xs) ≡ (list_any p (take n xs) || p x)
any-more p n [] x at = cc
any-more p zero (y ∷ ys) x at = let same : y ≡ x = cc in or_none (p y) ∙ ap p same
  where
    or_none : (b : Bool) → (b || false) ≡ b
    or_none true = refl
    or_none false = refl
any-more p (suc n) (y ∷ ys) x at = ap (λ (b : Bool). p y || b) (any-more p n ys x at) ∙ or_assoc (p y) (list_any p (take n ys)) (p x)
  where
    or_assoc : (a b c : Bool) → (a || (b || c)) ≡ ((a || b) || c)
    or_assoc true b c = refl
    or_assoc false b c = refl

-- one more stream, whether it had its part
pub releases-more : (k n : ℕ) (s now next : SessionOf StreamState) (left : Bool) (answer : Result Released SessionFault) → HasItsStreams s
    → book_release_answer k s.book ≡ Ok tt → n < length s.streams → ReleasesSo k n s now left
    → answer ≡ session_release_answer by_state n k now → next ≡ session_after_release by_state n k now
    → ReleasesSo k (n + 1) s next (left || is_ok answer)
releases-more k n s now next left answer has allowed within so told done =
    let there = at-there n s.streams within in
    let t = there.0 in
    let here : is_ok answer ≡ has_part by_state k t =
    ap is_ok (told ∙ ap (session_release_answer by_state n k) so.is ∙ next-answer k n s t has allowed within there.1)
    ∙ as-session (state_release_answer k t) in
    let one : suc n ≡ n + 1 = omega arith in
    subst (λ (m : ℕ). ReleasesSo k m s next (left || is_ok answer)) one (record {
      is = done ∙ ap (session_after_release by_state n k) so.is ∙ next-released k n s has allowed within;
      any = ap₂ (λ (a b : Bool). a || b) so.any here ∙ sym (any-more (has_part by_state k) n s.streams t there.1);
    })

-- ---- how it ends

packets-ok : (r : Result Released SessionFault) → ReleasesPackets r → is_ok r ≡ true
packets-ok (Ok released) packets = refl
packets-ok (Err fault) packets = absurd packets

any-there : (p : StreamState → Bool) (i : ℕ) (ts : List StreamState) (t : StreamState) → slice_get ts i ≡ Some t → p t ≡ true
    → list_any p ts ≡ true
any-there p i [] t at is = cc
any-there p zero (u ∷ us) t at is = let same : u ≡ t = cc in rw (ap p same ∙ is) refl
any-there p (suc i) (u ∷ us) t at is = or_later (p u) (any-there p i us t at is)
  where
    or_later : (b : Bool) → list_any p us ≡ true → (b || list_any p us) ≡ true
    or_later true e = refl
    or_later false e = e

-- a stream that was refused memory has its part
pub releases-end : (k n : ℕ) (s now next : SessionOf StreamState) (left : Bool) → HasItsStreams s
    → book_release_answer k s.book ≡ Ok tt → n < length s.streams → ReleasesSo k n s now left
    → next ≡ now → ReleasesPackets (session_release_answer by_state n k now)
    → IsReleasedSome by_state k s next × IsOk (any_part_left by_state k s.streams)
releases-end k n s now next left has allowed within so same packets =
    let there = at-there n s.streams within in
    let t = there.0 in
    let its : ReleasesPackets (release_as_session (state_release_answer k t)) =
    subst ReleasesPackets (ap (session_release_answer by_state n k) so.is ∙ next-answer k n s t has allowed within there.1) packets in
    let has_it : has_part by_state k t ≡ true =
    sym (as-session (state_release_answer k t)) ∙ packets-ok (release_as_session (state_release_answer k t)) its in (
      record {
        releases = n;
        within = within;
        is = same ∙ so.is;
        next = subst ReleasesPackets
            (ap (session_release_answer by_state n k) so.is
            ∙ next-asked (λ u. release_as_session (state_release_answer k u)) (state_after_release k) (release_allowed_at n k s.book) n s.book s.streams)
            packets;
      },
      rw (any-there (has_part by_state k) n s.streams t there.1 has_it) refl,
    )

-- all streams have released their parts
pub releases-all : (k n : ℕ) (s now : SessionOf StreamState) (left : Bool) → n ≡ length s.streams → ReleasesSo k n s now left
    → (left ≡ list_any (has_part by_state k) s.streams) × (now ≡ record s { streams = map (by_state.after_release k) s.streams })
releases-all k n s now left all so = (
  so.any ∙ ap (list_any (has_part by_state k)) (take_all n s.streams (omega (arith, all))),
  so.is ∙ ap (λ (ts : List StreamState). (let t : SessionOf StreamState = record { book = s.book; streams = ts } in t))
      (changed_before-all (state_after_release k) n s.streams all),
)

-- if none had it, nothing changed
pub releases-nothing : (k : ℕ) (ts : List StreamState) → list_any (has_part by_state k) ts ≡ false
    → map (by_state.after_release k) ts ≡ ts
releases-nothing k [] none = refl
releases-nothing k (t ∷ ts) none =
    by_answer (state_release_answer k t) refl (releases-nothing k ts) none
  where
    by_answer : (r : Result Released ReleaseFault) → r ≡ state_release_answer k t
        → (list_any (has_part by_state k) ts ≡ false → map (by_state.after_release k) ts ≡ ts)
        → (has_part by_state k t || list_any (has_part by_state k) ts) ≡ false → map (by_state.after_release k) (t ∷ ts) ≡ t ∷ ts
    by_answer (Ok released) is rest none' =
        let never : (true || list_any (has_part by_state k) ts) ≡ false =
        subst (λ (b : Bool). (b || list_any (has_part by_state k) ts) ≡ false) (sym (ap is_ok is)) none' in
        absurd cc
    by_answer (Err why) is rest none' =
        let others : list_any (has_part by_state k) ts ≡ false =
        subst (λ (b : Bool). (b || list_any (has_part by_state k) ts) ≡ false) (sym (ap is_ok is)) none' in
        ap₂ (λ (u : StreamState) (us : List StreamState). u ∷ us) (sym (refused-stays k t why is)) (rest others)
