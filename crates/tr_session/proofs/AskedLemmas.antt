-- A step of one stream that the session's book is asked for, and that leaves the book as it is.
use Rattle.std.proofs.Common.{◌≡◌, ◌≢◌, ◌≤◌, ◌<◌, ℕ, true, false, cond, zero, suc, List, [], ◌∷◌, length, Option, Result, Ok, Err, arith, refl, ap, ⊎_elim}
use Rattle.std.proofs.lemmas.Bool.Decides.{nat_tests}
use Rattle.std.specs.Option.{option_map_or}
use Rattle.std.specs.Prelude.{nat_lt, slice_get}
use Rattle.tr_session.proofs.CallLemmas.{same-session, wants-memory}
use Rattle.tr_session.proofs.ListLemmas.{changed_before}
use Rattle.tr_session.proofs.StreamLemmas.{Keeps, after-one}
use Rattle.tr_session.specs.Session.{HasItsStreams, SessionOf, session_of}
use Rattle.tr_session.specs.Steps.{change_at, if_allowed}
use Rattle.tr_session_book.specs.Book.{SessionBookState}
use Rattle.tr_session_book.specs.BookSteps.{unless_refused}
use Rattle.tr_session_book.specs.declared.faults.SessionFault.TheVariants.{NoMemory, NoStream}
use Rattle.tr_session_book.specs.declared.faults.SessionFault.{SessionFault}
use Rattle.tr_stream.specs.State.{StreamState}

-- what the book answers for stream i, if it is there
abbrev pub asked_at : ℕ → Result Unit SessionFault → SessionBookState → Result Unit SessionFault
asked_at i asked b = cond (nat_lt i (length b.threads)) asked (Err NoStream)

-- the book is asked where there is a stream
pub asked-there : (i : ℕ) (asked : Result Unit SessionFault) (b : SessionBookState) → i < length b.threads → asked_at i asked b ≡ asked
asked-there i asked b within = let here : nat_lt i (length b.threads) ≡ true = grind (arith, nat_tests, within) in rw here refl

pub asked-past : (i : ℕ) (asked : Result Unit SessionFault) (b : SessionBookState) → length b.threads ≤ i → asked_at i asked b ≡ Err NoStream
asked-past i asked b past = let out : nat_lt i (length b.threads) ≡ false = grind (arith, nat_tests, past) in rw out refl

-- the next stream is as it was
pub changed_before-get : {X : Type 0} (f : X → X) (n : ℕ) (xs : List X) → slice_get (changed_before n f xs) n ≡ slice_get xs n
changed_before-get f zero [] = refl
changed_before-get f (suc n) [] = refl
changed_before-get f zero (x ∷ xs) = refl
changed_before-get f (suc n) (x ∷ xs) = changed_before-get f n xs

module _ {R : Type 0} (answer : StreamState → Result R SessionFault) (after : StreamState → StreamState) where
  -- what is answered where stream i is asked, if the book allows it, and what it leaves
  abbrev pub asked_answer : Result Unit SessionFault → ℕ → SessionOf StreamState → Result R SessionFault
  asked_answer allowed i s = if_allowed allowed (option_map_or answer (slice_get s.streams i) (Err NoStream))

  abbrev pub asked_after : Result Unit SessionFault → ℕ → SessionOf StreamState → SessionOf StreamState
  asked_after allowed i s = unless_refused allowed (record s { streams = change_at i after s.streams }) s

  -- if the book refuses
  pub refused-asked : (allowed : Result Unit SessionFault) (i : ℕ) (s : SessionOf StreamState) (fault : SessionFault)
      → allowed ≡ Err fault
      → ((let r : Result R SessionFault = Err fault in r) ≡ asked_answer allowed i s) × (s ≡ asked_after allowed i s)
  refused-asked allowed i s fault is = (rw is refl, rw is refl)

  -- if it allows
  pub allowed-asked : (allowed : Result Unit SessionFault) (i : ℕ) (b : SessionBookState) (ts us : List StreamState)
      (r : Result R SessionFault) → allowed ≡ Ok tt → r ≡ option_map_or answer (slice_get ts i) (Err NoStream)
      → us ≡ change_at i after ts
      → (r ≡ asked_answer allowed i (session_of b ts)) × (session_of b us ≡ asked_after allowed i (session_of b ts))
  allowed-asked allowed i b ts us r at answers streams = (rw at answers, rw at (rw streams refl))

  -- and of what it answers then
  pub allowed-says : (P : Result R SessionFault → Type 0) (allowed : Result Unit SessionFault) (i : ℕ) (b : SessionBookState)
      (ts : List StreamState) → allowed ≡ Ok tt → P (option_map_or answer (slice_get ts i) (Err NoStream))
      → P (asked_answer allowed i (session_of b ts))
  allowed-says P allowed i b ts at says = rw at says

  -- the streams stay those of the book's threads
  pub step-asked : {D : Type 0} (r : Result R SessionFault) (b : SessionBookState) (ts us : List StreamState) (i : ℕ) → Keeps after
      → (r ≢ Err NoMemory → D × (us ≡ change_at i after ts)) → (r ≡ Err NoMemory → us ≡ ts)
      → HasItsStreams (session_of b ts) → HasItsStreams (session_of b us)
  step-asked {D} r b ts us i keeps done memory is =
      ⊎_elim
      (λ (wants : r ≡ Err NoMemory). same-session b b ts us refl (memory wants) is)
      (λ (other : r ≢ Err NoMemory). same-session b b (change_at i after ts) us refl (done other).1 (after-one b ts i after keeps is))
      (wants-memory r)

  -- a stream after those that were changed is asked as before
  pub next-asked : (allowed : Result Unit SessionFault) (n : ℕ) (b : SessionBookState) (ts : List StreamState)
      → asked_answer allowed n (session_of b (changed_before n after ts)) ≡ asked_answer allowed n (session_of b ts)
  next-asked allowed n b ts = ap (λ (o : Option StreamState). if_allowed allowed (option_map_or answer o (Err NoStream)))
      (changed_before-get after n ts)
