-- The history of a stream in a session is the run of its own steps.
use Rattle.std.proofs.Common.{◌≡◌, ◌∙◌, ℕ, zero, suc, Bool, true, false, List, [], ◌∷◌, ◌++◌, Option, Some, None, Result, Ok, Err, ap, arith, refl, sym}
use Rattle.std.proofs.lemmas.Bool.Decides.{nat_tests}
use Rattle.std.proofs.lemmas.Grind.{common_steps}
use Rattle.std.specs.Prelude.{◌==◌, if◌then◌else◌, option_map, slice_get}
use Rattle.tr_events.specs.Events.{fits_declared}
use Rattle.tr_session_book.specs.Book.{SessionBookState}
use Rattle.tr_session_book.specs.BookSteps.{unless_refused, cut_moment, book_switch_answer, with_cut, snap_allowed, clear_allowed_at}
use Rattle.tr_session.specs.Events.{session_after_event, session_after_events, book_after_event, cut_let_through, is_of, let_through, own_steps}
use Rattle.tr_session.specs.Session.{SessionOf}
use Rattle.tr_session.specs.Steps.{after_cut_if_due, change_at, release_allowed_at}
use Rattle.tr_session.specs.declared.events.Event.{Event}
use Rattle.tr_session.specs.declared.events.Event.TheVariants.{Offer, Take, Cut, Clear, Release, Snap, Start, Stop, SessionStart, SessionStop, RotateBegin, RotateFinish}
use Rattle.tr_session_book.specs.declared.faults.SessionFault.{SessionFault}
use Rattle.tr_stream.specs.History.{History}
use Rattle.tr_stream.specs.Rules.{Traced, by_history}
use Rattle.tr_stream.specs.Runs.{history_after_event, history_after_events}
use Rattle.tr_stream.specs.declared.config.StreamConfig.{StreamConfig}
use Rattle.tr_stream.specs.declared.events.StreamEvent.{StreamEvent}
use Rattle.tr_stream.specs.declared.events.StreamEvent.TheVariants as stream

changed_at-get : {X : Type 0} (f : X → X) (i j : ℕ) (xs : List X)
    → slice_get (change_at j f xs) i ≡ (if i == j then option_map f (slice_get xs i) else slice_get xs i)
changed_at-get f i j [] = grind (arith, common_steps)
changed_at-get f zero zero (x ∷ xs) = grind (arith, nat_tests, common_steps)
changed_at-get f zero (suc j) (x ∷ xs) = grind (arith, nat_tests, common_steps)
changed_at-get f (suc i) zero (x ∷ xs) = grind (arith, nat_tests, common_steps)
changed_at-get f (suc i) (suc j) (x ∷ xs) = let rest = changed_at-get f i j xs in grind (arith, nat_tests, common_steps, rest)

book-cut : (due : Result ℕ SessionFault) (i : ℕ) (s : SessionOf Traced)
    → (after_cut_if_due by_history due i s).book ≡ unless_refused due (with_cut s.book) s.book
book-cut (Ok moment) i s = refl
book-cut (Err fault) i s = refl

book-unless : (r : Result Unit SessionFault) (s : SessionOf Traced) (ts : List Traced)
    → (unless_refused r (let u : SessionOf Traced = record s { streams = ts } in u) s).book ≡ s.book
book-unless (Ok x) s ts = refl
book-unless (Err fault) s ts = refl

book-if : (t : Bool) (s : SessionOf Traced) (ts : List Traced)
    → (if t then (let u : SessionOf Traced = record s { streams = ts } in u) else s).book ≡ s.book
book-if true s ts = refl
book-if false s ts = refl

module _ (A : Type 0) where
  -- a stream some steps later
  abbrev pub moved : List (StreamEvent A) → Traced → Traced
  moved steps t = record t { history = history_after_events t.config steps t.history }

  after-append : (c : StreamConfig) (xs ys : List (StreamEvent A)) (h : History)
      → history_after_events c (xs ++ ys) h ≡ history_after_events c ys (history_after_events c xs h)
  after-append c [] ys h = refl
  after-append c (x ∷ xs) ys h = after-append c xs ys (history_after_event c x h)

  moved-append : (xs ys : List (StreamEvent A)) (o : Option Traced)
      → option_map (moved (xs ++ ys)) o ≡ option_map (moved ys) (option_map (moved xs) o)
  moved-append xs ys None = refl
  moved-append xs ys (Some t) = ap (λ (h : History). Some (record t { history = h })) (after-append t.config xs ys t.history)

  none-moved : (o : Option Traced) → o ≡ option_map (moved []) o
  none-moved None = refl
  none-moved (Some t) = refl

  -- a stream that the event isn't for
  if-none : (b : Bool) (o : Option Traced) → o ≡ option_map (moved (if b then [] else [])) o
  if-none true o = none-moved o
  if-none false o = none-moved o

  same-moved : (f : Traced → Traced) (steps : List (StreamEvent A)) (o : Option Traced)
      → ((t : Traced) → f t ≡ moved steps t) → option_map f o ≡ option_map (moved steps) o
  same-moved f steps None same = refl
  same-moved f steps (Some t) same = ap (λ (u : Traced). Some u) (same t)

  if-moved : (b : Bool) (f : Traced → Traced) (steps : List (StreamEvent A)) (o : Option Traced)
      → ((t : Traced) → f t ≡ moved steps t)
      → (if b then option_map f o else o) ≡ option_map (moved (if b then steps else [])) o
  if-moved true f steps o same = same-moved f steps o same
  if-moved false f steps o same = none-moved o

  at-own : (i j : ℕ) (f : Traced → Traced) (steps : List (StreamEvent A)) (ts : List Traced)
      → ((t : Traced) → f t ≡ moved steps t)
      → slice_get (change_at j f ts) i ≡ option_map (moved (if i == j then steps else [])) (slice_get ts i)
  at-own i j f steps ts same = changed_at-get f i j ts ∙ if-moved (i == j) f steps (slice_get ts i) same

  at-cut : (i j : ℕ) (due : Result ℕ SessionFault) (s : SessionOf Traced)
      → slice_get (after_cut_if_due by_history due j s).streams i
      ≡ option_map (moved (if i == j then cut_let_through due else [])) (slice_get s.streams i)
  at-cut i j (Ok moment) s = at-own i j (by_history.after_cut moment) (stream.Cut moment ∷ []) s.streams (λ t. refl)
  at-cut i j (Err fault) s = if-none (i == j) (slice_get s.streams i)

  -- a step that only the book may refuse
  at-unless : (i j : ℕ) (f : Traced → Traced) (r : Result Unit SessionFault) (steps : List (StreamEvent A)) (s : SessionOf Traced)
      → ((t : Traced) → f t ≡ moved steps t)
      → slice_get (unless_refused r (let u : SessionOf Traced = record s { streams = change_at j f s.streams } in u) s).streams i
      ≡ option_map (moved (if i == j then unless_refused r steps [] else [])) (slice_get s.streams i)
  at-unless i j f (Ok x) steps s same = at-own i j f steps s.streams same
  at-unless i j f (Err fault) steps s same = if-none (i == j) (slice_get s.streams i)

  -- an offer that may not fit as declared
  at-if : (i j : ℕ) (f : Traced → Traced) (t : Bool) (steps : List (StreamEvent A)) (s : SessionOf Traced)
      → ((t : Traced) → f t ≡ moved steps t)
      → slice_get (if t then (let u : SessionOf Traced = record s { streams = change_at j f s.streams } in u) else s).streams i
      ≡ option_map (moved (if i == j then (if t then steps else []) else [])) (slice_get s.streams i)
  at-if i j f true steps s same = at-own i j f steps s.streams same
  at-if i j f false steps s same = if-none (i == j) (slice_get s.streams i)

  -- a peek changes no stream
  seen : (moment : ℕ) (o : Option Traced) → o ≡ option_map (moved (stream.Peek moment ∷ [])) o
  seen moment None = refl
  seen moment (Some t) = refl

  if-seen : (b : Bool) (moment : ℕ) (o : Option Traced) → o ≡ option_map (moved (if b then stream.Peek moment ∷ [] else [])) o
  if-seen true moment o = seen moment o
  if-seen false moment o = none-moved o

  at-snap : (i j moment : ℕ) (r : Result Unit SessionFault) (ts : List Traced)
      → slice_get ts i ≡ option_map (moved (if i == j then unless_refused r (stream.Peek moment ∷ []) [] else []))
      (slice_get ts i)
  at-snap i j moment (Ok done) ts = if-seen (i == j) moment (slice_get ts i)
  at-snap i j moment (Err fault) ts = if-none (i == j) (slice_get ts i)

  -- what an event does to stream i
  own-event : (i : ℕ) (e : Event A) (s : SessionOf Traced)
      → slice_get (session_after_event by_history e s).streams i
      ≡ option_map (moved (if is_of i e then let_through e s.book else [])) (slice_get s.streams i)
  own-event i (Offer j moment id payload) s =
      at-if i j (by_history.after_offer moment id payload) (fits_declared s.book.events id payload)
      (stream.Offer moment id payload ∷ []) s (λ t. refl)
  own-event i (Take j) s = at-own i j by_history.after_take (stream.Take ∷ []) s.streams (λ t. refl)
  own-event i (Cut j) s = at-cut i j (cut_moment j s.book) s
  own-event i (Release j k) s =
      at-unless i j (by_history.after_release k) (release_allowed_at j k s.book) (stream.Release k ∷ []) s (λ t. refl)
  own-event i (Clear j) s = at-unless i j by_history.after_clear (clear_allowed_at j s.book) (stream.Clear ∷ []) s (λ t. refl)
  own-event i (Snap j moment) s = at-snap i j moment (snap_allowed j s.book) s.streams
  own-event i (Start j) s = at-unless i j (by_history.after_switch true) (book_switch_answer true j s.book) (stream.Start ∷ []) s (λ t. refl)
  own-event i (Stop j) s = at-unless i j (by_history.after_switch false) (book_switch_answer false j s.book) (stream.Stop ∷ []) s (λ t. refl)
  own-event i (SessionStart moment) s = none-moved (slice_get s.streams i)
  own-event i SessionStop s = none-moved (slice_get s.streams i)
  own-event i (RotateBegin moment) s = none-moved (slice_get s.streams i)
  own-event i RotateFinish s = none-moved (slice_get s.streams i)

  -- the book doesn't depend on the streams
  book-event : (e : Event A) (s : SessionOf Traced) → (session_after_event by_history e s).book ≡ book_after_event e s.book
  book-event (Offer j moment id payload) s =
      book-if (fits_declared s.book.events id payload) s (change_at j (by_history.after_offer moment id payload) s.streams)
  book-event (Take j) s = refl
  book-event (Cut j) s = book-cut (cut_moment j s.book) j s
  book-event (Release j k) s = book-unless (release_allowed_at j k s.book) s (change_at j (by_history.after_release k) s.streams)
  book-event (Clear j) s = book-unless (clear_allowed_at j s.book) s (change_at j by_history.after_clear s.streams)
  book-event (Snap j moment) s = refl
  book-event (Start j) s = book-unless (book_switch_answer true j s.book) s (change_at j (by_history.after_switch true) s.streams)
  book-event (Stop j) s = book-unless (book_switch_answer false j s.book) s (change_at j (by_history.after_switch false) s.streams)
  book-event (SessionStart moment) s = refl
  book-event SessionStop s = refl
  book-event (RotateBegin moment) s = refl
  book-event RotateFinish s = refl

  -- after a list of events each stream has taken its own steps
  pub own-events : (i : ℕ) (es : List (Event A)) (s : SessionOf Traced)
      → slice_get (session_after_events by_history es s).streams i
      ≡ option_map (moved (own_steps i es s.book)) (slice_get s.streams i)
  own-events i [] s = none-moved (slice_get s.streams i)
  own-events i (e ∷ es) s =
      let first = if is_of i e then let_through e s.book else [] in
      own-events i es (session_after_event by_history e s)
      ∙ ap (λ (b : SessionBookState). option_map (moved (own_steps i es b))
      (slice_get (session_after_event by_history e s).streams i)) (book-event e s)
      ∙ ap (option_map (moved (own_steps i es (book_after_event e s.book)))) (own-event i e s)
      ∙ sym (moved-append first (own_steps i es (book_after_event e s.book)) (slice_get s.streams i))
