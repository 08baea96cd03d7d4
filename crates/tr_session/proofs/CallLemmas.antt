-- What each stream of a session is, after each call, by what the call answers.
use Rattle.std.proofs.Common.{◌≡◌, ◌≢◌, ◌∙◌, ℕ, ◌+◌, suc, Bool, true, false, not, cond, List, [], ◌∷◌, ◌++◌, length, map, ◌⊎◌, inl, inr, ⊎_elim, Option, Some, None, Result, Ok, Err, ap, refl, sym, subst, arith, length-append}
use Rattle.std.specs.List.{position_or_len}
use Rattle.std.specs.Map.{lookup}
use Rattle.std.specs.Prelude.{OnErr, OnOk, if◌then◌else◌, is_some, nat_le, nat_lt, position, slice_get}
use Rattle.std.specs.Str.{bytes_eq}
use Rattle.tr_session.proofs.StreamLemmas.{IsSameFor, after-one, begun-same, found-pushed, kept-pushed, last-pushed, offer-keeps, other-book, take-keeps, unchanged}
use Rattle.tr_events.specs.Events.{Declarations}
use Rattle.tr_session.specs.Session.{HasItsStreams, session_of}
use Rattle.tr_session.specs.Steps.{change_at}
use Rattle.tr_session.specs.declared.faults.StepFault.TheVariants as step
use Rattle.tr_session.specs.declared.faults.StepFault.{StepFault}
use Rattle.tr_session_book.specs.Book.{SessionBookState}
use Rattle.tr_session_book.specs.BookSteps.{book_after_rotate_begin, channel_of_geometry, book_add_channel, book_declare, channel_named, is_allowed, is_new, with_thread_at, place_free, book_add_thread, thread_place, with_channel, with_thread}
use Rattle.tr_session_book.specs.declared.channel.Channel.{Channel}
use Rattle.tr_session_book.specs.declared.faults.SessionFault.TheVariants.{AlreadyStarted, DiscardInSnapshot, NameTaken, TooMany}
use Rattle.tr_session_book.specs.declared.faults.SessionFault.{SessionFault}
use Rattle.tr_stream.specs.State.{StreamState}
use Rattle.tr_stream.specs.StateSteps.{new_state, state_after_offer, state_after_take}
use Rattle.tr_stream.specs.declared.answers.TakeFault.TheVariants as take_fault
use Rattle.tr_stream.specs.declared.answers.Taken.{Taken}
use Rattle.tr_terms.specs.Geometry.{GeometryState, geometry_of}
use Rattle.tr_terms.specs.declared.geometry.GeometryFault.{GeometryFault}
use Rattle.tr_terms.specs.declared.limits.TheConstants.{MOST_CHANNELS, MOST_STREAMS}
use Rattle.tr_terms.specs.declared.mode.Mode.{Mode}

-- ---- channels and threads

pub no-streams : (b : SessionBookState) → b.threads ≡ [] → HasItsStreams (session_of b [])
no-streams b none = record { as_many = sym (ap length none); are = λ i t at. absurd cc }

with_channel-same : (name : List ℕ) (channel : Channel) (b : SessionBookState) → IsSameFor b (with_channel name channel b)
with_channel-same name channel b =
    record {
      uuid = refl;
      mode = refl;
      threads = refl;
      channels = λ place other at. kept-pushed b.channels (name, channel) place other at;
      closed = λ i within. refl;
    }

-- a channel that was added
pub channel-same : (name : List ℕ) (size count : ℕ) (mode : Mode) (b c : SessionBookState)
    → book_add_channel name size count mode b ≡ Ok c → IsSameFor b c
channel-same name size count mode b c is = fresh (is_new b.state) is
  where
    allowed : (g : GeometryState) (t : Bool)
        → (if t then Ok (with_channel name (record { geometry = g; mode = mode }) b) else Err DiscardInSnapshot) ≡ Ok c
        → IsSameFor b c
    allowed g true e = let same : with_channel name (record { geometry = g; mode = mode }) b ≡ c =
        cc in subst (λ (d : SessionBookState). IsSameFor b d) same
        (with_channel-same name (record { geometry = g; mode = mode }) b)
    allowed g false e = absurd cc

    made : (r : Result GeometryState GeometryFault) → channel_of_geometry name mode r b ≡ Ok c → IsSameFor b c
    made (Ok g) e = allowed g (is_allowed b.mode mode) e
    made (Err fault) e = absurd cc

    few : (t : Bool) → (if t then Err TooMany else channel_of_geometry name mode (geometry_of size count) b) ≡ Ok c → IsSameFor b c
    few true e = absurd cc
    few false e = made (geometry_of size count) e

    free : (t : Bool) → (if t then Err NameTaken else (if nat_le MOST_CHANNELS (length b.channels) then Err TooMany
        else channel_of_geometry name mode (geometry_of size count) b)) ≡ Ok c → IsSameFor b c
    free true e = absurd cc
    free false e = few (nat_le MOST_CHANNELS (length b.channels)) e

    fresh : (t : Bool) → (if t then (if is_some (channel_named name b) then Err NameTaken
        else (if nat_le MOST_CHANNELS (length b.channels) then Err TooMany
        else channel_of_geometry name mode (geometry_of size count) b)) else Err AlreadyStarted) ≡ Ok c → IsSameFor b c
    fresh true e = free (is_some (channel_named name b)) e
    fresh false e = absurd cc

-- events that were declared
declared-same : (events : Declarations) (b c : SessionBookState) → book_declare events b ≡ Ok c → IsSameFor b c
declared-same events b c is = fresh (is_new b.state) is
  where
    now : SessionBookState
    now = record b { events = events }

    fresh : (t : Bool) → (if t then Ok now else Err AlreadyStarted) ≡ Ok c → IsSameFor b c
    fresh true e = let same : now ≡ c = cc in subst (λ (d : SessionBookState). IsSameFor b d) same
        (record { uuid = refl; mode = refl; threads = refl; channels = λ place other at. at; closed = λ i within. refl })
    fresh false e = absurd cc

pub declare-step : {R : Type 0} (r : Result R SessionFault) (events : Declarations) (b c : SessionBookState)
    → OnOk r (book_declare events b ≡ Ok c) → OnErr r (c ≡ b) → IsSameFor b c
declare-step (Ok done) events b c ok err = declared-same events b c ok
declare-step (Err fault) events b c ok err = subst (λ (d : SessionBookState). IsSameFor b d) (sym err) (unchanged b)

-- the first entry whose key passes is at the first place where a key passes
located-next : {K X : Type 0} (e : K × X) (es : List (K × X)) (x : X) (rest : ℕ) (found : Option X) (t : Bool)
    → (found ≡ Some x → (key : K) × (slice_get es rest ≡ Some (key, x))) → cond t (Some e.1) found ≡ Some x
    → (key : K) × (slice_get (e ∷ es) (cond (not t) (1 + rest) 0) ≡ Some (key, x))
located-next {K} {X} e es x rest found true later is = let same : e.1 ≡ x =
    cc in (e.0, ap (λ (y : X). (let o : Option (K × X) = Some (e.0, y) in o)) same)
located-next e es x rest found false later is =
    let after = later is in
    let next : 1 + rest ≡ suc rest = omega arith in
    (after.0, ap (λ (n : ℕ). slice_get (e ∷ es) n) next ∙ after.1)

located : {K X : Type 0} (p : K → Bool) (es : List (K × X)) (x : X) → lookup p es ≡ Some x
    → (key : K) × (slice_get es (position_or_len p (map (λ (e : K × X). e.0) es)) ≡ Some (key, x))
located p [] x found = absurd cc
located {K} {X} p (e ∷ es) x found =
    located-next e es x (position_or_len p (map (λ (e : K × X). e.0) es)) (lookup p es) (p e.0) (located p es x) found

-- a thread that is noted has a place
noted_is : (r : Result ℕ SessionFault) (b c : SessionBookState) → with_thread_at r b ≡ Ok c → (place : ℕ) × (r ≡ Ok place) × (c ≡ with_thread place b)
noted_is (Ok place) b c is = let same : with_thread place b ≡ c = cc in (place, refl, sym same)
noted_is (Err fault) b c is = absurd cc

pub noted-is : (name : List ℕ) (b c : SessionBookState) → book_add_thread name b ≡ Ok c
    → (place : ℕ) × (thread_place name b ≡ Ok place) × (c ≡ with_thread place b)
noted-is name b c is = noted_is (thread_place name b) b c is

-- and there is its channel
place-has : (name : List ℕ) (b : SessionBookState) (place : ℕ) (channel : Channel) → thread_place name b ≡ Ok place
    → channel_named name b ≡ Some channel → (key : List ℕ) × (slice_get b.channels place ≡ Some (key, channel))
place-has name b place channel placed named = fresh (is_new b.state) placed
  where
    names : List (List ℕ)
    names = map (λ (c : List ℕ × Channel). c.0) b.channels

    at : ℕ
    at = position_or_len (bytes_eq name) names

    there : at ≡ place → (key : List ℕ) × (slice_get b.channels place ≡ Some (key, channel))
    there same = let found = located (bytes_eq name) b.channels channel named
        in (found.0, ap (λ (n : ℕ). slice_get b.channels n) (sym same) ∙ found.1)

    few : (t : Bool) → (if t then Err TooMany else (let r : Result ℕ SessionFault = Ok at in r)) ≡ Ok place → at ≡ place
    few true e = absurd cc
    few false e = cc

    found : (t : Bool) → place_free (cond t (Some at) None) b ≡ Ok place → (key : List ℕ) × (slice_get b.channels place ≡ Some (key, channel))
    found true e = there (few (nat_le MOST_STREAMS (length b.threads)) e)
    found false e = absurd cc

    fresh : (t : Bool) → (if t then place_free (position (bytes_eq name) names) b else Err AlreadyStarted) ≡ Ok place
        → (key : List ℕ) × (slice_get b.channels place ≡ Some (key, channel))
    fresh true e = found (nat_lt at (length names)) e
    fresh false e = absurd cc

-- one more stream, before the first start
pub one-more : (b c : SessionBookState) (ts us : List StreamState) (name : List ℕ) (channel : Channel) (t : StreamState)
    → HasItsStreams (record { book = b; streams = ts }) → b.pending ≡ None → b.archives ≡ []
    → channel_named name b ≡ Some channel → book_add_thread name b ≡ Ok c
    → t ≡ new_state (record {
      uuid = b.uuid;
      number = length ts;
      geometry = channel.geometry;
      mode = channel.mode;
      session = b.mode;
    }) → us ≡ ts ++ t ∷ []
    → HasItsStreams (record { book = c; streams = us })
one-more b c ts us name channel t is calm bare named noted made pushed =
    let kept = noted-is name b c noted in
    let where_it_is = place-has name b kept.0 channel kept.1 named in
    let more : HasItsStreams (record { book = with_thread kept.0 b; streams = ts ++ t ∷ [] }) = record {
      as_many = length-append ts (t ∷ []) ∙ ap (λ (n : ℕ). n + 1) is.as_many ∙ sym (length-append b.threads (kept.0 ∷ []));
      are = λ i u at.
          ⊎_elim
          (λ (old : slice_get ts i ≡ Some u).
          let of = is.are i u old in
          record {
            place = of.place;
            channel = of.channel;
            has_place = kept-pushed b.threads kept.0 i of.place of.has_place;
            has_channel = of.has_channel;
            config = of.config;
            closed = of.closed;
            known = of.known;
          })
          (λ (new : (i ≡ length ts) × (u ≡ t)).
          let number : length ts ≡ i = sym new.0 in
          let same : u ≡ new_state (record {
            uuid = b.uuid;
            number = i;
            geometry = channel.geometry;
            mode = channel.mode;
            session = b.mode;
          }) =
          new.1 ∙ subst (λ (n : ℕ). t ≡ new_state (record {
            uuid = b.uuid;
            number = n;
            geometry = channel.geometry;
            mode = channel.mode;
            session = b.mode;
          })) number made in
          record {
            place = kept.0;
            channel = (where_it_is.0, channel);
            has_place = ap (λ (n : ℕ). slice_get (b.threads ++ kept.0 ∷ []) n) (new.0 ∙ is.as_many) ∙ last-pushed b.threads kept.0;
            has_channel = where_it_is.1;
            config = ap (λ (v : StreamState). v.config) same;
            closed = ap (λ (v : StreamState). length v.parts.closed) same ∙ rw (calm, bare) refl;
            known = ap (λ (v : StreamState). v.parts.forgotten) same;
          })
          (found-pushed ts t i u at);
    } in
    rw (kept.2, pushed) more

-- ---- calls, whose answer says what was done

-- the same book and streams
pub same-session : (b c : SessionBookState) (ts us : List StreamState) → c ≡ b → us ≡ ts
    → HasItsStreams (record { book = b; streams = ts }) → HasItsStreams (record { book = c; streams = us })
same-session b c ts us book streams is = rw (book, streams) is

pub channel-step : {R : Type 0} (r : Result R SessionFault) (name : List ℕ) (size count : ℕ) (mode : Mode)
    (b c : SessionBookState) → OnOk r (book_add_channel name size count mode b ≡ Ok c) → OnErr r (c ≡ b) → IsSameFor b c
channel-step (Ok done) name size count mode b c ok err = channel-same name size count mode b c ok
channel-step (Err fault) name size count mode b c ok err = subst (λ (d : SessionBookState). IsSameFor b d) (sym err) (unchanged b)

pub offer-step : (b : SessionBookState) (ts us : List StreamState) (i moment id : ℕ) (payload : List ℕ)
    → us ≡ change_at i (state_after_offer moment id payload) ts
    → HasItsStreams (record { book = b; streams = ts }) → HasItsStreams (record { book = b; streams = us })
offer-step b ts us i moment id payload done is =
    same-session b b (change_at i (state_after_offer moment id payload) ts) us refl done
    (after-one b ts i (state_after_offer moment id payload) (offer-keeps moment id payload) is)

take-wants : (r : Result Taken StepFault) → (r ≡ Err (step.Take take_fault.NoMemory)) ⊎ (r ≢ Err (step.Take take_fault.NoMemory))
take-wants (Ok taken) = inr (λ e. cc)
take-wants (Err (step.Session fault)) = inr (λ e. cc)
take-wants (Err (step.Offer fault)) = inr (λ e. cc)
take-wants (Err (step.Take take_fault.Nothing)) = inr (λ e. cc)
take-wants (Err (step.Take take_fault.SnapshotMode)) = inr (λ e. cc)
take-wants (Err (step.Take take_fault.Misplaced)) = inr (λ e. cc)
take-wants (Err (step.Take take_fault.NoMemory)) = inl refl
take-wants (Err (step.Cut fault)) = inr (λ e. cc)

pub take-step : {D : Type 0} (r : Result Taken StepFault) (b : SessionBookState) (ts us : List StreamState) (i : ℕ)
    → (r ≢ Err (step.Take take_fault.NoMemory) → D × (us ≡ change_at i state_after_take ts)) → (r ≡ Err (step.Take take_fault.NoMemory) → us ≡ ts)
    → HasItsStreams (record { book = b; streams = ts }) → HasItsStreams (record { book = b; streams = us })
take-step {D} r b ts us i done memory is =
    ⊎_elim
    (λ (wants : r ≡ Err (step.Take take_fault.NoMemory)). same-session b b ts us refl (memory wants) is)
    (λ (other : r ≢ Err (step.Take take_fault.NoMemory)). same-session b b (change_at i state_after_take ts) us refl
    (done other).1 (after-one b ts i state_after_take take-keeps is))
    (take-wants r)

-- a result is a failed allocation, or isn't
pub wants-memory : {R : Type 0} (r : Result R SessionFault) → (r ≡ Err SessionFault.NoMemory) ⊎ (r ≢ Err SessionFault.NoMemory)
wants-memory (Ok id) = inr (λ e. cc)
wants-memory (Err SessionFault.NoMemory) = inl refl
wants-memory (Err SessionFault.SnapshotMode) = inr (λ e. cc)
wants-memory (Err SessionFault.NotSnapshotMode) = inr (λ e. cc)
wants-memory (Err SessionFault.NeverStarted) = inr (λ e. cc)
wants-memory (Err SessionFault.RotationPending) = inr (λ e. cc)
wants-memory (Err SessionFault.AlreadyRotated) = inr (λ e. cc)
wants-memory (Err SessionFault.AlreadyActive) = inr (λ e. cc)
wants-memory (Err SessionFault.NotActive) = inr (λ e. cc)
wants-memory (Err SessionFault.NoStream) = inr (λ e. cc)
wants-memory (Err SessionFault.DiscardInSnapshot) = inr (λ e. cc)
wants-memory (Err SessionFault.AlreadyStarted) = inr (λ e. cc)
wants-memory (Err SessionFault.BadGeometry) = inr (λ e. cc)
wants-memory (Err SessionFault.TooMany) = inr (λ e. cc)
wants-memory (Err SessionFault.NotPending) = inr (λ e. cc)
wants-memory (Err SessionFault.CutMissing) = inr (λ e. cc)
wants-memory (Err SessionFault.NameTaken) = inr (λ e. cc)
wants-memory (Err SessionFault.NoChannel) = inr (λ e. cc)
wants-memory (Err SessionFault.NoArchive) = inr (λ e. cc)
wants-memory (Err SessionFault.Released) = inr (λ e. cc)
wants-memory (Err SessionFault.Misplaced) = inr (λ e. cc)

pub begin-step : {D : Type 0} (r : Result ℕ SessionFault) (moment : ℕ) (b c : SessionBookState)
    → (r ≢ Err SessionFault.NoMemory → D × (c ≡ book_after_rotate_begin moment b)) → (r ≡ Err SessionFault.NoMemory → c ≡ b)
    → IsSameFor b c
begin-step {D} r moment b c done memory =
    ⊎_elim
    (λ (wants : r ≡ Err SessionFault.NoMemory). subst (λ (d : SessionBookState). IsSameFor b d) (sym (memory wants)) (unchanged b))
    (λ (other : r ≢ Err SessionFault.NoMemory). subst (λ (d : SessionBookState). IsSameFor b d) (sym (done other).1) (begun-same moment b))
    (wants-memory r)

-- another book, which a step of this one made
pub stepped : (b c made : SessionBookState) (ts us : List StreamState) → c ≡ made → IsSameFor b made
    → HasItsStreams (record { book = b; streams = ts }) → us ≡ ts → HasItsStreams (record { book = c; streams = us })
stepped b c made ts us is same has streams = same-session made c ts us is streams (other-book b made ts same has)
