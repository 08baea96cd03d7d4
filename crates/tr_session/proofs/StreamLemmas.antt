-- What each stream of a session is, after each step.
use Rattle.std.proofs.Common.{◌≡◌, ◌≢◌, ◌∙◌, ℕ, ◌+◌, ◌≤◌, ◌<◌, zero, suc, Bool, true, false, List, [], ◌∷◌, ◌++◌, length, map, ◌⊎◌, inl, inr, ⊎_elim, Option, Some, None, Result, Ok, Err, ap, refl, sym, subst, arith, length-append}
use Rattle.std.proofs.lemmas.Bool.Decides.{nat_tests}
use Rattle.std.proofs.lemmas.List.{length-map}
use Rattle.std.proofs.lemmas.Option.{same_Some, slice_get_within}
use Rattle.std.specs.Borrow.{Bor}
use Rattle.std.specs.Prelude.{IfSome, if◌then◌else◌, nat_lt, option_copied, slice_get}
use Rattle.tr_book.proofs.ChangeLemmas.{length-changed_at}
use Rattle.tr_session.specs.Session.{SessionOf, IsStreamOf, HasItsStreams}
use Rattle.tr_session.specs.Steps.{change_at}
use Rattle.tr_session_book.specs.Book.{SessionBookState}
use Rattle.tr_session_book.specs.BookSteps.{with_archive, book_after_rotate_begin, book_after_rotate_finish, book_after_snapshot_begin, book_after_schedule, book_after_start, book_after_stop, chunks_closed, cut_in, cut_moment, archive_if_cut, is_new, local_rotation, book_rotate_begin_answer, with_pending, book_schedule_answer, snapshot_allowed, book_start_answer, with_start, book_stop_answer, with_stop, unless_refused, with_cut}
use Rattle.tr_session_book.specs.declared.archive.Archive.{Archive}
use Rattle.tr_session_book.specs.declared.archive.Pending.{Pending}
use Rattle.tr_session_book.specs.declared.channel.Channel.{Channel}
use Rattle.tr_session_book.specs.declared.faults.SessionFault.{SessionFault}
use Rattle.tr_session_book.specs.declared.faults.SessionFault.TheVariants.{CutMissing, NeverStarted, NoStream, NotPending, RotationPending, SnapshotMode}
use Rattle.tr_schedule.specs.Schedules.{ScheduleState}
use Rattle.tr_ring.specs.ClosedBuffer.{ClosedBuffer}
use Rattle.tr_stream.specs.State.{StreamState}
use Rattle.tr_stream.specs.StateSteps.{state_entry, move_oldest, refusal_of, state_after_clear, state_clear_ring, state_after_cut, state_after_offer, state_after_take, state_after_switch, state_unless, state_after_release, release_part_unless, state_release_refusal}
use Rattle.tr_stream.specs.declared.answers.OfferFault.{OfferFault}
use Rattle.tr_terms.specs.declared.session_mode.SessionMode.{SessionMode}
use Rattle.tr_terms.specs.declared.session_mode.SessionMode.TheVariants.{Local, Snapshot}
use Rattle.tr_stream.specs.declared.config.StreamConfig.{StreamConfig}
use Rattle.tr_terms.specs.SessionModes.{by_session_mode}
use Rattle.tr_stream.specs.declared.answers.ReleaseFault.{ReleaseFault}
use Rattle.tr_book.specs.Parts.{release}

-- ---- streams

-- a step of a stream that leaves what it was made with, its closed parts, and how many of them are forgotten
abbrev pub Keeps : (StreamState → StreamState) → Type 0
Keeps f = (t : StreamState) → ((f t).config ≡ t.config) × (length (f t).parts.closed ≡ length t.parts.closed)
    × ((f t).parts.forgotten ≡ t.parts.forgotten)

pub offer-keeps : (moment id : ℕ) (payload : List ℕ) → Keeps (state_after_offer moment id payload)
offer-keeps moment id payload t = go (refusal_of (length payload) t)
  where
    go : (o : Option OfferFault)
        → ((state_unless o (state_entry moment id payload t) t).config ≡ t.config)
        × (length (state_unless o (state_entry moment id payload t) t).parts.closed ≡ length t.parts.closed)
        × ((state_unless o (state_entry moment id payload t) t).parts.forgotten ≡ t.parts.forgotten)
    go None = (refl, refl, refl)
    go (Some fault) = (refl, refl, refl)

pub take-keeps : Keeps state_after_take
take-keeps t = go t.config.session t.ring.waiting
  where
    go : (m : SessionMode) (bs : List ClosedBuffer)
        → ((by_session_mode m (move_oldest bs t) t).config ≡ t.config)
        × (length (by_session_mode m (move_oldest bs t) t).parts.closed ≡ length t.parts.closed)
        × ((by_session_mode m (move_oldest bs t) t).parts.forgotten ≡ t.parts.forgotten)
    go Local [] = (refl, refl, refl)
    go Local (b ∷ bs) = (refl, refl, refl)
    go Snapshot bs = (refl, refl, refl)

pub clear-keeps : Keeps state_after_clear
clear-keeps t = go t.config.session
  where
    go : (m : SessionMode) → ((by_session_mode m (state_clear_ring t) t).config ≡ t.config)
        × (length (by_session_mode m (state_clear_ring t) t).parts.closed ≡ length t.parts.closed)
        × ((by_session_mode m (state_clear_ring t) t).parts.forgotten ≡ t.parts.forgotten)
    go Local = (refl, refl, refl)
    go Snapshot = (refl, refl, refl)

pub release-keeps : (k : ℕ) → Keeps (state_after_release k)
release-keeps k t = go (state_release_refusal k t)
  where
    go : (refusal : Option ReleaseFault) → ((release_part_unless refusal k t).config ≡ t.config)
        × (length (release_part_unless refusal k t).parts.closed ≡ length t.parts.closed)
        × ((release_part_unless refusal k t).parts.forgotten ≡ t.parts.forgotten)
    go (Some fault) = (refl, refl, refl)
    go None = (refl, length-changed_at release k t.parts.closed, refl)

pub switch-keeps : (active : Bool) → Keeps (state_after_switch active)
switch-keeps active t = (refl, refl, refl)

-- a cut of a stream of a local session closes one part
pub cut-closes : (moment : ℕ) (t : StreamState) → t.config.session ≡ Local
    → ((state_after_cut moment t).config ≡ t.config)
    × (length (state_after_cut moment t).parts.closed ≡ length t.parts.closed + 1)
    × ((state_after_cut moment t).parts.forgotten ≡ t.parts.forgotten)
cut-closes moment t local = rw local (refl, length-append t.parts.closed (_ ∷ []), refl)

same-stream : (b : SessionBookState) (i : ℕ) (t u : StreamState) → u.config ≡ t.config
    → length u.parts.closed ≡ length t.parts.closed → u.parts.forgotten ≡ t.parts.forgotten → IsStreamOf b i t → IsStreamOf b i u
same-stream b i t u config closed forgotten is = record {
  place = is.place;
  channel = is.channel;
  has_place = is.has_place;
  has_channel = is.has_channel;
  config = config ∙ is.config;
  closed = closed ∙ is.closed;
  known = forgotten ∙ is.known;
}

module _ {X : Type 0} where
  -- what is in a list after one element was changed
  pub found-changed : (f : X → X) (j : ℕ) (xs : List X) (i : ℕ) (y : X) → slice_get (change_at j f xs) i ≡ Some y
      → (x : X) × (slice_get xs i ≡ Some x) × (((i ≢ j) × (y ≡ x)) ⊎ ((i ≡ j) × (y ≡ f x)))
  found-changed f j [] i y at = absurd cc
  found-changed f zero (x ∷ xs) zero y at = (x, refl, inr (refl, sym (same_Some (f x) y at)))
  found-changed f zero (x ∷ xs) (suc i) y at = (y, at, inl ((λ e. omega (arith, e)), refl))
  found-changed f (suc j) (x ∷ xs) zero y at = (x, refl, inl ((λ e. omega (arith, e)), sym (same_Some x y at)))
  found-changed f (suc j) (x ∷ xs) (suc i) y at =
      let found = found-changed f j xs i y at in
      (found.0, found.1, ⊎_elim (λ same. inl ((λ e. same.0 (omega (arith, e))), same.1)) (λ did. inr (ap suc did.0, did.1)) found.2)

  found-mapped : (f : X → X) (xs : List X) (i : ℕ) (y : X) → slice_get (map f xs) i ≡ Some y → (x : X) × (slice_get xs i ≡ Some x) × (y ≡ f x)
  found-mapped f [] i y at = absurd cc
  found-mapped f (x ∷ xs) zero y at = (x, refl, sym (same_Some (f x) y at))
  found-mapped f (x ∷ xs) (suc i) y at = found-mapped f xs i y at

  -- what is in a list after one element was appended
  pub found-pushed : (xs : List X) (x : X) (i : ℕ) (y : X) → slice_get (xs ++ x ∷ []) i ≡ Some y
      → (slice_get xs i ≡ Some y) ⊎ ((i ≡ length xs) × (y ≡ x))
  found-pushed [] x zero y at = inr (refl, sym (same_Some x y at))
  found-pushed [] x (suc i) y at = absurd cc
  found-pushed (z ∷ xs) x zero y at = inl at
  found-pushed (z ∷ xs) x (suc i) y at = ⊎_elim inl (λ did. inr (ap suc did.0, did.1)) (found-pushed xs x i y at)

  pub kept-pushed : (xs : List X) (x : X) (i : ℕ) (y : X) → slice_get xs i ≡ Some y → slice_get (xs ++ x ∷ []) i ≡ Some y
  kept-pushed [] x i y at = absurd cc
  kept-pushed (z ∷ xs) x zero y at = at
  kept-pushed (z ∷ xs) x (suc i) y at = kept-pushed xs x i y at

  pub last-pushed : (xs : List X) (x : X) → slice_get (xs ++ x ∷ []) (length xs) ≡ Some x
  last-pushed [] x = refl
  last-pushed (z ∷ xs) x = last-pushed xs x

-- a step of one stream
pub after-one : (b : SessionBookState) (ts : List StreamState) (j : ℕ) (f : StreamState → StreamState) → Keeps f
    → HasItsStreams (record { book = b; streams = ts }) → HasItsStreams (record { book = b; streams = change_at j f ts })
after-one b ts j f keeps is = record {
  as_many = length-changed_at f j ts ∙ is.as_many;
  are = λ i u at.
      let found = found-changed f j ts i u at in
      let old : IsStreamOf b i found.0 = is.are i found.0 found.1 in
      ⊎_elim
      (λ (same : (i ≢ j) × (u ≡ found.0)). subst (λ (v : StreamState). IsStreamOf b i v) (sym same.1) old)
      (λ (did : (i ≡ j) × (u ≡ f found.0)). subst (λ (v : StreamState). IsStreamOf b i v) (sym did.1)
      (same-stream b i found.0 (f found.0) (keeps found.0).0 (keeps found.0).1 (keeps found.0).2 old))
      found.2;
}

-- a step of each stream
pub after-each : (b : SessionBookState) (ts : List StreamState) (f : StreamState → StreamState) → Keeps f
    → HasItsStreams (record { book = b; streams = ts }) → HasItsStreams (record { book = b; streams = map f ts })
after-each b ts f keeps is = record {
  as_many = length-map ts f ∙ is.as_many;
  are = λ i u at.
      let found = found-mapped f ts i u at in
      subst (λ (v : StreamState). IsStreamOf b i v) (sym found.2)
      (same-stream b i found.0 (f found.0) (keeps found.0).0 (keeps found.0).1 (keeps found.0).2 (is.are i found.0 found.1));
}

-- ---- books

-- another book, of the same session, for the streams of this one
pub record IsSameFor (b c : SessionBookState) : Type 0 where
  pub uuid : c.uuid ≡ b.uuid
  pub mode : c.mode ≡ b.mode
  pub threads : c.threads ≡ b.threads
  pub channels : (place : ℕ) (channel : List ℕ × Channel) → slice_get b.channels place ≡ Some channel → slice_get c.channels place ≡ Some channel
  pub closed : (i : ℕ) → i < length b.threads → chunks_closed i c ≡ chunks_closed i b

pub other-book : (b c : SessionBookState) (ts : List StreamState) → IsSameFor b c
    → HasItsStreams (record { book = b; streams = ts }) → HasItsStreams (record { book = c; streams = ts })
other-book b c ts same is = record {
  as_many = is.as_many ∙ ap length (sym same.threads);
  are = λ i t at.
      let of = is.are i t at in
      let within : i < length b.threads = subst (λ (n : ℕ). i < n) is.as_many (slice_get_within ts i t at) in
      let uuid = same.uuid in
      let mode = same.mode in
      let made : (let k : StreamConfig =
      record { uuid = b.uuid; number = i; geometry = of.channel.1.geometry; mode = of.channel.1.mode; session = b.mode }
      in k) ≡ record {
        uuid = c.uuid;
        number = i;
        geometry = of.channel.1.geometry;
        mode = of.channel.1.mode;
        session = c.mode;
      } = cc in
      record {
        place = of.place;
        channel = of.channel;
        has_place = ap (λ (ps : List ℕ). slice_get ps i) same.threads ∙ of.has_place;
        has_channel = same.channels of.place of.channel of.has_channel;
        config = of.config ∙ made;
        closed = of.closed ∙ sym (same.closed i within);
        known = of.known;
      };
}

pub unchanged : (b : SessionBookState) → IsSameFor b b
unchanged b = record { uuid = refl; mode = refl; threads = refl; channels = λ place channel at. at; closed = λ i within. refl }

-- a step that may be refused
unless-same : {R : Type 0} (r : Result R SessionFault) (b c : SessionBookState) → IsSameFor b c → IsSameFor b (unless_refused r c b)
unless-same (Ok done) b c same = same
unless-same (Err fault) b c same = unchanged b

pub started-same : (moment : ℕ) (b : SessionBookState) → IsSameFor b (book_after_start moment b)
started-same moment b = unless-same (book_start_answer b) b (with_start moment b)
    (record { uuid = refl; mode = refl; threads = refl; channels = λ place channel at. at; closed = λ i within. refl })

pub stopped-same : (b : SessionBookState) → IsSameFor b (book_after_stop b)
stopped-same b = unless-same (book_stop_answer b) b (with_stop b)
    (record { uuid = refl; mode = refl; threads = refl; channels = λ place channel at. at; closed = λ i within. refl })

pub snapshot-same : (moment : ℕ) (b : SessionBookState) → IsSameFor b (book_after_snapshot_begin moment b)
snapshot-same moment b = unless-same (snapshot_allowed b) b _
    (record { uuid = refl; mode = refl; threads = refl; channels = λ place channel at. at; closed = λ i within. refl })

pub schedule-same : (schedule : Option ScheduleState) (b : SessionBookState) → IsSameFor b (book_after_schedule schedule b)
schedule-same schedule b = unless-same (book_schedule_answer b) b _
    (record { uuid = refl; mode = refl; threads = refl; channels = λ place channel at. at; closed = λ i within. refl })

-- ---- rotations

none-cut : (i : ℕ) → nat_lt i 0 ≡ false
none-cut i = grind (arith, nat_tests)

-- while a rotation is pending another one is refused
pending-refuses : (b : SessionBookState) (p : Pending) → b.pending ≡ Some p → (fault : SessionFault) × (book_rotate_begin_answer b ≡ Err fault)
pending-refuses b p pending = go b.mode
  where
    either : (n : Bool) → (fault : SessionFault) × ((if n then Err NeverStarted
        else (let r : Result ℕ SessionFault = Err RotationPending in r)) ≡ Err fault)
    either true = (NeverStarted, refl)
    either false = (RotationPending, refl)

    local : local_rotation b ≡ (if is_new b.state then Err NeverStarted else Err RotationPending)
    local = rw pending refl

    go : (m : SessionMode) → (fault : SessionFault) × (by_session_mode m (local_rotation b) (Err SnapshotMode) ≡ Err fault)
    go Local = let one = either (is_new b.state) in (one.0, local ∙ one.1)
    go Snapshot = (SnapshotMode, refl)

pub begun-same : (moment : ℕ) (b : SessionBookState) → IsSameFor b (book_after_rotate_begin moment b)
begun-same moment b = go b.pending refl
  where
    go : (o : Option Pending) → b.pending ≡ o → IsSameFor b (book_after_rotate_begin moment b)
    go None none = unless-same (book_rotate_begin_answer b) b (with_pending moment b) (record {
      uuid = refl;
      mode = refl;
      threads = refl;
      channels = λ place channel at. at;
      closed = λ i within. let first = none-cut i in rw (none, first) refl;
    })
    go (Some p) some =
        let one = pending-refuses b p some in
        subst (λ (r : Result ℕ SessionFault). IsSameFor b (unless_refused r (with_pending moment b) b)) (sym one.1) (unchanged b)

pub finished-same : (b : SessionBookState) → IsSameFor b (book_after_rotate_finish b)
finished-same b = go b.pending refl
  where
    go : (o : Option Pending) → b.pending ≡ o → IsSameFor b (book_after_rotate_finish b)
    go None none = subst (λ (r : Result Archive SessionFault). IsSameFor b (with_archive r b))
        (sym (ap (archive_if_cut (length b.threads)) none)) (unchanged b)
    go (Some p) some = subst (λ (r : Result Archive SessionFault). IsSameFor b (with_archive r b))
        (sym (ap (archive_if_cut (length b.threads)) some)) (ends (nat_lt p.cut (length b.threads)) refl)
      where
        ends : (left : Bool) → nat_lt p.cut (length b.threads) ≡ left → IsSameFor b (with_archive (if left then Err CutMissing else Ok p.archive) b)
        ends true is = unchanged b
        ends false is = record {
          uuid = refl;
          mode = refl;
          threads = refl;
          channels = λ place channel at. at;
          closed = λ i within.
              let cut : nat_lt i p.cut ≡ true = grind (arith, nat_tests, is, within) in
              rw (some, cut) (omega (arith, length-append b.archives (p.archive ∷ [])));
        }

-- a cut that is due is of the stream that the pending rotation cuts next
pub due-next : (i moment : ℕ) (b : SessionBookState) → cut_moment i b ≡ Ok moment → (p : Pending) × (b.pending ≡ Some p) × (p.cut ≡ i)
due-next i moment b due = go (nat_lt i (length b.threads)) due
  where
    at : (p : Pending) (past before : Bool) → nat_lt i p.cut ≡ past → nat_lt p.cut i ≡ before
        → (if past then Err NotPending else (if before then Err CutMissing else Ok p.archive.end)) ≡ Ok moment → p.cut ≡ i
    at p true before is was e = absurd cc
    at p false true is was e = absurd cc
    at p false false is was e = grind (arith, nat_tests, is, was)

    pending : (o : Option Pending) → b.pending ≡ o → cut_in i o ≡ Ok moment → (p : Pending) × (b.pending ≡ Some p) × (p.cut ≡ i)
    pending None is e = absurd cc
    pending (Some p) is e = (p, is, at p (nat_lt i p.cut) (nat_lt p.cut i) refl refl e)

    go : (t : Bool) → (if t then cut_in i b.pending else Err NoStream) ≡ Ok moment → (p : Pending) × (b.pending ≡ Some p) × (p.cut ≡ i)
    go true e = pending b.pending refl e
    go false e = absurd cc

-- a cut of the next stream
pub after-cut : (b : SessionBookState) (ts : List StreamState) (i end moment : ℕ) → cut_moment i b ≡ Ok end → b.mode ≡ Local
    → HasItsStreams (record { book = b; streams = ts })
    → HasItsStreams (record { book = with_cut b; streams = change_at i (state_after_cut moment) ts })
after-cut b ts i end moment due local is = record {
  as_many = length-changed_at (state_after_cut moment) i ts ∙ is.as_many;
  are = λ j u at.
      let found = found-changed (state_after_cut moment) i ts j u at in
      let old : IsStreamOf b j found.0 = is.are j found.0 found.1 in
      ⊎_elim
      (λ (same : (j ≢ i) × (u ≡ found.0)). subst (λ (v : StreamState). IsStreamOf (with_cut b) j v) (sym same.1) (other j found.0 same.0 old))
      (λ (did : (j ≡ i) × (u ≡ state_after_cut moment found.0)). subst (λ (v : StreamState). IsStreamOf (with_cut b) j v)
      (sym did.1) (this j found.0 did.0 old))
      found.2;
}
  where
    next : (p : Pending) × (b.pending ≡ Some p) × (p.cut ≡ i)
    next = due-next i end b due

    other : (j : ℕ) (t : StreamState) → j ≢ i → IsStreamOf b j t → IsStreamOf (with_cut b) j t
    other j t apart of =
        let pending = next.1 in
        let same : nat_lt j (next.0.cut + 1) ≡ nat_lt j next.0.cut = beside j next.0.cut (λ e. apart (e ∙ next.2)) in
        let count : chunks_closed j b ≡ chunks_closed j (with_cut b) =
        rw pending (sym (ap (λ (c : Bool). length b.archives + (if c then 1 else 0)) same)) in
        record {
          place = of.place;
          channel = of.channel;
          has_place = of.has_place;
          has_channel = of.has_channel;
          config = of.config;
          closed = of.closed ∙ count;
          known = of.known;
        }
      where
        beside : (j n : ℕ) → j ≢ n → nat_lt j (n + 1) ≡ nat_lt j n
        beside j n apart = go (nat_lt j n) refl
          where
            go : (c : Bool) → nat_lt j n ≡ c → nat_lt j (n + 1) ≡ c
            go true is = grind (arith, nat_tests, is)
            go false is = let ge : n ≤ j = grind (arith, nat_tests, is) in let gt : n + 1 ≤ j =
                omega (arith, ge, apart) in grind (arith, nat_tests, gt)

    this : (j : ℕ) (t : StreamState) → j ≡ i → IsStreamOf b j t → IsStreamOf (with_cut b) j (state_after_cut moment t)
    this j t here of =
        let session : t.config.session ≡ Local = ap (λ (k : StreamConfig). k.session) of.config ∙ local in
        let closes = cut-closes moment t session in
        let pending = next.1 in
        let was : nat_lt j next.0.cut ≡ false = grind (arith, nat_tests, here, next.2) in
        let now : nat_lt j (next.0.cut + 1) ≡ true = grind (arith, nat_tests, here, next.2) in
        let before : chunks_closed j b ≡ length b.archives + 0 = rw (pending, was) refl in
        let after : chunks_closed j (with_cut b) ≡ length b.archives + 1 = rw (pending, now) refl in
        record {
          place = of.place;
          channel = of.channel;
          has_place = of.has_place;
          has_channel = of.has_channel;
          config = closes.0 ∙ of.config;
          closed = omega (arith, closes.1, of.closed, before, after);
          known = closes.2 ∙ of.known;
        }

-- ---- reading a session

pub found-is : (s : SessionOf StreamState) (i : ℕ) (o : Option (Bor StreamState)) → HasItsStreams s
    → option_copied o ≡ slice_get s.streams i → IfSome o (λ t. IsStreamOf s.book i t.now)
found-is s i None is at = tt
found-is s i (Some t) is at = is.are i t.now (sym at)

-- the stream of a number has the session's mode
pub mode-at : (s : SessionOf StreamState) (i : ℕ) (t : StreamState) → HasItsStreams s → slice_get s.streams i ≡ Some t
    → t.config.session ≡ s.book.mode
mode-at s i t is at = ap (λ (k : StreamConfig). k.session) (is.are i t at).config
