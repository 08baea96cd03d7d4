-- A session whose archives have their parts put back.
use Rattle.std.proofs.Common.{◌≡◌, ◌∙◌, ◌<◌, ◌≤◌, ◌+◌, ℕ, zero, suc, Bool, false, cond, eqb, refl, sym, ap, subst, arith, List, [], ◌∷◌, ◌++◌, length, take, drop, Option, Some, slice_get, None}
use Rattle.std.proofs.lemmas.Bool.Decides.{nat_tests}
use Rattle.std.proofs.lemmas.List.{length-map}
use Rattle.std.proofs.lemmas.List.Sums.{sum_by-cons}
use Rattle.std.proofs.lemmas.Option.{slice_get_within}
use Rattle.std.specs.List.{AllByRecursion, sum_by}
use Rattle.std.specs.Option.{option_map_or}
use Rattle.std.specs.Prelude.{option_and_then}
use Rattle.tr_book.specs.Parts.{PartState, PartsState, part_at}
use Rattle.tr_recorded.proofs.LeafLemmas.{some-at}
use Rattle.tr_recorded.proofs.RestoredLemmas.{AreHeld, IsRestored, as-long, get-back, get-front, held-part, next-restored, restored-recorded}
use Rattle.tr_recorded.specs.Recorded.{HasItsArchives, archive_named, archives_named, recorded_of}
use Rattle.tr_recorded.specs.Written.{AreLaterStreams, stream_restored, streams_restored}
use Rattle.tr_session.specs.Session.{HasItsStreams, SessionOf}
use Rattle.tr_session.specs.Sizes.{archive_released, part_released}
use Rattle.tr_session_book.specs.BookSteps.{AreNumbered}
use Rattle.tr_session_book.specs.declared.archive.Archive.{Archive}
use Rattle.tr_stream.specs.Kept.{IsKept}
use Rattle.tr_stream.specs.Rules.{by_state}
use Rattle.tr_stream.specs.State.{StreamState}
use Rattle.tr_survey.specs.Whole.{AreRecorded}

-- ---- lists

pub all-at : {X : Type 0} (P : X → Type 0) (xs : List X) → ((j : ℕ) (x : X) → slice_get xs j ≡ Some x → P x) → AllByRecursion P xs
all-at P [] each = tt
all-at P (x ∷ xs) each = (each 0 x refl, all-at P xs (λ j y at. each (suc j) y at))

pub get-past : {X : Type 0} (xs ys : List X) (j : ℕ) → slice_get (xs ++ ys) (length xs + j) ≡ slice_get ys j
get-past [] ys j = let same : 0 + j ≡ j = omega arith in ap (slice_get ys) same
get-past (x ∷ xs) ys j =
    let next : suc (length xs) + j ≡ suc (length xs + j) = omega arith in
    ap (slice_get (x ∷ (xs ++ ys))) next ∙ get-past xs ys j

-- ---- parts by place

other-place : (j n : ℕ) → j < n → eqb j n ≡ false
other-place j n lt = grind (arith, nat_tests, lt)

pub closed-at : (ps : PartsState) (j : ℕ) → j < length ps.closed → part_at j ps ≡ slice_get ps.closed j
closed-at ps j lt = ap (λ (b : Bool). cond b (Some ps.current) (slice_get ps.closed j)) (other-place j (length ps.closed) lt)

module _ (k : ℕ) (u w : StreamState) (before : k ≤ length u.parts.closed) (now : k ≤ length w.parts.closed) where
  part-before : (j : ℕ) → j < k → part_at j (stream_restored k u w).parts ≡ part_at j u.parts
  part-before j lt =
      let long = as-long k u.parts.closed w.parts.closed before now in
      closed-at (stream_restored k u w).parts j (omega (arith, long, lt, now))
      ∙ get-front k u.parts.closed (drop k w.parts.closed) j lt before
      ∙ sym (closed-at u.parts j (omega (arith, lt, before)))

  part-now : (j : ℕ) → k ≤ j → part_at j (stream_restored k u w).parts ≡ part_at j w.parts
  part-now j past =
      ap (λ (n : ℕ). cond (eqb j n) (Some w.parts.current) (slice_get (take k u.parts.closed ++ drop k w.parts.closed) j))
      (as-long k u.parts.closed w.parts.closed before now)
      ∙ ap (λ (o : Option PartState). cond (eqb j (length w.parts.closed)) (Some w.parts.current) o)
      (get-back k u.parts.closed w.parts.closed j past before)

-- ---- streams

-- each stream is restored
abbrev pub AreRestored : ℕ → List StreamState → List StreamState → Type 0
AreRestored k [] [] = Unit {0}
AreRestored k [] (u ∷ us) = ⊥
AreRestored k (s ∷ ss) [] = ⊥
AreRestored k (s ∷ ss) (u ∷ us) = IsRestored k s u × AreRestored k ss us

pub as-many : (k : ℕ) (ss us : List StreamState) → AreRestored k ss us → length us ≡ length ss
as-many k [] [] are = refl
as-many k [] (u ∷ us) are = absurd are
as-many k (s ∷ ss) [] are = absurd are
as-many k (s ∷ ss) (u ∷ us) are = ap suc (as-many k ss us are.1)

pub restored-at : (k : ℕ) (ss us : List StreamState) → AreRestored k ss us → (i : ℕ) (u : StreamState) → slice_get us i ≡ Some u
    → (s : StreamState) × (slice_get ss i ≡ Some s) × IsRestored k s u
restored-at k [] [] are i u at = absurd cc
restored-at k [] (x ∷ us) are i u at = absurd are
restored-at k (s ∷ ss) [] are i u at = absurd are
restored-at k (s ∷ ss) (x ∷ us) are zero u at =
    let same : x ≡ u = cc in (s, refl, subst (IsRestored k s) same are.0)
restored-at k (s ∷ ss) (x ∷ us) are (suc i) u at = restored-at k ss us are.1 i u at

pub first-all : (k : ℕ) (ss : List StreamState) → ((i : ℕ) (s : StreamState) → slice_get ss i ≡ Some s → IsRestored k s s) → AreRestored k ss ss
first-all k [] each = tt
first-all k (s ∷ ss) each = (each 0 s refl, first-all k ss (λ i u at. each (suc i) u at))

-- what each of a later value's streams has
pub record IsNext (k n : ℕ) (w : StreamState) : Type 0 where
  pub kept : IsKept w
  pub within : n ≤ length w.parts.closed
  pub held : AreHeld k n w

pub next-all : (k n : ℕ) → k ≤ n → (ss us ws : List StreamState) → AreRestored k ss us → AreLaterStreams ss ws
    → ((i : ℕ) (w : StreamState) → slice_get ws i ≡ Some w → IsNext k n w) → AreRestored n ws (streams_restored k us ws)
next-all k n le [] [] [] are later each = tt
next-all k n le [] [] (w ∷ ws) are later each = absurd later
next-all k n le [] (u ∷ us) ws are later each = absurd are
next-all k n le (s ∷ ss) [] ws are later each = absurd are
next-all k n le (s ∷ ss) (u ∷ us) [] are later each = absurd later
next-all k n le (s ∷ ss) (u ∷ us) (w ∷ ws) are later each =
    let this = each 0 w refl in (
      next-restored k n s u w are.0 later.0 this.kept le this.within this.held,
      next-all k n le ss us ws are.1 later.1 (λ i x at. each (suc i) x at),
    )

-- streams that have so many parts
abbrev pub AreLong : ℕ → List StreamState → List StreamState → Type 0
AreLong k [] [] = Unit {0}
AreLong k [] (w ∷ ws) = ⊥
AreLong k (u ∷ us) [] = ⊥
AreLong k (u ∷ us) (w ∷ ws) = (k ≤ length u.parts.closed) × (k ≤ length w.parts.closed) × AreLong k us ws

pub all-long : (k n : ℕ) → k ≤ n → (ss us ws : List StreamState) → AreRestored k ss us → AreLaterStreams ss ws
    → ((i : ℕ) (w : StreamState) → slice_get ws i ≡ Some w → IsNext k n w) → AreLong k us ws
all-long k n le [] [] [] are later each = tt
all-long k n le [] [] (w ∷ ws) are later each = absurd later
all-long k n le [] (u ∷ us) ws are later each = absurd are
all-long k n le (s ∷ ss) [] ws are later each = absurd are
all-long k n le (s ∷ ss) (u ∷ us) [] are later each = absurd later
all-long k n le (s ∷ ss) (u ∷ us) (w ∷ ws) are later each =
    let now = (each 0 w refl).within in (
      omega (arith, are.0.within, are.0.long),
      omega (arith, now, le),
      all-long k n le ss us ws are.1 later.1 (λ i x at. each (suc i) x at),
    )

abbrev pub part-in : ℕ → List StreamState → ℕ → Option PartState
part-in j ss i = option_and_then (λ (t : StreamState). part_at j t.parts) (slice_get ss i)

pub parts-before : (k j : ℕ) → j < k → (us ws : List StreamState) → AreLong k us ws → (i : ℕ) → part-in j (streams_restored k us ws) i ≡ part-in j us i
parts-before k j lt [] [] long i = refl
parts-before k j lt [] (w ∷ ws) long i = absurd long
parts-before k j lt (u ∷ us) [] long i = absurd long
parts-before k j lt (u ∷ us) (w ∷ ws) long zero = part-before k u w long.0 long.1 j lt
parts-before k j lt (u ∷ us) (w ∷ ws) long (suc i) = parts-before k j lt us ws long.2 i

pub parts-now : (k j : ℕ) → k ≤ j → (us ws : List StreamState) → AreLong k us ws → (i : ℕ) → part-in j (streams_restored k us ws) i ≡ part-in j ws i
parts-now k j past [] [] long i = refl
parts-now k j past [] (w ∷ ws) long i = absurd long
parts-now k j past (u ∷ us) [] long i = absurd long
parts-now k j past (u ∷ us) (w ∷ ws) long zero = part-now k u w long.0 long.1 j past
parts-now k j past (u ∷ us) (w ∷ ws) long (suc i) = parts-now k j past us ws long.2 i

pub many-restored : (k : ℕ) (us ws : List StreamState) → AreLong k us ws
    → (length (streams_restored k us ws) ≡ length us) × (length (streams_restored k us ws) ≡ length ws)
many-restored k [] [] long = (refl, refl)
many-restored k [] (w ∷ ws) long = absurd long
many-restored k (u ∷ us) [] long = absurd long
many-restored k (u ∷ us) (w ∷ ws) long =
    let more = many-restored k us ws long.2 in (ap suc more.0, ap suc more.1)

-- no part of the first archives is released
pub none-released : (k j : ℕ) → j < k → (ss us : List StreamState) → AreRestored k ss us
    → sum_by (λ (t : StreamState). option_map_or part_released (part_at j t.parts) 0) us ≡ 0
none-released k j lt [] [] are = refl
none-released k j lt [] (u ∷ us) are = absurd are
none-released k j lt (s ∷ ss) [] are = absurd are
none-released k j lt (s ∷ ss) (u ∷ us) are =
    let is = are.0 in
    let here : option_map_or part_released (part_at j u.parts) 0 ≡ 0 =
    ap (λ (o : Option PartState). option_map_or part_released o 0)
    (closed-at u.parts j (omega (arith, lt, is.within, is.long)) ∙ is.are j lt) in
    omega (
      arith,
      here,
      none-released k j lt ss us are.1,
      sum_by-cons (λ (t : StreamState). option_map_or part_released (part_at j t.parts) 0) u us,
    )

-- a part that wasn't released is what is put back
pub parts-held : (n j : ℕ) → j < n → (ws us : List StreamState) → AreRestored n ws us
    → ((i : ℕ) (w : StreamState) (p : PartState) → slice_get ws i ≡ Some w → slice_get w.parts.closed j ≡ Some p → p.released ≡ None)
    → (i : ℕ) → part-in j us i ≡ part-in j ws i
parts-held n j lt [] [] are none i = refl
parts-held n j lt [] (u ∷ us) are none i = absurd are
parts-held n j lt (w ∷ ws) [] are none i = absurd are
parts-held n j lt (w ∷ ws) (u ∷ us) are none zero =
    let is = are.0 in
    let h = is.traced.history in
    let p = some-at w.parts.closed j (omega (arith, lt, is.within)) in
    closed-at u.parts j (omega (arith, lt, is.within, is.long)) ∙ is.are j lt
    ∙ sym (closed-at w.parts j (omega (arith, lt, is.within)) ∙ p.1
    ∙ ap (λ (q : PartState). Some q) (held-part w h j p.0 is.agrees.stands p.1 (none 0 w p.0 refl p.1)))
parts-held n j lt (w ∷ ws) (u ∷ us) are none (suc i) = parts-held n j lt ws us are.1 (λ m x p at here. none (suc m) x p at here) i

-- ---- what the restored session is

module _ (now : SessionOf StreamState) (us : List StreamState) (are : AreRestored (length now.book.archives) now.streams us) where
  pub own-streams : HasItsStreams now → HasItsStreams (record now { streams = us })
  own-streams its = record {
    as_many = as-many (length now.book.archives) now.streams us are ∙ its.as_many;
    are = λ i u at.
        let x = restored-at (length now.book.archives) now.streams us are i u at in
        let of = its.are i x.0 x.1 in
        record {
          place = of.place;
          channel = of.channel;
          has_place = of.has_place;
          has_channel = of.has_channel;
          config = x.2.config ∙ of.config;
          closed = x.2.long ∙ of.closed;
          known = x.2.forgotten ∙ of.known;
        };
  }

  pub own-archives : AreNumbered now.book → HasItsArchives (record now { streams = us })
  own-archives numbered =
      all-at (λ (a : Archive). archive_released by_state a.id (let r : SessionOf StreamState = record now { streams = us } in r) ≡ 0) now.book.archives
      (λ j a at.
      let id = numbered.0 j a at in
      let place = slice_get_within now.book.archives j a at in
      none-released (length now.book.archives) a.id (omega (arith, id, place)) now.streams us are)

  pub own-recorded : (i : ℕ) (u : StreamState) → slice_get us i ≡ Some u
      → AreRecorded u.config.uuid u.config.number (recorded_of (archives_named now.book) u)
  own-recorded i u at =
      let x = restored-at (length now.book.archives) now.streams us are i u at in
      restored-recorded (length now.book.archives) x.0 u x.2 (archives_named now.book) (length-map now.book.archives (archive_named now.book))
