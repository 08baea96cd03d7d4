-- What is shown of a sound stream of a snapshot session.
use Rattle.std.proofs.Common.{◌≡◌, ◌∙◌, ℕ, ◌+◌, ◌≤◌, List, [], ◌∷◌, ◌++◌, Option, Some, None, length, map, max, ap, arith, refl, subst, sym}
use Rattle.std.specs.Prelude.{option_map, slice_get, sum_by}
use Rattle.std.specs.List.{AllByRecursion, flat_map}
use Rattle.std.proofs.lemmas.Grind.{common_steps, flat_map-append}
use Rattle.std.proofs.lemmas.List.{append-nil, length-append}
use Rattle.std.proofs.lemmas.List.Concat.{length-flat_map}
use Rattle.tr_accounts.specs.Holds.{HoldsOffers, IsOffered, parts_records}
use Rattle.tr_accounts.specs.StreamSteps.{AcceptedOffer}
use Rattle.tr_book.specs.Parts.{PartsState, no_parts}
use Rattle.tr_book.specs.Snaps.{SnapState}
use Rattle.tr_book.specs.declared.runs.Run.{Run}
use Rattle.tr_packet.specs.Packets.{Contents}
use Rattle.tr_record.specs.Records.{Entry}
use Rattle.tr_ring.specs.ClosedBuffer.{ClosedBuffer}
use Rattle.tr_ring.specs.Ring.{IsClosedWithin, RingState, ring_records, seq_after}
use Rattle.tr_seats.specs.Books.{IsPlan, IsPlanned, PlanState}
use Rattle.tr_shared.specs.Shown.{IsShownFrom}
use Rattle.tr_snapshot.specs.Snapshots.{entries_shown}
use Rattle.tr_stream.specs.Chunks.{closed_if_any, packet_of, ring_buffers}
use Rattle.tr_stream.specs.Consistent.{CountUp, GapsAgree, IsConsistent, SerialsFollow, buffers_of, first_in}
use Rattle.tr_stream.proofs.PieceLemmas.{AreHeld, buffers_in, none-cleared}
use Rattle.tr_stream.specs.Fates.{all_parts}
use Rattle.tr_stream.specs.Sound.{IsSound}
use Rattle.tr_stream.specs.State.{StreamState, in_parts, in_ring}
use Rattle.tr_stream.specs.StateSteps.{state_snap}
use Rattle.tr_stream.specs.WellFormed.{next_serial}
use Rattle.tr_stream.specs.declared.config.StreamConfig.{StreamConfig}
use Rattle.tr_terms.specs.declared.mode.Mode.TheVariants.{Overwrite}
use Rattle.tr_terms.specs.declared.session_mode.SessionMode.TheVariants.{Snapshot}

abbrev records_of : List ClosedBuffer → List Entry
records_of bs = flat_map (λ (b : ClosedBuffer). b.records) bs

-- ---- serials that follow each other

follow-next : (n : ℕ) (es : List Entry) → SerialsFollow n es → next_serial n es ≡ n + length es
follow-next n [] is = omega arith
follow-next n (e ∷ es) is =
    let at = is.0 in
    let rest : next_serial (n + 1) es ≡ (n + 1) + length es = follow-next (n + 1) es is.1 in
    let count : length (e ∷ es) ≡ length es + 1 = grind (arith, common_steps) in
    ap (λ (s : ℕ). next_serial (s + 1) es) at ∙ rest ∙ omega (arith, count)

follow-more : (n : ℕ) (xs ys : List Entry) → SerialsFollow n xs → SerialsFollow (n + length xs) ys → SerialsFollow n (xs ++ ys)
follow-more n [] ys one two = subst (λ (m : ℕ). SerialsFollow m ys) (omega arith) two
follow-more n (x ∷ xs) ys one two =
    let count : length (x ∷ xs) ≡ length xs + 1 = grind (arith, common_steps) in
    let same : n + length (x ∷ xs) ≡ (n + 1) + length xs = omega (arith, count) in
    (one.0, follow-more (n + 1) xs ys one.1 (subst (λ (m : ℕ). SerialsFollow m ys) same two))

-- records that follow each other from this serial up to the next one
abbrev Follows : ℕ → List Entry → ℕ → Type 0
Follows n es next = SerialsFollow n es × (n + length es ≡ next)

-- where no number is absent, no serial is
follows-from : (seq serial : ℕ) (bs : List ClosedBuffer) (next_seq next : ℕ) → CountUp seq bs → GapsAgree seq serial bs next_seq next
    → Follows serial (records_of bs) next
follows-from seq serial [] next_seq next numbers gaps = (tt, omega (arith, gaps.1))
follows-from seq serial (b ∷ bs) next_seq next numbers gaps =
    let starts : first_in b.records next ≡ serial = gaps.2.0 numbers.0 in
    let own : SerialsFollow serial b.records = subst (λ (n : ℕ). SerialsFollow n b.records) starts gaps.1 in
    let after : next_serial serial b.records ≡ serial + length b.records = follow-next serial b.records own in
    let later = subst (λ (n : ℕ). GapsAgree n (serial + length b.records) bs next_seq next) (ap (λ (n : ℕ). n + 1) numbers.0)
    (subst (λ (n : ℕ). GapsAgree (b.seq + 1) n bs next_seq next) after gaps.3) in
    let rest = follows-from (seq + 1) (serial + length b.records) bs next_seq next numbers.1 later in
    let count : length (records_of (b ∷ bs)) ≡ length b.records + length (records_of bs) =
    length-append b.records (records_of bs) in (
      follow-more serial b.records (records_of bs) own rest.0,
      omega (arith, rest.1, count),
    )

-- ---- the ring

-- the first of these has a record
abbrev FirstHas : List ClosedBuffer → Type 0
FirstHas [] = Unit {0}
FirstHas (b ∷ bs) = 1 ≤ length b.records

next-any : (low low' : ℕ) (es : List Entry) → 1 ≤ length es → next_serial low es ≡ next_serial low' es
next-any low low' [] some = absurd (omega (arith, some))
next-any low low' (e ∷ es) some = refl

-- wherever the first number is, serials follow each other from the first one on
follows-any : (first : ℕ) (bs : List ClosedBuffer) (next_seq next : ℕ) → CountUp first bs → FirstHas bs
    → GapsAgree 0 0 bs next_seq next → (n : ℕ) × Follows n (records_of bs) next
follows-any first [] next_seq next numbers has gaps = (next, (tt, omega arith))
follows-any first (b ∷ bs) next_seq next numbers has gaps =
    let n = first_in b.records next in
    let later = subst (λ (m : ℕ). GapsAgree (b.seq + 1) m bs next_seq next) (next-any 0 n b.records has) gaps.3 in
    (n, follows-from first n (b ∷ bs) next_seq next numbers (gaps.0, gaps.1, (λ e. refl, λ e. numbers.0), later))

first-has : (size : ℕ) (waiting : List ClosedBuffer) (seq end discarded : ℕ) (current : List Entry)
    → AllByRecursion (IsClosedWithin size) waiting → FirstHas (waiting ++ closed_if_any seq end discarded current)
first-has size [] seq end discarded [] fit = tt
first-has size [] seq end discarded (e ∷ es) fit =
    let count : length (e ∷ es) ≡ length es + 1 = grind (arith, common_steps) in omega (arith, count)
first-has size (b ∷ bs) seq end discarded current fit = fit.0.some

count-all : (first : ℕ) (waiting : List ClosedBuffer) (seq end discarded : ℕ) (current : List Entry) → first + length waiting ≡ seq
    → CountUp first waiting → CountUp first (waiting ++ closed_if_any seq end discarded current)
count-all first [] seq end discarded [] there numbers = tt
count-all first [] seq end discarded (e ∷ es) there numbers = (omega (arith, there), tt)
count-all first (b ∷ bs) seq end discarded current there numbers =
    let count : length (b ∷ bs) ≡ length bs + 1 = grind (arith, common_steps) in
    (numbers.0, count-all (first + 1) bs seq end discarded current (omega (arith, there, count)) numbers.1)

records-packed : (c : StreamConfig) (bs : List ClosedBuffer)
    → flat_map (λ (p : Contents). p.records) (map (packet_of c) bs) ≡ records_of bs
records-packed c [] = refl
records-packed c (b ∷ bs) = ap (λ (es : List Entry). b.records ++ es) (records-packed c bs)

records-closed : (seq end discarded : ℕ) (current : List Entry) → records_of (closed_if_any seq end discarded current) ≡ current
records-closed seq end discarded [] = refl
records-closed seq end discarded (e ∷ es) = append-nil (e ∷ es)

records-ring : (end : ℕ) (r : RingState) → records_of (ring_buffers end r) ≡ ring_records r
records-ring end r =
    flat_map-append (λ (b : ClosedBuffer). b.records) r.waiting (closed_if_any r.seq end r.discarded r.current)
    ∙ ap (λ (es : List Entry). records_of r.waiting ++ es) (records-closed r.seq end r.discarded r.current)

-- ---- what is shown

-- just what is in the ring
pub shown-records : (moment : ℕ) (s : StreamState) → entries_shown (state_snap moment s) ≡ ring_records s.ring
shown-records moment s =
    records-packed s.config (ring_buffers (max moment s.counters.last) s.ring) ∙ records-ring (max moment s.counters.last) s.ring

-- so each record is as it was offered, if the stream holds what was offered
all-right : {X : Type 0} (P : X → Type 0) (xs ys : List X) → AllByRecursion P (xs ++ ys) → AllByRecursion P ys
all-right P [] ys all = all
all-right P (x ∷ xs) ys all = all-right P xs ys all.1

pub shown-offered : (offers : List AcceptedOffer) (s : StreamState) (snap : SnapState) → HoldsOffers offers s
    → entries_shown snap ≡ ring_records s.ring → AllByRecursion (IsOffered offers) (entries_shown snap)
shown-offered offers s snap holds same =
    subst (AllByRecursion (IsOffered offers)) (sym same)
    (all-right (IsOffered offers) (parts_records (all_parts s.parts)) (ring_records s.ring) holds.held)

module _ (moment : ℕ) (s : StreamState) (sound : IsSound s) (is : IsConsistent s) (over : s.config.mode ≡ Overwrite)
    (session : s.config.session ≡ Snapshot) where
  none : s.parts ≡ no_parts
  none = sound.unconsumed session

  held : buffers_of is.pieces ≡ ring_buffers s.counters.last s.ring
  held = none-cleared s is (subst (λ (p : PartsState). AreHeld (all_parts p)) (sym none) (refl, tt)) (ap (λ (p : PartsState). p.cleared) none)
      ∙ ap (λ (p : PartsState). buffers_in (all_parts p) ++ ring_buffers s.counters.last s.ring) none

  shown : entries_shown (state_snap moment s) ≡ ring_records s.ring
  shown = shown-records moment s

  there : (n : ℕ) × Follows n (ring_records s.ring) s.counters.offered
  there =
      let next_seq = seq_after s.ring.seq s.ring.current in
      let gaps : GapsAgree 0 0 (ring_buffers s.counters.last s.ring) next_seq s.counters.offered =
      subst (λ (bs : List ClosedBuffer). GapsAgree 0 0 bs next_seq s.counters.offered) held (is.overwrites over) in
      let first = is.ring.0 in
      let numbers = count-all first s.ring.waiting s.ring.seq s.counters.last s.ring.discarded s.ring.current is.ring.1 is.ring.2 in
      let has = first-has s.config.geometry.size s.ring.waiting s.ring.seq s.counters.last s.ring.discarded s.ring.current sound.waiting_fit in
      subst (λ (es : List Entry). (n : ℕ) × Follows n es s.counters.offered) (records-ring s.counters.last s.ring)
      (follows-any first (ring_buffers s.counters.last s.ring) next_seq s.counters.offered numbers has gaps)

  in-ring : length (ring_records s.ring) ≡ in_ring s.ring
  in-ring = length-append (records_of s.ring.waiting) s.ring.current
      ∙ ap (λ (n : ℕ). n + length s.ring.current) (length-flat_map (λ (b : ClosedBuffer). b.records) s.ring.waiting)

  from : there.0 ≡ s.counters.overwritten
  from =
      let discarded : s.ring.discarded ≡ 0 = sound.losses.overwriting over in
      let consumed : in_parts s.parts ≡ 0 = ap in_parts none in
      let cleared : s.counters.cleared ≡ 0 =
      sym is.gone ∙ ap (λ (p : PartsState). sum_by (λ (r : Run). r.count) p.cleared) none in
      let total = sound.total in
      omega (arith, discarded, consumed, cleared, total, in-ring, there.1.1)

  pub shows-last : IsShownFrom s.counters.overwritten (state_snap moment s)
  shows-last =
      let follows : Follows s.counters.overwritten (entries_shown (state_snap moment s)) s.counters.offered =
      subst (λ (n : ℕ). Follows n (entries_shown (state_snap moment s)) s.counters.offered) from
      (subst (λ (es : List Entry). Follows there.0 es s.counters.offered) (sym shown) there.1) in
      record { follow = follows.0; last = follows.1 }

-- ---- what a stream of a planned snapshot session was made with

mapped : {X Y : Type 0} → (f : X → Y) (x : Option X) (y : Y) → option_map f x ≡ Some y → (a : X) × (x ≡ Some a) × (f a ≡ y)
mapped f None y is = cc
mapped f (Some a) y is = (a, refl, cc)

pub record IsOver (i : ℕ) (config : StreamConfig) : Type 0 where
  pub mode : config.mode ≡ Overwrite
  pub session : config.session ≡ Snapshot
  pub number : config.number ≡ i

pub planned-over : (plan : PlanState) (i : ℕ) (config : StreamConfig) → IsPlan plan → plan.session.book.mode ≡ Snapshot
    → IsPlanned plan i config → IsOver i config
planned-over plan i config is mode planned =
    let was = mapped (λ (t : StreamState). t.config) (slice_get plan.session.streams i) config planned in
    let made : config ≡ was.0.config = sym was.2 in
    let of = is.session.are i was.0 was.1 in
    record {
      mode = ap (λ (c : StreamConfig). c.mode) made ∙ is.overwriting mode i was.0 was.1;
      session = ap (λ (c : StreamConfig). c.session) (made ∙ of.config) ∙ mode;
      number = ap (λ (c : StreamConfig). c.number) (made ∙ of.config);
    }
