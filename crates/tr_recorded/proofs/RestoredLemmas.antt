-- A stream's parts, put back as they were before they were released, are its history's chunks.
use Rattle.std.proofs.Common.{◌≡◌, ◌∙◌, ◌<◌, ◌≤◌, ◌+◌, ◌⊎◌, inl, inr, ⊎_elim, ℕ, zero, suc, Bool, true, false, cond, refl, sym, ap, subst, arith, List, [], ◌∷◌, ◌++◌, length, map, take, drop, Some, None, slice_get, append-nil, append_assoc}
use Rattle.std.proofs.Math.Seq.{drop-nil}
use Rattle.std.proofs.lemmas.Bool.{cases_lt}
use Rattle.std.proofs.lemmas.Grind.{flat_map-append}
use Rattle.std.proofs.lemmas.List.{map-append, take-append-le, take-map}
use Rattle.std.specs.List.{AllByRecursion}
use Rattle.tr_book.specs.Parts.{PartState, part_state}
use Rattle.tr_chunk.specs.Audit.{AreOfStream, all_of, numbers_rise_after}
use Rattle.tr_packet.specs.Order.{serials_rise_after}
use Rattle.tr_packet.specs.Packets.{Contents, IsPacket}
use Rattle.tr_record.proofs.RecordLemmas.{all_append}
use Rattle.tr_recorded.proofs.LeafLemmas.{some-at}
use Rattle.tr_recorded.proofs.LossLemmas.{Stay, second_of_zip, stay_front, stay_lower}
use Rattle.tr_recorded.specs.Recorded.{recorded_of}
use Rattle.tr_recorded.specs.Written.{IsLaterStream, stream_restored}
use Rattle.tr_ring.specs.ClosedBuffer.{ClosedBuffer}
use Rattle.tr_session.proofs.AuditLemmas.{IsAmong, all-own, kept-rise, records-packets, rise-numbers, rise-records, rising-among}
use Rattle.tr_session.proofs.GapLemmas.{numbers-packets}
use Rattle.tr_session.specs.Audits.{packets_by_part}
use Rattle.tr_stream.proofs.PartLemmas.{below-is}
use Rattle.tr_stream.proofs.TakeLemmas.{length-parts_below}
use Rattle.tr_stream.specs.Chunks.{buffers_where, chunk_of, kept_of, packet_of, part_if, part_of}
use Rattle.tr_stream.specs.Consistent.{Rising}
use Rattle.tr_stream.specs.Fates.{all_parts}
use Rattle.tr_stream.specs.History.{Closed, History, Status, is_kept, is_released, offered_of}
use Rattle.tr_stream.specs.Kept.{IsKept}
use Rattle.tr_stream.specs.Rules.{Agrees, Traced}
use Rattle.tr_stream.specs.Sound.{CanBeSent}
use Rattle.tr_stream.specs.StandsFor.{StandsFor}
use Rattle.tr_stream.specs.State.{StreamState}
use Rattle.tr_stream.specs.WellFormed.{IsWellFormed, chunks_below}
use Rattle.tr_stream.specs.declared.config.StreamConfig.{StreamConfig}
use Rattle.tr_survey.specs.Order.{Numbered}
use Rattle.tr_survey.specs.Whole.{AreRecorded, LossesStay, packets_of}

-- ---- lists

module _ {X : Type 0} where
  pub get-front : (k : ℕ) (xs ys : List X) (j : ℕ) → j < k → k ≤ length xs → slice_get (take k xs ++ ys) j ≡ slice_get xs j
  get-front zero xs ys j lt le = absurd (omega (arith, lt))
  get-front (suc k) [] ys j lt le = absurd (omega (arith, le))
  get-front (suc k) (x ∷ xs) ys zero lt le = refl
  get-front (suc k) (x ∷ xs) ys (suc j) lt le = get-front k xs ys j (omega (arith, lt)) (omega (arith, le))

  pub get-back : (k : ℕ) (xs ys : List X) (j : ℕ) → k ≤ j → k ≤ length xs → slice_get (take k xs ++ drop k ys) j ≡ slice_get ys j
  get-back zero xs ys j past le = refl
  get-back (suc k) [] ys j past le = absurd (omega (arith, le))
  get-back (suc k) (x ∷ xs) ys zero past le = absurd (omega (arith, past))
  get-back (suc k) (x ∷ xs) [] (suc j) past le =
      ap (λ (l : List X). slice_get (take k xs ++ l) j) (sym (drop-nil k)) ∙ get-back k xs [] j (omega (arith, past)) (omega (arith, le)) ∙ none j
    where
      none : (i : ℕ) → slice_get (let l : List X = [] in l) i ≡ None
      none zero = refl
      none (suc i) = refl
  get-back (suc k) (x ∷ xs) (y ∷ ys) (suc j) past le = get-back k xs ys j (omega (arith, past)) (omega (arith, le))

  pub as-long : (k : ℕ) (xs ys : List X) → k ≤ length xs → k ≤ length ys → length (take k xs ++ drop k ys) ≡ length ys
  as-long zero xs ys le le' = refl
  as-long (suc k) [] ys le le' = absurd (omega (arith, le))
  as-long (suc k) (x ∷ xs) [] le le' = absurd (omega (arith, le'))
  as-long (suc k) (x ∷ xs) (y ∷ ys) le le' = ap suc (as-long k xs ys (omega (arith, le)) (omega (arith, le')))

  all-first : (P : X → Type 0) (k : ℕ) (xs : List X) → AllByRecursion P xs → AllByRecursion P (take k xs)
  all-first P zero xs all = tt
  all-first P (suc k) [] all = tt
  all-first P (suc k) (x ∷ xs) all = (all.0, all-first P k xs all.1)

  all-rest : (P : X → Type 0) (k : ℕ) (xs : List X) → AllByRecursion P xs → AllByRecursion P (drop k xs)
  all-rest P zero xs all = all
  all-rest P (suc k) [] all = tt
  all-rest P (suc k) (x ∷ xs) all = all-rest P k xs all.1

  one-more : (k : ℕ) (xs : List X) (x : X) → slice_get xs k ≡ Some x → take (suc k) xs ≡ take k xs ++ x ∷ []
  one-more k [] x at = absurd cc
  one-more zero (y ∷ xs) x at = let same : y ≡ x = cc in ap (λ z. z ∷ []) same
  one-more (suc k) (y ∷ xs) x at = ap (λ (l : List X). y ∷ l) (one-more k xs x at)

-- ---- the first chunks of a history

front-rises : (bs cs : List ClosedBuffer) (seq serial next_seq next : ℕ) → Rising seq serial (bs ++ cs) next_seq next
    → Rising seq serial bs next_seq next
front-rises bs cs seq serial next_seq next rise = rising-among bs (bs ++ cs) seq serial next_seq next (front bs) rise
  where
    front : (bs : List ClosedBuffer) → IsAmong bs (bs ++ cs)
    front [] = tt
    front (b ∷ bs) = inl (refl, front bs)

chunks-front : (k n : ℕ) (h : History) → k ≤ n → (rest : List ClosedBuffer) × (chunks_below n h ≡ chunks_below k h ++ rest)
chunks-front k zero h le = let none : k ≡ 0 = omega (arith, le) in ([], rw none refl)
chunks-front k (suc n) h le = go (cases_lt k (suc n)) (λ below. chunks-front k n h below)
  where
    go : ((k < suc n) ⊎ (suc n ≤ k)) → (k ≤ n → (rest : List ClosedBuffer) × (chunks_below n h ≡ chunks_below k h ++ rest))
        → (rest : List ClosedBuffer) × (chunks_below (suc n) h ≡ chunks_below k h ++ rest)
    go (inl below) fewer =
        let front = fewer (omega (arith, below)) in (
          front.0 ++ chunk_of n h,
          ap (λ (bs : List ClosedBuffer). bs ++ chunk_of n h) front.1
              ∙ append_assoc (chunks_below k h) front.0 (chunk_of n h),
        )
    go (inr past) fewer = let all : k ≡ suc n = omega (arith, le, past) in ([], rw all (sym (append-nil (chunks_below (suc n) h))))

-- counts of discarded records don't fall among the blocks of any status
stay-if : (b : Bool) (from : ℕ) (c : ClosedBuffer) (rest : List ClosedBuffer) → from ≤ c.discarded → Stay c.discarded rest
    → Stay from (cond b (c ∷ rest) rest)
stay-if true from c rest le stay = (le, stay)
stay-if false from c rest le stay = stay_lower from c.discarded rest le stay

stay-where : (wanted : Status → Bool) (from : ℕ) (cs : List Closed) → Stay from (buffers_where wanted from cs)
stay-where wanted from [] = tt
stay-where wanted from (c ∷ cs) =
    stay-if (wanted c.status) from _ _ (omega arith) (stay-where wanted (from + length c.block.discarded) cs)

packets-stay : (c : StreamConfig) (from : ℕ) (bs : List ClosedBuffer) → Stay from bs → LossesStay from (map (packet_of c) bs)
packets-stay c from [] stay = tt
packets-stay c from (b ∷ bs) stay = (stay.0, packets-stay c b.discarded bs stay.1)

-- the packets of the first chunks are what a survey finds no fault in
module _ (c : StreamConfig) (h : History) (well : IsWellFormed h) (k : ℕ) (within : k ≤ h.cuts) where
  kept-front : (rest : List ClosedBuffer) × (kept_of h ≡ chunks_below k h ++ rest)
  kept-front =
      let split = chunks-front k (suc h.cuts) h (omega (arith, within)) in
      (split.0, sym well.chunks ∙ split.1)

  front-rise : Rising 0 0 (chunks_below k h) h.filling.number (offered_of h)
  front-rise =
      front-rises (chunks_below k h) kept-front.0 0 0 h.filling.number (offered_of h)
      (subst (λ (bs : List ClosedBuffer). Rising 0 0 bs h.filling.number (offered_of h)) kept-front.1 (kept-rise h well))

  of-stream : AllByRecursion IsPacket (map (packet_of c) (chunks_below k h)) → AreOfStream c.uuid c.number (map (packet_of c) (chunks_below k h))
  of-stream sent =
      let bs = chunks_below k h in
      record {
        packets = sent;
        belong = all-own c bs;
        numbers = ap (numbers_rise_after None) (numbers-packets c bs)
            ∙ rise-numbers None 0 0 bs h.filling.number (offered_of h) (omega arith) front-rise;
        serials = ap (serials_rise_after None) (records-packets c bs)
            ∙ rise-records None 0 0 bs h.filling.number (offered_of h) (omega arith) front-rise;
      }

  losses-stay : LossesStay 0 (map (packet_of c) (chunks_below k h))
  losses-stay =
      packets-stay c 0 (chunks_below k h)
      (stay_front 0 (chunks_below k h) kept-front.0 (subst (Stay 0) kept-front.1 (stay-where is_kept 0 h.closed)))

-- ---- a stream's parts

-- what a stream is once its first k parts are put back, by its history
pub record IsRestored (k : ℕ) (s u : StreamState) : Type 0 where
  pub config : u.config ≡ s.config
  pub current : u.parts.current ≡ s.parts.current
  pub long : length u.parts.closed ≡ length s.parts.closed
  pub forgotten : u.parts.forgotten ≡ s.parts.forgotten
  pub within : k ≤ length s.parts.closed
  pub traced : Traced
  pub agrees : Agrees s traced
  pub are : (j : ℕ) → j < k → slice_get u.parts.closed j ≡ Some (part_of s.config j (chunk_of j traced.history))
  pub sent : AllByRecursion CanBeSent u.parts.closed

cuts-are : (s : StreamState) (h : History) → StandsFor s h → length s.parts.closed ≡ h.cuts
cuts-are s h is = ap length is.closed ∙ length-parts_below s.config h.cuts h

same-part : (p q : PartState) → Some p ≡ Some q → p ≡ q
same-part p q e = cc

never : (p : PartState) → Some p ≡ None → ⊥
never p e = absurd cc

-- a part that is closed and wasn't released is its chunk
pick : (b released : Bool) (j : ℕ) (ps : List Contents) (p : PartState) → Some p ≡ cond b (Some (part_if released j ps)) None
    → p.released ≡ None → p ≡ part_state j ps
pick false released j ps p is none = absurd (never p is)
pick true false j ps p is none = same-part p (part_state j ps) is
pick true true j ps p is none =
    let same = same-part p (part_if true j ps) is in
    let gone = sym none ∙ ap (λ (q : PartState). q.released) same in
    absurd cc

pub held-part : (s : StreamState) (h : History) (j : ℕ) (p : PartState) → StandsFor s h → slice_get s.parts.closed j ≡ Some p
    → p.released ≡ None → p ≡ part_of s.config j (chunk_of j h)
held-part s h j p is at none =
    pick _ (is_released j h) j (map (packet_of s.config) (chunk_of j h)) p
    (sym at ∙ ap (λ (ps : List PartState). slice_get ps j) is.closed ∙ below-is s.config h.cuts j h) none

-- those of the first parts that weren't released
abbrev pub AreHeld : ℕ → ℕ → StreamState → Type 0
AreHeld from k s = (j : ℕ) (p : PartState) → from ≤ j → j < k → slice_get s.parts.closed j ≡ Some p → p.released ≡ None

held-at : (s : StreamState) (h : History) (from k : ℕ) → StandsFor s h → AreHeld from k s → k ≤ length s.parts.closed → (j : ℕ) → from ≤ j → j < k
    → slice_get s.parts.closed j ≡ Some (part_of s.config j (chunk_of j h))
held-at s h from k is held within j past lt =
    let p = some-at s.parts.closed j (omega (arith, lt, within)) in
    p.1 ∙ ap (λ (q : PartState). Some q) (held-part s h j p.0 is p.1 (held j p.0 past lt p.1))

pub first-restored : (k : ℕ) (s : StreamState) → IsKept s → k ≤ length s.parts.closed → AreHeld 0 k s → IsRestored k s s
first-restored k s kept within held = record {
  config = refl;
  current = refl;
  long = refl;
  forgotten = refl;
  within = within;
  traced = record { config = s.config; history = kept.history.0 };
  agrees = record { config = refl; made = kept.sound.made; losses = kept.sound.losses; stands = kept.history.1 };
  are = λ j lt. held-at s kept.history.0 0 k kept.history.1 held within j (omega arith) lt;
  sent = kept.sound.closed_sent;
}

pub next-restored : (k n : ℕ) (s u w : StreamState) → IsRestored k s u → IsLaterStream s w → IsKept w → k ≤ n → n ≤ length w.parts.closed
    → AreHeld k n w → IsRestored n w (stream_restored k u w)
next-restored k n s u w is later kept more within held =
    let v = later is.traced is.agrees in
    let config : s.config ≡ w.config = is.agrees.config ∙ sym v.2 ∙ sym v.1.config in
    let cuts = cuts-are s is.traced.history is.agrees.stands in
    let long : k ≤ length u.parts.closed = omega (arith, is.within, is.long) in
    record {
      config = refl;
      current = refl;
      long = as-long k u.parts.closed w.parts.closed long (omega (arith, more, within));
      forgotten = refl;
      within = within;
      traced = v.0;
      agrees = v.1;
      are = λ j lt.
          ⊎_elim
          (λ (below : j < k).
          get-front k u.parts.closed (drop k w.parts.closed) j below long ∙ is.are j below
          ∙ ap (λ (bs : List ClosedBuffer). Some (part_of s.config j bs)) (sym (v.3.chunks j (omega (arith, below, is.within, cuts))))
          ∙ ap (λ (c : StreamConfig). Some (part_of c j (chunk_of j v.0.history))) config)
          (λ (past : k ≤ j).
          get-back k u.parts.closed w.parts.closed j past long
          ∙ held-at w v.0.history k n v.1.stands held within j past lt)
          (cases_lt j k);
      sent = all_append CanBeSent (take k u.parts.closed) (drop k w.parts.closed) (all-first CanBeSent k u.parts.closed is.sent)
          (all-rest CanBeSent k w.parts.closed kept.sound.closed_sent);
    }

-- ---- its packets

abbrev packets_by : List PartState → List (List Contents)
packets_by = map (λ (p : PartState). p.packets)

all-sent : (parts : List PartState) → AllByRecursion CanBeSent parts → AllByRecursion IsPacket (all_of (packets_by parts))
all-sent [] sent = tt
all-sent (p ∷ parts) sent = all_append IsPacket p.packets (all_of (packets_by parts)) sent.0 (all-sent parts sent.1)

module _ (k : ℕ) (s u : StreamState) (is : IsRestored k s u) where
  first-packets : (n : ℕ) → n ≤ k
      → all_of (packets_by (take n u.parts.closed)) ≡ map (packet_of s.config) (chunks_below n is.traced.history)
  first-packets zero le = refl
  first-packets (suc n) le =
      let h = is.traced.history in
      let part = part_of s.config n (chunk_of n h) in
      let parts = take n u.parts.closed in
      ap (λ (ps : List PartState). all_of (packets_by ps)) (one-more n u.parts.closed part (is.are n (omega (arith, le))))
      ∙ ap all_of (map-append (λ (p : PartState). p.packets) parts (part ∷ []))
      ∙ flat_map-append (λ (ps : List Contents). ps) (packets_by parts) (part.packets ∷ [])
      ∙ ap (λ (ps : List Contents). all_of (packets_by parts) ++ ps) (append-nil part.packets)
      ∙ ap (λ (ps : List Contents). ps ++ part.packets) (first-packets n (omega (arith, le)))
      ∙ sym (map-append (packet_of s.config) (chunks_below n h) (chunk_of n h))

  pub restored-recorded : (archives : List Numbered) → length archives ≡ k
      → AreRecorded u.config.uuid u.config.number (recorded_of archives u)
  restored-recorded archives all =
      let c = s.config in
      let h = is.traced.history in
      let stands = is.agrees.stands in
      let cuts = cuts-are s h stands in
      let within : k ≤ h.cuts = omega (arith, is.within, cuts) in
      let packets = first-packets k (omega arith) in
      let sent : AllByRecursion IsPacket (map (packet_of c) (chunks_below k h)) =
      subst (AllByRecursion IsPacket) packets (all-sent (take k u.parts.closed) (all-first CanBeSent k u.parts.closed is.sent)) in
      let are : packets_of (recorded_of archives u) ≡ map (packet_of c) (chunks_below k h) =
      ap all_of (second_of_zip archives (packets_by_part u))
      ∙ ap (λ (n : ℕ). all_of (take n (packets_by_part u))) all
      ∙ ap all_of (take-map (λ (p : PartState). p.packets) k (all_parts u.parts))
      ∙ ap (λ (ps : List PartState). all_of (packets_by ps))
      (take-append-le k u.parts.closed (u.parts.current ∷ []) (omega (arith, is.within, is.long)))
      ∙ packets in
      subst (λ (d : StreamConfig). AreRecorded d.uuid d.number (recorded_of archives u)) (sym is.config)
      (record {
        sound = subst (AreOfStream c.uuid c.number) (sym are) (of-stream c h stands.model k within sent);
        losses = subst (LossesStay 0) (sym are) (losses-stay c h stands.model k within);
      })
