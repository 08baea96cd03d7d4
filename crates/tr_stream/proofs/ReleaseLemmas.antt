-- A release is the history's release, and it leaves a stream sound.
use Rattle.std.proofs.Common.{◌≡◌, ℕ, ◌+◌, ◌<◌, zero, suc, Bool, true, false, cond, eqb, leb, List, [], ◌∷◌, ◌++◌, length, map, Option, Some, None, Result, Ok, Err, refl, sym, ◌∙◌, ap, ap₂, subst, arith}
use Rattle.std.proofs.lemmas.Bool.Decides.{nat_tests}
use Rattle.std.proofs.lemmas.Grind.{common_steps}
use Rattle.std.proofs.lemmas.List.{length-map}
use Rattle.std.proofs.lemmas.List.Sums.{sum_by-cons}
use Rattle.std.specs.List.{AllByRecursion}
use Rattle.std.specs.Prelude.{is_some, slice_get, sum_by}
use Rattle.tr_book.specs.Parts.{PartState, change_at, part_bytes, part_packets, part_records, release, release_part, released_part, no_parts, PartsState}
use Rattle.tr_packet.specs.Packets.{Contents}
use Rattle.tr_stream.proofs.PartLemmas.{below-is}
use Rattle.tr_stream.proofs.PlacedLemmas.{placed-release}
use Rattle.tr_stream.proofs.Refinement.{chunks_same}
use Rattle.tr_stream.proofs.ReleaseForms.{held-records, if-bytes, if-packets, if-records}
use Rattle.tr_stream.proofs.SoundLemmas.{records_of-packets}
use Rattle.tr_stream.proofs.TakeLemmas.{length-parts_below}
use Rattle.tr_stream.specs.Chunks.{chunk_of, closed_part, packet_of, part_if, parts_below}
use Rattle.tr_stream.specs.History.{History, is_released}
use Rattle.tr_stream.specs.Kept.{IsKept}
use Rattle.tr_stream.specs.Sound.{CanBeSent, IsSound}
use Rattle.tr_stream.specs.StandsFor.{StandsFor}
use Rattle.tr_stream.specs.State.{StreamState}
use Rattle.tr_stream.specs.StateSteps.{part_refusal, release_part_unless, size_of_part, state_after_release, state_release_answer, state_release_refusal}
use Rattle.tr_stream.specs.Steps.{history_after_release, history_release_answer, history_release_refusal, release_chunk, release_chunk_unless, released_unless, released_with}
use Rattle.tr_stream.specs.declared.answers.ReleaseFault.{ReleaseFault}
use Rattle.tr_stream.specs.declared.answers.ReleaseFault.TheVariants as fault
use Rattle.tr_stream.specs.declared.answers.Released.{Released}
use Rattle.tr_stream.specs.declared.config.StreamConfig.{StreamConfig}

-- ---- parts in which one is released

change-front : {X : Type 0} (i : ℕ) (f : X → X) (xs : List X) (x : X) → i < length xs → change_at i f (xs ++ x ∷ []) ≡ change_at i f xs ++ x ∷ []
change-front i f [] x within = absurd (omega (arith, within))
change-front zero f (y ∷ ys) x within = refl
change-front {X = X} (suc i) f (y ∷ ys) x within =
    ap (λ (more : List X). y ∷ more) (change-front i f ys x (grind (arith, common_steps, within)))

change-last : {X : Type 0} (f : X → X) (xs : List X) (x : X) → change_at (length xs) f (xs ++ x ∷ []) ≡ xs ++ f x ∷ []
change-last f [] x = refl
change-last {X = X} f (y ∷ ys) x = ap (λ (more : List X). y ∷ more) (change-last f ys x)

-- the part of another chunk stays
others-stay : (c : StreamConfig) (k n : ℕ) (h : History) → eqb k n ≡ false → closed_part c n (release_chunk k h) ≡ closed_part c n h
others-stay c k n h other = rw other refl

all-stay : (c : StreamConfig) (k n : ℕ) (h : History) → ((j : ℕ) → j < n → eqb k j ≡ false)
    → parts_below c n (release_chunk k h) ≡ parts_below c n h
all-stay c k zero h other = refl
all-stay c k (suc n) h other =
    let a = all-stay c k n h (λ j l. other j (omega (arith, l))) in
    let b = others-stay c k n h (other n (omega arith)) in
    ap₂ (λ (ps : List PartState) (p : PartState). ps ++ p ∷ []) a b

-- a release of one more chunk changes its part alone
released-one : (c : StreamConfig) (k n : ℕ) (h : History) → k < n → is_released k h ≡ false
    → parts_below c n (release_chunk k h) ≡ change_at k release (parts_below c n h)
released-one c k zero h within new = absurd (omega (arith, within))
released-one c k (suc n) h within new = by_test (eqb k n) refl (λ l. released-one c k n h l new)
  where
    by_test : (b : Bool) → eqb k n ≡ b
        → (k < n → parts_below c n (release_chunk k h) ≡ change_at k release (parts_below c n h))
        → parts_below c (suc n) (release_chunk k h) ≡ change_at k release (parts_below c (suc n) h)
    by_test true e before =
        let same : k ≡ n = grind (arith, nat_tests, e) in
        let front = all-stay c k n h (λ j l. grind (arith, nat_tests, same, l)) in
        let ps = map (packet_of c) (chunk_of n h) in
        let here : closed_part c n (release_chunk k h) ≡ released_part n ps = rw e refl in
        let fresh : is_released n h ≡ false = ap (λ (m : ℕ). is_released m h) (sym same) ∙ new in
        let was : release (closed_part c n h) ≡ released_part n ps = ap (λ (b : Bool). release (part_if b n ps)) fresh in
        let at : length (parts_below c n h) ≡ k = length-parts_below c n h ∙ sym same in
        let last = change-last release (parts_below c n h) (closed_part c n h) in
        ap₂ (λ (qs : List PartState) (q : PartState). qs ++ q ∷ []) front (here ∙ sym was) ∙ sym last
        ∙ ap (λ (m : ℕ). change_at m release (parts_below c n h ++ closed_part c n h ∷ [])) at
    by_test false e before =
        let below : k < n = grind (arith, nat_tests, e, within) in
        let a = before below in
        let b = others-stay c k n h e in
        let d = change-front k release (parts_below c n h) (closed_part c n h) (omega (arith, below, length-parts_below c n h)) in
        ap₂ (λ (qs : List PartState) (q : PartState). qs ++ q ∷ []) a b ∙ sym d

-- ---- the history's release

-- the parts are those of the history in which the chunk is released
pub stands-released : (s : StreamState) (h : History) (k : ℕ) → k < h.cuts → is_released k h ≡ false → StandsFor s h
    → StandsFor (record s { parts = release_part k s.parts }) (release_chunk k h)
stands-released s h k closed new is = record {
  model = record {
    numbers = is.model.numbers;
    filling = is.model.filling;
    order = is.model.order;
    kept = is.model.kept;
    recent = is.model.recent;
    used = is.model.used;
    room = is.model.room;
    covers = is.model.covers;
    covers_filling = is.model.covers_filling;
    chunks = chunks_same h (release_chunk k h) (λ j. refl) refl is.model.chunks;
    released = (closed, is.model.released);
    serials = is.model.serials;
  };
  closed = ap (change_at k release) is.closed ∙ sym (released-one s.config k h.cuts h closed new);
  current = is.current;
  starts = is.starts;
  forgotten = is.forgotten;
  runs = is.runs;
  waiting = is.waiting;
  filling = is.filling;
  number = is.number;
  discarded = is.discarded;
  offered = is.offered;
  overwritten = is.overwritten;
  overwritten_packets = is.overwritten_packets;
  consumed = is.consumed;
  cleared = is.cleared;
  withdrawn = is.withdrawn;
  last = is.last;
  active = is.active;
}

if-released : (b : Bool) (k : ℕ) (ps : List Contents) → is_some (part_if b k ps).released ≡ b
if-released true k ps = refl
if-released false k ps = refl

-- what is known of the part of a chunk, by whether it is closed and released
part-known : (c : StreamConfig) (k : ℕ) (h : History) (closed : Bool) → leb (k + 1) h.cuts ≡ closed → (b : Bool) → is_released k h ≡ b
    → part_refusal (cond closed (Some (closed_part c k h)) None) ≡ history_release_refusal k h
part-known c k h false e b f =
    let past : leb h.cuts k ≡ true = grind (arith, nat_tests, e) in
    sym (ap (λ (t : Bool). cond t (Some fault.NoPart) (cond (is_released k h) (Some fault.Released) None)) past)
part-known c k h true e b f =
    let within : leb h.cuts k ≡ false = grind (arith, nat_tests, e) in
    ap (λ (t : Bool). cond t (Some fault.Released) None) (if-released (is_released k h) k (map (packet_of c) (chunk_of k h)))
    ∙ sym (ap (λ (t : Bool). cond t (Some fault.NoPart) (cond (is_released k h) (Some fault.Released) None)) within)

part-at : (s : StreamState) (h : History) (k : ℕ) → StandsFor s h
    → slice_get s.parts.closed k ≡ cond (leb (k + 1) h.cuts) (Some (closed_part s.config k h)) None
part-at s h k is = ap (λ (ps : List PartState). slice_get ps k) is.closed ∙ below-is s.config h.cuts k h

refusals : (s : StreamState) (h : History) (k : ℕ) → StandsFor s h → state_release_refusal k s ≡ history_release_refusal k h
refusals s h k is = ap part_refusal (part-at s h k is) ∙ part-known s.config k h (leb (k + 1) h.cuts) refl (is_released k h) refl

-- what isn't refused is closed and new
allowed : (k : ℕ) (h : History) → history_release_refusal k h ≡ None → (k < h.cuts) × (is_released k h ≡ false)
allowed k h none = by_tests (leb h.cuts k) refl (is_released k h) refl none
  where
    by_tests : (past : Bool) → leb h.cuts k ≡ past → (b : Bool) → is_released k h ≡ b
        → cond past (Some fault.NoPart) (cond b (Some fault.Released) None) ≡ None → (k < h.cuts) × (is_released k h ≡ false)
    by_tests true e b f none = cc
    by_tests false e true f none = cc
    by_tests false e false f none = (grind (arith, nat_tests, e), f)

-- a closed part has what its chunk has
size-is : (s : StreamState) (h : History) (k : ℕ) → StandsFor s h → k < h.cuts
    → size_of_part (slice_get s.parts.closed k) ≡ released_with s.config (chunk_of k h)
size-is s h k is closed =
    let within : leb (k + 1) h.cuts ≡ true = grind (arith, nat_tests, closed) in
    let ps = map (packet_of s.config) (chunk_of k h) in
    let b = is_released k h in
    let at : slice_get s.parts.closed k ≡ Some (part_if b k ps) =
    part-at s h k is ∙ ap (λ (t : Bool). cond t (Some (closed_part s.config k h)) None) within in
    let x = if-packets b k ps ∙ length-map (chunk_of k h) (packet_of s.config) in
    let y = if-records b k ps ∙ records_of-packets s.config (chunk_of k h) in
    let z = if-bytes b k ps in
    ap size_of_part at ∙ (let p = x in let q = y in let r = z in cc)

releases_if : (refusal : Option ReleaseFault) (s : StreamState) (h : History) (k : ℕ) → history_release_refusal k h ≡ refusal → StandsFor s h
    → (released_unless refusal (size_of_part (slice_get s.parts.closed k)) ≡ released_unless refusal (released_with s.config (chunk_of k h)))
    × StandsFor (release_part_unless refusal k s) (release_chunk_unless refusal k h)
releases_if (Some why) s h k told is = (refl, is)
releases_if None s h k told is =
    let new = allowed k h told in
    (ap (released_unless None) (size-is s h k is new.0), stands-released s h k new.0 new.1 is)

-- a release is the history's release
pub releases : (s : StreamState) (h : History) (k : ℕ) → StandsFor s h
    → (state_release_answer k s ≡ history_release_answer s.config k h)
    × StandsFor (state_after_release k s) (history_after_release k h)
releases s h k is =
    let same = refusals s h k is in
    let done = releases_if (history_release_refusal k h) s h k refl is in (
      ap (λ (r : Option ReleaseFault). released_unless r (size_of_part (slice_get s.parts.closed k))) same ∙ done.0,
      subst (λ (r : Option ReleaseFault). StandsFor (release_part_unless r k s) (history_after_release k h)) (sym same) done.1,
    )

pub step-release : (s new : StreamState) (h : History) (k : ℕ) (answer : Result Released ReleaseFault) → StandsFor s h
    → answer ≡ state_release_answer k s → new ≡ state_after_release k s
    → (answer ≡ history_release_answer s.config k h) × StandsFor new (history_after_release k h)
step-release s new h k answer is told moved = (
  told ∙ (releases s h k is).0,
  subst (λ (t : StreamState). StandsFor t (history_after_release k h)) (sym moved) (releases s h k is).1,
)

-- ---- what a release leaves

-- a part that can be released: it is closed and held
pub record IsReleasable (k : ℕ) (s : StreamState) (released : Released) : Type 0 where
  pub part : PartState
  pub at : slice_get s.parts.closed k ≡ Some part
  pub held : part.released ≡ None
  pub size : released ≡ size_of_part (Some part)
  pub after : state_after_release k s ≡ record s { parts = release_part k s.parts }

pub releasable : (k : ℕ) (s : StreamState) (released : Released) → state_release_answer k s ≡ Ok released → IsReleasable k s released
releasable k s released told = by_part (slice_get s.parts.closed k) refl
  where
    by_part : (part : Option PartState) → slice_get s.parts.closed k ≡ part → IsReleasable k s released
    by_part None e =
        let refused : Err fault.NoPart ≡ (let r : Result Released ReleaseFault = Ok released in r) =
        sym (ap (λ (p : Option PartState). released_unless (part_refusal p) (size_of_part p)) e) ∙ told in
        absurd cc
    by_part (Some p) e = by_rest p.released refl
      where
        by_rest : (rest : Option _) → p.released ≡ rest → IsReleasable k s released
        by_rest (Some rest) f =
            let refused : Err fault.Released ≡ (let r : Result Released ReleaseFault = Ok released in r) =
            sym (ap (λ (q : Option PartState). released_unless (part_refusal q) (size_of_part q)) e
            ∙ ap (λ (r : Option _). released_unless (cond (is_some r) (Some fault.Released) None) (size_of_part (Some p))) f) ∙ told in
            absurd cc
        by_rest None f =
            let none : state_release_refusal k s ≡ None =
            ap part_refusal e ∙ ap (λ (r : Option _). cond (is_some r) (Some fault.Released) None) f in
            let answer : (let r : Result Released ReleaseFault = Ok (size_of_part (Some p)) in r) ≡ Ok released =
            sym (ap₂ (λ (r : Option ReleaseFault) (q : Option PartState). released_unless r (size_of_part q)) none e) ∙ told in
            record {
              part = p;
              at = e;
              held = f;
              size = cc;
              after = ap (λ (r : Option ReleaseFault). release_part_unless r k s) none;
            }

-- the other parts and the sums stay
sum-released : (k : ℕ) (ps : List PartState) (p : PartState) → slice_get ps k ≡ Some p → p.released ≡ None
    → sum_by part_records (change_at k release ps) ≡ sum_by part_records ps
sum-released k [] p at held = cc
sum-released zero (q ∷ qs) p at held =
    let same : q ≡ p = cc in
    let kept : part_records (release q) ≡ part_records q =
    sym (held-records q (ap (λ (r : PartState). r.released) same ∙ held)) in
    omega (arith, kept, sum_by-cons part_records q qs, sum_by-cons part_records (release q) qs)
sum-released (suc k) (q ∷ qs) p at held =
    omega (
      arith,
      sum-released k qs p at held,
      sum_by-cons part_records q qs,
      sum_by-cons part_records q (change_at k release qs),
    )

sent-released : (k : ℕ) (ps : List PartState) → AllByRecursion CanBeSent ps → AllByRecursion CanBeSent (change_at k release ps)
sent-released k [] sent = tt
sent-released zero (p ∷ ps) sent = (tt, sent.1)
sent-released (suc k) (p ∷ ps) sent = (sent.0, sent-released k ps sent.1)

sound-released : (s : StreamState) (k : ℕ) (p : PartState) → slice_get s.parts.closed k ≡ Some p → p.released ≡ None → IsSound s
    → IsSound (record s { parts = release_part k s.parts })
sound-released s k p at held is = record {
  config = is.config;
  made = record { size = is.made.size; count = is.made.count; mode = is.made.mode; origin = is.made.origin; size_low = is.made.size_low; count_low = is.made.count_low };
  few = is.few;
  in_time = is.in_time;
  total = omega (arith, is.total, sum-released k s.parts.closed p at held);
  consumed = omega (arith, is.consumed, sum-released k s.parts.closed p at held);
  withdrawn = is.withdrawn;
  numbers = is.numbers;
  dropped = is.dropped;
  room = is.room;
  fits = is.fits;
  waiting_fit = is.waiting_fit;
  losses = record { discarding = is.losses.discarding; overwriting = is.losses.overwriting };
  packets = is.packets;
  filling = is.filling;
  unconsumed = λ snapshot. absurd (none-closed (is.unconsumed snapshot));
  current_held = is.current_held;
  closed_sent = sent-released k s.parts.closed is.closed_sent;
  current_sent = is.current_sent;
}
  where
    none-closed : s.parts ≡ no_parts → ⊥
    none-closed none = let at_none : slice_get [] k ≡ Some p = sym (ap (λ (q : PartsState). slice_get q.closed k) none) ∙ at in cc

-- a closed part that is held is released
pub kept-released : (s : StreamState) (k : ℕ) (p : PartState) → slice_get s.parts.closed k ≡ Some p → p.released ≡ None → IsKept s
    → IsKept (record s { parts = release_part k s.parts })
kept-released s k p at held is =
    let h = is.history.0 in
    let closed : k < h.cuts = by_test (leb (k + 1) h.cuts) refl (sym (part-at s h k is.history.1) ∙ at) in
    let new : is_released k h ≡ false =
    sym (if-released (is_released k h) k (map (packet_of s.config) (chunk_of k h)))
    ∙ ap (λ (q : PartState). is_some q.released) (part-found (leb (k + 1) h.cuts) (sym (part-at s h k is.history.1) ∙ at))
    ∙ ap is_some held in
    record { sound = sound-released s k p at held is.sound; placed = placed-release s k p at held is.placed; history = (release_chunk k h, stands-released s h k closed new is.history.1) }
  where
    by_test : (b : Bool) → leb (k + 1) is.history.0.cuts ≡ b
        → cond b (Some (closed_part s.config k is.history.0)) None ≡ Some p → k < is.history.0.cuts
    by_test true e found = grind (arith, nat_tests, e)
    by_test false e found = cc

    part-found : (b : Bool) → cond b (Some (closed_part s.config k is.history.0)) None ≡ Some p → closed_part s.config k is.history.0 ≡ p
    part-found true found = cc
    part-found false found = cc

-- ---- what a release answers

pub told-none : (k : ℕ) (s : StreamState) → slice_get s.parts.closed k ≡ None
    → (let r : Result Released ReleaseFault = Err fault.NoPart in r) ≡ state_release_answer k s
told-none k s at = sym (ap (λ (p : Option PartState). released_unless (part_refusal p) (size_of_part p)) at)

pub told-some : (k : ℕ) (s : StreamState) (p : PartState) (b : Bool) → slice_get s.parts.closed k ≡ Some p → b ≡ is_some p.released
    → released_unless (cond b (Some fault.Released) None) (size_of_part (Some p)) ≡ state_release_answer k s
told-some k s p b at is =
    ap (λ (t : Bool). released_unless (cond t (Some fault.Released) None) (size_of_part (Some p))) is
    ∙ sym (ap (λ (q : Option PartState). released_unless (part_refusal q) (size_of_part q)) at)

pub told-size : (k : ℕ) (s : StreamState) (p : PartState) (packets records bytes : ℕ) → slice_get s.parts.closed k ≡ Some p
    → false ≡ is_some p.released → packets ≡ part_packets p → records ≡ part_records p → bytes ≡ part_bytes p
    → (let r : Result Released ReleaseFault = Ok (record { packets = packets; records = records; bytes = bytes }) in r)
    ≡ state_release_answer k s
told-size k s p packets records bytes at held packets_are records_are bytes_are =
    let size : (let r : Released = record { packets = packets; records = records; bytes = bytes } in r) ≡ size_of_part (Some p) =
    let x = packets_are in let y = records_are in let z = bytes_are in cc in
    ap (released_unless None) size ∙ told-some k s p false at held

-- a refused release changes nothing
pub refused-stays : (k : ℕ) (s : StreamState) (why : ReleaseFault)
    → (let r : Result Released ReleaseFault = Err why in r) ≡ state_release_answer k s → s ≡ state_after_release k s
refused-stays k s why told = by_refusal (state_release_refusal k s) told
  where
    by_refusal : (refusal : Option ReleaseFault)
        → (let r : Result Released ReleaseFault = Err why in r) ≡ released_unless refusal (size_of_part (slice_get s.parts.closed k))
        → s ≡ release_part_unless refusal k s
    by_refusal (Some other) is = refl
    by_refusal None is = absurd cc
