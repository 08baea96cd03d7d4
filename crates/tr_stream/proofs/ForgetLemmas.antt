-- A forget is the history's forget, and it leaves a stream sound.
use Rattle.std.proofs.Common.{◌≡◌, ℕ, ◌+◌, ◌≤◌, ◌<◌, zero, suc, Bool, true, false, cond, eqb, leb, List, [], ◌∷◌, length, get_or, map, max, take, Option, Some, None, Result, Err, refl, sym, ◌∙◌, ap, ap₂, subst, arith}
use Rattle.std.proofs.lemmas.Bool.{false≢true}
use Rattle.std.proofs.lemmas.Bool.Decides.{nat_tests}
use Rattle.std.proofs.lemmas.Grind.{common_steps}
use Rattle.std.proofs.lemmas.List.{length-append}
use Rattle.std.proofs.lemmas.Option.{unwrap_or-slice_get}
use Rattle.std.specs.List.Sorted.{IsNonDecreasing}
use Rattle.std.specs.Option.{option_map_or}
use Rattle.std.specs.Prelude.{◌&&◌, is_some, nat_lt, slice_get}
use Rattle.tr_book.proofs.ClosedLemmas.{rise-past}
use Rattle.tr_book.specs.Parts.{AreReleased, IsForgetful, PartState, PartsState, begun_at, forget_parts, known_from, no_parts, part_at, part_known, place_in}
use Rattle.tr_packet.specs.Packets.{Contents}
use Rattle.tr_stream.proofs.PartLemmas.{below-is, part-is}
use Rattle.tr_stream.proofs.PlacedLemmas.{starts-rise}
use Rattle.tr_stream.proofs.Refinement.{chunks_same, parts_below-same}
use Rattle.tr_stream.proofs.ReleaseLemmas.{told-some}
use Rattle.tr_stream.proofs.TakeLemmas.{length-parts_below}
use Rattle.tr_stream.specs.Chunks.{chunk_of, closed_part, packet_of, part_if, part_known_in}
use Rattle.tr_stream.specs.History.{History, are_released, is_released}
use Rattle.tr_stream.specs.Kept.{IsKept}
use Rattle.tr_stream.specs.Fates.{all_parts}
use Rattle.tr_stream.specs.Placed.{ArePlaced, IsPlaced}
use Rattle.tr_stream.specs.Sound.{IsSound}
use Rattle.tr_stream.specs.StandsFor.{StandsFor}
use Rattle.tr_stream.specs.State.{StreamState}
use Rattle.tr_stream.specs.StateSteps.{are_parts_released, forget_parts_unless, is_part_released, state_after_forget, state_forget_answer, state_forget_refusal, state_release_answer}
use Rattle.tr_stream.specs.Steps.{done_unless, forget_chunks_unless, history_after_forget, history_forget_answer, history_forget_refusal}
use Rattle.tr_stream.specs.declared.answers.ForgetFault.{ForgetFault}
use Rattle.tr_stream.specs.declared.answers.ForgetFault.TheVariants as fault
use Rattle.tr_stream.specs.declared.answers.ReleaseFault.{ReleaseFault}
use Rattle.tr_stream.specs.declared.answers.ReleaseFault.TheVariants as release_fault
use Rattle.tr_stream.specs.declared.answers.Released.{Released}

-- ---- parts that aren't forgotten

pub known-part : (k : ℕ) (ps : PartsState) → ps.forgotten ≤ k → part_known k ps ≡ part_at k ps
known-part k ps known =
    let test : nat_lt k ps.forgotten ≡ false = grind (arith, nat_tests, known) in
    ap (λ (b : Bool). cond b None (part_at k ps)) test

-- by the history
pub part-known-is : (s : StreamState) (h : History) (k : ℕ) → StandsFor s h → part_known k s.parts ≡ part_known_in s.config k h
part-known-is s h k is =
    ap₂ (λ (n : ℕ) (p : Option PartState). cond (nat_lt k n) None p) is.forgotten (part-is s h k is)

-- there is one after each start
pub placed-count : (low : ℕ) (starts : List ℕ) (high : ℕ) (ps : List PartState) → ArePlaced low starts high ps
    → length ps ≡ length starts + 1
placed-count low starts high [] placed = absurd placed
placed-count low [] high (p ∷ ps) placed = ap suc (ap length placed.0)
placed-count low (s ∷ starts) high (p ∷ ps) placed = let more = placed-count s starts high ps placed.2 in grind (arith, common_steps, more)

-- what was offered since a part began isn't in an earlier one
pub place-known : (n f : ℕ) (starts : List ℕ) → f ≤ length starts → IsNonDecreasing starts → begun_at f starts ≤ n → f ≤ place_in n starts
place-known n zero starts within rise from = omega arith
place-known n (suc f) [] within rise from = absurd (omega (arith, within))
place-known n (suc f) (s ∷ starts) within rise from =
    let last : get_or (s ∷ starts) f 0 ≤ n = subst (λ (m : ℕ). m ≤ n) (unwrap_or-slice_get (s ∷ starts) f 0) from in
    let up : s ≤ get_or (s ∷ starts) f 0 = rise 0 f 0 (omega arith) (omega (arith, within)) in
    let first : leb s n ≡ true = (let le : s ≤ n = omega (arith, up, last) in grind (arith, nat_tests, le)) in
    let more = place-known n f starts (grind (arith, common_steps, within)) (rise-past (s ∷ []) starts rise) (before f from) in
    subst (λ (b : Bool). suc f ≤ cond b (place_in n starts + 1) 0) (sym first) (omega (arith, more))
  where
    before : (f : ℕ) → begun_at (suc f) (s ∷ starts) ≤ n → begun_at f starts ≤ n
    before zero from = omega arith
    before (suc f) from = from

-- by where a serial's part is
pub known-place : (s : StreamState) (n k : ℕ) → IsPlaced s → s.parts.forgotten ≤ length s.parts.closed → known_from s.parts ≤ n
    → k ≡ place_in n s.parts.starts → s.parts.forgotten ≤ k
known-place s n k placed within from place =
    let count = placed-count 0 s.parts.starts s.counters.offered (all_parts s.parts) placed.parts in
    let parts : length (all_parts s.parts) ≡ length s.parts.closed + 1 = length-append s.parts.closed (s.parts.current ∷ []) in
    let rise = starts-rise 0 s.parts.starts s.counters.offered (all_parts s.parts) placed.parts in
    let known = place-known n s.parts.forgotten s.parts.starts (omega (arith, within, count, parts)) rise from in
    omega (arith, known, place)

-- ---- which parts were released

both-true : (a b : Bool) → (a && b) ≡ true → (a ≡ true) × (b ≡ true)
both-true true b e = (refl, e)
both-true false b e = absurd (false≢true e)

with-true : (a b : Bool) → a ≡ true → b ≡ true → (a && b) ≡ true
with-true true b e f = f
with-true false b e f = absurd (false≢true e)

-- of those below a number, each one
released-each : (k j : ℕ) (s : StreamState) → are_parts_released k s ≡ true → j < k → is_part_released j s ≡ true
released-each zero j s all below = absurd (omega (arith, below))
released-each (suc k) j s all below =
    let both = both-true (are_parts_released k s) (is_part_released k s) all in
    by_test (eqb j k) refl both.1 (released-each k j s both.0)
  where
    by_test : (b : Bool) → eqb j k ≡ b → is_part_released k s ≡ true → (j < k → is_part_released j s ≡ true) → is_part_released j s ≡ true
    by_test true e last before = let same : j ≡ k = grind (arith, nat_tests, e) in ap (λ (m : ℕ). is_part_released m s) same ∙ last
    by_test false e last before = before (grind (arith, nat_tests, e, below))

-- those below a smaller one too
pub released-fewer : (k j : ℕ) (s : StreamState) → are_parts_released k s ≡ true → j ≤ k → are_parts_released j s ≡ true
released-fewer k zero s all le = refl
released-fewer k (suc j) s all le =
    with-true (are_parts_released j s) (is_part_released j s) (released-fewer k j s all (omega (arith, le)))
    (released-each k j s all (omega (arith, le)))

pub released-more : (k : ℕ) (s : StreamState) → are_parts_released k s ≡ true → is_part_released k s ≡ true
    → are_parts_released (k + 1) s ≡ true
released-more k s all one =
    let next : suc k ≡ k + 1 = omega arith in
    ap (λ (m : ℕ). are_parts_released m s) (sym next) ∙ with-true (are_parts_released k s) (is_part_released k s) all one

-- not all of them, if one of them wasn't
pub one-held : (k j : ℕ) (s : StreamState) → j < k → is_part_released j s ≡ false → are_parts_released k s ≡ false
one-held k j s below held = by_test (are_parts_released k s) refl
  where
    by_test : (b : Bool) → are_parts_released k s ≡ b → are_parts_released k s ≡ false
    by_test true all = absurd (false≢true (sym held ∙ released-each k j s all below))
    by_test false some = some

some-part : (parts : List PartState) (k : ℕ) → k < length parts → (p : PartState) × (slice_get parts k ≡ Some p)
some-part [] k low = absurd (omega (arith, low))
some-part (p ∷ parts) zero low = (p, refl)
some-part (p ∷ parts) (suc k) low = some-part parts k (grind (arith, common_steps, low))

-- as a list
first-released : (k j : ℕ) (parts : List PartState) → AreReleased (take k parts) → j < k → j < length parts
    → option_map_or (λ (p : PartState). is_some p.released) (slice_get parts j) false ≡ true
first-released k j [] are below within = absurd (omega (arith, within))
first-released zero j (p ∷ parts) are below within = absurd (omega (arith, below))
first-released (suc k) zero (p ∷ parts) are below within = are.0
first-released (suc k) (suc j) (p ∷ parts) are below within =
    first-released k j parts are.1 (omega (arith, below)) (grind (arith, common_steps, within))

pub released-by-list : (k : ℕ) (s : StreamState) → k ≤ length s.parts.closed → AreReleased (take k s.parts.closed)
    → are_parts_released k s ≡ true
released-by-list k s within are = go k (omega arith)
  where
    go : (j : ℕ) → j ≤ k → are_parts_released j s ≡ true
    go zero le = refl
    go (suc j) le =
        with-true (are_parts_released j s) (is_part_released j s) (go j (omega (arith, le)))
        (first-released k j s.parts.closed are (omega (arith, le)) (omega (arith, le, within)))

list-by-each : (k : ℕ) (parts : List PartState)
    → ((j : ℕ) → j < k → option_map_or (λ (p : PartState). is_some p.released) (slice_get parts j) false ≡ true)
    → AreReleased (take k parts)
list-by-each zero parts each = tt
list-by-each (suc k) [] each = tt
list-by-each (suc k) (p ∷ parts) each = (each 0 (omega arith), list-by-each k parts (λ j below. each (suc j) (omega (arith, below))))

-- a part that is forgotten can't be released again
pub told-gone : (k : ℕ) (s : StreamState) → IsForgetful s.parts → k < s.parts.forgotten
    → (let r : Result Released ReleaseFault = Err release_fault.Released in r) ≡ state_release_answer k s
told-gone k s is gone =
    let some = some-part s.parts.closed k (omega (arith, gone, is.closed)) in
    let released : is_some some.0.released ≡ true =
    sym (ap (λ (p : Option PartState). option_map_or (λ (q : PartState). is_some q.released) p false) some.1)
    ∙ first-released s.parts.forgotten k s.parts.closed is.released gone (omega (arith, gone, is.closed)) in
    told-some k s some.0 true some.1 (sym released)

-- ---- what is asked before parts are forgotten

pub told-held : (k : ℕ) (s : StreamState) → k ≤ length s.parts.closed → are_parts_released k s ≡ false
    → Some fault.Held ≡ state_forget_refusal k s
told-held k s within some =
    let past : nat_lt (length s.parts.closed) k ≡ false = grind (arith, nat_tests, within) in
    sym (ap₂ (λ (b all : Bool). cond b (Some fault.NoPart) (cond all None (Some fault.Held))) past some)

pub told-released : (k : ℕ) (s : StreamState) → k ≤ length s.parts.closed → are_parts_released k s ≡ true
    → None ≡ state_forget_refusal k s
told-released k s within all =
    let past : nat_lt (length s.parts.closed) k ≡ false = grind (arith, nat_tests, within) in
    sym (ap₂ (λ (b all : Bool). cond b (Some fault.NoPart) (cond all None (Some fault.Held))) past all)

-- parts that may be forgotten
pub record CanBeForgotten (k : ℕ) (s : StreamState) : Type 0 where
  pub closed : k ≤ length s.parts.closed
  pub all : are_parts_released k s ≡ true
  pub after : state_after_forget k s ≡ record s { parts = forget_parts k s.parts }

pub can-be-forgotten : (k : ℕ) (s : StreamState) → state_forget_refusal k s ≡ None → CanBeForgotten k s
can-be-forgotten k s none = by_tests (nat_lt (length s.parts.closed) k) refl (are_parts_released k s) refl none
  where
    by_tests : (past : Bool) → nat_lt (length s.parts.closed) k ≡ past → (all : Bool) → are_parts_released k s ≡ all
        → cond past (Some fault.NoPart) (cond all None (Some fault.Held)) ≡ None → CanBeForgotten k s
    by_tests true e all f told = absurd cc
    by_tests false e false f told = absurd cc
    by_tests false e true f told = record {
      closed = grind (arith, nat_tests, e);
      all = f;
      after = ap (λ (r : Option ForgetFault). forget_parts_unless r k s) none;
    }

pub released-list : (k : ℕ) (s : StreamState) → CanBeForgotten k s → AreReleased (take k s.parts.closed)
released-list k s can = list-by-each k s.parts.closed (λ j below. released-each k j s can.all below)

-- ---- the history's forget

if-released : (b : Bool) (k : ℕ) (ps : List Contents) → is_some (part_if b k ps).released ≡ b
if-released true k ps = refl
if-released false k ps = refl

-- a closed part was released if its chunk was
one-same : (s : StreamState) (h : History) (k : ℕ) → StandsFor s h → k < h.cuts → is_part_released k s ≡ is_released k h
one-same s h k is closed =
    let within : leb (k + 1) h.cuts ≡ true = grind (arith, nat_tests, closed) in
    let at : slice_get s.parts.closed k ≡ Some (closed_part s.config k h) =
    ap (λ (ps : List PartState). slice_get ps k) is.closed ∙ below-is s.config h.cuts k h
    ∙ ap (λ (b : Bool). cond b (Some (closed_part s.config k h)) None) within in
    ap (λ (p : Option PartState). option_map_or (λ (q : PartState). is_some q.released) p false) at
    ∙ if-released (is_released k h) k (map (packet_of s.config) (chunk_of k h))

all-same : (s : StreamState) (h : History) (k : ℕ) → StandsFor s h → k ≤ h.cuts → are_parts_released k s ≡ are_released k h
all-same s h zero is within = refl
all-same s h (suc k) is within =
    ap₂ (λ (a b : Bool). a && b) (all-same s h k is (omega (arith, within))) (one-same s h k is (omega (arith, within)))

refusals : (s : StreamState) (h : History) (k : ℕ) → StandsFor s h → state_forget_refusal k s ≡ history_forget_refusal k h
refusals s h k is = by_test (nat_lt h.cuts k) refl
  where
    cuts : length s.parts.closed ≡ h.cuts
    cuts = ap length is.closed ∙ length-parts_below s.config h.cuts h

    by_test : (past : Bool) → nat_lt h.cuts k ≡ past → state_forget_refusal k s ≡ history_forget_refusal k h
    by_test true e =
        ap (λ (n : ℕ). cond (nat_lt n k) (Some fault.NoPart) (cond (are_parts_released k s) None (Some fault.Held))) cuts
        ∙ ap (λ (b : Bool). cond b (Some fault.NoPart) (cond (are_parts_released k s) None (Some fault.Held))) e
        ∙ sym (ap (λ (b : Bool). cond b (Some fault.NoPart) (cond (are_released k h) None (Some fault.Held))) e)
    by_test false e =
        let within : k ≤ h.cuts = grind (arith, nat_tests, e) in
        ap₂ (λ (n : ℕ) (all : Bool). cond (nat_lt n k) (Some fault.NoPart) (cond all None (Some fault.Held))) cuts
        (all-same s h k is within)

-- the parts are those of the history in which the chunks are forgotten
pub stands-forgotten : (s : StreamState) (h : History) (k : ℕ) → StandsFor s h
    → StandsFor (record s { parts = forget_parts k s.parts }) (record h { forgotten = max k h.forgotten })
stands-forgotten s h k is =
    let g : History = record h { forgotten = max k h.forgotten } in
    record {
      model = record {
        numbers = is.model.numbers;
        filling = is.model.filling;
        order = is.model.order;
        kept = is.model.kept;
        recent = is.model.recent;
        used = is.model.used;
        room = is.model.room;
        covers = is.model.covers;
        covers_filling = is.model.covers_filling;
        chunks = chunks_same h g (λ j. refl) refl is.model.chunks;
        released = is.model.released;
        serials = is.model.serials;
      };
      closed = is.closed ∙ parts_below-same s.config h.cuts g h (λ j l. refl) refl;
      current = is.current;
      starts = is.starts;
      forgotten = ap (max k) is.forgotten;
      runs = is.runs;
      waiting = is.waiting;
      filling = is.filling;
      number = is.number;
      discarded = is.discarded;
      offered = is.offered;
      overwritten = is.overwritten;
      overwritten_packets = is.overwritten_packets;
      consumed = is.consumed;
      cleared = is.cleared;
      withdrawn = is.withdrawn;
      last = is.last;
      active = is.active;
    }

forgets_if : (refusal : Option ForgetFault) (s : StreamState) (h : History) (k : ℕ) → StandsFor s h
    → StandsFor (forget_parts_unless refusal k s) (forget_chunks_unless refusal k h)
forgets_if (Some why) s h k is = is
forgets_if None s h k is = stands-forgotten s h k is

-- a forget is the history's forget
pub forgets : (s : StreamState) (h : History) (k : ℕ) → StandsFor s h
    → (state_forget_answer k s ≡ history_forget_answer k h) × StandsFor (state_after_forget k s) (history_after_forget k h)
forgets s h k is =
    let same = refusals s h k is in (
      ap done_unless same,
      subst (λ (r : Option ForgetFault). StandsFor (forget_parts_unless r k s) (history_after_forget k h)) (sym same)
          (forgets_if (history_forget_refusal k h) s h k is),
    )

pub step-forget : (s new : StreamState) (h : History) (k : ℕ) (answer : Result (Unit {0}) ForgetFault) → StandsFor s h
    → answer ≡ state_forget_answer k s → new ≡ state_after_forget k s
    → (answer ≡ history_forget_answer k h) × StandsFor new (history_after_forget k h)
step-forget s new h k answer is told moved = (
  told ∙ (forgets s h k is).0,
  subst (λ (t : StreamState). StandsFor t (history_after_forget k h)) (sym moved) (forgets s h k is).1,
)

-- ---- what a forget leaves

-- of no parts none can be forgotten
none-forgotten : (k : ℕ) (ps : PartsState) → ps ≡ no_parts → k ≤ length ps.closed → forget_parts k ps ≡ no_parts
none-forgotten k ps none within =
    let few : k ≡ 0 = (let count : length ps.closed ≡ 0 = ap (λ (q : PartsState). length q.closed) none in omega (arith, count, within)) in
    ap₂ forget_parts few none

sound-forgotten : (s : StreamState) (k : ℕ) → k ≤ length s.parts.closed → IsSound s → IsSound (record s { parts = forget_parts k s.parts })
sound-forgotten s k within is = record {
  config = is.config;
  made = record { size = is.made.size; count = is.made.count; mode = is.made.mode; origin = is.made.origin; size_low = is.made.size_low; count_low = is.made.count_low };
  few = is.few;
  in_time = is.in_time;
  total = is.total;
  consumed = is.consumed;
  withdrawn = is.withdrawn;
  numbers = is.numbers;
  dropped = is.dropped;
  room = is.room;
  fits = is.fits;
  waiting_fit = is.waiting_fit;
  losses = record { discarding = is.losses.discarding; overwriting = is.losses.overwriting };
  packets = is.packets;
  filling = is.filling;
  unconsumed = λ snapshot. none-forgotten k s.parts (is.unconsumed snapshot) within;
  current_held = is.current_held;
  closed_sent = is.closed_sent;
  current_sent = is.current_sent;
}

pub kept-forgotten : (s : StreamState) (k : ℕ) → k ≤ length s.parts.closed → IsKept s → IsKept (record s { parts = forget_parts k s.parts })
kept-forgotten s k within is = record {
  sound = sound-forgotten s k within is.sound;
  placed = record { parts = is.placed.parts; begun = is.placed.begun; ring = is.placed.ring };
  history = (record is.history.0 { forgotten = max k is.history.0.forgotten }, stands-forgotten s is.history.0 k is.history.1);
}
