-- What the watcher of a load learns.
use Rattle.std.proofs.Common.{◌≡◌, ◌∙◌, ℕ, zero, suc, ◌*◌, ◌<◌, ◌≤◌, List, [], ◌∷◌, ◌++◌, Option, Some, None, ap, arith, get_or, length, map, refl, sym}
use Rattle.std.proofs.lemmas.Grind.{common_steps}
use Rattle.std.proofs.lemmas.List.{get_or-map, length-map}
use Rattle.std.proofs.lemmas.Option.{get_or_from_slice_get, slice_get-map}
use Rattle.std.specs.List.{sum_by}
use Rattle.std.specs.Option.{IsSome, option_to_list}
use Rattle.std.specs.Prelude.{IfOk, IfSome, Result, Ok, Err, is_some, nat_lt, option_map, replicate, slice_get}
use Rattle.tr_load.proofs.LoadLemmas.{at_made}
use Rattle.tr_load.proofs.WorkLemmas.{sum_same}
use Rattle.tr_load.specs.Loads.{AllHave, log_in}
use Rattle.tr_load.specs.Watching.{IsOfTally}
use Rattle.tr_pool.specs.declared.log.Log.{Log}
use Rattle.tr_seats.proofs.PlannedLemmas.{mapped}
use Rattle.tr_seats.specs.Slots.{AreNew, ProducerState, new_producer}
use Rattle.tr_shared.proofs.FeedLemmas.{fed-offers}
use Rattle.tr_shared.specs.Calls.{HasOffered, IsOffered}
use Rattle.tr_tally.specs.Tallies.{TallyState, WatcherState, new_watchers}
use Rattle.tr_threads.specs.Feeding.{IsFed}
use Rattle.tr_threads.specs.declared.items.Item.{Item}

-- ---- the watcher

last-same : {X : Type 0} (n : ℕ) (v w : X) (xs : List X) → replicate n v ≡ xs ++ w ∷ [] → w ≡ v
last-same zero v w [] is = cc
last-same zero v w (x ∷ xs) is = cc
last-same (suc n) v w [] is = cc
last-same (suc n) v w (x ∷ xs) is = let e : replicate n v ≡ xs ++ w ∷ [] = cc in last-same n v w xs e

-- one that is popped from the watchers of a tally reads that tally
pub popped-of : (tally : TallyState) (streams : ℕ) (watchers rest : List WatcherState) (popped : Option WatcherState)
    → watchers ≡ new_watchers tally.table streams tally.watchers → watchers ≡ rest ++ option_to_list popped
    → IfSome popped (IsOfTally tally)
popped-of tally streams watchers rest None are is = tt
popped-of tally streams watchers rest (Some w) are is =
    ap (λ (x : WatcherState). x.table)
    (last-same tally.watchers (record { table = tally.table; answers = replicate streams 0 }) w rest (sym are ∙ is))

-- the same of one that has the same table
pub of-same : (tally : TallyState) (now was : Option WatcherState)
    → option_map (λ (w : WatcherState). w.table) now ≡ option_map (λ (w : WatcherState). w.table) was
    → IfSome was (IsOfTally tally) → IfSome now (IsOfTally tally)
of-same tally None was same is = tt
of-same tally (Some w) None same is = cc
of-same tally (Some w) (Some v) same is = let e : w.table ≡ v.table = cc in e ∙ is

pub some-same : (now was : Option WatcherState)
    → option_map (λ (w : WatcherState). w.table) now ≡ option_map (λ (w : WatcherState). w.table) was → is_some now ≡ is_some was
some-same None None same = refl
some-same None (Some v) same = cc
some-same (Some w) None same = cc
some-same (Some w) (Some v) same = refl

-- there is one if there are any
pub some-if : {X : Type 0} (popped : Option X) (n : ℕ) → (IsSome popped → 0 < n) → (0 < n → IsSome popped) → is_some popped ≡ nat_lt 0 n
some-if None zero has there = refl
some-if None (suc n) has there = let some = there (omega arith) in cc
some-if (Some x) zero has there = absurd (omega (arith, has refl))
some-if (Some x) (suc n) has there = grind (arith, common_steps)

-- ---- what the feeders' producers have published

pub all_published : {B W : Type 0} (producer : B → ProducerState) (logged : B → List Item) (work : W → List Item)
    (fed : List B) (works : List W) (producers : List ProducerState) (threads records : ℕ)
    → length fed ≡ threads → length works ≡ threads → AreNew threads producers
    → ((i : ℕ) (p : ProducerState) (w : W) (b : B) → i < threads
    → IsFed IsOffered (get_or producers i p) (work (get_or works i w)) (producer (get_or fed i b)) (logged (get_or fed i b)))
    → AllHave records (map (λ (b : B). log_in (producer b).number (logged b)) fed)
    → (sum_by (λ (p : ProducerState). p.published) (map producer fed) ≡ threads * records)
    × (sum_by (λ (p : ProducerState). p.offered) (map producer fed) ≡ threads * records)
all_published {B} {W} producer logged work fed works producers threads records len many are did have =
    let all = ap (λ n. n * records) (length-map fed producer ∙ len) in (
      sum_same (λ (p : ProducerState). p.published) (map producer fed) records (λ i q low got. (each i q low got).0) ∙ all,
      sum_same (λ (p : ProducerState). p.offered) (map producer fed) records (λ i q low got. (each i q low got).1) ∙ all,
    )
  where
    log : B → Log
    log b = log_in (producer b).number (logged b)

    each : (i : ℕ) (q : ProducerState) → i < length (map producer fed) → slice_get (map producer fed) i ≡ Some q
        → (q.published ≡ records) × (q.offered ≡ records)
    each i q low got =
        let found = mapped producer (slice_get fed i) q (sym (slice_get-map producer fed i) ∙ got) in
        let b = found.0 in
        let lt : i < threads = omega (arith, low, length-map fed producer, len) in
        let at : get_or fed i b ≡ b = get_or_from_slice_get fed i b b found.1 in
        let new = are.1 i (new_producer i) lt in
        let offered : HasOffered (length (logged (get_or fed i b))) (get_or producers i (new_producer i)) (producer (get_or fed i b)) =
        at_made work works i [] (λ _. HasOffered (length (logged (get_or fed i b))) (get_or producers i (new_producer i)) (producer (get_or fed i b)))
        (omega (arith, lt, many)) (λ w. fed-offers _ _ (work (get_or works i w)) (logged (get_or fed i b)) (did i (new_producer i) w b lt)) in
        let count : length (logged (get_or fed i b)) ≡ records =
        ap (λ (l : Log). length l.items) (sym (get_or-map log fed i b (log b) (omega (arith, lt, len))))
        ∙ have i (log b) (omega (arith, lt, len, length-map fed log)) in
        let none = ap (λ (p : ProducerState). p.offered) new in
        let all = offered.published (ap (λ (p : ProducerState). p.published) new ∙ sym none) in
        let same = ap producer at ∙ found.2 in (
          omega (arith, ap (λ (p : ProducerState). p.published) same, all, offered.offered, none, count),
          omega (arith, ap (λ (p : ProducerState). p.offered) same, offered.offered, none, count),
        )

-- what was learned is just that
pub learned-too : (watched : Option ℕ) (published offered all : ℕ) → IfSome watched (λ (n : ℕ). published ≤ n)
    → IfSome watched (λ (n : ℕ). n ≤ offered) → (published ≡ all) × (offered ≡ all) → IfSome watched (λ (n : ℕ). n ≡ all)
learned-too None published offered all learned most is = tt
learned-too (Some n) published offered all learned most is = omega (arith, learned, most, is.0, is.1)

pub if-both : {X F : Type 0} (P Q : X → Type 0) (r : Result X F) → IfOk r P → IfOk r Q → IfOk r (λ x. P x × Q x)
if-both P Q (Ok x) p q = (p, q)
if-both P Q (Err fault) p q = tt
