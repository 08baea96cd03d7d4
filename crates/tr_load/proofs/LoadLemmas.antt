-- The logs of a load.
use Rattle.std.proofs.Common.{◌≡◌, ℕ, zero, suc, ◌<◌, List, [], ◌∷◌, ◌++◌, drop, length, map, take, get_or, refl, ap, sym, ◌∙◌, subst, arith}
use Rattle.std.specs.List.{range_with_len}
use Rattle.std.specs.Prelude.{IfOk, IsOk, Result, Ok, Err}
use Rattle.std.proofs.lemmas.List.{get_or-map, length-map, take_at}
use Rattle.std.proofs.lemmas.List.FromFn.{get_or-map-range_with_len, length-map-range_with_len}
use Rattle.tr_load.proofs.WorkLemmas.{whole_work}
use Rattle.tr_load.specs.Loads.{AllHave, AreLogs, IsJudged, IsLogOf as IsLoadLogOf, log_in}
use Rattle.tr_load.specs.Works.{item_of, work_of}
use Rattle.tr_threads.specs.Feeding.{IsFed}
use Rattle.tr_shared.specs.Calls.{IsOffered}
use Rattle.tr_shared.specs.Feeds.{IsLogOf}
use Rattle.tr_shared.proofs.FeedLemmas.{fed-logs}
use Rattle.tr_threads.specs.declared.items.Item.{Item}
use Rattle.tr_pool.proofs.FedLemmas.{fed-agree, none-wrong}
use Rattle.tr_pool.specs.Fed.{AreLogsOf}
use Rattle.tr_pool.specs.declared.log.Log.{Log}
use Rattle.tr_pool.specs.declared.report.Mismatch.{Mismatch}
use Rattle.tr_pool.specs.declared.report.Report.{Report}
use Rattle.tr_seats.specs.Settling.{AreAccountsOf, IsOneEach}
use Rattle.tr_seats.specs.Slots.{AreNew, ProducerState, new_producer}
use Rattle.tr_stream.specs.State.{StreamState}

-- what holds of each element's image holds of the image's elements
pub at_made : {A B : Type 0} (f : B → A) (made : List B) (i : ℕ) (d : A) (P : A → Type 0) → i < length made
    → ((b : B) → P (f (get_or made i b))) → P (get_or (map f made) i d)
at_made f [] i d P low each = absurd (omega (arith, low))
at_made f (x ∷ xs) zero d P low each = each x
at_made f (x ∷ xs) (suc i) d P low each = at_made f xs i d P (omega (arith, low)) each

-- feeders that offered the work of a load, and logged as many items, have its logs
pub logs_of : {B W : Type 0} (producer : B → ProducerState) (logged : B → List Item) (work : W → List Item)
    (fed : List B) (works : List W) (producers : List ProducerState) (threads records : ℕ)
    → length fed ≡ threads → AreNew threads producers
    → map work works ≡ map (work_of records) (range_with_len 0 threads)
    → ((i : ℕ) (p : ProducerState) (w : W) (b : B) → i < threads
    → IsFed IsOffered (get_or producers i p) (work (get_or works i w)) (producer (get_or fed i b)) (logged (get_or fed i b)))
    → AllHave records (map (λ (b : B). log_in (producer b).number (logged b)) fed)
    → AreLogs threads records (map (λ (b : B). log_in (producer b).number (logged b)) fed)
logs_of {B} {W} producer logged work fed works producers threads records len new are did have =
    let log : B → Log = λ b. log_in (producer b).number (logged b) in
    let many : length works ≡ threads =
    sym (length-map works work) ∙ ap length are ∙ length-map-range_with_len (work_of records) 0 threads in (
      length-map fed log ∙ len,
      (λ t d low. at_made log fed t d (IsLoadLogOf records t) (omega (arith, low, len)) (λ b.
          let after = producer (get_or fed t b) in let items = logged (get_or fed t b) in
          let before = get_or producers t (new_producer t) in
          let own : get_or (map work works) t [] ≡ work_of records t =
          ap (λ xs. get_or xs t []) are ∙ get_or-map-range_with_len (work_of records) 0 threads t t [] low (omega arith) in
          let all : IsFed IsOffered before (get_or (map work works) t []) after items =
          at_made work works t [] (λ w. IsFed IsOffered before w after items) (omega (arith, low, many)) (λ w. did t (new_producer t) w b low) in
          let fed_it : IsFed IsOffered (new_producer t) (work_of records t) after items =
          subst (λ q. IsFed IsOffered q (work_of records t) after items) (new.1 t (new_producer t) low)
          (subst (λ w. IsFed IsOffered before w after items) own all) in
          let count : length items ≡ records =
          ap (λ (l : Log). length l.items) (sym (get_or-map log fed t b d (omega (arith, low, len))))
          ∙ have t d (omega (arith, low, len, length-map fed log)) in (
            whole_work IsOffered (new_producer t) after (work_of records t) items fed_it
                (count ∙ sym (length-map-range_with_len (item_of t) 0 records)),
            (after, refl, fed_it),
          ))),
    )

-- feeders of new producers have logged just what these offered and what was accepted
pub logs_fed : {B W : Type 0} (producer : B → ProducerState) (logged : B → List Item) (work : W → List Item)
    (fed : List B) (works : List W) (producers : List ProducerState) (threads : ℕ)
    → length fed ≡ threads → length works ≡ threads → AreNew threads producers
    → ((i : ℕ) (p : ProducerState) (w : W) (b : B) → i < threads
    → IsFed IsOffered (get_or producers i p) (work (get_or works i w)) (producer (get_or fed i b)) (logged (get_or fed i b)))
    → AreLogsOf (map producer fed) (map (λ (b : B). log_in (producer b).number (logged b)) fed)
logs_fed {B} {W} producer logged work fed works producers threads len many new did =
    let log : B → Log = λ b. log_in (producer b).number (logged b) in (
      length-map fed log ∙ sym (length-map fed producer),
      λ k p l low.
          let q = get_or (map producer fed) k p in
          let there : k < length fed = omega (arith, low, length-map fed producer) in
          at_made log fed k l (λ x. (x.stream ≡ q.number) × IsLogOf q x.items) there (λ b.
          let is : IsLogOf (producer (get_or fed k b)) (logged (get_or fed k b)) =
          at_made work works k [] (λ _. IsLogOf (producer (get_or fed k b)) (logged (get_or fed k b))) (omega (arith, there, len, many))
          (λ w. fed-logs (get_or producers k (new_producer k)) (producer (get_or fed k b)) (work (get_or works k w)) (logged (get_or fed k b))
          (did k (new_producer k) w b (omega (arith, there, len)))
          (ap (λ (p : ProducerState). p.steps) (new.1 k (new_producer k) (omega (arith, there, len))))) in
          subst (λ (q : ProducerState). ((producer (get_or fed k b)).number ≡ q.number) × IsLogOf q (logged (get_or fed k b)))
          (sym (get_or-map producer fed k b p there)) (refl, is)),
    )

-- what is written back over a list
pub written_back : {X : Type 0} → (xs ys : List X) (n : ℕ) → ys ≡ xs → n ≡ length xs → take n (ys ++ drop (length ys) xs) ≡ xs
written_back {X = X} xs ys n same long =
    ap (λ (l : List X). take n (l ++ drop (length l) xs)) same ∙ take_at xs (drop (length xs) xs) n (sym long)

-- logs that agree with the streams are judged so
pub judged_ok : (producers : List ProducerState) (logs : List Log) (streams : List StreamState) (outcome : Result Report Mismatch)
    → IsOneEach (length streams) producers → AreAccountsOf producers streams → AreLogsOf producers logs → IsJudged logs streams outcome
    → IsOk outcome
judged_ok producers logs streams (Ok report) once accounts are judged = refl
judged_ok producers logs streams (Err mismatch) once accounts are judged =
    absurd (none-wrong logs streams mismatch (fed-agree producers logs streams once accounts are) judged)

pub if_ok_too : {X F : Type 0} (P Q : X → Type 0) (r : Result X F) → ((x : X) → P x → Q x) → IfOk r P → IfOk r Q
if_ok_too P Q (Ok x) more is = more x is
if_ok_too P Q (Err fault) more is = is
