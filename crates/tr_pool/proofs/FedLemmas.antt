-- Logs of fed producers agree with the streams that these settle.
use Rattle.std.proofs.Common.{◌≡◌, ◌≢◌, ◌∙◌, ◌+◌, ◌<◌, ℕ, suc, Bool, true, false, List, [], ◌∷◌, Some, ⊎_elim, ap, arith, cond, eqb, get_or, length, subst, sym}
use Rattle.std.specs.Prelude.{count_by, ◌==◌}
use Rattle.std.specs.List.{AllByRecursion}
use Rattle.std.proofs.lemmas.Bool.Decides.{eqb_tells}
use Rattle.std.proofs.lemmas.List.Sums.{sum_by-cons}
use Rattle.std.proofs.lemmas.Option.{get_or_from_slice_get, slice_get_within}
use Rattle.tr_accounts.proofs.LogLemmas.{logged}
use Rattle.tr_accounts.specs.Holds.{HoldsOffers}
use Rattle.tr_accounts.specs.StreamSteps.{accepted_in}
use Rattle.tr_pool.specs.Fed.{AreLogsOf}
use Rattle.tr_pool.specs.Logs.{AgreeBelow, Agrees, HasWrong, IsFirstWrong, IsLogged, IsRecordOf, held_records, log_of}
use Rattle.tr_pool.specs.declared.log.Log.{Log}
use Rattle.tr_pool.specs.declared.report.Mismatch.{Mismatch}
use Rattle.tr_pool.specs.declared.report.Mismatch.TheVariants.{WrongRecord, LogLength}
use Rattle.tr_record.specs.Records.{Entry}
use Rattle.tr_seats.specs.Settling.{AreAccountsOf, IsOneEach}
use Rattle.tr_seats.specs.Slots.{ProducerState}
use Rattle.tr_shared.specs.Feeds.{offered_item}
use Rattle.tr_stream.specs.State.{StreamState}
use Rattle.tr_threads.specs.declared.items.Item.{Item}

-- a stream has a log, and what holds of the log of its producer holds of that
log-found : (R : Log → Type 0) (i : ℕ) (producers : List ProducerState) (logs : List Log) → length logs ≡ length producers
    → ((k : ℕ) (p : ProducerState) (l : Log) → k < length producers → (get_or logs k l).stream ≡ (get_or producers k p).number)
    → ((k : ℕ) (p : ProducerState) (l : Log) → k < length producers → (get_or producers k p).number ≡ i → R (get_or logs k l))
    → count_by (λ (p : ProducerState). p.number == i) producers ≡ 1 → (log : Log) × (log_of logs i ≡ Some log) × R log
log-found R i [] logs len same each one = absurd (omega (arith, one))
log-found R i (p ∷ ps) [] len same each one = absurd (omega (arith, len))
log-found R i (p ∷ ps) (l ∷ ls) len same each one =
    let here : eqb l.stream i ≡ eqb p.number i = ap (λ (n : ℕ). eqb n i) (same 0 p l (omega arith)) in
    ⊎_elim
    (λ (t : (eqb p.number i ≡ true) × (p.number ≡ i)).
    (l, ap (λ (b : Bool). cond b (Some l) (log_of ls i)) (here ∙ t.0), each 0 p l (omega arith) t.1))
    (λ (t : (eqb p.number i ≡ false) × (p.number ≢ i)).
    let none : ◌≡◌ {A = ℕ} (cond (eqb p.number i) 1 0) 0 = ap (λ (b : Bool). cond b 1 0) t.0 in
    let more : count_by (λ (p : ProducerState). p.number == i) (p ∷ ps)
    ≡ cond (eqb p.number i) 1 0 + count_by (λ (p : ProducerState). p.number == i) ps =
    sum_by-cons (λ (p : ProducerState). cond (p.number == i) 1 0) p ps in
    let rest = log-found R i ps ls (omega (arith, len)) (λ k q m lt. same (suc k) q m (omega (arith, lt)))
    (λ k q m lt at. each (suc k) q m (omega (arith, lt)) at) (omega (arith, one, more, none)) in
    (rest.0, ap (λ (b : Bool). cond b (Some l) (log_of ls i)) (here ∙ t.0) ∙ rest.1, rest.2))
    (eqb_tells p.number i)

pub fed-agree : (producers : List ProducerState) (logs : List Log) (streams : List StreamState) → IsOneEach (length streams) producers
    → AreAccountsOf producers streams → AreLogsOf producers logs → AgreeBelow logs streams (length streams)
fed-agree producers logs streams once accounts are i s lt got =
    let IsItsLog : List Item → Type 0 = λ items. (length items ≡ s.counters.offered) × AllByRecursion (IsLogged items) (held_records s) in
    let found = log-found (λ log. IsItsLog log.items) i producers logs are.0 (λ k p l low. (are.1 k p l low).0)
    (λ k p l low at.
    let p_k = get_or producers k p in
    let here : get_or streams p_k.number s ≡ s = ap (λ n. get_or streams n s) at ∙ get_or_from_slice_get streams i s s got in
    let holds : HoldsOffers (accepted_in p_k.steps) s = subst (HoldsOffers (accepted_in p_k.steps)) here (accounts k p s low).holds in
    subst IsItsLog (sym (are.1 k p l low).1)
    (logged offered_item IsRecordOf (λ o e is. (sym is.id, sym is.payload, is.moment)) (accepted_in p_k.steps) s holds))
    (once i lt) in
    (found.0, (found.1, found.2.0), found.2.1)

not-wrong : (items : List Item) (n : ℕ) (es : List Entry) → AllByRecursion (IsLogged items) es → HasWrong items n es → ⊥
not-wrong items n [] all wrong = wrong
not-wrong items n (e ∷ es) all wrong =
    ⊎_elim (λ (t : (e.serial ≡ n) × (¬ IsLogged items e)). t.1 all.0) (λ (t : HasWrong items n es). not-wrong items n es all.1 t) wrong

pub none-wrong : (logs : List Log) (streams : List StreamState) (mismatch : Mismatch) → AgreeBelow logs streams (length streams)
    → IsFirstWrong logs streams mismatch → ⊥
none-wrong logs streams (LogLength i) all is =
    let agrees : Agrees logs i is.0 = all i is.0 (slice_get_within streams i is.0 is.1) is.1 in
    is.3 (agrees.0, agrees.1)
none-wrong logs streams (WrongRecord i n) all is =
    let agrees : Agrees logs i is.0 = all i is.0 (slice_get_within streams i is.0 is.1) is.1 in
    let wrong = is.3 in
    let both : Some wrong.0 ≡ Some agrees.0 = sym wrong.1.0 ∙ agrees.1.0 in
    let same : wrong.0 ≡ agrees.0 = cc in
    not-wrong wrong.0.items n (held_records is.0)
    (subst (λ (l : Log). AllByRecursion (IsLogged l.items) (held_records is.0)) (sym same) agrees.2) wrong.2.0
