use Rattle.std.proofs.Common.{rules, arith, List, Vec, Global, ◌≡◌, ◌*◌, ◌<◌, ◌≤◌, Ok, ap, length, map, vec_len, sym, ◌∙◌, subst}
use Rattle.std.proofs.lemmas.List.{length-replicate}
use Rattle.std.specs.List.{sum_by}
use Rattle.std.specs.Prelude.{IfOk, IfSome, IsOk, is_some, nat_lt}
use Rattle.tr_load.specs.Crews.{HasFed}
use Rattle.tr_load.specs.Loads.{AllHave, AreLogs, IsEnded, IsJudged, IsLoaded, IsUncleared, log_in}
use Rattle.tr_load.proofs.LoadLemmas.{if_ok_too, logs_fed, logs_of, written_back}
use Rattle.tr_load.proofs.WatchLemmas.{all_published, if-both, learned-too, of-same, popped-of, some-if, some-same}
use Rattle.tr_load.proofs.WorkLemmas.{all_offered}
use Rattle.tr_tally.specs.Tallies.{TallyState, WatcherState}
use Rattle.tr_threads.specs.declared.feeding.LoggedProducer.{LoggedProducer}
use Rattle.tr_threads.specs.declared.items.Item.{Item}
use Rattle.tr_seats.specs.Books.{PlanState}
use Rattle.tr_seats.specs.Settling.{IsSessionOf}
use Rattle.tr_seats.specs.Slots.{AreNew, ProducerState}
use Rattle.tr_load.specs.declared.loaded.Loaded.{Loaded}
use Rattle.tr_pool.specs.Fed.{AreLogsOf}
use Rattle.tr_pool.specs.declared.log.Log.{Log}
use Rattle.tr_load.specs.Plans.{load_session}
use Rattle.tr_load.proofs.running.run.Goals as goal

-- the watcher is one of the plan's tally
pub learned-watched-requires : goal.learned-watched-requires
learned-watched-requires g c =
    let tally = c.args.plan.tally in
    let popped = popped-of tally (length c.args.plan.books) c.in_ok-shared.watchers.items c.pop-watcher.new.self.items c.pop-watcher.result
    c.in_ok-shared.ensures.watchers c.pop-watcher.ensures.items in
    subst (λ (t : TallyState). IfSome c.run_watched-ran.result.1 (λ (w : WatcherState). w.table ≡ t.table))
    (ap (λ (p : PlanState). p.tally) c.requires.plan)
    (of-same tally c.run_watched-ran.result.1 c.pop-watcher.result c.run_watched-ran.ensures.watcher popped)

-- the logs are those of the load
pub returns-clause-loaded : goal.returns-clause-loaded
returns-clause-loaded g c =
    let Fed = LoggedProducer ProducerState in
    let fed = c.in_ok-drainers-2.fed.items in let producers = c.in_ok-shared.producers.items in
    let works = c.in_ok-works.works.items in
    let all : length producers ≡ vec_len c.in_ok-shared.producers = search rules in
    let back : length fed ≡ vec_len c.in_ok-drainers-2.fed = search rules in
    let same : vec_len c.in_ok-drainers-2.fed ≡ vec_len c.in_ok-shared.producers =
    subst (λ r. IfOk r (λ r. vec_len r.1 ≡ vec_len c.in_ok-shared.producers)) c.in_ok-drainers-2.was c.run_watched-ran.ensures.len in
    let did : HasFed producers works fed =
    subst (λ r. IfOk r (λ r. HasFed producers works r.1.items)) c.in_ok-drainers-2.was c.run_watched-ran.ensures.fed in
    let asked : vec_len c.in_ok-shared.producers ≡ c.args.threads = search rules in
    let made : AreNew (length c.args.plan.books) producers = c.in_ok-shared.ensures.producers in
    let new : AreNew c.args.threads producers =
    subst (λ n. AreNew n producers) (sym made.0 ∙ all ∙ asked) made in
    let logs : c.as_slice-2.result.now ≡ map (λ (b : Fed). log_in b.producer.number b.log.items) fed = search rules in
    let plan = g.N.Names.plan in
    let are : AllHave c.args.records c.as_slice-2.result.now → AreLogs c.args.threads c.args.records c.as_slice-2.result.now =
    λ have. subst (λ ls. AreLogs c.args.threads c.args.records ls) (sym logs)
    (logs_of (λ (b : Fed). b.producer) (λ (b : Fed). b.log.items) (λ (w : Vec Item Global). w.items) fed works producers
    c.args.threads c.args.records (back ∙ same ∙ asked) new c.in_ok-works.ensures.works
    (λ i p w b low. did i p w b (omega (arith, low, asked, all)))
    (subst (λ ls. AllHave c.args.records ls) logs have)) in
    let enough : (s : _) → IsSessionOf plan s → length s.streams ≡ c.args.threads =
    λ s of. of.many ∙ ap (λ (p : PlanState). length p.books) (sym c.requires.plan) ∙ sym made.0 ∙ all ∙ asked in
    let many : length works ≡ c.args.threads = search rules in
    let parted = c.in_ok-producers.ensures.producers in
    let handed : c.as_mut_slice.result.now ≡ map (λ (b : Fed). b.producer) fed = c.as_mut_slice.ensures.value ∙ parted in
    let learned : AllHave c.args.records c.as_slice-2.result.now
    → IfSome c.learned-watched.result (λ n. n ≡ c.args.threads * c.args.records) =
    λ have.
    let sums = all_published (λ (b : Fed). b.producer) (λ (b : Fed). b.log.items) (λ (w : Vec Item Global). w.items) fed works producers
    c.args.threads c.args.records (back ∙ same ∙ asked) many new (λ i p w b low. did i p w b (omega (arith, low, asked, all)))
    (subst (λ ls. AllHave c.args.records ls) logs have) in
    learned-too c.learned-watched.result (sum_by (λ (p : ProducerState). p.published) c.as_mut_slice.result.now)
    (sum_by (λ (p : ProducerState). p.offered) c.as_mut_slice.result.now)
    (c.args.threads * c.args.records) c.learned-watched.ensures.learned c.learned-watched.ensures.most
    (ap (sum_by (λ (p : ProducerState). p.published)) handed ∙ sums.0, ap (sum_by (λ (p : ProducerState). p.offered)) handed ∙ sums.1) in
    let P : Loaded → Type 0 = λ l. IsJudged c.as_slice-2.result.now l.settled.streams l.outcome × IsSessionOf plan l.settled
    × IsEnded c.args.records l.settled.book × AllHave c.args.records c.as_slice-2.result.now × IsUncleared l.outcome in
    let fed_logs : AreLogsOf (map (λ (b : Fed). b.producer) fed) (map (λ (b : Fed). log_in b.producer.number b.log.items) fed) =
    logs_fed (λ (b : Fed). b.producer) (λ (b : Fed). b.log.items) (λ (w : Vec Item Global). w.items) fed works producers
    c.args.threads (back ∙ same ∙ asked) many new (λ i p w b low. did i p w b (omega (arith, low, asked, all))) in
    let W : Loaded → Type 0 = λ l. l.watched ≡ c.learned-watched.result in
    let items = c.in_ok-producers.producers.items in
    let came_back = written_back items c.learned-watched.new.producers c.in_ok-producers.producers.len
    (c.learned-watched.ensures.producers ∙ c.as_mut_slice.ensures.value) c.in_ok-producers.producers.ok.0 ∙ parted in
    let agree : IfOk c.settled.result (λ l. IsOk l.outcome) =
    c.settled.ensures.agree (subst (λ (x : List ProducerState × List Log). AreLogsOf x.0 x.1)
    (λ j. (sym came_back j, sym logs j)) fed_logs) in
    if_ok_too (λ l. (P l × W l) × IsOk l.outcome)
    (λ l. IsLoaded c.args.threads c.args.records l.settled l.outcome l.watched) c.settled.result
    (λ l is. record {
      own = record {
        plan = plan;
        made = subst (λ (p : PlanState). load_session c.args.threads ≡ Ok p.session) c.requires.plan c.requires.session;
        planned = is.0.0.1;
        many = enough l.settled is.0.0.1;
      };
      ended = is.0.0.2;
      logs = c.as_slice-2.result.now;
      are_logs = are is.0.0.3;
      judged = is.0.0.0;
      agree = is.1;
      offered = all_offered c.args.threads c.args.records c.as_slice-2.result.now l.settled.streams l.outcome is.0.0.3 (enough l.settled is.0.0.1) is.0.0.0;
      uncleared = is.0.0.4;
      learned = subst (λ w. IfSome w (λ n. n ≡ c.args.threads * c.args.records)) (sym is.0.1) (learned is.0.0.3);
    }) (if-both (λ l. P l × W l) (λ l. IsOk l.outcome) c.settled.result
    (if-both P W c.settled.result c.settled.ensures.judged c.settled.ensures.watched) agree)

pub returns-clause-watched : goal.returns-clause-watched
returns-clause-watched g c =
    let n = c.args.plan.tally.watchers in
    let watchers = c.in_ok-shared.watchers in
    let many : vec_len watchers ≡ n = watchers.ok.0 ∙ ap length c.in_ok-shared.ensures.watchers ∙ length-replicate n _ in
    let same = some-same c.run_watched-ran.result.1 c.pop-watcher.result c.run_watched-ran.ensures.watcher in
    let popped = some-if c.pop-watcher.result n (λ is. subst (λ k. 0 < k) many (c.pop-watcher.ensures.variant.0 is))
    (λ some. c.pop-watcher.ensures.variant.1 (subst (λ k. 0 < k) (sym many) some)) in
    if_ok_too (λ l. l.watched ≡ c.learned-watched.result) (λ l. is_some l.watched ≡ nat_lt 0 n) c.settled.result
    (λ l is. ap is_some is ∙ c.learned-watched.ensures.some ∙ same ∙ popped) c.settled.ensures.watched
