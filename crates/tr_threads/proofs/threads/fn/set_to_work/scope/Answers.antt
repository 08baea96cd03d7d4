use Rattle.std.proofs.Common.{rules, arith, ◌≡◌, ◌+◌, ◌-◌, ◌<◌, ◌≤◌, ◌∷◌, [], ◌++◌, ℕ, true, ◌∙◌, length, get_or, vec_len, ap, sym, subst, inl, ⊎_elim}
use Rattle.std.specs.Prelude.{vec_capacity}
use Rattle.std.proofs.lemmas.Bool.{cases_lt}
use Rattle.std.proofs.lemmas.List.{get_or_default}
use Rattle.std.specs.declared.thread.PromisedHandle.{PromisedHandle}
use Rattle.tr_threads.specs.declared.threads.Ended.{Ended}
use Rattle.tr_threads.specs.declared.threads.Task.{Task}
use Rattle.tr_threads.specs.Pools.{IsKeptOr}
use Rattle.tr_threads.proofs.JoinLemmas.{kept_or}
use Rattle.tr_threads.proofs.StartLemmas.{AreTasks, starts_one, comes_back, before_last, is_last}
use Rattle.tr_threads.proofs.threads.fn.set_to_work.scope.Goals as goal

-- the last seat that was left has its thread
pub starting-preserved : goal.starting-preserved
starting-preserved g c =
    let was = c.starting.invariant in
    let Handle = PromisedHandle (Ended g.row.W-Seat.Denot) (Task g.row.W.Denot g.row.W-Seat.Denot) in
    let n = vec_len c.captures.seats in let left = vec_len c.pop.new.self in
    let seat = c.in-Some.seat in let given = c.captures.seats.items in
    let total : vec_len c.starting.seats + vec_len c.starting.handles ≡ n = was.0 in
    let fewer : left + 1 ≡ vec_len c.starting.seats = search rules in
    let grown : vec_len c.push_reserved.new.self ≡ vec_len c.starting.handles + 1 = c.push_reserved.ensures.len in
    let rest : c.starting.seats.items ≡ c.pop.new.self.items ++ seat ∷ [] = search rules in
    let lens : length c.pop.new.self.items ≡ left = search rules in
    let lenh : length c.starting.handles.items ≡ vec_len c.starting.handles = search rules in
    let lenp : length c.push_reserved.new.self.items ≡ vec_len c.push_reserved.new.self = search rules in
    let pushed : c.push_reserved.new.self.items ≡ c.starting.handles.items ++ c.in-Ok.handle ∷ [] = c.push_reserved.ensures.items in
    let work : c.in-Ok.handle.promise.work.value ≡ c.captures.work.now = search rules in
    let worker : c.in-Ok.handle.promise.worker ≡ left = search rules in
    let place : left ≡ n - 1 - length c.starting.handles.items = omega (arith, total, fewer, lenh) in
    let kept : c.in-Ok.handle.promise.seat.value ≡ seat = search rules in
    let there : (s : g.row.W-Seat.Denot) → seat ≡ get_or given left s =
    λ s. sym (is_last c.pop.new.self.items c.starting.seats.items seat s left rest lens) ∙ was.3 left s (omega (arith, fewer)) in
    let tasks : AreTasks (λ (h : Handle). h.promise.work.value) (λ (h : Handle). h.promise.worker) (λ (h : Handle). h.promise.seat.value) c.captures.work.now given n c.starting.handles.items =
    λ j h s low. was.4 j h s (omega (arith, low, lenh)) in
    let now : AreTasks (λ (h : Handle). h.promise.work.value) (λ (h : Handle). h.promise.worker) (λ (h : Handle). h.promise.seat.value) c.captures.work.now given n (c.starting.handles.items ++ c.in-Ok.handle ∷ []) =
    starts_one (λ (h : Handle). h.promise.work.value) (λ (h : Handle). h.promise.worker) (λ (h : Handle). h.promise.seat.value) c.captures.work.now given n c.starting.handles.items c.in-Ok.handle tasks
    work (worker ∙ place) (λ s. kept ∙ there s ∙ ap (λ k. get_or given k s) place) in
    let all : AreTasks (λ (h : Handle). h.promise.work.value) (λ (h : Handle). h.promise.worker) (λ (h : Handle). h.promise.seat.value) c.captures.work.now given n c.push_reserved.new.self.items =
    subst (λ hs. AreTasks (λ (h : Handle). h.promise.work.value) (λ (h : Handle). h.promise.worker) (λ (h : Handle). h.promise.seat.value) c.captures.work.now given n hs) (sym pushed) now in
    let room : n ≤ vec_capacity c.starting.seats = was.1 in let space : n ≤ vec_capacity c.starting.handles = was.2 in
    let cap : vec_capacity c.pop.new.self ≡ vec_capacity c.starting.seats = c.pop.ensures.capacity in
    let cap2 : vec_capacity c.push_reserved.new.self ≡ vec_capacity c.starting.handles = c.push_reserved.ensures.capacity in (
      omega (arith, total, fewer, grown),
      omega (arith, room, cap),
      omega (arith, space, cap2),
      (λ i s low. sym (before_last c.pop.new.self.items c.starting.seats.items seat s i rest (omega (arith, low, lens))) ∙ was.3 i s (omega (arith, low, fewer))),
      λ j h s low. all j h s (omega (arith, low, lenp)),
    )

-- all threads worked
pub returns-in_default-true : goal.returns-in_default-true
returns-in_default-true g c =
    let Handle = PromisedHandle (Ended g.row.W-Seat.Denot) (Task g.row.W.Denot g.row.W-Seat.Denot) in
    let n = vec_len c.captures.seats in let was = c.starting.invariant in
    let hs = c.starting.handles.items in let back = c.join_all.result.0.items in
    let total : vec_len c.starting.seats + vec_len c.starting.handles ≡ n = was.0 in
    let none : vec_len c.starting.seats ≡ 0 = search rules in
    let none2 : vec_len c.pop.new.self ≡ 0 = search rules in
    let lenh : length hs ≡ vec_len c.starting.handles = search rules in
    let leng : length c.captures.seats.items ≡ n = search rules in
    let is : c.join_all.result.1 ≡ true = search rules in
    let size : length back ≡ length c.captures.seats.items = let e = c.join_all.ensures.len in search rules in
    record {
      worked = (
        size,
        λ i s u low. comes_back (λ (h : Handle). h.promise.work.value) (λ (h : Handle). h.promise.worker) (λ (h : Handle). h.promise.seat.value) g.W.Work.did
            c.captures.work.now hs c.captures.seats.items back 0 n (omega (arith, total, none, lenh))
            (λ j h s below. was.4 j h s (omega (arith, below, lenh)))
            (λ j h s below. subst
            (λ k. g.W.Work.did (get_or hs j h).promise.work.value (get_or hs j h).promise.worker (get_or hs j h).promise.seat.value (get_or back k s))
            (omega (arith, none2, lenh)) ((c.join_all.ensures.back j h s (omega (arith, below, lenh))).0 is))
            i s u (omega arith) (omega (arith, low, leng)),
      );
      came = tt;
      memory = tt;
    }

-- one of the threads didn't begin
pub returns-in_default-false : goal.returns-in_default-false
returns-in_default-false g c =
    let Handle = PromisedHandle (Ended g.row.W-Seat.Denot) (Task g.row.W.Denot g.row.W-Seat.Denot) in
    let n = vec_len c.captures.seats in let was = c.starting.invariant in
    let hs = c.starting.handles.items in let back = c.join_all.result.0.items in
    let total : vec_len c.starting.seats + vec_len c.starting.handles ≡ n = was.0 in
    let none : vec_len c.starting.seats ≡ 0 = search rules in
    let none2 : vec_len c.pop.new.self ≡ 0 = search rules in
    let lenh : length hs ≡ vec_len c.starting.handles = search rules in
    let leng : length c.captures.seats.items ≡ n = search rules in
    let size : length back ≡ length c.captures.seats.items = let e = c.join_all.ensures.len in search rules in
    let given : c.no_thread-in_default-false.result.seats.items ≡ back = search rules in
    let each : (i : ℕ) (s u : g.row.W-Seat.Denot) → i < length c.captures.seats.items
    → IsKeptOr (g.W.Work.did c.captures.work.now i) (get_or c.captures.seats.items i s) (get_or back i u) =
    λ i s u low. comes_back (λ (h : Handle). h.promise.work.value) (λ (h : Handle). h.promise.worker) (λ (h : Handle). h.promise.seat.value)
    (λ w i q b. IsKeptOr (g.W.Work.did w i) q b) c.captures.work.now hs c.captures.seats.items back 0 n (omega (arith, total, none, lenh))
    (λ j h s below. was.4 j h s (omega (arith, below, lenh)))
    (λ j h s below. subst
    (λ k. IsKeptOr (g.W.Work.did (get_or hs j h).promise.work.value (get_or hs j h).promise.worker) (get_or hs j h).promise.seat.value (get_or back k s))
    (omega (arith, none2, lenh)) (c.join_all.ensures.back j h s (omega (arith, below, lenh))).1)
    i s u (omega arith) (omega (arith, low, leng)) in
    record {
      worked = tt;
      came = (ap length given ∙ size, λ i s u low. subst (λ ys. IsKeptOr (g.W.Work.did c.captures.work.now i) (get_or c.captures.seats.items i s) (get_or ys i u)) (sym given) (each i s u low));
      memory = search rules;
    }

-- a thread was refused: its seat comes back, those before it were not taken, and those after it are joined
pub returns-in-Err : goal.returns-in-Err
returns-in-Err g c =
    let Handle = PromisedHandle (Ended g.row.W-Seat.Denot) (Task g.row.W.Denot g.row.W-Seat.Denot) in
    let Seat = g.row.W-Seat.Denot in
    let n = vec_len c.captures.seats in let was = c.starting.invariant in let left = vec_len c.pop.new.self in
    let hs = c.starting.handles.items in let back = c.join_all-seats.result.0.items in let from = c.captures.seats.items in
    let mid = c.push_reserved-in-Err.new.self.items in
    let seat = c.in-Some.seat in let ended = c.spawn_with-in-Err.result in
    let total : vec_len c.starting.seats + vec_len c.starting.handles ≡ n = was.0 in
    let fewer : left + 1 ≡ vec_len c.starting.seats = search rules in
    let rest : c.starting.seats.items ≡ c.pop.new.self.items ++ seat ∷ [] = search rules in
    let lens : length c.pop.new.self.items ≡ left = search rules in
    let lenh : length hs ≡ vec_len c.starting.handles = search rules in
    let leng : length from ≡ n = search rules in
    let pushed : mid ≡ c.pop.new.self.items ++ ended.seat ∷ [] = c.push_reserved-in-Err.ensures.items in
    let grown : vec_len c.push_reserved-in-Err.new.self ≡ left + 1 = c.push_reserved-in-Err.ensures.len in
    let lenb : length back ≡ vec_len c.join_all-seats.result.0 = search rules in
    let joined : vec_len c.join_all-seats.result.0 ≡ vec_len c.push_reserved-in-Err.new.self + vec_len c.starting.handles = c.join_all-seats.ensures.len in
    let size : length back ≡ length from = omega (arith, total, fewer, leng, grown, lenb, joined) in
    let given : c.no_thread.result.seats.items ≡ back = search rules in
    let said = c.spawn_with-in-Err.ensures in
    let came : IsKeptOr (g.W.Work.did c.captures.work.now left) seat ended.seat = kept_or (g.W.Work.did c.captures.work.now left) ended.began seat ended.seat (search rules) in
    let front : (i : ℕ) (u : Seat) → i < left + 1 → get_or back i u ≡ get_or mid i u = λ i u low. c.join_all-seats.ensures.front i u (omega (arith, grown, low)) in
    let each : (i : ℕ) (s u : Seat) → i < length from → IsKeptOr (g.W.Work.did c.captures.work.now i) (get_or from i s) (get_or back i u) = λ i s u low.
    ⊎_elim
    (λ (before : i < left). inl (front i u (omega (arith, before)) ∙ before_last c.pop.new.self.items mid ended.seat u i pushed (omega (arith, before, lens))
    ∙ sym (before_last c.pop.new.self.items c.starting.seats.items seat u i rest (omega (arith, before, lens))) ∙ was.3 i u (omega (arith, before, fewer))
    ∙ get_or_default from i u s low))
    (λ (at_least : left ≤ i). ⊎_elim
    (λ (at_most : i < left + 1).
    let same : left ≡ i = omega (arith, at_least, at_most) in
    let there : seat ≡ get_or from left s = sym (is_last c.pop.new.self.items c.starting.seats.items seat s left rest lens) ∙ was.3 left s (omega (arith, fewer)) in
    let here : ended.seat ≡ get_or back left u = sym (front left u (omega arith) ∙ is_last c.pop.new.self.items mid ended.seat u left pushed lens) in
    subst (λ k. IsKeptOr (g.W.Work.did c.captures.work.now k) (get_or from k s) (get_or back k u)) same
    (subst (λ b. IsKeptOr (g.W.Work.did c.captures.work.now left) (get_or from left s) b) here
    (subst (λ q. IsKeptOr (g.W.Work.did c.captures.work.now left) q ended.seat) there came)))
    (λ (above : left + 1 ≤ i).
    comes_back (λ (h : Handle). h.promise.work.value) (λ (h : Handle). h.promise.worker) (λ (h : Handle). h.promise.seat.value)
    (λ w i q b. IsKeptOr (g.W.Work.did w i) q b) c.captures.work.now hs from back (left + 1) n (omega (arith, total, fewer, lenh))
    (λ j h s below. was.4 j h s (omega (arith, below, lenh)))
    (λ j h s below. subst
    (λ k. IsKeptOr (g.W.Work.did (get_or hs j h).promise.work.value (get_or hs j h).promise.worker) (get_or hs j h).promise.seat.value (get_or back k s))
    (omega (arith, grown, lenh)) (c.join_all-seats.ensures.back j h s (omega (arith, below, lenh))).1)
    i s u above (omega (arith, low, leng)))
    (cases_lt i (left + 1)))
    (cases_lt i left) in
    record {
      worked = tt;
      came = (ap length given ∙ size, λ i s u low. subst (λ ys. IsKeptOr (g.W.Work.did c.captures.work.now i) (get_or from i s) (get_or ys i u)) (sym given) (each i s u low));
      memory = search rules;
    }
