use Rattle.std.proofs.Common.{rules, arith, ◌≡◌, ◌+◌, ◌≤◌, ◌∷◌, [], ◌++◌, Bool, true, ◌&&◌, ◌∙◌, length, get_or, vec_len, ap, sym, subst}
use Rattle.std.specs.Prelude.{vec_capacity}
use Rattle.std.specs.declared.thread.PromisedHandle.{PromisedHandle}
use Rattle.std.proofs.lemmas.List.{get_or_push, get_or_append_left}
use Rattle.tr_threads.specs.declared.threads.Ended.{Ended}
use Rattle.tr_threads.specs.declared.threads.Task.{Task}
use Rattle.tr_threads.specs.Pools.{IsKeptOr}
use Rattle.tr_threads.proofs.JoinLemmas.{AreJoined, joins_one, kept_or, both_left, both_right}
use Rattle.tr_threads.proofs.threads.join_all.Goals as goal

-- the last thread's seat joins those of the threads after it
pub joining-preserved : goal.joining-preserved
joining-preserved g c =
    let was = c.joining.invariant in
    let m = vec_len c.pop.new.self in let n = vec_len c.args.handles in let first = vec_len c.args.seats in
    let hs = c.args.handles.items in let h0 = c.in-Some.handle in let ended = c.join-ended.result in
    let fewer : m + 1 ≡ vec_len c.joining.handles = search rules in
    let total : vec_len c.joining.seats + vec_len c.joining.handles ≡ first + n = was.0 in
    let room : vec_len c.joining.seats + vec_len c.joining.handles ≤ vec_capacity c.joining.seats = was.1 in
    let cap : vec_capacity c.push_reserved.new.self ≡ vec_capacity c.joining.seats = c.push_reserved.ensures.capacity in
    let grown : vec_len c.push_reserved.new.self ≡ vec_len c.joining.seats + 1 = c.push_reserved.ensures.len in
    let items : c.push_reserved.new.self.items ≡ c.joining.seats.items ++ ended.seat ∷ [] = c.push_reserved.ensures.items in
    let rest : c.joining.handles.items ≡ c.pop.new.self.items ++ h0 ∷ [] = search rules in
    let lens : length c.joining.seats.items ≡ vec_len c.joining.seats = search rules in
    let lenh : length c.pop.new.self.items ≡ m = search rules in
    let left : vec_len c.joining.handles ≤ n = was.5 in
    let Handle = PromisedHandle (Ended g.row.W-Seat.Denot) (Task g.row.W.Denot g.row.W-Seat.Denot) in
    let here : (h : Handle) → get_or hs m h ≡ h0 = λ h. sym (was.2 m h (omega (arith, fewer))) ∙ ap (λ xs. get_or xs m h) rest ∙ get_or_push c.pop.new.self.items h0 h m lenh in
    let R : Bool → Handle → g.row.W-Seat.Denot → Type 0 = λ all h s.
    (all ≡ true → g.W.Work.did h.promise.work.value h.promise.worker h.promise.seat.value s)
    × IsKeptOr (g.W.Work.did h.promise.work.value h.promise.worker) h.promise.seat.value s in
    let all = c.joining.all in let both = all && ended.began in
    let now : R both h0 ended.seat = (
      (λ is. c.join-ended.ensures.0 (both_right all ended.began is)),
      kept_or (g.W.Work.did h0.promise.work.value h0.promise.worker) ended.began h0.promise.seat.value ended.seat c.join-ended.ensures,
    ) in
    let joined : AreJoined (R both) hs (c.joining.seats.items ++ ended.seat ∷ []) first n m =
    joins_one {R = R all} {Q = R both} hs c.joining.seats.items ended.seat first n m (omega (arith, total, fewer, lens)) (omega (arith, total, fewer))
    (λ h s r. ((λ is. r.0 (both_left all ended.began is)), r.1))
    (λ j h s from below. was.4 j h s (omega (arith, from, fewer)) below)
    (λ h. subst (λ y. R both y ended.seat) (sym (here h)) now) in (
      omega (arith, total, fewer, grown),
      omega (arith, fewer, grown, room, cap),
      (λ j h low. sym (get_or_append_left c.pop.new.self.items (h0 ∷ []) h j (omega (arith, lenh))) ∙ ap (λ xs. get_or xs j h) (sym rest) ∙ was.2 j h (omega (arith, fewer))),
      (λ i s low. ap (λ xs. get_or xs i s) items ∙ get_or_append_left c.joining.seats.items (ended.seat ∷ []) s i (omega (arith, lens, total, fewer, low, left)) ∙ was.3 i s low),
      subst (λ ys. AreJoined (R both) hs ys first n m) (sym items) joined,
      omega (arith, fewer, left),
    )
