use Rattle.std.proofs.Common.{Vec, Global, List, ◌≡◌, ◌+◌, ◌≤◌, ◌++◌, ◌∷◌, [], map, vec_len, ap, sym, ◌∙◌, arith}
use Rattle.std.specs.Prelude.{vec_capacity}
use Rattle.std.specs.List.{range_with_len}
use Rattle.std.proofs.lemmas.List.{map-append}
use Rattle.std.proofs.lemmas.List.FromFn.{map-range_with_len_more}
use Rattle.tr_load.specs.Works.{work_of}
use Rattle.tr_threads.specs.declared.items.Item.{Item}
use Rattle.tr_load.proofs.works.load_works.Goals as goal

-- the work of the next feeder comes after the others
pub threads-preserved : goal.threads-preserved
threads-preserved c =
    let f = work_of c.args.records in let t = c.threads.t in let work = c.in_ok-load_work.field-0 in
    let items : Vec Item Global → List Item = λ w. w.items in
    let long : vec_len c.push_reserved.new.self ≡ vec_len c.threads.works + 1 = c.push_reserved.ensures.len in
    let was : vec_len c.threads.works ≡ t = c.threads.invariant.1 in
    let cap : vec_capacity c.push_reserved.new.self ≡ vec_capacity c.threads.works = c.push_reserved.ensures.capacity in
    let room : c.args.threads ≤ vec_capacity c.threads.works = c.threads.invariant.2 in (
      ap (map items) c.push_reserved.ensures.items ∙ map-append items c.threads.works.items (work ∷ [])
          ∙ ap (λ xs. xs ++ work.items ∷ []) c.threads.invariant.0
          ∙ ap (λ x. map f (range_with_len 0 t) ++ x ∷ []) c.in_ok-load_work.ensures
          ∙ sym (map-range_with_len_more f 0 t t (omega arith)),
      omega (arith, long, was),
      omega (arith, cap, room),
    )
