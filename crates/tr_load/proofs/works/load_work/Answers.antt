use Rattle.std.proofs.Common.{◌≡◌, ◌+◌, ◌≤◌, ◌++◌, ◌∷◌, [], map, vec_len, ap, sym, ◌∙◌, arith}
use Rattle.std.specs.Prelude.{vec_capacity}
use Rattle.std.specs.List.{range_with_len}
use Rattle.std.proofs.lemmas.List.FromFn.{map-range_with_len_more}
use Rattle.tr_load.specs.Works.{item_of}
use Rattle.tr_load.proofs.works.load_work.Goals as goal

-- the item of the next number comes after the others
pub records-preserved : goal.records-preserved
records-preserved c =
    let f = item_of c.args.t in let k = c.records.k in let item = c.in_ok-load_item.field-0 in
    let long : vec_len c.push_reserved.new.self ≡ vec_len c.records.items + 1 = c.push_reserved.ensures.len in
    let was : vec_len c.records.items ≡ k = c.records.invariant.1 in
    let cap : vec_capacity c.push_reserved.new.self ≡ vec_capacity c.records.items = c.push_reserved.ensures.capacity in
    let room : c.args.records ≤ vec_capacity c.records.items = c.records.invariant.2 in (
      c.push_reserved.ensures.items ∙ ap (λ xs. xs ++ item ∷ []) c.records.invariant.0
          ∙ ap (λ x. map f (range_with_len 0 k) ++ x ∷ []) c.in_ok-load_item.ensures
          ∙ sym (map-range_with_len_more f 0 k k (omega arith)),
      omega (arith, long, was),
      omega (arith, cap, room),
    )
