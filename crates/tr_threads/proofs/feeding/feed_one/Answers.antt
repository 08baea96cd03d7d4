use Rattle.std.proofs.Common.{rules, arith, ◌≡◌, ◌+◌, ◌≤◌, ◌++◌, ◌∷◌, [], Bool, true, false, vec_len, length, ap, sym, ◌∙◌, subst, append_assoc, append-nil, if◌then◌else◌}
use Rattle.std.specs.Prelude.{vec_capacity, is_ok}
use Rattle.std.specs.List.{FoldsTo}
use Rattle.tr_threads.specs.Feeding.{OffersOne}
use Rattle.tr_threads.proofs.FeedLemmas.{empty_of, folds_one}
use Rattle.tr_threads.proofs.feeding.feed_one.Goals as goal

-- an accepted item is logged
pub offering-preserved-then-is_ok : goal.offering-preserved-then-is_ok
offering-preserved-then-is_ok g c =
    let was = c.offering.invariant in let item = c.in-Some.item in let offers = g.T.Intake.offers c.args.intake.now in
    let bytes : c.as_slice.result.now ≡ item.payload = search rules in
    let offered : offers c.offering.producer item.moment item.id item.payload c.offer_with-answer.result c.offer_with-answer.new.seat =
    subst (λ xs. offers c.offering.producer item.moment item.id xs c.offer_with-answer.result c.offer_with-answer.new.seat) bytes c.offer_with-answer.ensures in
    let rest : c.offering.item-iterator.rest.items ≡ item ∷ c.next.new.self.rest.items = search rules in
    let ok : is_ok c.offer_with-answer.result ≡ true = search rules in
    let items : c.push_reserved.new.self.items ≡ c.offering.log.items ++ item ∷ [] = c.push_reserved.ensures.items in
    let grown : vec_len c.push_reserved.new.self ≡ vec_len c.offering.log + 1 = c.push_reserved.ensures.len in
    let cap : vec_capacity c.push_reserved.new.self ≡ vec_capacity c.offering.log = c.push_reserved.ensures.capacity in
    let room : vec_len c.offering.log + length c.offering.item-iterator.rest.items ≤ vec_capacity c.offering.log = was.1 in
    let less : length c.offering.item-iterator.rest.items ≡ length c.next.new.self.rest.items + 1 = ap length rest ∙ omega arith in (
      folds_one (OffersOne offers) (c.args.producer, c.args.log.items) c.offering.yielded (c.offering.producer, c.offering.log.items) item (c.offer_with-answer.new.seat, c.push_reserved.new.self.items)
          was.0 (c.offer_with-answer.result, offered, items ∙ ap (λ (b : Bool). if b then c.offering.log.items ++ item ∷ [] else c.offering.log.items) (sym ok)),
      omega (arith, grown, cap, room, less),
      append_assoc c.offering.yielded (item ∷ []) c.next.new.self.rest.items ∙ ap (λ xs. c.offering.yielded ++ xs) (sym rest) ∙ was.2,
    )

-- a refused one is not
pub offering-preserved : goal.offering-preserved
offering-preserved g c =
    let was = c.offering.invariant in let item = c.in-Some.item in let offers = g.T.Intake.offers c.args.intake.now in
    let bytes : c.as_slice.result.now ≡ item.payload = search rules in
    let offered : offers c.offering.producer item.moment item.id item.payload c.offer_with-answer.result c.offer_with-answer.new.seat =
    subst (λ xs. offers c.offering.producer item.moment item.id xs c.offer_with-answer.result c.offer_with-answer.new.seat) bytes c.offer_with-answer.ensures in
    let rest : c.offering.item-iterator.rest.items ≡ item ∷ c.next.new.self.rest.items = search rules in
    let bad : is_ok c.offer_with-answer.result ≡ false = search rules in
    let room : vec_len c.offering.log + length c.offering.item-iterator.rest.items ≤ vec_capacity c.offering.log = was.1 in
    let less : length c.offering.item-iterator.rest.items ≡ length c.next.new.self.rest.items + 1 = ap length rest ∙ omega arith in (
      folds_one (OffersOne offers) (c.args.producer, c.args.log.items) c.offering.yielded (c.offering.producer, c.offering.log.items) item (c.offer_with-answer.new.seat, c.offering.log.items)
          was.0 (c.offer_with-answer.result, offered, ap (λ (b : Bool). if b then c.offering.log.items ++ item ∷ [] else c.offering.log.items) (sym bad)),
      omega (arith, room, less),
      append_assoc c.offering.yielded (item ∷ []) c.next.new.self.rest.items ∙ ap (λ xs. c.offering.yielded ++ xs) (sym rest) ∙ was.2,
    )

-- all was offered
pub returns : goal.returns
returns g c = λ empty.
    let none : c.offering.item-iterator.rest.items ≡ [] = let len : length c.offering.item-iterator.rest.items ≡ c.offering.item-iterator.rest.len = search rules in empty_of c.offering.item-iterator.rest.items (len ∙ c.in-None.ensures.steps.0) in
    let all : c.offering.yielded ≡ c.args.work.items = sym (append-nil c.offering.yielded) ∙ ap (λ xs. c.offering.yielded ++ xs) (sym none) ∙ c.offering.invariant.2 in
    subst (λ xs. FoldsTo (OffersOne (g.T.Intake.offers c.args.intake.now)) (c.args.producer, xs) c.args.work.items (c.offering.producer, c.offering.log.items)) empty
    (subst (λ xs. FoldsTo (OffersOne (g.T.Intake.offers c.args.intake.now)) (c.args.producer, c.args.log.items) xs (c.offering.producer, c.offering.log.items)) all c.offering.invariant.0)
