use Rattle.std.proofs.Common.{◌≡◌, ◌++◌, ◌∷◌, [], ℕ, List, ap, arith, length, length-append, subst, sym}
use Rattle.std.specs.Prelude.{slice_index_or}
use Rattle.tr_events.specs.Ids.{Says}
use Rattle.tr_events.specs.declared.ids.Known.{Known}
use Rattle.tr_events.specs.declared.ids.Known.TheVariants.{Ask}
use Rattle.tr_events.proofs.FoundLemmas.{each_more}
use Rattle.tr_events.proofs.ids.known_ids.Goals as goal

pub loop-id-preserved : goal.loop-id-preserved
loop-id-preserved g c =
    let items : c.push.new.self.items ≡ c.loop-id.known.items ++ c.known_of.result ∷ [] = c.in_ok-push.ensures.items in
    let last : Says c.args.events.now (length c.loop-id.known.items) c.known_of.result =
    subst (λ (n : ℕ). Says c.args.events.now n c.known_of.result) (sym c.loop-id.invariant.count) c.known_of.ensures in
    record {
      count = omega (arith, ap length items, length-append c.loop-id.known.items (c.known_of.result ∷ []), c.loop-id.invariant.count);
      so = λ id.
          subst (λ (entries : List Known). Says c.args.events.now id (slice_index_or entries id Ask)) (sym items)
          (each_more (λ k known. Says c.args.events.now k known) c.loop-id.known.items c.known_of.result c.loop-id.invariant.so last id);
    }
