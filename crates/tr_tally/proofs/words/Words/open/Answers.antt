use Rattle.std.proofs.Common.{◌≡◌, ℕ, List, [], ◌∷◌, replicate, sym, subst, rules}
use Rattle.tr_tally.specs.Views.{IsTold, opener_view, words_for}
use Rattle.tr_tally.proofs.Steps.{begins}
use Rattle.tr_tally.proofs.words.Words.open.Goals as goal

pub of_words-requires : goal.of_words-requires
of_words-requires g c =
    let count : c.in_ok-ok_or.field-0 ≡ words_for c.args.asked = search rules in
    let zeros : c.in_ok-zeros.zeros.items ≡ replicate c.in_ok-ok_or.field-0 0 = search rules in
    let same : c.deref.result.now ≡ c.in_ok-zeros.zeros.items = c.deref.ensures.value in
    let holds = λ (words : List ℕ). IsTold c.args.asked words (opener_view 0 c.args.asked.streams ∷ []) in
    let all = subst (λ (n : ℕ). holds (replicate n 0)) (sym count) (begins c.args.asked) in
    subst holds (sym same) (subst holds (sym zeros) all)
