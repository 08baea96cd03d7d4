use Rattle.std.proofs.Common.{◌++◌, ◌∷◌, ◌∙◌, [], List, ℕ, ap, sym}
use Rattle.std.proofs.lemmas.Result.{on_ok_weaker}
use Rattle.std.specs.Prelude.{codes}
use Rattle.tr_folders.specs.Tree.{by_text}
use Rattle.tr_survey.specs.Lines.{archive_text}
use Rattle.tr_survey.specs.Listing.{key_of}
use Rattle.tr_survey.proofs.HeadLemmas.{elsewhere, twice}
use Rattle.tr_survey.proofs.heads.push_between.Goals as goal

pub returns-in_ok-archive_line-in-0 : goal.returns-in_ok-archive_line-in-0
returns-in_ok-archive_line-in-0 c =
    let old = by_text c.args.lines.now.items in
    on_ok_weaker c.push_line.result
    (λ is. is ∙ ap (λ (l : List ℕ). old ++ l ∷ []) (c.in_ok-archive_line-in-0.ensures ∙ ap (λ (n : List ℕ). archive_text n (codes "number twice")) c.as_str-name.ensures.value)
    ∙ ap (λ (l : List (List ℕ)). old ++ l) (sym (twice (key_of c.args.before.now) (key_of c.args.archive.now) _ (sym c.saturating_sub.ensures ∙ c.in-0.is))))
    c.push_line.ensures

pub returns-in_ok-archive_line-in-1-2 : goal.returns-in_ok-archive_line-in-1-2
returns-in_ok-archive_line-in-1-2 c =
    let old = by_text c.args.lines.now.items in
    on_ok_weaker c.push_line-in-1-2.result
    (λ is. is ∙ ap (λ (l : List ℕ). old ++ l ∷ []) (c.in_ok-archive_line-in-1-2.ensures ∙ ap (λ (n : List ℕ). archive_text n (codes "begins elsewhere")) c.as_str-name.ensures.value)
    ∙ ap (λ (l : List (List ℕ)). old ++ l) (sym (elsewhere (key_of c.args.before.now) (key_of c.args.archive.now) _ (sym c.saturating_sub.ensures ∙ c.in-1.is) (sym c.is_next.ensures ∙ c.if-is_next.false))))
    c.push_line-in-1-2.ensures
