use Rattle.std.proofs.Common.{◌≡◌, ◌∙◌, ◌∷◌, ◌++◌, ℕ, List, [], ap, map, rules}
use Rattle.std.proofs.lemmas.List.{map-append}
use Rattle.std.specs.Borrow.{Bor}
use Rattle.std.specs.Prelude.{string_bytes}
use Rattle.tr_terms.proofs.ListLemmas.{mapped-all, mapped-more}
use Rattle.tr_command.proofs.invocation.texts_of.Goals as goal

pub strings-preserved : goal.strings-preserved
strings-preserved c =
    let text = λ (t : Bor (List ℕ)). t.now in
    let pushed : c.push.new.self.items ≡ c.strings.texts.items ++ c.as_str.result ∷ [] = search rules in
    mapped-more string_bytes c.args.strings.now c.strings.string-index c.string-item.result c.as_str.result.now
    (map text c.strings.texts.items) (map text c.push.new.self.items) c.strings-test.true
    c.string-item.is c.as_str.ensures.value c.strings.invariant (ap (map text) pushed ∙ map-append text c.strings.texts.items (c.as_str.result ∷ []))

pub returns : goal.returns
returns c = mapped-all string_bytes c.args.strings.now c.strings.string-index (map (λ t. t.now) c.strings.texts.items)
    c.strings-test.false c.strings.invariant
