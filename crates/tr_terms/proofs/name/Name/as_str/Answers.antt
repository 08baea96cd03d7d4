use Rattle.std.proofs.Common.{subst}
use Rattle.std.specs.List.{list_all}
use Rattle.std.specs.Prelude.{IsTrue, List, ℕ}
use Rattle.tr_terms.proofs.NameLemmas.{name-plain}
use Rattle.tr_terms.proofs.name.Name.as_str.Goals as goal
use Rattle.tr_terms.specs.Names.{is_plain}

pub returns-clause-plain : goal.returns-clause-plain
returns-clause-plain c = subst (λ (text : List ℕ). IsTrue (list_all is_plain text)) c.self.view_is
    (name-plain c.self.inside.text.now c.self.invariant)
