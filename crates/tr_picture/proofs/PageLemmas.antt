-- Texts that are added to a page one after another.
use Rattle.std.proofs.Common.{◌≡◌, ◌∙◌, ◌++◌, ℕ, List, ap, append_assoc}

-- a text was added, and then the rest
pub before : (page mid after text rest : List ℕ) → mid ≡ page ++ text → after ≡ mid ++ rest → after ≡ page ++ (text ++ rest)
before page mid after text rest first then = then ∙ ap (λ (l : List ℕ). l ++ rest) first ∙ append_assoc page text rest

-- a text that is another one was added
pub put : (page mid text own : List ℕ) → mid ≡ page ++ text → text ≡ own → mid ≡ page ++ own
put page mid text own first is = first ∙ ap (λ (l : List ℕ). page ++ l) is
