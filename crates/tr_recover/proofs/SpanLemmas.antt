-- When packets begin and end, one after another.
use Rattle.std.proofs.Common.{◌≡◌, ◌<◌, ◌≤◌, ◌+◌, ◌∙◌, ℕ, Bool, suc, List, ◌∷◌, cond, drop, drop-cons, get_or, length, sym, ap, arith}
use Rattle.std.proofs.lemmas.Bool.{le-ltb, lt-ltb}
use Rattle.tr_packet.specs.Packets.{Contents}
use Rattle.tr_recover.specs.Archive.{earliest, latest}

pub first_of : (ps : List Contents) (i : ℕ) (p : Contents) → i < length ps → p ≡ get_or ps i p → drop i ps ≡ p ∷ drop (i + 1) ps
first_of ps i p within is =
    let one : suc i ≡ i + 1 = omega arith in
    drop-cons ps i p within ∙ ap (λ (x : Contents). x ∷ drop (suc i) ps) (sym is) ∙ ap (λ (n : ℕ). p ∷ drop n ps) one

pub earlier : (ps : List Contents) (i : ℕ) (p : Contents) (found : ℕ) → i < length ps → p ≡ get_or ps i p → p.head.begin < found
    → earliest found (drop i ps) ≡ earliest p.head.begin (drop (i + 1) ps)
earlier ps i p found within is less = ap (earliest found) (first_of ps i p within is) ∙ ap (λ (t : Bool). earliest (cond t p.head.begin found) (drop (i + 1) ps)) (lt-ltb p.head.begin found less)

pub not_earlier : (ps : List Contents) (i : ℕ) (p : Contents) (found : ℕ) → i < length ps → p ≡ get_or ps i p → found ≤ p.head.begin
    → earliest found (drop i ps) ≡ earliest found (drop (i + 1) ps)
not_earlier ps i p found within is more = ap (earliest found) (first_of ps i p within is) ∙ ap (λ (t : Bool). earliest (cond t p.head.begin found) (drop (i + 1) ps)) (le-ltb p.head.begin found more)

pub later : (ps : List Contents) (i : ℕ) (p : Contents) (found : ℕ) → i < length ps → p ≡ get_or ps i p → found < p.head.end
    → latest found (drop i ps) ≡ latest p.head.end (drop (i + 1) ps)
later ps i p found within is more = ap (latest found) (first_of ps i p within is) ∙ ap (λ (t : Bool). latest (cond t p.head.end found) (drop (i + 1) ps)) (lt-ltb found p.head.end more)

pub not_later : (ps : List Contents) (i : ℕ) (p : Contents) (found : ℕ) → i < length ps → p ≡ get_or ps i p → p.head.end ≤ found
    → latest found (drop i ps) ≡ latest found (drop (i + 1) ps)
not_later ps i p found within is less = ap (latest found) (first_of ps i p within is) ∙ ap (λ (t : Bool). latest (cond t p.head.end found) (drop (i + 1) ps)) (le-ltb found p.head.end less)
