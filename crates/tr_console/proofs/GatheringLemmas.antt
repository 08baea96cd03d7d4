-- What of gathered answers goes out.
use Rattle.std.proofs.Common.{◌≡◌, ◌∙◌, ◌≤◌, ◌+◌, ℕ, [], ◌++◌, List, Option, Result, Ok, Err, length, take, sym, ap, arith, append-nil, length-append}
use Rattle.std.proofs.Math.Seq.{take-append-add}
use Rattle.std.proofs.lemmas.List.{take-append-le}
use Rattle.std.specs.Result.{OnErr, OnOk}
use Rattle.tr_console.specs.Gathering.{Gathers, WentInPart}
use Rattle.tr_replies.specs.Text.{Text}
use Rattle.tr_record.proofs.ByteLemmas.{and_then_bytes-append}
use Rattle.tr_record.specs.Bytes.{and_then_bytes}

pub OnOk-then : {T E P Q : Type 0} → (r : Result T E) → (P → Q) → OnOk r P → OnOk r Q
OnOk-then (Ok x) f p = f p
OnOk-then (Err e) f p = p

pub OnErr-then : {T E P Q : Type 0} → (r : Result T E) → (P → Q) → OnErr r P → OnErr r Q
OnErr-then (Ok x) f p = p
OnErr-then (Err e) f p = f p

-- both go out
pub Gathers-none : (taken mid after : Option (List ℕ)) (gathered more now : Text) → mid ≡ and_then_bytes taken gathered
    → after ≡ and_then_bytes mid more → now ≡ [] → Gathers taken after gathered more now
Gathers-none taken mid after gathered more now first then none = record {
  out = gathered ++ more;
  went = then ∙ ap (λ k. and_then_bytes k more) first ∙ and_then_bytes-append taken gathered more;
  rest = sym (ap (λ t. (gathered ++ more) ++ t) none ∙ append-nil (gathered ++ more));
}

-- a prefix of the front is a prefix of all
pub WentInPart-front : (taken after : Option (List ℕ)) (gathered more : Text) → WentInPart taken after gathered
    → WentInPart taken after (gathered ++ more)
WentInPart-front taken after gathered more w = record {
  count = w.count;
  within = omega (arith, w.within, length-append gathered more);
  went = w.went ∙ ap (and_then_bytes taken) (sym (take-append-le w.count gathered more w.within));
}

-- so is the front, and then a prefix of the rest
pub WentInPart-after : (taken mid after : Option (List ℕ)) (gathered more : Text) (k : ℕ) → mid ≡ and_then_bytes taken gathered
    → k ≤ length more → after ≡ and_then_bytes mid (take k more) → WentInPart taken after (gathered ++ more)
WentInPart-after taken mid after gathered more k first short then = record {
  count = length gathered + k;
  within = omega (arith, short, length-append gathered more);
  went = then ∙ ap (λ o. and_then_bytes o (take k more)) first ∙ and_then_bytes-append taken gathered (take k more)
      ∙ ap (and_then_bytes taken) (sym (take-append-add gathered more k));
}
