-- Bytes that go through one after another.
use Rattle.std.proofs.Common.{◌≡◌, ◌∙◌, ◌+◌, ℕ, List, [], ◌++◌, Option, Some, None, refl, sym, ap, take, append_assoc, append-nil}
use Rattle.std.proofs.Math.Seq.{take-add}
use Rattle.std.proofs.Math.ListN.{drop}
use Rattle.tr_record.specs.Bytes.{and_then_bytes}

pub and_then_bytes-none : (known : Option (List ℕ)) → and_then_bytes known [] ≡ known
and_then_bytes-none None = refl
and_then_bytes-none (Some before) = ap Some (append-nil before)

-- first a, then b
pub and_then_bytes-append : (known : Option (List ℕ)) (a b : List ℕ) → and_then_bytes (and_then_bytes known a) b ≡ and_then_bytes known (a ++ b)
and_then_bytes-append None a b = refl
and_then_bytes-append (Some before) a b = ap Some (append_assoc before a b)

-- n more of the bytes from `at` on
pub more_taken : (start now after : Option (List ℕ)) (bytes : List ℕ) (at n : ℕ) → now ≡ and_then_bytes start (take at bytes)
    → after ≡ and_then_bytes now (take n (drop at bytes)) → after ≡ and_then_bytes start (take (at + n) bytes)
more_taken start now after bytes at n is then =
    then ∙ ap (λ k. and_then_bytes k (take n (drop at bytes))) is ∙ and_then_bytes-append start (take at bytes) (take n (drop at bytes))
    ∙ ap (and_then_bytes start) (sym (take-add at n bytes))
