-- Fronts of texts that go out one after another.
use Rattle.std.proofs.Common.{◌≡◌, ◌+◌, ◌<◌, ℕ, zero, suc, refl, sym, ap, subst, ◌∙◌, arith, List, [], ◌∷◌, ◌++◌, length, map, take, drop, get_or, Option}
use Rattle.std.proofs.Math.Seq.{take-append-add, take-length}
use Rattle.std.proofs.lemmas.List.{length-append, take-append-le}
use Rattle.std.specs.Prelude.{Result, Ok, Err, OnErr}
use Rattle.tr_record.specs.Bytes.{and_then_bytes}
use Rattle.tr_record.proofs.ByteLemmas.{and_then_bytes-append, and_then_bytes-none}
use Rattle.tr_survey.specs.Prefix.{GoesOn, IsPrefixOut, IsTold}
use Rattle.tr_survey.specs.Told.{Told, and_then, told}

pub at_err : {T E P : Type 0} (r : Result T E) → P → OnErr r P
at_err (Ok done) p = tt
at_err (Err fault) p = p

-- ---- one text

-- nothing of it went out
pub front_nothing : (text : List ℕ) (before : Option (List ℕ)) → IsPrefixOut text before before
front_nothing text before = (0, omega arith, sym (and_then_bytes-none before))

-- all of it
pub front_whole : (text : List ℕ) (before now : Option (List ℕ)) → now ≡ and_then_bytes before text → IsPrefixOut text before now
front_whole text before now out = (length text, omega arith, out ∙ ap (and_then_bytes before) (sym (take-length text)))

-- it went out whole, and then a front of more
pub front_then : (text more : List ℕ) (before mid now : Option (List ℕ)) → mid ≡ and_then_bytes before text → IsPrefixOut more mid now
    → IsPrefixOut (text ++ more) before now
front_then text more before mid now out front = (
  length text + front.0,
  rw length-append (omega arith),
  front.2 ∙ ap (λ (known : Option (List ℕ)). and_then_bytes known (take front.0 more)) out ∙ and_then_bytes-append before text (take front.0 more)
      ∙ ap (and_then_bytes before) (sym (take-append-add text more front.0)),
)

-- a front of it is one of a longer text
pub front_longer : (text more : List ℕ) (before now : Option (List ℕ)) → IsPrefixOut text before now → IsPrefixOut (text ++ more) before now
front_longer text more before now front = (
  front.0,
  rw length-append (omega (arith, front.1)),
  front.2 ∙ ap (and_then_bytes before) (sym (take-append-le front.0 text more front.1)),
)

pub same_front : (text other : List ℕ) (before now : Option (List ℕ)) → text ≡ other → IsPrefixOut text before now → IsPrefixOut other before now
same_front text other before now is front = subst (λ (l : List ℕ). IsPrefixOut l before now) is front

-- the same two of a text in two parts
pub front_step : (whole text more : List ℕ) (before mid now : Option (List ℕ)) → whole ≡ text ++ more → mid ≡ and_then_bytes before text
    → IsPrefixOut more mid now → IsPrefixOut whole before now
front_step whole text more before mid now is out front =
    same_front (text ++ more) whole before now (sym is) (front_then text more before mid now out front)

pub front_cut : (whole text more : List ℕ) (before now : Option (List ℕ)) → whole ≡ text ++ more → IsPrefixOut text before now → IsPrefixOut whole before now
front_cut whole text more before now is front = same_front (text ++ more) whole before now (sym is) (front_longer text more before now front)

-- ---- what is reported

-- nothing is reported yet
pub goes_start : {S : Type 0} (whole : Told S) (before : Option (List ℕ)) → GoesOn whole whole before before
goes_start whole before = record { out = refl; state = refl; front = λ after front. front }

-- a text goes out, and then the rest
pub goes_text : {S : Type 0} (text : List ℕ) (rest : Told S) (before now : Option (List ℕ)) → now ≡ and_then_bytes before text
    → GoesOn (and_then text rest) rest before now
goes_text text rest before now out = record {
  out = ap (λ (known : Option (List ℕ)). and_then_bytes known rest.text) out ∙ and_then_bytes-append before text rest.text;
  state = refl;
  front = λ after front. front_then text rest.text before now after out front;
}

-- one after another
pub goes_both : {S : Type 0} (whole mid rest : Told S) (before between now : Option (List ℕ)) → GoesOn whole mid before between
    → GoesOn mid rest between now → GoesOn whole rest before now
goes_both whole mid rest before between now first then = record {
  out = then.out ∙ first.out;
  state = then.state ∙ first.state;
  front = λ after front. first.front after (then.front after front);
}

-- the rest by another name
pub goes_to : {S : Type 0} (whole rest other : Told S) (before now : Option (List ℕ)) → rest ≡ other → GoesOn whole rest before now
    → GoesOn whole other before now
goes_to whole rest other before now is goes = subst (λ t. GoesOn whole t before now) is goes

-- the rest is reported
pub goes_told : {S : Type 0} (whole rest : Told S) (before now after : Option (List ℕ)) (state : S) → GoesOn whole rest before now
    → IsTold rest now after state → IsTold whole before after state
goes_told whole rest before now after state goes is = record { out = is.out ∙ goes.out; state_is = is.state_is ∙ goes.state }

-- nothing is left to report
pub goes_end : {S : Type 0} (whole : Told S) (before now : Option (List ℕ)) (state : S) → GoesOn whole (told [] state) before now
    → IsTold whole before now state
goes_end whole before now state goes = record { out = sym (and_then_bytes-none now) ∙ goes.out; state_is = goes.state }

-- a part was reported whole, and the rest follows
pub goes_part : {S R : Type 0} (part : Told R) (rest : Told S) (state : R) (before now : Option (List ℕ)) → IsTold part before now state
    → GoesOn (and_then part.text rest) rest before now
goes_part part rest state before now is = goes_text part.text rest before now is.out

-- a front of a part is one of all
pub front_part : {S : Type 0} (text : List ℕ) (rest : Told S) (before now : Option (List ℕ)) → IsPrefixOut text before now
    → IsPrefixOut (and_then text rest).text before now
front_part text rest before now front = front_longer text rest.text before now front

-- ---- lists in order

-- the elements from a place on are the one there and those after it
pub from_place : {A B : Type 0} (f : A → B) (xs : List A) (i : ℕ) (x : A) → i < length xs → x ≡ get_or xs i x
    → map f (drop i xs) ≡ f x ∷ map f (drop (i + 1) xs)
from_place f [] i x within is = absurd (omega arith)
from_place f (y ∷ xs) zero x within is = ap (λ a. f a ∷ map f xs) (sym is)
from_place f (y ∷ xs) (suc i) x within is =
    let next : suc i + 1 ≡ suc (i + 1) = omega arith in
    let here : i < length xs = omega arith in
    from_place f xs i x here is ∙ ap (λ (n : ℕ). f x ∷ map f (drop n (y ∷ xs))) (sym next)
