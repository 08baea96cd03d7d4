-- What is reported of a stream's files, one step after another.
use Rattle.std.proofs.Common.{◌≡◌, ◌+◌, ◌<◌, ◌≤◌, ℕ, zero, suc, refl, sym, ap, subst, ◌∙◌, arith, Bool, true, false, List, [], ◌∷◌, ◌++◌, length, map, drop, get_or, Option, Some, append-nil, append_assoc, drop-drop}
use Rattle.std.proofs.lemmas.List.{length-append, length-drop}
use Rattle.tr_chunk.specs.Audit.{capped_count}
use Rattle.tr_folders.specs.Kept.{file_of}
use Rattle.tr_folders.specs.Tree.{File, IsBroken, Reads, Tree}
use Rattle.tr_record.specs.Bytes.{and_then_bytes}
use Rattle.tr_record.proofs.ByteLemmas.{and_then_bytes-append}
use Rattle.tr_survey.specs.Listing.{key_of}
use Rattle.tr_survey.specs.Order.{Numbered}
use Rattle.tr_survey.specs.Prefix.{GoesOn, IsPrefixOut, IsTold}
use Rattle.tr_survey.specs.Steps.{AreFew, HasGone, IsHeld}
use Rattle.tr_survey.specs.Streams.{Place, TraceState, bytes_told, file_told, files_told, left_told, streams_told, unreadable_told}
use Rattle.tr_survey.specs.Told.{Told, and_then}
use Rattle.tr_survey.specs.declared.tally.Tally.{Tally}
use Rattle.tr_survey.specs.declared.names.Numbered as value
use Rattle.tr_survey.proofs.BytesLemmas.{broken_step, end_step}
use Rattle.tr_survey.proofs.PrefixLemmas.{front_longer, front_nothing, front_then, from_place, goes_both, goes_start, goes_text, goes_to, goes_told}

-- ---- held bytes

pub gone_none : (at : Place) (s : Tally) (offset n : ℕ) (held rest : List ℕ) (breaks : Bool) (before : Option (List ℕ)) → length (held ++ rest) < n
    → HasGone at s offset n held rest breaks before before s offset held
gone_none at s offset n held rest breaks before enough = record { most = n; enough = enough; goes = goes_start _ before }

gone_by : (at : Place) (whole : Told Tally) (s t : Tally) (offset further size most : ℕ) (left rest : List ℕ) (breaks : Bool)
    (before mid now : Option (List ℕ)) → length (left ++ rest) < most → GoesOn whole (bytes_told most at s offset (left ++ rest) breaks) before mid
    → 0 < size → size ≤ length left
    → ((m : ℕ) → GoesOn (bytes_told (suc m) at s offset (left ++ rest) breaks) (bytes_told m at t further (drop size left ++ rest) breaks) mid now)
    → (m : ℕ) × (length (drop size left ++ rest) < m) × GoesOn whole (bytes_told m at t further (drop size left ++ rest) breaks) before now
gone_by at whole s t offset further size zero left rest breaks before mid now enough goes some within then = absurd (omega arith)
gone_by at whole s t offset further size (suc m) left rest breaks before mid now enough goes some within then = (
  m,
  (let a = length-append left rest in let b = length-append (drop size left) rest in let d = length-drop size left in omega (arith, enough, some, within, a, b, d)),
  goes_both whole _ _ before mid now goes (then m),
)

pub gone_more : (at : Place) (s : Tally) (offset n : ℕ) (held rest : List ℕ) (breaks : Bool) (before mid now : Option (List ℕ)) (t u : Tally)
    (further size i : ℕ) → HasGone at s offset n held rest breaks before mid t further (drop i held) → 0 < size → size ≤ length (drop i held)
    → ((m : ℕ) (rest : List ℕ) (breaks : Bool)
    → GoesOn (bytes_told (suc m) at t further (drop i held ++ rest) breaks)
    (bytes_told m at u (capped_count (further + size)) (drop size (drop i held) ++ rest) breaks) mid now)
    → HasGone at s offset n held rest breaks before now u (capped_count (further + size)) (drop (i + size) held)
gone_more at s offset n held rest breaks before mid now t u further size i gone some within then =
    let next = gone_by at _ t u further (capped_count (further + size)) size gone.most (drop i held) rest breaks before mid now gone.enough gone.goes some within
    (λ m. then m rest breaks) in
    let whole : HasGone at s offset n held rest breaks before now u (capped_count (further + size)) (drop size (drop i held)) =
    record { most = next.0; enough = next.1; goes = next.2 } in
    subst (λ (l : List ℕ). HasGone at s offset n held rest breaks before now u (capped_count (further + size)) l) (drop-drop size i held) whole

told_by : (at : Place) (whole : Told Tally) (s t : Tally) (offset most : ℕ) (left rest : List ℕ) (breaks : Bool) (before mid now : Option (List ℕ))
    → length (left ++ rest) < most → GoesOn whole (bytes_told most at s offset (left ++ rest) breaks) before mid
    → ((m : ℕ) → IsTold (bytes_told (suc m) at s offset (left ++ rest) breaks) mid now t) → IsTold whole before now t
told_by at whole s t offset zero left rest breaks before mid now enough goes then = absurd (omega arith)
told_by at whole s t offset (suc m) left rest breaks before mid now enough goes then = goes_told whole _ before mid now t goes (then m)

pub gone_stopped : (at : Place) (s : Tally) (offset n : ℕ) (held rest : List ℕ) (breaks : Bool) (before mid now : Option (List ℕ)) (t u : Tally)
    (further : ℕ) (left : List ℕ) → HasGone at s offset n held rest breaks before mid t further left
    → ((m : ℕ) (rest : List ℕ) (breaks : Bool) → IsTold (bytes_told (suc m) at t further (left ++ rest) breaks) mid now u)
    → IsTold (bytes_told n at s offset (held ++ rest) breaks) before now u
gone_stopped at s offset n held rest breaks before mid now t u further left gone then =
    told_by at _ t u further gone.most left rest breaks before mid now gone.enough gone.goes (λ m. then m rest breaks)

front_by : (at : Place) (whole : Told Tally) (s : Tally) (offset most : ℕ) (left rest : List ℕ) (breaks : Bool) (before mid now : Option (List ℕ))
    → length (left ++ rest) < most → GoesOn whole (bytes_told most at s offset (left ++ rest) breaks) before mid
    → ((m : ℕ) → IsPrefixOut (bytes_told (suc m) at s offset (left ++ rest) breaks).text mid now) → IsPrefixOut whole.text before now
front_by at whole s offset zero left rest breaks before mid now enough goes then = absurd (omega arith)
front_by at whole s offset (suc m) left rest breaks before mid now enough goes then = goes.front now (then m)

pub gone_front : (at : Place) (s : Tally) (offset n : ℕ) (held rest : List ℕ) (breaks : Bool) (before mid now : Option (List ℕ)) (t : Tally)
    (further : ℕ) (left : List ℕ) → HasGone at s offset n held rest breaks before mid t further left
    → ((m : ℕ) (rest : List ℕ) (breaks : Bool) → IsPrefixOut (bytes_told (suc m) at t further (left ++ rest) breaks).text mid now)
    → IsPrefixOut (bytes_told n at s offset (held ++ rest) breaks).text before now
gone_front at s offset n held rest breaks before mid now t further left gone then =
    front_by at _ t further gone.most left rest breaks before mid now gone.enough gone.goes (λ m. then m rest breaks)

-- nothing more went out
pub goes_nothing : {S : Type 0} (whole rest : Told S) (before now : Option (List ℕ)) → GoesOn whole rest before now → IsPrefixOut whole.text before now
goes_nothing whole rest before now goes = goes.front now (front_nothing rest.text now)

-- ---- a file

-- of an open file this is held, and what comes after it is left
pub record ReadSoFar (whole : Told Tally) (at : Place) (breaks : Bool) (before now : Option (List ℕ)) (left : Option File) (s : Tally) (offset : ℕ)
    (held : List ℕ) : Type 0 where
  pub rest : List ℕ
  pub left_is : left ≡ Some (file_of rest breaks)
  pub most : ℕ
  pub enough : length (held ++ rest) < most
  pub goes : GoesOn whole (bytes_told most at s offset (held ++ rest) breaks) before now

pub read_start : (at : Place) (s : Tally) (file : File) (before : Option (List ℕ)) (left : Option File) → left ≡ Some file
    → ReadSoFar (file_told at s (Some file)) at file.breaks before before left s 0 []
read_start at s file before left is = record {
  rest = file.bytes;
  left_is = is;
  most = suc (length file.bytes);
  enough = omega arith;
  goes = goes_start _ before;
}

pub read_more : (whole : Told Tally) (at : Place) (breaks : Bool) (before now : Option (List ℕ)) (left after : Option File) (s : Tally) (offset : ℕ)
    (held given more : List ℕ) → more ≡ held ++ given → (so_far : ReadSoFar whole at breaks before now left s offset held)
    → ((file : File) → left ≡ Some file → Reads file given after) → ReadSoFar whole at breaks before now after s offset more
read_more whole at breaks before now left after s offset held given more is so_far reads =
    let step = reads (file_of so_far.rest breaks) so_far.left_is in
    let same : held ++ so_far.rest ≡ more ++ step.rest =
    ap (λ (l : List ℕ). held ++ l) step.is ∙ sym (append_assoc held given step.rest) ∙ ap (λ (l : List ℕ). l ++ step.rest) (sym is) in
    record {
      rest = step.rest;
      left_is = step.left_is;
      most = so_far.most;
      enough = subst (λ (l : List ℕ). length l < so_far.most) same so_far.enough;
      goes = goes_to whole _ _ before now (ap (λ (l : List ℕ). bytes_told so_far.most at s offset l breaks) same) so_far.goes;
    }

pub read_told : (whole : Told Tally) (at : Place) (breaks : Bool) (before mid now : Option (List ℕ)) (left after : Option File) (s t : Tally)
    (offset further : ℕ) (held kept : List ℕ) → ReadSoFar whole at breaks before mid left s offset held → after ≡ left
    → IsHeld at s offset held false mid now t further kept → ReadSoFar whole at breaks before now after t further kept
read_told whole at breaks before mid now left after s t offset further held kept so_far same is =
    let gone = is.1 so_far.most so_far.rest breaks so_far.enough in
    record {
      rest = so_far.rest;
      left_is = same ∙ so_far.left_is;
      most = gone.most;
      enough = gone.enough;
      goes = goes_both whole _ _ before mid now so_far.goes gone.goes;
    }

pub read_stopped : (whole : Told Tally) (at : Place) (breaks : Bool) (before mid now : Option (List ℕ)) (left : Option File) (s t : Tally)
    (offset further : ℕ) (held kept : List ℕ) → ReadSoFar whole at breaks before mid left s offset held
    → IsHeld at s offset held true mid now t further kept → IsTold whole before now t
read_stopped whole at breaks before mid now left s t offset further held kept so_far is =
    goes_told whole _ before mid now t so_far.goes (is so_far.most so_far.rest breaks so_far.enough)

pub read_front : (whole : Told Tally) (at : Place) (breaks : Bool) (before mid now : Option (List ℕ)) (left : Option File) (s : Tally)
    (offset : ℕ) (held : List ℕ) → ReadSoFar whole at breaks before mid left s offset held
    → ((n : ℕ) (rest : List ℕ) (breaks : Bool) → length (held ++ rest) < n → IsPrefixOut (bytes_told n at s offset (held ++ rest) breaks).text mid now)
    → IsPrefixOut whole.text before now
read_front whole at breaks before mid now left s offset held so_far front =
    so_far.goes.front now (front so_far.most so_far.rest breaks so_far.enough)

pub read_nothing : (whole : Told Tally) (at : Place) (breaks : Bool) (before now : Option (List ℕ)) (left : Option File) (s : Tally)
    (offset : ℕ) (held : List ℕ) → ReadSoFar whole at breaks before now left s offset held → IsPrefixOut whole.text before now
read_nothing whole at breaks before now left s offset held so_far = goes_nothing whole _ before now so_far.goes

end_by : (at : Place) (s : Tally) (offset most : ℕ) (held : List ℕ) → length (held ++ []) < most → AreFew held
    → bytes_told most at s offset (held ++ []) false ≡ left_told at s offset held
end_by at s offset zero held enough few = absurd (omega arith)
end_by at s offset (suc m) held enough few =
    ap (λ (l : List ℕ). bytes_told (suc m) at s offset l false) (append-nil held) ∙ end_step m at s offset held few

pub read_end : (whole : Told Tally) (at : Place) (breaks : Bool) (before now : Option (List ℕ)) (left after : Option File) (s : Tally) (offset : ℕ)
    (held : List ℕ) → (so_far : ReadSoFar whole at breaks before now left s offset held) → AreFew held
    → ((file : File) → left ≡ Some file → Reads file [] after) → GoesOn whole (left_told at s offset held) before now
read_end whole at breaks before now left after s offset held so_far few reads =
    let step = reads (file_of so_far.rest breaks) so_far.left_is in
    let none : so_far.rest ≡ [] = step.is ∙ (step.end refl).0 in
    let ends : breaks ≡ false = (step.end refl).1 in
    let enough = subst (λ (l : List ℕ). length (held ++ l) < so_far.most) none so_far.enough in
    goes_to whole _ _ before now
    (ap (λ (l : List ℕ). bytes_told so_far.most at s offset (held ++ l) breaks) none
    ∙ ap (λ (b : Bool). bytes_told so_far.most at s offset (held ++ []) b) ends
    ∙ end_by at s offset so_far.most held enough few)
    so_far.goes

broken_by : (at : Place) (s : Tally) (offset most : ℕ) (held : List ℕ) → length (held ++ []) < most → AreFew held
    → bytes_told most at s offset (held ++ []) true ≡ unreadable_told at s
broken_by at s offset zero held enough few = absurd (omega arith)
broken_by at s offset (suc m) held enough few =
    ap (λ (l : List ℕ). bytes_told (suc m) at s offset l true) (append-nil held) ∙ broken_step m at s offset held few

pub read_broken : (whole : Told Tally) (at : Place) (breaks : Bool) (before now : Option (List ℕ)) (left : Option File) (s : Tally) (offset : ℕ)
    (held : List ℕ) → (so_far : ReadSoFar whole at breaks before now left s offset held) → AreFew held
    → ((file : File) → left ≡ Some file → IsBroken file) → GoesOn whole (unreadable_told at s) before now
read_broken whole at breaks before now left s offset held so_far few breaking =
    let broken = breaking (file_of so_far.rest breaks) so_far.left_is in
    let enough = subst (λ (l : List ℕ). length (held ++ l) < so_far.most) broken.0 so_far.enough in
    goes_to whole _ _ before now
    (ap (λ (l : List ℕ). bytes_told so_far.most at s offset (held ++ l) breaks) broken.0
    ∙ ap (λ (b : Bool). bytes_told so_far.most at s offset (held ++ []) b) broken.1
    ∙ broken_by at s offset so_far.most held enough few)
    so_far.goes

-- ---- one part and the next, which goes on with what the first came to

pub both_told : {R S : Type 0} (first : Told R) (second : R → Told S) (r : R) (before mid now : Option (List ℕ)) (state : S) → IsTold first before mid r
    → IsTold (second r) mid now state → IsTold (and_then first.text (second first.state)) before now state
both_told {R = R} {S = S} first second r before mid now state is then =
    let same = is.state_is in
    record {
      out =
          then.out ∙ ap (λ (known : Option (List ℕ)). and_then_bytes known (second r).text) is.out
          ∙ and_then_bytes-append before first.text (second r).text
          ∙ ap (λ (x : R). and_then_bytes before (first.text ++ (second x).text)) same;
      state_is = then.state_is ∙ ap (λ (x : R). (second x).state) same;
    }

pub second_front : {R S : Type 0} (first : Told R) (second : R → Told S) (r : R) (before mid now : Option (List ℕ)) → IsTold first before mid r
    → IsPrefixOut (second r).text mid now → IsPrefixOut (and_then first.text (second first.state)).text before now
second_front {R = R} first second r before mid now is front =
    subst (λ (x : R). IsPrefixOut (first.text ++ (second x).text) before now) is.state_is
    (front_then first.text (second r).text before mid now is.out front)

-- of a list of parts the next one is reported
pub goes_next : {R S : Type 0} (whole : Told S) (first : Told R) (second : R → Told S) (r : R) (before mid now : Option (List ℕ))
    → GoesOn whole (and_then first.text (second first.state)) before mid → IsTold first mid now r → GoesOn whole (second r) before now
goes_next whole first second r before mid now goes is =
    goes_to whole (second first.state) (second r) before now (ap second (sym is.state_is))
    (goes_both whole _ _ before mid now goes (goes_text first.text (second first.state) mid now is.out))

-- the first of two texts went out in part
pub first_of_two : (first more whole : List ℕ) (before now : Option (List ℕ)) → whole ≡ first ++ more → IsPrefixOut first before now → IsPrefixOut whole before now
first_of_two first more whole before now is front = subst (λ (l : List ℕ). IsPrefixOut l before now) (sym is) (front_longer first more before now front)

-- a stream's files from a place on
pub files_at : (t : Tree) (folder : List ℕ) (from : TraceState) (stream : Numbered) (s : Tally) (xs : List value.Numbered) (i : ℕ) (x : value.Numbered) → i < length xs
    → x ≡ get_or xs i x → files_told t folder from stream s (map key_of (drop i xs)) ≡ files_told t folder from stream s (key_of x ∷ map key_of (drop (i + 1) xs))
files_at t folder from stream s xs i x within is = ap (files_told t folder from stream s) (from_place key_of xs i x within is)

pub streams_at : (t : Tree) (folder : List ℕ) (from : TraceState) (archives : List Numbered) (n : ℕ) (xs : List value.Numbered) (i : ℕ) (x : value.Numbered) → i < length xs
    → x ≡ get_or xs i x → streams_told t folder from archives n (map key_of (drop i xs)) ≡ streams_told t folder from archives n (key_of x ∷ map key_of (drop (i + 1) xs))
streams_at t folder from archives n xs i x within is = ap (streams_told t folder from archives n) (from_place key_of xs i x within is)

-- a text, and then faults
pub more_text : {S : Type 0} (text : List ℕ) (more : Told S) (before mid now : Option (List ℕ)) (state : S) → mid ≡ and_then_bytes before text
    → IsTold more mid now state → IsTold (and_then text more) before now state
more_text text more before mid now state out is = goes_told (and_then text more) more before mid now state (goes_text text more before mid out) is

-- two texts that went out one after the other
pub both_out : (before mid now : Option (List ℕ)) (head text whole : List ℕ) → mid ≡ and_then_bytes before head → now ≡ and_then_bytes mid text
    → whole ≡ head ++ text → now ≡ and_then_bytes before whole
both_out before mid now head text whole first then is =
    then ∙ ap (λ (known : Option (List ℕ)). and_then_bytes known text) first ∙ and_then_bytes-append before head text ∙ ap (and_then_bytes before) (sym is)
