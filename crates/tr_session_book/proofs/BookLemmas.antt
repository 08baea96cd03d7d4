-- What a session's book finds among its channels.
use Rattle.std.proofs.Common.{◌≡◌, ◌∙◌, ℕ, Bool, true, false, List, [], ◌∷◌, length, map, suc, arith, ◌≤◌, ◌<◌, Result, Ok, Err, Option, Some, refl, subst, sym, ap}
use Rattle.std.proofs.lemmas.Option.{slice_get-map}
use Rattle.std.proofs.lemmas.Bool.Decides.{nat_tests}
use Rattle.std.specs.List.{position_or_len}
use Rattle.std.specs.Map.{keys_of}
use Rattle.std.specs.Prelude.{String, nat_le, nat_lt, option_map, position, slice_get}
use Rattle.std.specs.Str.{bytes_eq}
use Rattle.std.specs.String.{string_bytes}
use Rattle.tr_session_book.specs.Book.{SessionBookState}
use Rattle.tr_session_book.specs.BookSteps.{cut_moment, is_new, place_free, thread_place, channel_of}
use Rattle.tr_session_book.specs.Names.{by_name}
use Rattle.tr_session_book.specs.declared.channel.Channel.{Channel}
use Rattle.tr_session_book.specs.declared.faults.SessionFault.{SessionFault}
use Rattle.tr_session_book.specs.declared.faults.SessionFault.TheVariants.{NoStream, TooMany}
use Rattle.tr_terms.specs.declared.limits.TheConstants.{MOST_STREAMS}

abbrev names : List (List ℕ × Channel) → List (List ℕ)
names cs = map (λ (c : List ℕ × Channel). c.0) cs

is-full : (n : ℕ) → MOST_STREAMS ≤ n → nat_le MOST_STREAMS n ≡ true
is-full n full = grind (arith, nat_tests, full)

has-room : (n : ℕ) → n < MOST_STREAMS → nat_le MOST_STREAMS n ≡ false
has-room n room = grind (arith, nat_tests, room)

-- with as many streams as are allowed there is no place
pub place-full : (b : SessionBookState) (place n : ℕ) → n ≡ length b.threads → MOST_STREAMS ≤ n → place_free (Some place) b ≡ Err TooMany
place-full b place n is full = let so : nat_le MOST_STREAMS (length b.threads) ≡ true =
    subst (λ (m : ℕ). nat_le MOST_STREAMS m ≡ true) is (is-full n full) in rw so refl

pub place-left : (b : SessionBookState) (place n : ℕ) → n ≡ length b.threads → n < MOST_STREAMS → place_free (Some place) b ≡ Ok place
place-left b place n is room = let so : nat_le MOST_STREAMS (length b.threads) ≡ false =
    subst (λ (m : ℕ). nat_le MOST_STREAMS m ≡ false) is (has-room n room) in rw so refl

module _ {Z : Type 0} where
  length-names : (es : List (String Z × Channel)) → length (keys_of es) ≡ length (names (by_name es))
  length-names [] = refl
  length-names (e ∷ es) = ap suc (length-names es)

  first-by_name : (name : List ℕ) (es : List (String Z × Channel))
      → position_or_len (λ key. bytes_eq name (string_bytes key)) (keys_of es)
      ≡ position_or_len (bytes_eq name) (names (by_name es))
  first-by_name name [] = refl
  first-by_name name (e ∷ es) = let rest = first-by_name name es in cc

  position-by_name : (name : List ℕ) (es : List (String Z × Channel))
      → position (λ key. bytes_eq name (string_bytes key)) (keys_of es) ≡ position (bytes_eq name) (names (by_name es))
  position-by_name name es = let first = first-by_name name es in let length = length-names es in cc

  -- where a thread of the channel of this name would go
  pub thread_place-is : (name : List ℕ) (es : List (String Z × Channel)) (b : SessionBookState) (place : Option ℕ)
      → by_name es ≡ b.channels → is_new b.state ≡ true
      → place ≡ position (λ key. bytes_eq name (string_bytes key)) (keys_of es) → thread_place name b ≡ place_free place b
  thread_place-is name es b place channels fresh at =
      let found : position (bytes_eq name) (names b.channels) ≡ place =
      ap (λ cs. position (bytes_eq name) (names cs)) (sym channels) ∙ sym (position-by_name name es) ∙ sym at in
      rw (fresh, found) refl

  -- the channel's name at a place
  pub channel_of-is : (es : List (String Z × Channel)) (ts : List ℕ) (b : SessionBookState) (i place : ℕ)
      (e : String Z × Channel) → by_name es ≡ b.channels → ts ≡ b.threads
      → slice_get ts i ≡ Some place → slice_get es place ≡ Some e → channel_of i b ≡ Some (string_bytes e.0)
  channel_of-is es ts b i place e channels threads thread entry =
      let at : slice_get b.threads i ≡ Some place = ap (λ (xs : List ℕ). slice_get xs i) (sym threads) ∙ thread in
      let named : slice_get b.channels place ≡ Some (string_bytes e.0, e.1) =
      ap (λ cs. slice_get cs place) (sym channels)
      ∙ slice_get-map (λ (f : String Z × Channel). (string_bytes f.0, f.1)) es place
      ∙ ap (option_map (λ (f : String Z × Channel). (string_bytes f.0, f.1))) entry in
      rw (at, named) refl

-- a stream whose cut is due exists
pub due-within : (i moment : ℕ) (b : SessionBookState) → cut_moment i b ≡ Ok moment → i < length b.threads
due-within i moment b is = go (nat_lt i (length b.threads)) refl
  where
    go : (t : Bool) → nat_lt i (length b.threads) ≡ t → i < length b.threads
    go true e = grind (arith, nat_tests, e)
    go false e = let no_way : (let r : Result ℕ SessionFault = Err NoStream in r) ≡ Ok moment = rw e at is in absurd cc
