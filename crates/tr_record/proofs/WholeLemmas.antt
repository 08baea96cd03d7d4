-- Bytes that are whole records are so in one way, and are read record by record.
use Rattle.std.proofs.Common.{◌≡◌, ℕ, zero, suc, ◌+◌, ◌≤◌, Bool, true, false, cond, eqb, List, [], ◌∷◌, ◌++◌, length, drop, Option, Some, None, refl, sym, ap, subst, ◌∙◌, length-append, arith}
use Rattle.std.specs.List.{AllByRecursion}
use Rattle.std.specs.Prelude.{unwrap_or}
use Rattle.std.proofs.lemmas.Bool.{eqb-true, ne_eqb}
use Rattle.std.proofs.lemmas.List.{nil_from_length}
use Rattle.tr_record.specs.Records.{Entry, record_text, records_text, HasText, Fits, Stands}
use Rattle.tr_record.specs.Reading.{◌>>=◌, entry_at, Begins}
use Rattle.tr_record.specs.Whole.{AreBytes, AreRecords, AreWhole, entries_at, entries_of, entries_up_to}
use Rattle.tr_record.proofs.Fields.{some_step, some_is, entry_takes, entry_again}
use Rattle.tr_record.proofs.ReadingLemmas.{begins_read, begins_stands, stands_begins}
use Rattle.tr_record.proofs.RecordLemmas.{all_push, fits_has_text, length-record_text, records_text-push}

-- ---- what is read is whole records

nothing_or_more : {A : Type 0} (none : Bool) (x y : A) (more : Option A) → cond none (Some x) more ≡ Some y
    → (P : A → Type 0) → (none ≡ true → P x) → (more ≡ Some y → P y) → P y
nothing_or_more true x y more e P nothing some = subst P (some_is x y e) (nothing refl)
nothing_or_more false x y more e P nothing some = some e

none_is_some : {A : Type 0} (x : A) → None ≡ Some x → ⊥
none_is_some x e = cc

abbrev pub some_answer : Entry → ℕ → Option (Entry × ℕ)
some_answer e n = Some (e, n)

pub up_to_records : (k : ℕ) (bytes : List ℕ) (es : List Entry) → AreBytes bytes → entries_up_to k bytes ≡ Some es → AreRecords es bytes
unfolding entries_up_to
up_to_records zero bytes es small e =
    nothing_or_more (eqb (length bytes) 0) [] es None e (λ l. AreRecords l bytes)
    (λ none. record { text = tt; parts = nil_from_length bytes (eqb-true (length bytes) 0 none) })
    (λ never. absurd (none_is_some es never))
up_to_records (suc k) bytes es small e =
    nothing_or_more (eqb (length bytes) 0) [] es
    (entry_at bytes >>= λ first. entries_up_to k first.1 >>= λ others. Some (first.0 ∷ others)) e
    (λ l. AreRecords l bytes)
    (λ none. record { text = tt; parts = nil_from_length bytes (eqb-true (length bytes) 0 none) })
    (λ more.
    let a = some_step (entry_at bytes) (λ first. entries_up_to k first.1 >>= λ others. Some (first.0 ∷ others)) es more in
    let b = some_step (entries_up_to k a.0.1) (λ others. Some (a.0.0 ∷ others)) es a.2 in
    let first = entry_takes bytes a.0 small a.1 in
    let others = up_to_records k a.0.1 b.0 first.0.small b.1 in
    subst (λ (l : List Entry). AreRecords l bytes) (some_is (a.0.0 ∷ b.0) es b.2)
    (record { text = (first.1, others.text); parts = first.0.parts ∙ ap (λ (t : List ℕ). record_text a.0.0 ++ t) others.parts }))

-- ---- whole records are read

-- with a number to count down that is as great as their length
pub records_up_to : (es : List Entry) (k : ℕ) → AllByRecursion HasText es → length (records_text es) ≤ k → entries_up_to k (records_text es) ≡ Some es
unfolding entries_up_to
records_up_to [] zero text le = refl
records_up_to [] (suc k) text le = refl
records_up_to (e ∷ es) zero text le = absurd (omega (arith, length-append (record_text e) (records_text es), length-record_text e))
records_up_to (e ∷ es) (suc k) text le =
    let bytes = records_text (e ∷ es) in
    let long = length-append (record_text e) (records_text es) in
    let some : eqb (length bytes) 0 ≡ false = ne_eqb (length bytes) 0 (λ none. omega (arith, long, length-record_text e)) in
    let first : entry_at bytes ≡ Some (e, records_text es) = entry_again e (records_text es) text.0 in
    let others : entries_up_to k (records_text es) ≡ Some es = records_up_to es k text.1 (omega (arith, long, length-record_text e)) in
    rw (some, first, others) refl

pub at_records : (bytes : List ℕ) (es : List Entry) → AreBytes bytes → entries_at bytes ≡ Some es → AreRecords es bytes
unfolding entries_at
at_records bytes es small e = up_to_records (length bytes) bytes es small e

pub records_at : (bytes : List ℕ) (es : List Entry) → AreRecords es bytes → entries_at bytes ≡ Some es
unfolding entries_at
records_at bytes es are =
    ap (λ (b : List ℕ). entries_up_to (length b) b) are.parts ∙ records_up_to es (length (records_text es)) are.text (omega arith)

pub records_of : (bytes : List ℕ) (es : List Entry) → AreRecords es bytes → entries_of bytes ≡ es
unfolding entries_of
records_of bytes es are = ap (λ (o : Option (List Entry)). unwrap_or o []) (records_at bytes es are)

-- ---- one record less, and one more

pub are_none : AreRecords [] []
are_none = record { text = tt; parts = refl }

pub are_first : (e : Entry) (es : List Entry) (bytes : List ℕ) → AreRecords (e ∷ es) bytes → Begins e (records_text es) bytes
are_first e es bytes are = record { text = are.text.0; parts = are.parts }

pub are_push : (es : List Entry) (e : Entry) (bytes : List ℕ) → AreRecords es bytes → HasText e → AreRecords (es ++ e ∷ []) (bytes ++ record_text e)
are_push es e bytes are text = record {
  text = all_push HasText es e are.text text;
  parts = ap (λ (t : List ℕ). t ++ record_text e) are.parts ∙ sym (records_text-push es e);
}

-- an empty text is whole, with no record
pub whole_none : AreWhole [] × (entries_of [] ≡ [])
whole_none =
    let is = records_of [] [] are_none in
    (record { are = subst (λ (l : List Entry). AreRecords l []) (sym is) are_none; fits = subst (AllByRecursion Fits) (sym is) tt }, is)

-- and a record may be written after whole records
pub whole_push : (bytes : List ℕ) (e : Entry) → AreWhole bytes → Fits e
    → AreWhole (bytes ++ record_text e) × (entries_of (bytes ++ record_text e) ≡ entries_of bytes ++ e ∷ [])
whole_push bytes e whole fits =
    let are = are_push (entries_of bytes) e bytes whole.are (fits_has_text e fits) in
    let is = records_of (bytes ++ record_text e) (entries_of bytes ++ e ∷ []) are in (
      record {
        are = subst (λ (l : List Entry). AreRecords l (bytes ++ record_text e)) (sym is) are;
        fits = subst (AllByRecursion Fits) (sym is) (all_push Fits (entries_of bytes) e whole.fits fits);
      },
      is,
    )

-- ---- the first of whole records

record Split (e : Entry) (es : List Entry) (rest : List ℕ) : Type 0 where
  others : List Entry
  first : Fits e
  is : es ≡ e ∷ others
  are : AreRecords others rest
  fits : AllByRecursion Fits others

split_first : (es : List Entry) (bytes : List ℕ) (e : Entry) (rest : List ℕ) → AreRecords es bytes → AllByRecursion Fits es
    → Begins e rest bytes → Split e es rest
split_first [] bytes e rest are fits begins =
    absurd (omega (arith, ap length are.parts, ap length begins.parts, length-append (record_text e) rest, length-record_text e))
split_first (x ∷ xs) bytes e rest are fits begins =
    let both = some_is (x, records_text xs) (e, rest)
    (sym (begins_read bytes x (records_text xs) (are_first x xs bytes are)) ∙ begins_read bytes e rest begins) in
    record {
      others = xs;
      first = subst Fits (ap (λ (p : Entry × List ℕ). p.0) both) fits.0;
      is = ap (λ (p : Entry × List ℕ). p.0 ∷ xs) both;
      are = record { text = are.text.1; parts = sym (ap (λ (p : Entry × List ℕ). p.1) both) };
      fits = fits.1;
    }

-- the first of whole records
pub record First (e : Entry) (rest bytes : List ℕ) : Type 0 where
  pub fits : Fits e
  pub others : AreWhole rest
  pub is : entries_of bytes ≡ e ∷ entries_of rest

-- a record that whole records start with is the first of them, and the others are whole
pub whole_begins : (bytes rest : List ℕ) (e : Entry) → AreWhole bytes → Begins e rest bytes → First e rest bytes
whole_begins bytes rest e whole begins =
    let s = split_first (entries_of bytes) bytes e rest whole.are whole.fits begins in
    let is = records_of rest s.others s.are in record {
      fits = s.first;
      others = record {
        are = subst (λ (l : List Entry). AreRecords l rest) (sym is) s.are;
        fits = subst (AllByRecursion Fits) (sym is) s.fits;
      };
      is = s.is ∙ ap (λ (l : List Entry). e ∷ l) (sym is);
    }

pub whole_first : (bytes rest : List ℕ) (e : Entry) (n : ℕ) → AreWhole bytes → Stands e n bytes → rest ≡ drop n bytes
    → AreWhole rest × (entries_of bytes ≡ e ∷ entries_of rest)
whole_first bytes rest e n whole stands rest-is =
    let first = whole_begins bytes rest e whole (subst (λ (t : List ℕ). Begins e t bytes) (sym rest-is) (stands_begins bytes e n stands)) in
    (first.others, first.is)

nothing_stands : (es : List Entry) (bytes : List ℕ) → AreRecords es bytes → AllByRecursion Fits es
    → ((e : Entry) (n : ℕ) → Stands e n bytes → ⊥) → es ≡ []
nothing_stands [] bytes are fits never = refl
nothing_stands (x ∷ xs) bytes are fits never =
    absurd (never x (24 + length x.payload) (begins_stands bytes x (records_text xs) (are_first x xs bytes are) fits.0.moment))

-- if whole records start with no record, none is left
pub whole_end : (bytes : List ℕ) → AreWhole bytes → ((e : Entry) (n : ℕ) → Stands e n bytes → None ≡ some_answer e n) → entries_of bytes ≡ []
whole_end bytes whole never = nothing_stands (entries_of bytes) bytes whole.are whole.fits (λ e n stands. none_is_some (e, n) (never e n stands))

-- after a record that the bytes start with, they are whole exactly when all of them are
pub whole_behind : (bytes : List ℕ) (e : Entry) (n : ℕ) → Stands e n bytes → AreWhole (drop n bytes) → AreWhole bytes
whole_behind bytes e n stands whole =
    let others = entries_of (drop n bytes) in
    let begins = stands_begins bytes e n stands in
    let are : AreRecords (e ∷ others) bytes = record {
      text = (begins.text, whole.are.text);
      parts = begins.parts ∙ ap (λ (t : List ℕ). record_text e ++ t) whole.are.parts;
    } in
    let is = records_of bytes (e ∷ others) are in
    record {
      are = subst (λ (l : List Entry). AreRecords l bytes) (sym is) are;
      fits = subst (AllByRecursion Fits) (sym is) (stands.fits, whole.fits);
    }

-- whole records that start with none are no bytes
pub whole_nothing : (bytes : List ℕ) → AreWhole bytes → ((e : Entry) (n : ℕ) → Stands e n bytes → None ≡ some_answer e n) → bytes ≡ []
whole_nothing bytes whole never = whole.are.parts ∙ ap records_text (whole_end bytes whole never)
