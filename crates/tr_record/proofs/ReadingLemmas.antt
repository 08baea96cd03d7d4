-- A record is read exactly when the bytes start with its text.
use Rattle.std.proofs.Common.{◌≡◌, ℕ, ◌+◌, ◌<◌, ◌≤◌, List, ◌++◌, length, take, drop, Option, Some, None, IfSome, IsSomeAnd, Bor, refl, sym, ap, ◌∙◌, arith}
use Rattle.std.proofs.lemmas.List.{take_at, take-append-drop, length-append}
use Rattle.tr_record.specs.Records.{Entry, record_text, Stands}
use Rattle.tr_record.specs.Reading.{entry_at, Gives, Begins}
use Rattle.tr_record.specs.Raw.{entry_of}
use Rattle.tr_record.specs.declared.raw.RawRec.{RawRec}
use Rattle.tr_record.proofs.Fields.{some_is, entry_takes, entry_again}
use Rattle.tr_record.specs.Whole.{AreBytes}
use Rattle.tr_record.proofs.RecordLemmas.{length-record_text, fits_has_text}
use Rattle.tr_terms.specs.declared.limits.TheConstants.{LAST_MOMENT}

pub read_begins : (bytes : List ℕ) (e : Entry) (rest : List ℕ) → AreBytes bytes → entry_at bytes ≡ Some (e, rest) → Begins e rest bytes
read_begins bytes e rest small read = let t = entry_takes bytes (e, rest) small read in record { text = t.1; parts = t.0.parts }

pub begins_read : (bytes : List ℕ) (e : Entry) (rest : List ℕ) → Begins e rest bytes → entry_at bytes ≡ Some (e, rest)
begins_read bytes e rest b = ap entry_at b.parts ∙ entry_again e rest b.text

pub begins_stands : (bytes : List ℕ) (e : Entry) (rest : List ℕ) → Begins e rest bytes → e.moment ≤ LAST_MOMENT
    → Stands e (24 + length e.payload) bytes
begins_stands bytes e rest b in_time =
    let len = length-record_text e in
    let whole = ap length b.parts in
    record {
      fits = record { serial = b.text.serial; moment = in_time; id = b.text.id; payload = b.text.payload };
      size = refl;
      within = omega (arith, length-append (record_text e) rest);
      text = ap (take (24 + length e.payload)) b.parts ∙ take_at (record_text e) rest (24 + length e.payload) len;
    }

pub stands_begins : (bytes : List ℕ) (e : Entry) (n : ℕ) → Stands e n bytes → Begins e (drop n bytes) bytes
stands_begins bytes e n s = record {
  text = fits_has_text e s.fits;
  parts = sym (take-append-drop n bytes) ∙ ap (λ (t : List ℕ). t ++ drop n bytes) s.text;
}

-- if there are fewer bytes than come before a payload, no record is read
pub short_reads_none : (bytes : List ℕ) (found : Option (Entry × List ℕ)) → AreBytes bytes → length bytes < 24
    → entry_at bytes ≡ found → entry_at bytes ≡ None
short_reads_none bytes None small short is = is
short_reads_none bytes (Some x) small short is =
    let begins = read_begins bytes x.0 x.1 small is in
    absurd (omega (arith, short, ap length begins.parts, length-append (record_text x.0) x.1, length-record_text x.0))

-- ---- what the code's reader answers

pub raw_found : (bytes : List ℕ) (answer : Option (RawRec × Bor (List ℕ))) → AreBytes bytes
    → Gives (λ x. (entry_of x.0, x.1.now)) answer (entry_at bytes)
    → IfSome answer (λ x. Begins (entry_of x.0) x.1.now bytes)
raw_found bytes None small gives = tt
raw_found bytes (Some x) small gives = read_begins bytes (entry_of x.0) x.1.now small gives

none_is_some : {A : Type 0} (x : A) → None ≡ Some x → ⊥
none_is_some x e = cc

pub raw_only : (bytes : List ℕ) (answer : Option (RawRec × Bor (List ℕ))) (e : Entry) (rest : List ℕ) → Begins e rest bytes
    → Gives (λ x. (entry_of x.0, x.1.now)) answer (entry_at bytes)
    → IsSomeAnd answer (λ x. (entry_of x.0 ≡ e) × (x.1.now ≡ rest))
raw_only bytes None e rest b gives = absurd (none_is_some (e, rest) (sym gives ∙ begins_read bytes e rest b))
raw_only bytes (Some x) e rest b gives =
    let h = some_is (entry_of x.0, x.1.now) (e, rest) (sym gives ∙ begins_read bytes e rest b) in
    (ap (λ (p : Entry × List ℕ). p.0) h, ap (λ (p : Entry × List ℕ). p.1) h)

abbrev answer_of : Entry → ℕ → Option (Entry × ℕ)
answer_of e n = Some (e, n)

pub same_answer : (r e : Entry) (m n : ℕ) → r ≡ e → m ≡ n → answer_of r m ≡ answer_of e n
same_answer r e m n is size = ap (λ (x : Entry). answer_of x m) is ∙ ap (answer_of e) size
