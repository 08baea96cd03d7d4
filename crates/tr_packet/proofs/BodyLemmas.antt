-- The records of a packet, read one after another.
use Rattle.std.proofs.Common.{◌≡◌, ℕ, ◌+◌, ◌<◌, ◌≤◌, Bool, true, false, ◌&&◌, leb, ltb, eqb, List, [], ◌∷◌, ◌++◌, length, Option, Some, None, refl, sym, ap, ◌∙◌, length-append, arith}
use Rattle.std.specs.Prelude.{Err}
use Rattle.std.proofs.lemmas.Bool.{le-leb, eqb-true}
use Rattle.tr_record.specs.Records.{Entry, record_text, records_text}
use Rattle.tr_record.specs.Reading.{◌>>=◌, entry_at, Begins}
use Rattle.tr_record.specs.Whole.{AreBytes, AreRecords, entries_at}
use Rattle.tr_record.proofs.Fields.{some_is, entry_takes}
use Rattle.tr_record.proofs.ReadingLemmas.{read_begins, begins_read}
use Rattle.tr_record.proofs.RecordLemmas.{length-record_text}
use Rattle.tr_record.proofs.WholeLemmas.{at_records, records_at, are_none, are_first}
use Rattle.tr_packet.specs.Order.{serials_rise_after, last_serial_after, in_order}
use Rattle.tr_packet.specs.Seen.{seen_first, seen_next, verdict, verdict_after, verdict_on}
use Rattle.tr_packet.specs.declared.faults.PacketFault.TheVariants.{BadRecord}
use Rattle.tr_packet.specs.declared.seen.Seen.{Seen}

none_is_some : {A : Type 0} (x : A) → None ≡ Some x → ⊥
none_is_some x e = cc

-- ---- whole records, and the first of them

-- the records with this one before them
abbrev pub with_first : Entry → Option (List Entry) → Option (List Entry)
with_first e o = o >>= λ es. Some (e ∷ es)

-- a record at the front makes the bytes longer by its text
pub begins_longer : (bytes : List ℕ) (e : Entry) (rest : List ℕ) → Begins e rest bytes → length bytes ≡ 24 + length e.payload + length rest
begins_longer bytes e rest b = omega (arith, ap length b.parts, length-append (record_text e) rest, length-record_text e)

-- the others of whole records are whole
others_whole : (es : List Entry) (bytes : List ℕ) (e : Entry) (rest : List ℕ) → AreRecords es bytes → Begins e rest bytes
    → (others : List Entry) × AreRecords others rest
others_whole [] bytes e rest are b = absurd (omega (arith, ap length are.parts, begins_longer bytes e rest b))
others_whole (x ∷ xs) bytes e rest are b =
    let both = some_is (x, records_text xs) (e, rest)
    (sym (begins_read bytes x (records_text xs) (are_first x xs bytes are)) ∙ begins_read bytes e rest b) in
    (xs, record { text = are.text.1; parts = sym (ap (λ (p : Entry × List ℕ). p.1) both) })

more_by : (bytes : List ℕ) (e : Entry) (rest : List ℕ) (all others : Option (List Entry)) → AreBytes bytes → AreBytes rest
    → Begins e rest bytes → entries_at bytes ≡ all → entries_at rest ≡ others
    → entries_at bytes ≡ with_first e others
more_by bytes e rest all (Some es) small rest_small b all-is others-is =
    let are = at_records rest es rest_small others-is in
    records_at bytes (e ∷ es) (record { text = (b.text, are.text); parts = b.parts ∙ ap (λ (t : List ℕ). record_text e ++ t) are.parts })
more_by bytes e rest None None small rest_small b all-is others-is = all-is
more_by bytes e rest (Some es) None small rest_small b all-is others-is =
    let others = others_whole es bytes e rest (at_records bytes es small all-is) b in
    absurd (none_is_some others.0 (sym others-is ∙ records_at rest others.0 others.1))

-- the record at the front is the first of the records
pub entries_more : (bytes : List ℕ) (e : Entry) (rest : List ℕ) → AreBytes bytes → entry_at bytes ≡ Some (e, rest)
    → entries_at bytes ≡ with_first e (entries_at rest)
entries_more bytes e rest small read =
    more_by bytes e rest (entries_at bytes) (entries_at rest) small (entry_takes bytes (e, rest) small read).0.small
    (read_begins bytes e rest small read) refl refl

none_by : (bytes : List ℕ) (all : Option (List Entry)) → AreBytes bytes → entry_at bytes ≡ None → 0 < length bytes
    → entries_at bytes ≡ all → entries_at bytes ≡ None
none_by bytes None small read some all-is = all-is
none_by bytes (Some []) small read some all-is = absurd (omega (arith, some, ap length (at_records bytes [] small all-is).parts))
none_by bytes (Some (x ∷ xs)) small read some all-is =
    absurd (none_is_some (x, records_text xs)
    (sym read ∙ begins_read bytes x (records_text xs) (are_first x xs bytes (at_records bytes (x ∷ xs) small all-is))))

-- if no record is read, the bytes aren't whole records
pub entries_none : (bytes : List ℕ) → AreBytes bytes → entry_at bytes ≡ None → 0 < length bytes → entries_at bytes ≡ None
entries_none bytes small read some = none_by bytes (entries_at bytes) small read some refl

pub entries_end : entries_at [] ≡ Some []
entries_end = records_at [] [] are_none

-- ---- what was seen

same_verdict : (rise rise' hold hold' : Bool) (n n' : ℕ) (last : Option ℕ) → rise ≡ rise' → hold ≡ hold' → n ≡ n'
    → verdict rise hold n last ≡ verdict rise' hold' n' last
same_verdict rise rise' hold hold' n n' last same_rise same_hold same_count = rw (same_rise, same_hold, same_count) refl

and_assoc : (a b c : Bool) → (a && (b && c)) ≡ ((a && b) && c)
and_assoc true b c = refl
and_assoc false b c = refl

equal_is_enough : (n m : ℕ) (test rest : Bool) → eqb n m ≡ test → (test && (leb m n && rest)) ≡ (test && rest)
equal_is_enough n m true rest is = let same = eqb-true n m is in rw (le-leb m n (omega (arith, same))) refl
equal_is_enough n m false rest is = refl

pub judged_first : (begin end : ℕ) (e : Entry) (o : Option (List Entry))
    → verdict_on begin end (with_first e o) ≡ verdict_after (seen_first begin e) end o
judged_first begin end e None = refl
judged_first begin end e (Some es) =
    same_verdict (serials_rise_after (Some e.serial) es) (serials_rise_after (Some e.serial) es)
    (eqb e.moment begin && (leb begin e.moment && in_order e.moment end es))
    (eqb e.moment begin && in_order e.moment end es)
    (length (e ∷ es)) (1 + length es) (last_serial_after (Some e.serial) es) refl
    (equal_is_enough e.moment begin (eqb e.moment begin) (in_order e.moment end es) refl) (omega arith)

pub judged_next : (s : Seen) (end : ℕ) (e : Entry) (o : Option (List Entry))
    → verdict_after s end (with_first e o) ≡ verdict_after (seen_next s e) end o
judged_next s end e None = refl
judged_next s end e (Some es) =
    same_verdict (s.serials_rise && (ltb s.serial e.serial && serials_rise_after (Some e.serial) es))
    ((s.serials_rise && ltb s.serial e.serial) && serials_rise_after (Some e.serial) es)
    (s.moments_hold && (leb s.moment e.moment && in_order e.moment end es)) ((s.moments_hold && leb s.moment e.moment) && in_order e.moment end es)
    (s.count + length (e ∷ es)) ((s.count + 1) + length es) (last_serial_after (Some e.serial) es)
    (and_assoc s.serials_rise (ltb s.serial e.serial) (serials_rise_after (Some e.serial) es))
    (and_assoc s.moments_hold (leb s.moment e.moment) (in_order e.moment end es)) (omega arith)

-- ---- what the code's loop knows

-- what was seen represents the records, when these bytes are left
pub record Stands (begin end : ℕ) (body rest : List ℕ) (s : Seen) : Type 0 where
  pub is : verdict_on begin end (entries_at body) ≡ verdict_after s end (entries_at rest)
  pub bytes : AreBytes rest
  pub count : s.count + length rest ≤ length body

pub stands_first : (begin end : ℕ) (body rest : List ℕ) (e : Entry) → AreBytes body → entry_at body ≡ Some (e, rest)
    → Stands begin end body rest (seen_first begin e)
stands_first begin end body rest e small read = record {
  is = ap (verdict_on begin end) (entries_more body e rest small read) ∙ judged_first begin end e (entries_at rest);
  bytes = (entry_takes body (e, rest) small read).0.small;
  count = omega (arith, begins_longer body e rest (read_begins body e rest small read));
}

pub stands_next : (begin end : ℕ) (body rest after : List ℕ) (s : Seen) (e : Entry) → Stands begin end body rest s
    → entry_at rest ≡ Some (e, after) → Stands begin end body after (seen_next s e)
stands_next begin end body rest after s e stands read = record {
  is = stands.is ∙ ap (verdict_after s end) (entries_more rest e after stands.bytes read) ∙ judged_next s end e (entries_at after);
  bytes = (entry_takes rest (e, after) stands.bytes read).0.small;
  count = omega (arith, stands.count, begins_longer rest e after (read_begins rest e after stands.bytes read));
}

pub stands_cut : (begin end : ℕ) (body rest : List ℕ) (s : Seen) → Stands begin end body rest s → entry_at rest ≡ None
    → 0 < length rest → verdict_on begin end (entries_at body) ≡ Err BadRecord
stands_cut begin end body rest s stands read some = stands.is ∙ ap (verdict_after s end) (entries_none rest stands.bytes read some)

pub stands_end : (begin end : ℕ) (body rest : List ℕ) (s : Seen) → Stands begin end body rest s → rest ≡ []
    → verdict_on begin end (entries_at body) ≡ verdict_after s end (Some [])
stands_end begin end body rest s stands none =
    stands.is ∙ ap (λ (bytes : List ℕ). verdict_after s end (entries_at bytes)) none ∙ ap (verdict_after s end) entries_end

pub cut_at_once : (begin end : ℕ) (body : List ℕ) → AreBytes body → entry_at body ≡ None → 0 < length body
    → verdict_on begin end (entries_at body) ≡ Err BadRecord
cut_at_once begin end body small read some = ap (verdict_on begin end) (entries_none body small read some)
