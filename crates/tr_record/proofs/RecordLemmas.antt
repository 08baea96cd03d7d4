-- Lists of records: their texts, what they weigh, and one more record.
use Rattle.std.proofs.Common.{◌≡◌, ℕ, ◌+◌, List, [], ◌∷◌, ◌++◌, length, refl, ap, ◌∙◌, arith, length-append, append-nil}
use Rattle.std.specs.List.{AllByRecursion, sum_by}
use Rattle.std.proofs.lemmas.List.Concat.{flat_map-append}
use Rattle.std.proofs.lemmas.List.Sums.{sum_by-cons, sum_by_push}
use Rattle.tr_record.specs.Records.{Entry, record_text, records_text, HasText, Fits}
use Rattle.tr_record.specs.Weight.{record_weight, weight_of}
use Rattle.tr_terms.specs.declared.limits.TheConstants.{PACKET_HEADER}

-- ---- facts of each record

pub all_push : {X : Type 0} (P : X → Type 0) (xs : List X) (x : X) → AllByRecursion P xs → P x → AllByRecursion P (xs ++ x ∷ [])
all_push P [] x all one = (one, tt)
all_push P (y ∷ ys) x all one = (all.0, all_push P ys x all.1 one)

pub all_append : {X : Type 0} (P : X → Type 0) (xs ys : List X) → AllByRecursion P xs → AllByRecursion P ys → AllByRecursion P (xs ++ ys)
all_append P [] ys all rest = rest
all_append P (x ∷ xs) ys all rest = (all.0, all_append P xs ys all.1 rest)

pub all_weaken : {X : Type 0} (P Q : X → Type 0) → ((x : X) → P x → Q x) → (xs : List X) → AllByRecursion P xs → AllByRecursion Q xs
all_weaken P Q h [] all = tt
all_weaken P Q h (x ∷ xs) all = (h x all.0, all_weaken P Q h xs all.1)

pub fits_has_text : (e : Entry) → Fits e → HasText e
fits_has_text e f = record { serial = f.serial; moment = omega (arith, f.moment); id = f.id; payload = f.payload }

-- ---- texts and weights

pub length-record_text : (e : Entry) → length (record_text e) ≡ record_weight e
length-record_text e = simp length-append (omega arith)

pub length-records_text : (es : List Entry) → length (records_text es) ≡ sum_by record_weight es
length-records_text [] = refl
length-records_text (e ∷ es) =
    omega (arith, length-append (record_text e) (records_text es), length-record_text e, length-records_text es, sum_by-cons record_weight e es)

pub records_text-push : (es : List Entry) (e : Entry) → records_text (es ++ e ∷ []) ≡ records_text es ++ record_text e
records_text-push es e = flat_map-append record_text es (e ∷ []) ∙ ap (λ (t : List ℕ). records_text es ++ t) (append-nil (record_text e))

pub weight_of-push : (es : List Entry) (e : Entry) → weight_of (es ++ e ∷ []) ≡ weight_of es + record_weight e
weight_of-push es e = omega (arith, sum_by_push record_weight es e)

-- the text of more records is longer by theirs
pub weight_of-records_text : (es : List Entry) → weight_of es ≡ PACKET_HEADER + length (records_text es)
weight_of-records_text es = omega (arith, length-records_text es)
