-- An event is read as its record.
use Rattle.std.proofs.Common.{◌≡◌, ℕ, ◌/◌, ◌%◌, ◌^◌, ◌<◌, ◌≤◌, Bool, true, false, cond, ◌&&◌, eqb, ltb, List, [], ◌∷◌, ◌++◌, map, length, Option, Some, None, refl, sym, ap, subst, ◌∙◌, append_assoc, arith}
use Rattle.std.specs.Prelude.{codes, IsTrue, is_some, unwrap_or}
use Rattle.std.specs.Int.{w32, w64, to_le_bytes}
use Rattle.std.specs.List.{flat_map}
use Rattle.std.proofs.lemmas.Bool.{ltb-true, eqb-true, ne_eqb}
use Rattle.tr_record.specs.Records.{Entry, record_text, Fits}
use Rattle.tr_record.specs.Reading.{number_at}
use Rattle.tr_record.proofs.Fields.{some_is, number_again, numeral_32, numeral_64}
use Rattle.tr_terms.specs.declared.limits.TheConstants.{LAST_MOMENT}
use Rattle.tr_events.specs.Events.{Event, Value, Several, Natural, values_of, fits, AreEvents, ids_rise, all_apart, is_apart, event_with, fits_if_some, FitsAsDeclared}
use Rattle.tr_metadata.specs.Reader.{Member, members_of, len_name, other_members, class_members, members_at, read, label_of, ranges_from, class_by, moment_by, event_at, shown, read_as, read_of}
use Rattle.tr_events.specs.declared.layouts.Sort.TheVariants.{Unsigned}
use Rattle.tr_events.proofs.UnpackLemmas.{values_end}
use Rattle.tr_metadata.proofs.RangeLemmas.{label_is}
use Rattle.tr_metadata.proofs.FieldLemmas.{all_read, apart_read}

-- ---- a payload that fits

-- the values, if there are any
have : {A : Type 0} (o : Option A) → IsTrue (is_some o) → (x : A) × (o ≡ Some x)
have None none = absurd cc
have (Some x) some = (x, refl)

-- ---- the event with an id

both : (a b : Bool) → IsTrue (a && b) → (a ≡ true) × (b ≡ true)
both true b e = (refl, e)
both false b e = absurd cc

-- it is above 0, and may stand
has_id : (id before : ℕ) (events : List Event) (e : Event) → IsTrue (ids_rise before events) → IsTrue (all_apart events)
    → event_with id events ≡ Some e → (before < id) × IsTrue (is_apart e.fields)
has_id id before [] e rise apart is = absurd cc
has_id id before (x ∷ events) e rise apart is =
    let r = both (ltb before x.id) (ids_rise x.id events) rise in
    let a = both (is_apart x.fields) (all_apart events) apart in
    let above : before < x.id = ltb-true before x.id r.0 in
    step (eqb x.id id) id before x events e (λ same. eqb-true x.id id same) above a.0
    (λ other. has_id id x.id events e r.1 a.1 other) is
  where
    step : (same : Bool) (id before : ℕ) (x : Event) (events : List Event) (e : Event) → (same ≡ true → x.id ≡ id) → before < x.id
        → IsTrue (is_apart x.fields)
        → (event_with id events ≡ Some e → (x.id < id) × IsTrue (is_apart e.fields))
        → cond same (Some x) (event_with id events) ≡ Some e → (before < id) × IsTrue (is_apart e.fields)
    step true id before x events e same above apart others is =
        let at : x.id ≡ id = same refl in
        (omega arith, subst (λ (y : Event). IsTrue (is_apart y.fields)) (some_is x e is) apart)
    step false id before x events e same above apart others is = let o = others is in (omega (arith, o.0), o.1)

-- ---- an event

event_step : (events : List Event) (bytes : List ℕ) (tag word serial len : ℕ × List ℕ) (declared : Bool) (members : List Member)
    (values : List (List ℕ × Value) × List ℕ)
    → number_at w32 bytes ≡ Some tag → number_at w64 tag.1 ≡ Some word → number_at w64 word.1 ≡ Some serial
    → number_at w32 serial.1 ≡ Some len → label_of tag.0 (ranges_from 0 events) ≡ Some declared
    → class_members events (class_by declared tag.0 word.0) ≡ Some members
    → members_at members ((len_name, len.0) ∷ (codes "serial", serial.0) ∷ []) len.1 ≡ Some values
    → event_at events bytes ≡ Some (read serial.0 (moment_by declared word.0) (class_by declared tag.0 word.0) values.0, values.1)
unfolding event_at
event_step events bytes tag word serial len declared members values a b c d l e f = rw (a, b, c, d, l, e, f) refl

-- the text of a record, field by field
regrouped : (id moment serial len payload tail : List ℕ)
    → (id ++ (moment ++ (serial ++ (len ++ payload)))) ++ tail ≡ id ++ (moment ++ (serial ++ (len ++ (payload ++ tail))))
regrouped id moment serial len payload tail = simp append_assoc

-- an event whose header selects this class with this moment
selected : (events : List Event) (e : Entry) (tail : List ℕ) (declared : Bool) (class : ℕ) (members : List Member)
    (values : List (List ℕ × Value)) → Fits e → label_of e.id (ranges_from 0 events) ≡ Some declared
    → class_by declared e.id e.moment ≡ class → moment_by declared e.moment ≡ e.moment
    → class_members events class ≡ Some members
    → members_at members ((len_name, length e.payload) ∷ (codes "serial", e.serial) ∷ []) (e.payload ++ tail) ≡ Some (values, tail)
    → event_at events (record_text e ++ tail) ≡ Some (read e.serial e.moment class values, tail)
selected events e tail declared class members values fits label class-is moment-is members-are values-are =
    let t4 = e.payload ++ tail in
    let t3 = to_le_bytes w32 (length e.payload) ++ t4 in
    let t2 = to_le_bytes w64 e.serial ++ t3 in
    let t1 = to_le_bytes w64 e.moment ++ t2 in
    ap (event_at events) (regrouped (to_le_bytes w32 e.id) (to_le_bytes w64 e.moment) (to_le_bytes w64 e.serial) (to_le_bytes w32 (length e.payload)) e.payload tail)
    ∙ event_step events (to_le_bytes w32 e.id ++ t1) (e.id, t1) (e.moment, t2) (e.serial, t3) (length e.payload, t4) declared members (values, tail)
    (number_again w32 (2 ^ 32) numeral_32 e.id t1 fits.id)
    (number_again w64 (2 ^ 64) numeral_64 e.moment t2 (omega (arith, fits.moment)))
    (number_again w64 (2 ^ 64) numeral_64 e.serial t3 fits.serial)
    (number_again w32 (2 ^ 32) numeral_32 (length e.payload) t4 fits.payload)
    label (ap (class_members events) class-is ∙ members-are) values-are
    ∙ ap (λ (m : ℕ). Some (read e.serial m (class_by declared e.id e.moment) values, tail)) moment-is
    ∙ ap (λ (c : ℕ). Some (read e.serial e.moment c values, tail)) class-is

members_of_event : (events : List Event) (id : ℕ) (event : Event) → 1 ≤ id → event_with id events ≡ Some event
    → class_members events id ≡ Some (flat_map members_of event.fields)
members_of_event events id event above is =
    let some : eqb id 0 ≡ false = ne_eqb id 0 (λ none. omega arith) in
    rw (some, is) refl

high : (m : ℕ) → m ≤ LAST_MOMENT → m / 2 ^ 63 ≡ 0
high m below = omega arith

low : (m : ℕ) → m ≤ LAST_MOMENT → m % 2 ^ 63 ≡ m
low m below = omega arith

event_by : (events : List Event) (e : Entry) (tail : List ℕ) (o : Option Event) → AreEvents events → Fits e
    → event_with e.id events ≡ o → IsTrue (fits_if_some o e.payload) → event_at events (record_text e ++ tail) ≡ Some (read_as o e, tail)
event_by events e tail None are fits is fitting =
    let moment = fits.moment in
    selected events e tail false 0 other_members ((codes "payload", Several (map Natural e.payload)) ∷ []) fits
    (label_is e.id 0 events are.rise (omega arith) fits.id ∙ ap (λ (o : Option Event). Some (is_some o)) is)
    (high e.moment moment) (low e.moment moment) refl
    (all_read (codes "payload") Unsigned (λ n. refl) e.payload tail ((codes "serial", e.serial) ∷ []))
event_by events e tail (Some event) are fits is fitting =
    let its = has_id e.id 0 events event are.rise are.apart is in
    let v = have (values_of event e.payload) fitting in
    let above : 1 ≤ e.id = omega (arith, its.0) in
    selected events e tail true e.id (flat_map members_of event.fields) (shown event.fields v.0) fits
    (label_is e.id 0 events are.rise (omega arith) fits.id ∙ ap (λ (o : Option Event). Some (is_some o)) is) refl refl
    (members_of_event events e.id event above is)
    (apart_read event.fields its.1 e.payload tail v.0 ((codes "serial", e.serial) ∷ []) (values_end event e.payload v.0 v.1))
    ∙ ap (λ (o : Option (List Value)). Some (read e.serial e.moment e.id (shown event.fields (unwrap_or o [])), tail)) (sym v.1)

-- a record's text is read as the record
pub event_read : (events : List Event) (e : Entry) (tail : List ℕ) → AreEvents events → Fits e → FitsAsDeclared events e
    → event_at events (record_text e ++ tail) ≡ Some (read_of events e, tail)
event_read events e tail are fits fitting = event_by events e tail (event_with e.id events) are fits refl fitting
