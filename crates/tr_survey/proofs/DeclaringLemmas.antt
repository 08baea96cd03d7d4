-- Which events metadata declare.
use Rattle.std.proofs.Common.{◌≡◌, ◌+◌, ◌<◌, ◌≤◌, ◌∙◌, ◌&&◌, ℕ, zero, suc, Bool, true, false, cond, refl, sym, ap, subst, arith, List, [], ◌∷◌, length, map, take, drop, get_or, Option, Some}
use Rattle.std.specs.Prelude.{nat_lt}
use Rattle.std.specs.Option.{option_map_or}
use Rattle.std.proofs.lemmas.List.{take_all}
use Rattle.tr_events.specs.Declarations.{AreDeclared}
use Rattle.tr_events.specs.Events.{Declarations, Event, is_nothing, nothing}
use Rattle.tr_folders.specs.Kept.{file_of}
use Rattle.tr_folders.specs.Tree.{File}
use Rattle.tr_metadata.proofs.RecoveryLemmas.{nothing_is, plainly, recovered}
use Rattle.tr_metadata.specs.Metadata.{metadata_with}
use Rattle.tr_metadata.specs.declared.metadata.TheConstants.{LONGEST_METADATA}
use Rattle.tr_survey.specs.Declaring.{declaring, events_in, events_in_text, is_named}
use Rattle.tr_survey.specs.Listing.{key_of}
use Rattle.tr_survey.specs.Metadata.{IsShort}
use Rattle.tr_survey.specs.declared.names.Numbered as value
use Rattle.tr_survey.specs.declared.naming.Naming.{Naming}
use Rattle.tr_survey.proofs.MetadataLemmas.{broken_by, whole_by}
use Rattle.tr_survey.proofs.MetadataTextLemmas.{metadata_are_short}

-- the open file is read up to its end or as far as it counts
pub events_whole : (file : File) (front : List ℕ) (events : List Event) → front ≡ take LONGEST_METADATA file.bytes
    → (length file.bytes < LONGEST_METADATA → file.breaks ≡ false) → events ≡ events_in_text front → events ≡ events_in (Some file)
events_whole file front events is whole found = found ∙ ap events_in_text is ∙ whole_by file [] events_in_text whole

pub events_broken : (file : File) → (length file.bytes < LONGEST_METADATA) × (file.breaks ≡ true) → [] ≡ events_in (Some file)
events_broken file broken = broken_by file [] events_in_text broken

-- what a recorder's metadata declare
events_of_text : (d : Declarations) (uuid : List ℕ) → AreDeclared d → length (metadata_with d uuid) ≤ LONGEST_METADATA
    → events_in (Some (file_of (metadata_with d uuid) false)) ≡ d.events
events_of_text d uuid all short =
    let bytes = metadata_with d uuid in
    sym (whole_by (file_of bytes false) [] events_in_text (λ _. refl))
    ∙ ap events_in_text (take_all LONGEST_METADATA bytes short)
    ∙ ap (λ (o : Option Declarations). option_map_or (λ (e : Declarations). e.events) o []) (recovered d uuid all)

pub events_declared : (d : Declarations) (uuid : List ℕ) → AreDeclared d → IsShort d uuid
    → events_in (Some (file_of (metadata_with d uuid) false)) ≡ d.events
events_declared d uuid all short = events_of_text d uuid all (go (is_nothing d) refl)
  where
    true_false : {t : Bool} → t ≡ true → t ≡ false → ⊥
    true_false a b = absurd cc

    go : (t : Bool) → is_nothing d ≡ t → length (metadata_with d uuid) ≤ LONGEST_METADATA
    go true none =
        subst (λ (text : List ℕ). length text ≤ LONGEST_METADATA)
        (sym (ap (λ (x : Declarations). metadata_with x uuid) (nothing_is d none) ∙ plainly uuid)) (metadata_are_short uuid)
    go false some = short (λ same. true_false (ap is_nothing same) some)

-- ---- archives

-- one whose metadata don't name the trace is passed over
pub passed_over : (uuid : List ℕ) (xs : List value.Numbered) (ns : List Naming) (i : ℕ) (n : Naming) → i < length xs → i < length ns
    → n ≡ get_or ns i n → is_named uuid n ≡ false
    → declaring uuid (map key_of (drop i xs)) (drop i ns) ≡ declaring uuid (map key_of (drop (i + 1) xs)) (drop (i + 1) ns)
passed_over uuid [] ns i n within fits is other = absurd (omega arith)
passed_over uuid (x ∷ xs) [] i n within fits is other = absurd (omega arith)
passed_over uuid (x ∷ xs) (m ∷ ns) zero n within fits is other =
    ap (λ (t : Bool). cond t (Some (key_of x)) (declaring uuid (map key_of xs) ns)) (ap (is_named uuid) (sym is) ∙ other)
passed_over uuid (x ∷ xs) (m ∷ ns) (suc i) n within fits is other =
    let next : suc i + 1 ≡ suc (i + 1) = omega arith in
    let here : i < length xs = omega arith in
    let there : i < length ns = omega arith in
    passed_over uuid xs ns i n here there is other
    ∙ ap (λ (k : ℕ). declaring uuid (map key_of (drop k (x ∷ xs))) (drop k (m ∷ ns))) (sym next)
