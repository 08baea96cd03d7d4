-- The metadata of a trace are read as naming its identifier.
use Rattle.std.proofs.Common.{◌≡◌, ℕ, ◌-◌, ◌<◌, ◌≤◌, Bool, true, false, not, cond, eqb, eq-eqb, inl, refl, sym, ap, ◌∙◌, arith, List, [], ◌∷◌, ◌++◌, length, Option, Some, None, All, append_assoc, length-append}
use Rattle.std.specs.Prelude.{codes}
use Rattle.std.specs.List.{list_all, onto_first, slice_split}
use Rattle.std.specs.Option.{option_and_then, option_or}
use Rattle.std.proofs.lemmas.Bool.Decides.{nat_tests}
use Rattle.std.proofs.lemmas.List.{drop_at, take_all, take_at}
use Rattle.std.proofs.lemmas.Bool.{leb-true}
use Rattle.std.proofs.lemmas.List.Folds.{list_all-append}
use Rattle.std.proofs.lemmas.List.Sums.{list_all-from_AllPass}
use Rattle.std.proofs.lemmas.List.Splits.{length-slice_split}
use Rattle.tr_terms.proofs.BoolLemmas.{both}
use Rattle.tr_events.proofs.NumberLemmas.{also}
use Rattle.uuid.proofs.RoundTrips.{parses_hyphenated}
use Rattle.uuid.proofs.TextLemmas.{by_index_at, by_index_length}
use Rattle.uuid.specs.Text.{digit_place, hex_digit, hyphenated_text, is_hyphen_place, lower, nibble, parsed}
use Rattle.tr_packet.specs.Metadata.{clock_text, event_text, lines, metadata_of, packet_header_text, preface_text, stream_text}
use Rattle.tr_folders.specs.Kept.{file_of}
use Rattle.tr_metadata.specs.Recovery.{is_text_of}
use Rattle.tr_metadata.proofs.RecoveryLemmas.{plain_text}
use Rattle.tr_survey.proofs.MetadataLemmas.{read_whole}
use Rattle.tr_survey.specs.Metadata.{ends_line, named, naming_by, naming_in, quoted, uuid_in, uuid_in_line, uuid_in_lines}
use Rattle.tr_survey.specs.declared.naming.Naming.TheVariants.{Named, Other}
use Rattle.tr_metadata.specs.declared.metadata.TheConstants.{LONGEST_METADATA}

-- ---- the identifier

-- a byte that ends no line
abbrev stays : ℕ → Bool
stays b = not (ends_line b)

digit_stays : (d : ℕ) → stays (hex_digit lower d) ≡ true
digit_stays d = grind (arith, nat_tests)

character_stays : (test : Bool) (d : ℕ) → stays (cond test 45 (hex_digit lower d)) ≡ true
character_stays true d = refl
character_stays false d = digit_stays d

-- its text has 36 bytes, and ends no line
pub long_so : (uuid : List ℕ) → length (hyphenated_text lower uuid) ≡ 36
long_so uuid = by_index_length 36 _

pub text_stays : (uuid : List ℕ) → list_all stays (hyphenated_text lower uuid) ≡ true
text_stays uuid =
    list_all-from_AllPass stays (hyphenated_text lower uuid) (λ k d within.
    let here = by_index_at 36 (λ j. cond (is_hyphen_place j) 45 (hex_digit lower (nibble uuid (digit_place j)))) k d (omega (arith, long_so uuid)) in
    ap stays here ∙ character_stays (is_hyphen_place k) (nibble uuid (digit_place k)))

-- what is between quotes is found
quoted_so : (text : List ℕ) → length text ≡ 36 → quoted (codes "uuid = \"" ++ (text ++ codes "\";")) ≡ Some text
quoted_so text long =
    let cut : length (text ++ codes "\";") - 2 ≡ 36 = omega (arith, length-append text (codes "\";")) in
    rw (cut, drop_at text (codes "\";") 36 long, take_at text (codes "\";") 36 long) refl

-- ---- lines

or_else_of : {X : Type 0} (a b c : Option X) → option_or a (option_or b c) ≡ option_or (option_or a b) c
or_else_of None b c = refl
or_else_of (Some x) b c = refl

pub named_in_both : (first second : List (List ℕ)) → uuid_in_lines (first ++ second) ≡ option_or (uuid_in_lines first) (uuid_in_lines second)
named_in_both [] second = refl
named_in_both (line ∷ first) second =
    ap (option_or (uuid_in_line line)) (named_in_both first second) ∙ or_else_of (uuid_in_line line) (uuid_in_lines first) (uuid_in_lines second)

-- a newline ends the lines before it
abbrev split : List ℕ → List (List ℕ)
split = slice_split ends_line

onto_both : (test : Bool) (b : ℕ) (bytes : List ℕ) (first second : List (List ℕ)) → first ≡ split bytes
    → cond test ([] ∷ (first ++ second)) (onto_first b (first ++ second)) ≡ cond test ([] ∷ first) (onto_first b first) ++ second
onto_both true b bytes first second e = refl
onto_both false b bytes [] second e = absurd (omega (arith, length-slice_split ends_line bytes, ap length e))
onto_both false b bytes (line ∷ first) second e = refl

split_at_newline : (first second : List ℕ) → split (first ++ (10 ∷ second)) ≡ split first ++ split second
split_at_newline [] second = refl
split_at_newline (b ∷ first) second =
    ap (λ (ls : List (List ℕ)). cond (ends_line b) ([] ∷ ls) (onto_first b ls)) (split_at_newline first second)
    ∙ onto_both (ends_line b) b first (split first) (split second) refl

-- what the lines before a newline name, or else those after it
pub named_before_or_behind : (first second : List ℕ) → uuid_in (first ++ (10 ∷ second)) ≡ option_or (uuid_in first) (uuid_in second)
named_before_or_behind first second = ap uuid_in_lines (split_at_newline first second) ∙ named_in_both (split first) (split second)

-- the line of an identifier
abbrev pub line_of : List ℕ → List ℕ
line_of text = codes "  uuid = \"" ++ (text ++ codes "\";")

-- without a newline there is one line
goes_on : (test : Bool) (b : ℕ) (ls : List (List ℕ)) → not test ≡ true → cond test ([] ∷ ls) (onto_first b ls) ≡ onto_first b ls
goes_on true b ls e = absurd cc
goes_on false b ls e = refl

one_line : (text : List ℕ) → list_all stays text ≡ true → split text ≡ text ∷ []
one_line [] e = refl
one_line (b ∷ text) e =
    let h = both (stays b) (list_all stays text) e in
    goes_on (ends_line b) b (split text) h.0 ∙ ap (onto_first b) (one_line text h.1)

-- it names the identifier
pub in_line_of : (text uuid : List ℕ) → length text ≡ 36 → list_all stays text ≡ true → Some uuid ≡ parsed text
    → uuid_in (line_of text) ≡ Some uuid
in_line_of text uuid long stay is =
    let unbroken : list_all stays (line_of text) ≡ true = list_all-append stays text (codes "\";") ∙ also _ _ stay refl in
    let found : uuid_in_line (line_of text) ≡ Some uuid = ap (option_and_then parsed) (quoted_so text long) ∙ sym is in
    ap uuid_in_lines (one_line (line_of text) unbroken) ∙ ap (λ (o : Option (List ℕ)). option_or o None) found

-- ---- the metadata

-- what is before the line of the identifier, and after it
front : List ℕ
front = preface_text ++ (lines (codes "trace {" ∷ codes "  major = 1;" ∷ []) ++ codes "  minor = 8;")

behind : List ℕ
behind = packet_header_text ++ (clock_text ++ (stream_text ++ event_text))

none_in_front : uuid_in front ≡ None
unfolding front
none_in_front = refl

-- together they are shorter than what is looked at
front_short : length front ≤ 1000
unfolding front
front_short = leb-true _ _ refl

behind_short : length behind ≤ 2000
unfolding behind
behind_short = leb-true _ _ refl

pub regroup : (p l u h q k t : List ℕ) → p ++ ((l ++ (u ++ (h ++ ((q ++ (10 ∷ [])) ++ k)))) ++ t) ≡ (p ++ l) ++ ((u ++ (h ++ q)) ++ (10 ∷ (k ++ t)))
regroup p l u h q k t = simp append_assoc

metadata_parts : (uuid : List ℕ) → metadata_of uuid ≡ front ++ (10 ∷ (line_of (hyphenated_text lower uuid) ++ (10 ∷ behind)))
unfolding front behind
metadata_parts uuid =
    regroup preface_text (lines (codes "trace {" ∷ codes "  major = 1;" ∷ codes "  minor = 8;" ∷ [])) (codes "  uuid = \"")
    (hyphenated_text lower uuid) (codes "\";") packet_header_text (clock_text ++ (stream_text ++ event_text))

uuid_of_line : (bytes text uuid : List ℕ) → bytes ≡ front ++ (10 ∷ (line_of text ++ (10 ∷ behind)))
    → uuid_in (line_of text) ≡ Some uuid → uuid_in bytes ≡ Some uuid
uuid_of_line bytes text uuid parts found =
    ap uuid_in parts
    ∙ named_before_or_behind front (line_of text ++ (10 ∷ behind))
    ∙ ap (λ (o : Option (List ℕ)). option_or o (uuid_in (line_of text ++ (10 ∷ behind)))) none_in_front
    ∙ named_before_or_behind (line_of text) behind
    ∙ ap (λ (o : Option (List ℕ)). option_or o (uuid_in behind)) found

-- the recorder's text is known as such
pub by_own_text : (bytes uuid : List ℕ) → is_text_of uuid bytes ≡ true → (length bytes ≡ 0 → ⊥) → uuid_in bytes ≡ Some uuid
    → naming_by bytes ≡ Named uuid
by_own_text [] uuid is some found = absurd (some refl)
by_own_text (b ∷ bytes) uuid is some found =
    ap (named (b ∷ bytes)) found ∙ ap (λ (t : Bool). cond t (Named uuid) (Other uuid)) is

short_by_line : (bytes text : List ℕ) → bytes ≡ front ++ (10 ∷ (line_of text ++ (10 ∷ behind))) → length text ≡ 36
    → length bytes ≤ LONGEST_METADATA
short_by_line bytes text parts long =
    omega (
      arith,
      ap length parts,
      length-append front (10 ∷ (line_of text ++ (10 ∷ behind))),
      length-append (line_of text) (10 ∷ behind),
      length-append text (codes "\";"),
      front_short,
      behind_short,
    )

pub metadata_are_short : (uuid : List ℕ) → length (metadata_of uuid) ≤ LONGEST_METADATA
metadata_are_short uuid = short_by_line (metadata_of uuid) (hyphenated_text lower uuid) (metadata_parts uuid) (long_so uuid)

named_by_line : (bytes text uuid : List ℕ) → bytes ≡ front ++ (10 ∷ (line_of text ++ (10 ∷ behind))) → bytes ≡ metadata_of uuid → length text ≡ 36
    → uuid_in (line_of text) ≡ Some uuid → naming_in (Some (file_of bytes false)) ≡ Named uuid
named_by_line bytes text uuid parts own long found =
    let short = short_by_line bytes text parts long in
    let some : length bytes ≡ 0 → ⊥ = λ none. omega (arith, none, ap length parts, length-append front (10 ∷ (line_of text ++ (10 ∷ behind)))) in
    sym (read_whole (file_of bytes false) bytes (naming_by bytes) (sym (take_all LONGEST_METADATA bytes short)) (λ _. refl) refl)
    ∙ by_own_text bytes uuid (ap (is_text_of uuid) own ∙ plain_text uuid) some (uuid_of_line bytes text uuid parts found)

pub metadata_are_of_trace : (uuid : List ℕ) → length uuid ≡ 16 → All (λ b. b < 256) uuid
    → naming_in (Some (file_of (metadata_of uuid) false)) ≡ Named uuid
metadata_are_of_trace uuid long small =
    let text = hyphenated_text lower uuid in
    let found = in_line_of text uuid (long_so uuid) (text_stays uuid) (parses_hyphenated lower uuid (inl refl) long small) in
    named_by_line (metadata_of uuid) text uuid (metadata_parts uuid) refl (long_so uuid) found
