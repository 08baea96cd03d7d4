-- The metadata of a trace with declared events are read as naming its identifier.
use Rattle.std.proofs.Common.{◌≡◌, ◌≤◌, ◌<◌, ◌∙◌, ℕ, Bool, true, false, cond, inl, refl, sym, ap, arith, List, [], ◌∷◌, ◌++◌, length, map, take, Option, Some, None, Ok, All, append_assoc, length-append}
use Rattle.std.specs.Cmp.Lexicographic.{pointwise}
use Rattle.std.specs.List.{AllByRecursion, flat_map, list_all, slice_split, starts_with}
use Rattle.std.specs.Option.{option_and_then, option_or}
use Rattle.std.specs.Prelude.{◌&&◌, codes, nat_eq, nat_lt, not}
use Rattle.std.proofs.lemmas.Bool.Decides.{nat_tests}
use Rattle.std.proofs.lemmas.List.{take_all}
use Rattle.std.specs.Fmt.{decimal}
use Rattle.tr_terms.proofs.BoolLemmas.{both}
use Rattle.uuid.proofs.RoundTrips.{parses_hyphenated}
use Rattle.uuid.specs.Text.{hyphenated_text, lower, parsed}
use Rattle.tr_lines.specs.Lines.{is_printable}
use Rattle.tr_lines.specs.Words.{is_space}
use Rattle.tr_events.proofs.DeclaredLemmas.{BeginsWithLetter, line_begins, line_for, lines_for, lines_written}
use Rattle.tr_events.proofs.EnvLemmas.{env_line_begins, env_line_for}
use Rattle.tr_events.proofs.SplitLemmas.{joined}
use Rattle.tr_events.specs.Declarations.{AreDeclared, IsDeclaration, IsVariable, IsWord, word_of, words_for}
use Rattle.tr_events.specs.Events.{Declarations, Event, is_nothing}
use Rattle.tr_events.specs.Variables.{Variable}
use Rattle.tr_events.specs.Lines.{event_if, event_in, id_if}
use Rattle.tr_events.specs.Numbers.{is_digit, number_of}
use Rattle.tr_events.specs.Words.{declarations_text, field_word}
use Rattle.tr_packet.specs.Metadata.{lines, packet_header_text, preface_text, trace_text}
use Rattle.tr_folders.specs.Kept.{file_of}
use Rattle.tr_metadata.proofs.RecoveryLemmas.{nothing_is, own_text, plainly, typedly}
use Rattle.tr_metadata.specs.Metadata.{back_text, metadata_with, middle_text, typed_metadata}
use Rattle.tr_metadata.specs.declared.metadata.TheConstants.{LONGEST_METADATA}
use Rattle.tr_survey.proofs.MetadataLemmas.{read_whole}
use Rattle.tr_survey.proofs.MetadataTextLemmas.{by_own_text, in_line_of, line_of, long_so, metadata_are_of_trace, named_before_or_behind, named_in_both, regroup, text_stays}
use Rattle.tr_survey.specs.Metadata.{IsShort, ends_line, naming_by, naming_in, quoted, uuid_in, uuid_in_line, uuid_in_lines, without_indent}
use Rattle.tr_survey.specs.declared.naming.Naming.TheVariants.{Named}

-- ---- the line of a declaration

passed : {A : Type 0} (test : Bool) (o : Option A) (y : A) → cond test o None ≡ Some y → test ≡ true
passed true o y e = refl
passed false o y e = absurd cc

-- an id that is declared is digits
id_digits : (name id : List ℕ) (words : List (List ℕ)) (e : Event) → event_in (name ∷ id ∷ words) ≡ Ok e
    → (nat_lt 0 (length id) ≡ true) × (list_all is_digit id ≡ true)
id_digits name id words e is = go (number_of id) refl is
  where
    go : (o : Option ℕ) → number_of id ≡ o → event_if name (option_and_then id_if o) words ≡ Ok e
        → (nat_lt 0 (length id) ≡ true) × (list_all is_digit id ≡ true)
    go None a is = absurd cc
    go (Some n) a is =
        let t = passed _ _ n a in
        let u = both _ _ t in
        (u.0, (both _ _ u.1).0)

and_not : (t : Bool) → (t && false) ≡ false
and_not true = refl
and_not false = refl

-- after four tests
fails : (t u v w x : Bool) → x ≡ false → (t && (u && (v && (w && x)))) ≡ false
fails t u v w x e =
    ap (λ (y : Bool). t && (u && (v && (w && y)))) e ∙ ap (λ (y : Bool). t && (u && (v && y))) (and_not w)
    ∙ ap (λ (y : Bool). t && (u && y)) (and_not v) ∙ ap (λ (y : Bool). t && y) (and_not u) ∙ and_not t

no_space : (b : ℕ) → (is_printable b && not (is_space b)) ≡ true → nat_eq 32 b ≡ false
no_space b e = let f = (both (is_printable b) (not (is_space b)) e).1 in grind (arith, nat_tests, f)

no_equals : (b : ℕ) → is_digit b ≡ true → nat_eq 61 b ≡ false
no_equals b e = grind (arith, nat_tests, e)

abbrev in_word : ℕ → Bool
in_word b = is_printable b && not (is_space b)

others_pass : (b : ℕ) (word : List ℕ) → list_all in_word (b ∷ word) ≡ true → list_all in_word word ≡ true
others_pass b word e = (both (in_word b) (list_all in_word word) e).1

-- a name, a space, and digits aren't the beginning of a line of an identifier
differs : (name id rest : List ℕ) → list_all in_word name ≡ true → nat_lt 0 (length id) ≡ true → list_all is_digit id ≡ true
    → starts_with nat_eq (name ++ (32 ∷ (id ++ rest))) (codes "uuid = \"") ≡ false
differs [] id rest word some digits = refl
differs (a ∷ []) id rest word some digits = and_not (nat_eq 117 a)
differs (a ∷ b ∷ []) id rest word some digits = fails true true (nat_eq 117 a) (nat_eq 117 b) false refl
differs (a ∷ b ∷ c ∷ []) id rest word some digits = fails true (nat_eq 117 a) (nat_eq 117 b) (nat_eq 105 c) false refl
differs (a ∷ b ∷ c ∷ d ∷ []) [] rest word some digits = absurd cc
differs (a ∷ b ∷ c ∷ d ∷ []) (i ∷ id) rest word some digits =
    let others = pointwise nat_eq (32 ∷ 34 ∷ []) (take 2 (id ++ rest)) in
    fails (nat_eq 117 a) (nat_eq 117 b) (nat_eq 105 c) (nat_eq 100 d) (nat_eq 61 i && others)
    (ap (λ (t : Bool). t && others) (no_equals i (both _ _ digits).0))
differs (a ∷ b ∷ c ∷ d ∷ f ∷ name) id rest word some digits =
    let others = pointwise nat_eq (61 ∷ 32 ∷ 34 ∷ []) (take 3 (name ++ (32 ∷ (id ++ rest)))) in
    let last = others_pass d (f ∷ name) (others_pass c (d ∷ f ∷ name) (others_pass b (c ∷ d ∷ f ∷ name)
    (others_pass a (b ∷ c ∷ d ∷ f ∷ name) word))) in
    let fifth = (both (in_word f) (list_all in_word name) last).0 in
    fails (nat_eq 117 a) (nat_eq 117 b) (nat_eq 105 c) (nat_eq 100 d) (nat_eq 32 f && others)
    (ap (λ (t : Bool). t && others) (no_space f fifth))

no_indent : (line : List ℕ) → BeginsWithLetter line → without_indent line ≡ line
no_indent [] begins = absurd (let is = begins.is in cc)
no_indent (b ∷ line) begins =
    let is = begins.is in
    let test = begins.test in
    let same : b ≡ begins.letter = cc in
    let other : nat_eq b 32 ≡ false = grind (arith, nat_tests, test, same) in
    rw other refl

-- it names no identifier
unnamed : (e : Event) → IsDeclaration e → uuid_in_line (line_for e) ≡ None
unnamed e is =
    let digits = id_digits e.name (decimal e.id) (map word_of e.fields) e is.declares in
    let starts : starts_with nat_eq (line_for e) (codes "uuid = \"") ≡ false =
    ap (λ (t : List ℕ). starts_with nat_eq (e.name ++ (32 ∷ t)) (codes "uuid = \"")) (joined 32 word_of (decimal e.id) e.fields)
    ∙ differs e.name (decimal e.id) (flat_map field_word e.fields) is.words.0.1 digits.0 digits.1 in
    ap (λ (t : List ℕ). option_and_then parsed (quoted t)) (no_indent (line_for e) (line_begins e is)) ∙ rw starts refl

unnamed_variable : (v : Variable) → IsVariable v → uuid_in_line (env_line_for v) ≡ None
unnamed_variable v is = ap uuid_in_line (env_line_begins v is)

none_in_events : (events : List Event) → AllByRecursion IsDeclaration events → uuid_in_lines (map line_for events) ≡ None
none_in_events [] each = refl
none_in_events (e ∷ events) each =
    ap (λ (o : Option (List ℕ)). option_or o (uuid_in_lines (map line_for events))) (unnamed e each.0) ∙ none_in_events events each.1

none_in_lines : (env : List Variable) (events : List Event) → AllByRecursion IsVariable env → AllByRecursion IsDeclaration events
    → uuid_in_lines (map env_line_for env ++ map line_for events) ≡ None
none_in_lines [] events given each = none_in_events events each
none_in_lines (v ∷ env) events given each =
    ap (λ (o : Option (List ℕ)). option_or o (uuid_in_lines (map env_line_for env ++ map line_for events))) (unnamed_variable v given.0)
    ∙ none_in_lines env events given.1 each

-- declarations are passed over
passes : (d : Declarations) (rest : List ℕ) → AreDeclared d → uuid_in (declarations_text d ++ rest) ≡ uuid_in rest
passes d rest all =
    ap uuid_in_lines (lines_written d rest all)
    ∙ named_in_both (lines_for d) (slice_split ends_line rest)
    ∙ ap (λ (o : Option (List ℕ)). option_or o (uuid_in rest)) (none_in_lines d.env d.events all.env.each all.events.each)

-- ---- the metadata

-- what is before the declarations, and between these and the line of the identifier
before : List ℕ
before = preface_text ++ codes "/* tracerd events"

between : List ℕ
between = codes "*/\n\n" ++ (lines (codes "trace {" ∷ codes "  major = 1;" ∷ []) ++ codes "  minor = 8;")

none_before : uuid_in before ≡ None
unfolding before
none_before = refl

none_between : uuid_in between ≡ None
unfolding between
none_between = refl

from_between : (uuid more : List ℕ)
    → codes "*/\n\n" ++ (trace_text uuid ++ more) ≡ between ++ (10 ∷ (line_of (hyphenated_text lower uuid) ++ (10 ∷ (packet_header_text ++ more))))
unfolding between
from_between uuid more =
    regroup (codes "*/\n\n") (lines (codes "trace {" ∷ codes "  major = 1;" ∷ codes "  minor = 8;" ∷ [])) (codes "  uuid = \"")
    (hyphenated_text lower uuid) (codes "\";") packet_header_text more

regrouped : (a b c d e f : List ℕ) → (a ++ ((b ++ (c ++ d)) ++ e)) ++ f ≡ (a ++ b) ++ (c ++ (d ++ (e ++ f)))
regrouped a b c d e f = simp append_assoc

typed_parts : (d : Declarations) (uuid : List ℕ) → typed_metadata d uuid
    ≡ before ++ (10 ∷ (declarations_text d ++ (codes "*/\n\n" ++ (trace_text uuid ++ (middle_text d ++ back_text d)))))
unfolding before
typed_parts d uuid =
    regrouped preface_text (codes "/* tracerd events\n") (declarations_text d) (codes "*/\n\n") (trace_text uuid) (middle_text d ++ back_text d)

uuid_found : (d : Declarations) (uuid : List ℕ) → AreDeclared d → uuid_in (line_of (hyphenated_text lower uuid)) ≡ Some uuid
    → uuid_in (typed_metadata d uuid) ≡ Some uuid
uuid_found d uuid all found =
    let more = middle_text d ++ back_text d in
    let line = line_of (hyphenated_text lower uuid) in
    let behind = packet_header_text ++ more in
    let rest = codes "*/\n\n" ++ (trace_text uuid ++ more) in
    ap uuid_in (typed_parts d uuid)
    ∙ named_before_or_behind before (declarations_text d ++ rest)
    ∙ ap (λ (o : Option (List ℕ)). option_or o (uuid_in (declarations_text d ++ rest))) none_before
    ∙ passes d rest all
    ∙ ap uuid_in (from_between uuid more)
    ∙ named_before_or_behind between (line ++ (10 ∷ behind))
    ∙ ap (λ (o : Option (List ℕ)). option_or o (uuid_in (line ++ (10 ∷ behind)))) none_between
    ∙ named_before_or_behind line behind
    ∙ ap (λ (o : Option (List ℕ)). option_or o (uuid_in behind)) found

some_bytes : (bytes uuid : List ℕ) → uuid_in bytes ≡ Some uuid → length bytes ≡ 0 → ⊥
some_bytes [] uuid found none = cc
some_bytes (b ∷ bytes) uuid found none = cc

typed_names : (d : Declarations) (uuid : List ℕ) → AreDeclared d → length uuid ≡ 16 → All (λ b. b < 256) uuid
    → is_nothing d ≡ false → length (metadata_with d uuid) ≤ LONGEST_METADATA
    → naming_in (Some (file_of (metadata_with d uuid) false)) ≡ Named uuid
typed_names d uuid all long small some short =
    let text = hyphenated_text lower uuid in
    let bytes = metadata_with d uuid in
    let line = in_line_of text uuid (long_so uuid) (text_stays uuid) (parses_hyphenated lower uuid (inl refl) long small) in
    let found = ap uuid_in (typedly d uuid some) ∙ uuid_found d uuid all line in
    sym (read_whole (file_of bytes false) bytes (naming_by bytes) (sym (take_all LONGEST_METADATA bytes short)) (λ _. refl) refl)
    ∙ by_own_text bytes uuid (own_text d uuid all) (some_bytes bytes uuid found) found

pub typed_metadata_are_of_trace : (d : Declarations) (uuid : List ℕ) → AreDeclared d → length uuid ≡ 16 → All (λ b. b < 256) uuid
    → IsShort d uuid → naming_in (Some (file_of (metadata_with d uuid) false)) ≡ Named uuid
typed_metadata_are_of_trace d uuid all long small short = go (is_nothing d) refl
  where
    true_false : {t : Bool} → t ≡ true → t ≡ false → ⊥
    true_false a b = absurd cc

    go : (t : Bool) → is_nothing d ≡ t → naming_in (Some (file_of (metadata_with d uuid) false)) ≡ Named uuid
    go true none =
        ap (λ (x : Declarations). naming_in (Some (file_of (metadata_with x uuid) false))) (nothing_is d none)
        ∙ ap (λ (text : List ℕ). naming_in (Some (file_of text false))) (plainly uuid)
        ∙ metadata_are_of_trace uuid long small
    go false some = typed_names d uuid all long small some (short (λ same. true_false (ap is_nothing same) some))
