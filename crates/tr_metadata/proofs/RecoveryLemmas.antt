-- The declarations of a metadata text are those that it was made of.
use Rattle.std.proofs.Common.{◌≡◌, ℕ, Bool, true, false, cond, ◌&&◌, eqb, refl, sym, ap, subst, ◌∙◌, arith, List, [], ◌∷◌, ◌++◌, length, map, drop, append_assoc, append-nil, Option, Some, None}
use Rattle.std.specs.Prelude.{codes, not, nat_eq}
use Rattle.std.specs.Cmp.Lexicographic.{pointwise}
use Rattle.std.specs.List.{AllByRecursion, slice_split, take_while}
use Rattle.std.specs.Option.{option_and_then, option_map_or}
use Rattle.std.specs.Result.{result_ok}
use Rattle.std.proofs.lemmas.Bool.Decides.{Decides-eqb}
use Rattle.std.proofs.lemmas.Bool.{eqb-true, ne_eqb}
use Rattle.std.proofs.lemmas.List.{drop_at}
use Rattle.std.proofs.lemmas.List.Sums.{take_while-cons}
use Rattle.std.proofs.lemmas.Slice.Eq.{bytes_eq-Decides, starts_is}
use Rattle.tr_lines.specs.Lines.{is_feed}
use Rattle.tr_packet.specs.Metadata.{clock_text, event_text, metadata_of, preface_text, stream_text, trace_text}
use Rattle.tr_terms.specs.Names.{is_letter}
use Rattle.tr_terms.proofs.BoolLemmas.{both}
use Rattle.tr_events.specs.Declarations.{AreDeclared, IsDeclaration, IsVariable}
use Rattle.tr_events.specs.Events.{Declarations, declarations, nothing, is_nothing, Event}
use Rattle.tr_events.specs.Variables.{Variable}
use Rattle.tr_events.specs.Lines.{after_lines}
use Rattle.tr_events.specs.Words.{declarations_text}
use Rattle.tr_events.proofs.DeclaredLemmas.{line_begins, line_for, lines_for, lines_written, none_declared, written_first}
use Rattle.tr_events.proofs.EnvLemmas.{env_line_begins, env_line_for}
use Rattle.tr_events.proofs.SplitLemmas.{line_split}
use Rattle.tr_metadata.specs.Metadata.{back_text, metadata_with, middle_text, typed_metadata}
use Rattle.tr_metadata.specs.Recovery.{behind_front, declared_before_end, declared_by, declared_in, is_end, is_text_of}

pub front_behind : (front rest : List ℕ) → behind_front front (front ++ rest) ≡ Some rest
front_behind front rest =
    ap (λ (t : Bool). cond t (Some (drop (length front) (front ++ rest))) None) ((starts_is Decides-eqb (front ++ rest) front _ refl).1 rest refl)
    ∙ ap (λ (l : List ℕ). Some l) (drop_at front rest (length front) refl)

-- ---- the lines of the comment

true_false : {t : Bool} → t ≡ true → t ≡ false → ⊥
true_false a b = absurd cc

begun : (b : ℕ) (rest : List ℕ) → is_letter b ≡ true → is_end (b ∷ rest) ≡ false
begun b rest letter = ap (λ (t : Bool). t && pointwise nat_eq rest (codes "/")) (ne_eqb b 42 (λ same. absurd (true_false letter (ap is_letter same))))

no_end : (e : Event) → IsDeclaration e → is_end (line_for e) ≡ false
no_end e is = let b = line_begins e is in ap is_end b.is ∙ begun b.letter b.rest b.test

no_env_end : (v : Variable) → IsVariable v → is_end (env_line_for v) ≡ false
no_env_end v is = ap is_end (env_line_begins v is)

-- it ends no declarations
abbrev Stays : List ℕ → Type 0
Stays line = is_end line ≡ false

before : (lines rest : List (List ℕ)) → AllByRecursion Stays lines → take_while (λ line. not (is_end line)) (lines ++ (codes "*/" ∷ rest)) ≡ lines
before [] rest each = take_while-cons (λ line. not (is_end line)) (codes "*/") rest
before (line ∷ lines) rest each =
    take_while-cons (λ line. not (is_end line)) line (lines ++ (codes "*/" ∷ rest))
    ∙ ap (λ (t : Bool). cond (not t) (line ∷ take_while (λ line. not (is_end line)) (lines ++ (codes "*/" ∷ rest))) []) each.0
    ∙ ap (λ (l : List (List ℕ)). line ∷ l) (before lines rest each.1)

events_stay : (events : List Event) → AllByRecursion IsDeclaration events → AllByRecursion Stays (map line_for events)
events_stay [] each = tt
events_stay (e ∷ events) each = (no_end e each.0, events_stay events each.1)

all_stay : (env : List Variable) (events : List Event) → AllByRecursion IsVariable env → AllByRecursion IsDeclaration events
    → AllByRecursion Stays (map env_line_for env ++ map line_for events)
all_stay [] events given each = events_stay events each
all_stay (v ∷ env) events given each = (no_env_end v given.0, all_stay env events given.1 each)

-- those of a comment come out of it again, whatever follows it
comment_back : (d : Declarations) (more : List ℕ) → AreDeclared d
    → declared_before_end (slice_split is_feed (declarations_text d ++ (codes "*/\n\n" ++ more))) ≡ Some d
comment_back d more all =
    ap declared_before_end (lines_written d (codes "*/\n\n" ++ more) all
    ∙ ap (λ (l : List (List ℕ)). lines_for d ++ l) (line_split (codes "*/") (10 ∷ more) refl))
    ∙ ap (λ (l : List (List ℕ)). result_ok (after_lines 1 nothing l))
    (before (lines_for d) (slice_split is_feed (10 ∷ more)) (all_stay d.env d.events all.env.each all.events.each) ∙ sym (append-nil (lines_for d)))
    ∙ ap result_ok (written_first d [] all)

-- ---- the text

regrouped : (a b c d e f : List ℕ) → (a ++ ((b ++ (c ++ d)) ++ e)) ++ f ≡ a ++ (b ++ (c ++ (d ++ (e ++ f))))
regrouped a b c d e f = simp append_assoc

typed_back : (d : Declarations) (uuid : List ℕ) → AreDeclared d → declared_in (typed_metadata d uuid) ≡ Some d
unfolding declared_in
typed_back d uuid all =
    let more = trace_text uuid ++ (middle_text d ++ back_text d) in
    let comment = declarations_text d ++ (codes "*/\n\n" ++ more) in
    let begin = codes "/* tracerd events\n" in
    ap (λ (t : List ℕ). option_and_then (λ rest. declared_by (behind_front begin rest)) (behind_front preface_text t))
    (regrouped preface_text begin (declarations_text d) (codes "*/\n\n") (trace_text uuid) (middle_text d ++ back_text d))
    ∙ ap (option_and_then (λ rest. declared_by (behind_front begin rest))) (front_behind preface_text (begin ++ comment))
    ∙ ap declared_by (front_behind begin comment)
    ∙ comment_back d more all

plain_back : (uuid : List ℕ) → declared_in (metadata_of uuid) ≡ Some nothing
unfolding declared_in
plain_back uuid =
    ap (option_and_then (λ rest. declared_by (behind_front (codes "/* tracerd events\n") rest)))
    (front_behind preface_text (trace_text uuid ++ (clock_text ++ (stream_text ++ event_text))))

-- if nothing is declared, and if something is
pub plainly : (uuid : List ℕ) → metadata_with nothing uuid ≡ metadata_of uuid
unfolding metadata_with
plainly uuid = refl

both_none : (a b : ℕ) → (eqb a 0 && eqb b 0) ≡ true → (a ≡ 0) × (b ≡ 0)
both_none a b none = let t = both (eqb a 0) (eqb b 0) none in (eqb-true a 0 t.0, eqb-true b 0 t.1)

pub nothing_is : (d : Declarations) → is_nothing d ≡ true → d ≡ nothing
nothing_is d none = go d.env d.events none
  where
    go : (env : List Variable) (events : List Event) → (eqb (length env) 0 && eqb (length events) 0) ≡ true
        → declarations env events ≡ nothing
    go [] [] none = refl
    go [] (e ∷ events) none = absurd (let some = (both_none 0 (length (e ∷ events)) none).1 in omega (arith, some))
    go (v ∷ env) events none = absurd (let some = (both_none (length (v ∷ env)) (length events) none).0 in omega (arith, some))

pub typedly : (d : Declarations) (uuid : List ℕ) → is_nothing d ≡ false → metadata_with d uuid ≡ typed_metadata d uuid
unfolding metadata_with
typedly d uuid some = ap (λ (t : Bool). cond t (metadata_of uuid) (typed_metadata d uuid)) some

-- a text is of no declarations, or typed
by_kind : (P : Declarations → List ℕ → Type 0) (d : Declarations) (uuid : List ℕ) → P nothing (metadata_of uuid)
    → (is_nothing d ≡ false → P d (typed_metadata d uuid)) → P d (metadata_with d uuid)
unfolding metadata_with
by_kind P d uuid plain typed = go (is_nothing d) refl
  where
    go : (t : Bool) → is_nothing d ≡ t → P d (cond t (metadata_of uuid) (typed_metadata d uuid))
    go true none = subst (λ (x : Declarations). P x (metadata_of uuid)) (sym (nothing_is d none)) plain
    go false some = typed some

pub recovered : (d : Declarations) (uuid : List ℕ) → AreDeclared d → declared_in (metadata_with d uuid) ≡ Some d
recovered d uuid all =
    by_kind (λ (x : Declarations) (text : List ℕ). declared_in text ≡ Some x) d uuid (plain_back uuid) (λ some. typed_back d uuid all)

-- it is the text of what it declares
pub own_text : (d : Declarations) (uuid : List ℕ) → AreDeclared d → is_text_of uuid (metadata_with d uuid) ≡ true
own_text d uuid all =
    ap (λ (o : Option Declarations). option_map_or (λ (x : Declarations). pointwise nat_eq (metadata_with d uuid) (metadata_with x uuid)) o false)
    (recovered d uuid all)
    ∙ (bytes_eq-Decides (metadata_with d uuid) (metadata_with d uuid)).1 refl

pub plain_text : (uuid : List ℕ) → is_text_of uuid (metadata_of uuid) ≡ true
plain_text uuid = subst (λ (text : List ℕ). is_text_of uuid text ≡ true) (plainly uuid) (own_text nothing uuid none_declared)
