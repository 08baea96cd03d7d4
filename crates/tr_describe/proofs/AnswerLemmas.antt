-- What is found below a folder, and faults.
use Rattle.std.proofs.Common.{◌≡◌, ◌<◌, ◌∙◌, ℕ, refl, sym, ap, arith, Bool, false, cond, eqb, Global, String, List, [], ◌∷◌, ◌++◌, drop, filter, length, map, take, Option, Some, None, Vec}
use Rattle.std.specs.Prelude.{Err, unwrap_or}
use Rattle.std.proofs.lemmas.Bool.{eqb-false}
use Rattle.std.proofs.lemmas.List.{length-map, map-append, take-append-drop}
use Rattle.tr_describe.specs.Answers.{IsFound, answer_by, by_text, described_by, described_of, first_of, session_wrong, texts_by}
use Rattle.tr_describe.specs.Failures.{fault_of, reads_after, writes_after}
use Rattle.tr_describe.specs.Homes.{metadata_of_all, seen, text_of}
use Rattle.tr_describe.specs.declared.archives.Metadata as value
use Rattle.tr_describe.specs.declared.described.Described.{Described}
use Rattle.tr_describe.specs.declared.described.Described.TheVariants as answer
use Rattle.tr_describe.specs.declared.described.Wrong.{Wrong}
use Rattle.tr_describe.specs.declared.describing.Found.TheVariants as found
use Rattle.tr_describe.specs.declared.faults.DescribeFault.{DescribeFault}
use Rattle.tr_describe.specs.declared.faults.DescribeFault.TheVariants.{TooMuch, Write, NoMemory}
use Rattle.tr_events.specs.Events.{Declarations}
use Rattle.tr_folders.specs.Tree.{Tree, by_text as by_names}
use Rattle.tr_record.specs.Bytes.{once_more}
use Rattle.tr_survey.specs.Failures as survey
use Rattle.tr_survey.specs.Listing.{names_at, names_in_order}
use Rattle.tr_survey.specs.Sessions.{is_session, sessions_of}
use Rattle.tr_survey.specs.declared.faults.SurveyFault.{SurveyFault}
use Rattle.tr_survey.specs.declared.faults.SurveyFault.TheVariants as fault

-- ---- what is there

names_there : (t : Tree) (dir : List ℕ) (names : List (List ℕ)) → t.is_hidden dir ≡ false → t.names dir ≡ Some names → names_at t dir ≡ names
names_there t dir names seen_there some =
    ap (λ (b : Bool). cond b [] (unwrap_or (t.names dir) [])) seen_there ∙ ap (λ (o : Option (List (List ℕ))). unwrap_or o []) some

pub sessions_there : (t : Tree) (dir : List ℕ) (names : List (List ℕ)) → t.is_hidden dir ≡ false → t.names dir ≡ Some names
    → sessions_of t dir ≡ filter (is_session t dir) (names_in_order names)
sessions_there t dir names seen_there some =
    ap (λ (l : List (List ℕ)). filter (is_session t dir) (names_in_order l)) (names_there t dir names seen_there some)

some_sessions : (t : Tree) (dir : List ℕ) (events : Declarations) (sessions : List (List ℕ)) → 0 < length sessions
    → described_by t events dir sessions ≡ answer_by (first_of (session_wrong t events dir) sessions) (length (metadata_of_all t dir))
some_sessions t dir events [] some = absurd (omega arith)
some_sessions t dir events (s ∷ sessions) some = refl

described_is : (t : Tree) (dir : List ℕ) (events : Declarations) (sessions : List (List ℕ)) (first : Option (Wrong (List ℕ)))
    → t.is_hidden dir ≡ false → sessions_of t dir ≡ sessions → 0 < length sessions → first_of (session_wrong t events dir) sessions ≡ first
    → described_of t dir events ≡ answer_by first (length (metadata_of_all t dir))
described_is t dir events sessions first seen_there same some is =
    ap (λ (b : Bool). cond b answer.Unlisted (described_by t events dir (sessions_of t dir))) seen_there
    ∙ ap (described_by t events dir) same
    ∙ some_sessions t dir events sessions some
    ∙ ap (λ (o : Option (Wrong (List ℕ))). answer_by o (length (metadata_of_all t dir))) is

pub wrong_found : (t : Tree) (dir : List ℕ) (events : Declarations) (sessions : List (List ℕ)) (wrong : Wrong (String Global))
    → t.is_hidden dir ≡ false → sessions_of t dir ≡ sessions → 0 < length sessions
    → first_of (session_wrong t events dir) sessions ≡ Some (by_text wrong) → IsFound t dir events (found.Wrong wrong)
wrong_found t dir events sessions wrong seen_there same some is =
    let said = described_is t dir events sessions (Some (by_text wrong)) seen_there same some is in
    record { said = said; texts = ap (λ (d : Described (List ℕ)). texts_by d (map (text_of events) (metadata_of_all t dir))) said }

pub archives_found : (t : Tree) (dir : List ℕ) (events : Declarations) (sessions : List (List ℕ)) (all : Vec value.Metadata Global)
    → t.is_hidden dir ≡ false → sessions_of t dir ≡ sessions → 0 < length sessions
    → first_of (session_wrong t events dir) sessions ≡ None → map seen all.items ≡ metadata_of_all t dir → IsFound t dir events (found.Archives all)
archives_found t dir events sessions all seen_there same some none items =
    let said = described_is t dir events sessions None seen_there same some none in
    record {
      said = said ∙ ap answer.Done (ap length (sym items) ∙ length-map all.items seen);
      texts =
          ap (λ (d : Described (List ℕ)). texts_by d (map (text_of events) (metadata_of_all t dir))) said
          ∙ ap (map (text_of events)) (sym items);
    }

-- there are sessions
pub some_texts : {Z : Type 0} (n : ℕ) (l : List (String Z)) → eqb n 0 ≡ false → length l ≡ n → 0 < length (by_names l)
some_texts n [] other len = absurd (eqb-false n 0 other (sym len))
some_texts n (x ∷ l) other len = omega arith

-- ---- what is put

pub parts_of : {A B C : Type 0} (f : A → B) (g : B → C) (i : ℕ) (xs : List A)
    → map g (map f xs) ≡ map g (map f (take i xs)) ++ map g (map f (drop i xs))
parts_of f g i xs =
    ap (λ l. map g (map f l)) (sym (take-append-drop i xs))
    ∙ ap (map g) (map-append f (take i xs) (drop i xs))
    ∙ map-append g (map f (take i xs)) (map f (drop i xs))

-- ---- faults

pub reads_same : (R S : Type 0) (f : SurveyFault) (d : DescribeFault) (n : ℕ) → d ≡ fault_of f
    → survey.reads_after {R = R} (Err f) n ≡ reads_after {R = S} (Err d) n
reads_same R S f d n is = by f ∙ ap (λ (e : DescribeFault). reads_after {R = S} (Err e) n) (sym is)
  where
    by : (f : SurveyFault) → survey.reads_after {R = R} (Err f) n ≡ reads_after {R = S} (Err (fault_of f)) n
    by fault.TooMuch = refl
    by fault.Write = refl
    by fault.NoMemory = refl

pub writes_same : (R S : Type 0) (f : SurveyFault) (d : DescribeFault) (n : ℕ) → d ≡ fault_of f
    → survey.writes_after {R = R} (Err f) n ≡ writes_after {R = S} (Err d) n
writes_same R S f d n is = by f ∙ ap (λ (e : DescribeFault). writes_after {R = S} (Err e) n) (sym is)
  where
    by : (f : SurveyFault) → survey.writes_after {R = R} (Err f) n ≡ writes_after {R = S} (Err (fault_of f)) n
    by fault.TooMuch = refl
    by fault.Write = refl
    by fault.NoMemory = refl

not_one : (n : ℕ) → n ≡ 1 → n ≡ 0 → ⊥
not_one n one none = absurd (omega arith)

write_other : Write ≡ TooMuch → ⊥
write_other e = cc

memory_other : NoMemory ≡ TooMuch → ⊥
memory_other e = cc

-- a fault that reads nothing isn't that too much was read
pub not_too_much : (R : Type 0) (f : SurveyFault) (d : DescribeFault) → d ≡ fault_of f → ((n : ℕ) → survey.reads_after {R = R} (Err f) n ≡ n)
    → d ≡ TooMuch → ⊥
not_too_much R fault.TooMuch d is reads too_much = not_one (once_more 0) refl (reads 0)
not_too_much R fault.Write d is reads too_much = write_other (sym is ∙ too_much)
not_too_much R fault.NoMemory d is reads too_much = memory_other (sym is ∙ too_much)
