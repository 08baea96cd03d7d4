-- What is reported of a folder, by what is there.
use Rattle.std.proofs.Common.{◌≡◌, ◌∙◌, ◌||◌, ◌&&◌, ℕ, Bool, true, false, cond, List, [], ◌∷◌, filter, Option, Some, None, refl, sym, ap}
use Rattle.std.specs.Prelude.{is_some}
use Rattle.std.specs.Option.{unwrap_or}
use Rattle.tr_folders.specs.Tree.{Tree}
use Rattle.tr_survey.specs.Lines.{passed_text}
use Rattle.tr_survey.specs.Listing.{IsListing, archives_of, names_at, names_in_order, streams_of}
use Rattle.tr_survey.specs.Order.{Numbered}
use Rattle.tr_survey.specs.Paths.{archives_folder}
use Rattle.tr_survey.specs.Sessions.{able_told, archives_told, closed_told, counted, ended_told, faults_of, has_archives, identity_of, is_session, listed_told, name_told, named_told, names_told, namings_of, passed_told, session_told, sessions_of, survey_of, surveyed_of}
use Rattle.tr_survey.specs.Told.{Told, told}
use Rattle.tr_survey.specs.declared.faults.Surveyed.{Surveyed}
use Rattle.tr_survey.specs.declared.faults.Surveyed.TheVariants.{Unlisted, NoSession}
use Rattle.tr_survey.specs.declared.identifiers.Identity.{Identity}
use Rattle.tr_survey.specs.declared.naming.Naming.{Naming}
use Rattle.tr_survey.specs.declared.listing.Listing.TheVariants.{Absent, Unreadable}
use Rattle.tr_terms.specs.Names.{is_name}

-- ---- a name

-- by whether the folder of archives is hidden, and by its names
abbrev by_names : Bool → Tree → List ℕ → Option ℕ → List ℕ → Bool → Option (List (List ℕ)) → Told (Option ℕ)
by_names asked t folder n name hidden names =
    cond (hidden || is_some names)
    (counted (cond hidden (closed_told name (faults_of n))
    (archives_told asked t name folder (archives_of t folder (cond hidden [] (unwrap_or names []))) (faults_of n))))
    (told [] n)

pub no_folder : (asked : Bool) (t : Tree) (dir : List ℕ) (n : Option ℕ) (name path : List ℕ) → path ≡ archives_folder dir name → IsListing t path Absent
    → able_told asked t dir n name ≡ told [] n
no_folder asked t dir n name path is none =
    let p = archives_folder dir name in
    ap (λ (h : Bool). by_names asked t p n name h (t.names p)) (sym (ap t.is_hidden is) ∙ none.0)
    ∙ ap (λ (o : Option (List (List ℕ))). by_names asked t p n name false o) (sym (ap t.names is) ∙ none.1)

pub closed_folder : (asked : Bool) (t : Tree) (dir : List ℕ) (n : Option ℕ) (name path : List ℕ) → path ≡ archives_folder dir name
    → IsListing t path Unreadable → able_told asked t dir n name ≡ counted (closed_told name (faults_of n))
closed_folder asked t dir n name path is hidden =
    let p = archives_folder dir name in
    ap (λ (h : Bool). by_names asked t p n name h (t.names p)) (sym (ap t.is_hidden is) ∙ hidden)

pub open_folder : (asked : Bool) (t : Tree) (dir : List ℕ) (n : Option ℕ) (name path : List ℕ) (names : List (List ℕ)) → path ≡ archives_folder dir name
    → t.is_hidden path ≡ false → t.names path ≡ Some names
    → able_told asked t dir n name ≡ counted (archives_told asked t name path (archives_of t path names) (faults_of n))
open_folder asked t dir n name path names is seen some =
    let p = archives_folder dir name in
    ap (λ (h : Bool). by_names asked t p n name h (t.names p)) (sym (ap t.is_hidden is) ∙ seen)
    ∙ ap (λ (o : Option (List (List ℕ))). by_names asked t p n name false o) (sym (ap t.names is) ∙ some)
    ∙ ap (λ (l : List ℕ). counted (archives_told asked t name l (archives_of t l names) (faults_of n))) (sym is)

-- ---- a name that no session can have

abbrev there_by : Bool → Option (List (List ℕ)) → Bool
there_by hidden names = hidden || is_some names

pub there_none : (t : Tree) (dir name path : List ℕ) → path ≡ archives_folder dir name → IsListing t path Absent → false ≡ has_archives t dir name
there_none t dir name path is none =
    let p = archives_folder dir name in
    sym (ap (λ (h : Bool). there_by h (t.names p)) (sym (ap t.is_hidden is) ∙ none.0)
    ∙ ap (there_by false) (sym (ap t.names is) ∙ none.1))

pub there_closed : (t : Tree) (dir name path : List ℕ) → path ≡ archives_folder dir name → IsListing t path Unreadable → true ≡ has_archives t dir name
there_closed t dir name path is hidden =
    let p = archives_folder dir name in
    sym (ap (λ (h : Bool). there_by h (t.names p)) (sym (ap t.is_hidden is) ∙ hidden))

pub there_open : (t : Tree) (dir name path : List ℕ) (names : List (List ℕ)) → path ≡ archives_folder dir name
    → t.is_hidden path ≡ false → t.names path ≡ Some names → true ≡ has_archives t dir name
there_open t dir name path names is seen some =
    let p = archives_folder dir name in
    sym (ap (λ (h : Bool). there_by h (t.names p)) (sym (ap t.is_hidden is) ∙ seen)
    ∙ ap (there_by false) (sym (ap t.names is) ∙ some))

pub passed_if : (t : Tree) (dir name : List ℕ) (there : Bool) → there ≡ has_archives t dir name → passed_told t dir name ≡ cond there (passed_text name) []
passed_if t dir name there is = ap (λ (b : Bool). cond b (passed_text name) []) (sym is)

not_taken : {X : Type 0} (test : Bool) (x y : X) → (test ≡ true → ⊥) → cond test x y ≡ y
not_taken true x y none = absurd (none refl)
not_taken false x y none = refl

pub name_passed : (asked : Bool) (t : Tree) (dir : List ℕ) (n : Option ℕ) (name : List ℕ) → (is_name name ≡ true → ⊥)
    → name_told asked t dir n name ≡ told (passed_told t dir name) n
name_passed asked t dir n name none = not_taken (is_name name) (able_told asked t dir n name) (told (passed_told t dir name) n) none

pub name_able : (asked : Bool) (t : Tree) (dir : List ℕ) (n : Option ℕ) (name : List ℕ) → is_name name ≡ true
    → name_told asked t dir n name ≡ able_told asked t dir n name
name_able asked t dir n name is = ap (λ (b : Bool). cond b (able_told asked t dir n name) (told (passed_told t dir name) n)) is

-- ---- the folder

abbrev by_listing : Bool → Tree → List ℕ → Bool → Option (List (List ℕ)) → Told Surveyed
by_listing asked t dir hidden names =
    cond hidden (told [] Unlisted) (ended_told (names_told asked t dir None (names_in_order (cond hidden [] (unwrap_or names [])))))

pub nothing_there : (asked : Bool) (t : Tree) (dir : List ℕ) → IsListing t dir Absent → survey_of asked t dir ≡ told [] NoSession
nothing_there asked t dir none =
    ap (λ (h : Bool). by_listing asked t dir h (t.names dir)) none.0
    ∙ ap (λ (o : Option (List (List ℕ))). by_listing asked t dir false o) none.1

pub unlisted_there : (asked : Bool) (t : Tree) (dir : List ℕ) → IsListing t dir Unreadable → survey_of asked t dir ≡ told [] Unlisted
unlisted_there asked t dir hidden = ap (λ (h : Bool). by_listing asked t dir h (t.names dir)) hidden

pub names_there : (asked : Bool) (t : Tree) (dir : List ℕ) (names : List (List ℕ)) → t.is_hidden dir ≡ false → t.names dir ≡ Some names
    → survey_of asked t dir ≡ ended_told (names_told asked t dir None (names_in_order names))
names_there asked t dir names seen some =
    ap (λ (h : Bool). by_listing asked t dir h (t.names dir)) seen
    ∙ ap (λ (o : Option (List (List ℕ))). by_listing asked t dir false o) some

-- ---- what a survey says

counts_nothing : (n : Option ℕ) (name there : Bool) (session : Told ℕ) (passing : List ℕ)
    → (cond name (cond there (counted session) (told [] n)) (told passing n)).state ≡ None → (name && there ≡ false) × (n ≡ None)
counts_nothing n true true session passing is = absurd cc
counts_nothing n true false session passing is = (refl, is)
counts_nothing n false there session passing is = (refl, is)

no_session_told : (asked : Bool) (t : Tree) (dir : List ℕ) (n : Option ℕ) (names : List (List ℕ)) → (names_told asked t dir n names).state ≡ None
    → (n ≡ None) × (filter (is_session t dir) names ≡ [])
no_session_told asked t dir n [] none = (none, refl)
no_session_told asked t dir n (name ∷ names) none =
    let rest = no_session_told asked t dir (name_told asked t dir n name).state names none in
    let here = counts_nothing n (is_name name) (has_archives t dir name)
    (session_told asked t (archives_folder dir name) (faults_of n) name) (passed_told t dir name) rest.0 in
    (here.1, ap (λ (b : Bool). cond b (name ∷ filter (is_session t dir) names) (filter (is_session t dir) names)) here.0 ∙ rest.1)

none_said : (n : Option ℕ) → NoSession ≡ surveyed_of n → n ≡ None
none_said None e = refl
none_said (Some n) e = absurd cc

not_unlisted : (n : Option ℕ) → Unlisted ≡ surveyed_of n → ⊥
not_unlisted None e = cc
not_unlisted (Some n) e = cc

no_session_by : (asked : Bool) (t : Tree) (dir : List ℕ) (names : List (List ℕ)) (hidden : Bool)
    → NoSession ≡ (cond hidden (told [] Unlisted) (ended_told (names_told asked t dir None names))).state → filter (is_session t dir) names ≡ []
no_session_by asked t dir names true e = absurd cc
no_session_by asked t dir names false e = (no_session_told asked t dir None names (none_said _ e)).1

-- nothing below the folder is a session
pub said_no_session : (asked : Bool) (t : Tree) (dir : List ℕ) → NoSession ≡ (survey_of asked t dir).state → sessions_of t dir ≡ []
said_no_session asked t dir e = no_session_by asked t dir (names_in_order (names_at t dir)) (t.is_hidden dir) e

unlisted_by : (asked : Bool) (t : Tree) (dir : List ℕ) (names : List (List ℕ)) (hidden : Bool)
    → Unlisted ≡ (cond hidden (told [] Unlisted) (ended_told (names_told asked t dir None names))).state → hidden ≡ true
unlisted_by asked t dir names true e = refl
unlisted_by asked t dir names false e = absurd (not_unlisted _ e)

-- it can't be read
pub said_unlisted : (asked : Bool) (t : Tree) (dir : List ℕ) → Unlisted ≡ (survey_of asked t dir).state → t.is_hidden dir ≡ true
said_unlisted asked t dir e = unlisted_by asked t dir (names_in_order (names_at t dir)) (t.is_hidden dir) e

-- ---- a session

-- what is reported of a session by what is known of it, and what is there
pub listed_same : (asked : Bool) (t : Tree) (session folder : List ℕ) (archives streams : List Numbered) (namings : List Naming) (identity : Identity) (n : ℕ)
    → namings ≡ namings_of t folder archives → streams ≡ streams_of t folder archives → identity ≡ identity_of t folder archives namings streams
    → named_told asked t session folder identity archives namings streams n ≡ archives_told asked t session folder archives n
listed_same asked t session folder archives streams namings identity n is-namings is-streams is =
    ap (λ (i : Identity). named_told asked t session folder i archives namings streams n) is
    ∙ ap (λ (l : List Naming). listed_told asked t session folder archives l streams n) is-namings
    ∙ ap (λ (l : List Numbered). listed_told asked t session folder archives (namings_of t folder archives) l n) is-streams
