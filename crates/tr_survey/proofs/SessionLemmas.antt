-- A session as a recorder writes it is reported without a fault.
use Rattle.std.proofs.Common.{◌≡◌, ◌+◌, ◌-◌, ◌||◌, ◌&&◌, ℕ, Bool, true, false, cond, eqb, refl, sym, ap, subst, ◌∙◌, arith, List, [], ◌∷◌, ◌++◌, length, map, Option, Some, None, append-nil, append_assoc}
use Rattle.std.specs.Prelude.{codes, is_some, nat_lt, replicate}
use Rattle.std.specs.Cmp.Lexicographic.{pointwise}
use Rattle.std.specs.List.{AllByRecursion, fold, zip}
use Rattle.std.proofs.lemmas.Grind.{common_steps}
use Rattle.tr_chunk.specs.Audit.{capped_count}
use Rattle.tr_folders.specs.Tree.{Tree}
use Rattle.tr_survey.specs.Declaring.{declaring, events_at, trace_of}
use Rattle.tr_survey.specs.Heads.{deleted_of, head_told, is_next, line_of_wrong, missing_below, wrong_after, wrong_between, wrong_lines, wrong_metadata, wrong_streams}
use Rattle.tr_survey.specs.Identifiers.{identity_by, of_two, times, uuid_of_packets}
use Rattle.tr_survey.specs.Lines.{archive_text, deleted_text, no_streams_text, session_text}
use Rattle.tr_survey.specs.Listing.{archives_of, names_at, names_in_order, streams_of}
use Rattle.tr_survey.specs.Metadata.{most_named, uuid_named}
use Rattle.tr_survey.specs.Order.{Numbered}
use Rattle.tr_survey.specs.Paths.{archives_folder}
use Rattle.tr_survey.specs.Sessions.{able_told, archives_told, closed_told, counted, ended_told, has_archives, listed_told, name_told, named_told, names_told, passed_told, session_told, streams_and_sums_told, survey_of}
use Rattle.tr_survey.specs.Streams.{TraceState, stream_told, streams_told, trace_state}
use Rattle.tr_survey.specs.Sums.{lines_asked, no_sums, sums_of}
use Rattle.tr_survey.specs.Told.{Told, and_then, faults_told, told}
use Rattle.tr_survey.specs.Whole.{FollowEachOther, HasItsFiles, NumberedFrom, Stands, StandsAlone, StreamFiles, recorded_stream_told, recorded_streams_told, recorded_sums, recorded_text, streams_in}
use Rattle.tr_survey.specs.declared.faults.Surveyed.TheVariants.{Unlisted, Faults}
use Rattle.tr_survey.specs.declared.identifiers.Identity.TheVariants.{OfMetadata}
use Rattle.tr_survey.specs.declared.naming.Naming.{Naming}
use Rattle.tr_survey.specs.declared.naming.Naming.TheVariants.{Named}
use Rattle.tr_survey.specs.declared.sums.Sums.{Sums}
use Rattle.tr_survey.proofs.RecordedSumLemmas.{streams_add}
use Rattle.tr_survey.proofs.WholeLemmas.{no_fault_more, recorded_stream}

-- ---- archives

none_between : (a b : Numbered) (k : ℕ) → a.number ≡ k → b.number ≡ k + 1 → is_next a b ≡ true → wrong_between a b (b.number - a.number) ≡ []
none_between a b k is-a is-b next =
    let one : b.number - a.number ≡ 1 = omega (arith, is-a, is-b) in
    ap (wrong_between a b) one ∙ ap (λ (t : Bool). cond t [] (archive_text b.name (codes "begins elsewhere") ∷ [])) next

first_number : (k : ℕ) (b : Numbered) (archives : List Numbered) → FollowEachOther k (b ∷ archives) → b.number ≡ k
first_number k b [] follow = follow
first_number k b (c ∷ archives) follow = follow.0

none_after : (k : ℕ) (a : Numbered) (archives : List Numbered) → FollowEachOther k (a ∷ archives) → wrong_after a archives ≡ []
none_after k a [] follow = refl
none_after k a (b ∷ archives) follow =
    ap (λ (l : List (List ℕ)). l ++ wrong_after b archives) (none_between a b k follow.0 (first_number (k + 1) b archives follow.2) follow.1)
    ∙ none_after (k + 1) b archives follow.2

none_deleted : (a : Numbered) (archives : List Numbered) → FollowEachOther 0 (a ∷ archives) → deleted_of (a ∷ archives) ≡ []
none_deleted a archives follow = ap (λ (n : ℕ). cond (nat_lt 0 n) (deleted_text n) []) (first_number 0 a archives follow)

-- ---- metadata

same_uuid : (uuid : List ℕ) → pointwise eqb uuid uuid ≡ true
same_uuid [] = refl
same_uuid (b ∷ uuid) = ap (λ (t : Bool). t && pointwise eqb uuid uuid) (same b) ∙ same_uuid uuid
  where
    same : (b : ℕ) → eqb b b ≡ true
    same b = grind (arith, common_steps)

none_wrong : (uuid : List ℕ) (archives : List Numbered)
    → wrong_metadata (Some uuid) (zip archives (map (λ (a : Numbered). Named uuid) archives)) ≡ []
none_wrong uuid [] = refl
none_wrong uuid (a ∷ archives) =
    ap (λ (t : Bool). line_of_wrong a.name (cond t None (Some (codes "another uuid")))
    ++ wrong_metadata (Some uuid) (zip archives (map (λ (b : Numbered). Named uuid) archives))) (same_uuid uuid)
    ∙ none_wrong uuid archives

same_either : {X : Type 0} (t : Bool) (x : X) → cond t x x ≡ x
same_either true x = refl
same_either false x = refl

most_is : (uuid : List ℕ) (all : List (Option (List ℕ))) (archives : List Numbered)
    → fold (of_two all) (Some uuid) (map uuid_named (map (λ (a : Numbered). Named uuid) archives)) ≡ Some uuid
most_is uuid all [] = refl
most_is uuid all (a ∷ archives) =
    ap (λ (o : Option (List ℕ)). fold (of_two all) o (map uuid_named (map (λ (b : Numbered). Named uuid) archives)))
    (same_either (nat_lt (times all uuid) (times all uuid)) (Some uuid))
    ∙ most_is uuid all archives

named_is : (uuid : List ℕ) (a : Numbered) (archives : List Numbered) → most_named (map (λ (b : Numbered). Named uuid) (a ∷ archives)) ≡ Some uuid
named_is uuid a archives = most_is uuid (map uuid_named (map (λ (b : Numbered). Named uuid) (a ∷ archives))) archives

-- ---- streams

not_below : (k : ℕ) → nat_lt k k ≡ false
not_below k = grind (arith, common_steps)

none_here : (k n : ℕ) → n ≡ k → missing_below k n ≡ []
none_here k n is = ap (missing_below k) is ∙ ap (λ (t : Bool). cond t (no_streams_text k (k - k) ∷ []) []) (not_below k)

none_missing : (k : ℕ) (streams : List Numbered) → NumberedFrom k streams → wrong_streams k streams ≡ []
none_missing k [] are = refl
none_missing k (s ∷ streams) are =
    let more : capped_count (s.number + 1) ≡ k + 1 = omega (arith, are.0, are.1) in
    ap (λ (l : List (List ℕ)). l ++ wrong_streams (capped_count (s.number + 1)) streams) (none_here k s.number are.1)
    ∙ ap (λ (n : ℕ). wrong_streams n streams) more
    ∙ none_missing (k + 1) streams are.2

streams_are : (t : Tree) (folder : List ℕ) (from : TraceState) (archives : List Numbered) (streams : List StreamFiles) (n : ℕ)
    → AllByRecursion (HasItsFiles t folder from.uuid archives) streams
    → streams_told t folder from archives n (streams_in streams) ≡ recorded_streams_told from streams n
streams_are t folder from archives [] n have = refl
streams_are t folder from archives (s ∷ streams) n have =
    let own = have.0 in
    let here : stream_told t folder from archives n s.0 ≡ recorded_stream_told from s.0 s.1 n =
    ap (λ (l : List Numbered). stream_told t folder from l n s.0) (sym own.each) ∙ recorded_stream t folder from s.0 s.1 n own.files own.packets in
    ap (λ (o : Told ℕ). and_then o.text (streams_told t folder from archives o.state (streams_in streams))) here
    ∙ ap (λ (o : Told ℕ). and_then (recorded_stream_told from s.0 s.1 n).text o)
    (streams_are t folder from archives streams (recorded_stream_told from s.0 s.1 n).state have.1)

faults_are : (t : Tree) (folder : List ℕ) (from : TraceState) (archives : List Numbered) (streams : List StreamFiles) (n : ℕ)
    → AllByRecursion (HasItsFiles t folder from.uuid archives) streams → (recorded_streams_told from streams n).state ≡ n
faults_are t folder from archives [] n have = refl
faults_are t folder from archives (s ∷ streams) n have =
    faults_are t folder from archives streams (recorded_stream_told from s.0 s.1 n).state have.1 ∙ no_fault_more from s.0 s.1 n have.0.packets

-- ---- the session

-- what begins it
head_is : (session uuid : List ℕ) (a : Numbered) (archives : List Numbered) (streams : List Numbered) → FollowEachOther 0 (a ∷ archives)
    → NumberedFrom 0 streams
    → head_told session (OfMetadata uuid) (a ∷ archives) (map (λ (b : Numbered). Named uuid) (a ∷ archives)) streams 0
    ≡ told (session_text session (Some uuid) (length (a ∷ archives))) 0
head_is session uuid a archives streams follow numbered =
    let begin = session_text session (Some uuid) (length (a ∷ archives)) in
    let namings = map (λ (b : Numbered). Named uuid) (a ∷ archives) in
    let none : wrong_lines (Some uuid) (a ∷ archives) namings streams ≡ [] =
    ap (λ (l : List (List ℕ)). l ++ (wrong_metadata (Some uuid) (zip (a ∷ archives) namings) ++ wrong_streams 0 streams)) (none_after 0 a archives follow)
    ∙ ap (λ (l : List (List ℕ)). l ++ wrong_streams 0 streams) (none_wrong uuid (a ∷ archives))
    ∙ none_missing 0 streams numbered in
    ap (λ (l : List ℕ). and_then begin (and_then [] (and_then l (faults_told 0 (wrong_lines (Some uuid) (a ∷ archives) namings streams)))))
    (none_deleted a archives follow)
    ∙ ap (λ (l : List (List ℕ)). and_then begin (and_then [] (and_then [] (faults_told 0 l)))) none
    ∙ ap (λ (l : List ℕ). told l 0) (append-nil begin)

-- the first archive's metadata declare its events
first_declares : (uuid : List ℕ) (archives : List Numbered) (a : Numbered) (others : List Numbered) → archives ≡ a ∷ others
    → declaring uuid archives (map (λ (b : Numbered). Named uuid) archives) ≡ Some a
first_declares uuid archives a others is =
    ap (λ (l : List Numbered). declaring uuid l (map (λ (b : Numbered). Named uuid) l)) is
    ∙ ap (λ (t : Bool). cond t (Some a) (declaring uuid others (map (λ (b : Numbered). Named uuid) others))) (same_uuid uuid)

abbrev body_text : Bool → TraceState → List Numbered → List StreamFiles → List ℕ
body_text asked from archives streams =
    (recorded_streams_told from streams 0).text ++ lines_asked asked archives (recorded_sums from archives streams)

body_is : (asked : Bool) (t : Tree) (folder : List ℕ) (from : TraceState) (archives : List Numbered) (streams : List StreamFiles)
    → AllByRecursion (HasItsFiles t folder from.uuid archives) streams
    → streams_and_sums_told asked t folder from archives (streams_in streams) 0 ≡ told (body_text asked from archives streams) 0
body_is asked t folder from archives streams have =
    let text = (recorded_streams_told from streams 0).text in
    let lines = lines_asked asked archives (sums_of t folder from archives 0 (streams_in streams)) in
    ap (λ (o : Told ℕ). and_then o.text (told lines o.state)) (streams_are t folder from archives streams 0 have)
    ∙ ap (λ (n : ℕ). told (text ++ lines) n) (faults_are t folder from archives streams 0 have)
    ∙ ap (λ (l : List Sums). told (text ++ lines_asked asked archives l) 0)
    (streams_add t folder from archives streams 0 (replicate (length archives) no_sums) have)

session_is : (asked : Bool) (t : Tree) (session folder : List ℕ) (from : TraceState) (archives : List Numbered) (streams : List StreamFiles)
    → (s : Stands t folder from archives streams)
    → session_told asked t folder 0 session
    ≡ told (session_text session (Some from.uuid) (length archives) ++ body_text asked from archives streams) 0
session_is asked t session folder from archives streams s =
    let namings : List Numbered → List Naming = λ l. map (λ (a : Numbered). Named from.uuid) l in
    let packets = uuid_of_packets t folder archives (streams_in streams) in
    let named : most_named (namings archives) ≡ Some from.uuid =
    ap (λ (l : List Numbered). most_named (namings l)) s.some ∙ named_is from.uuid s.first s.others in
    let heads = head_told session (OfMetadata from.uuid) archives (namings archives) (streams_in streams) 0 in
    let declared : trace_of t folder from.uuid archives (namings archives) ≡ from =
    ap (λ (o : Option Numbered). trace_state from.uuid (events_at t folder o)) (first_declares from.uuid archives s.first s.others s.some)
    ∙ ap (trace_state from.uuid) s.declared in
    let head : head_told session (OfMetadata from.uuid) archives (namings archives) (streams_in streams) 0 ≡ told (session_text session (Some from.uuid) (length archives)) 0 =
    ap (λ (l : List Numbered). head_told session (OfMetadata from.uuid) l (namings l) (streams_in streams) 0) s.some
    ∙ head_is session from.uuid s.first s.others (streams_in streams) (subst (λ (l : List Numbered). FollowEachOther 0 l) s.some s.follow) s.numbered
    ∙ ap (λ (l : List Numbered). told (session_text session (Some from.uuid) (length l)) 0) (sym s.some) in
    ap (λ (b : Bool). cond b (closed_told session 0) (archives_told asked t session folder (archives_of t folder (names_at t folder)) 0)) s.seen
    ∙ ap (λ (l : List Numbered). archives_told asked t session folder l 0) s.archives_are
    ∙ ap (λ (l : List Naming). listed_told asked t session folder archives l (streams_of t folder archives) 0) s.metadata
    ∙ ap (λ (l : List Numbered). listed_told asked t session folder archives (namings archives) l 0) s.streams_are
    ∙ ap (λ (o : Option (List ℕ)). named_told asked t session folder (identity_by o packets) archives (namings archives) (streams_in streams) 0) named
    ∙ ap (λ (u : TraceState). and_then heads.text (streams_and_sums_told asked t folder u archives (streams_in streams) heads.state)) declared
    ∙ ap (λ (o : Told ℕ). and_then o.text (streams_and_sums_told asked t folder from archives (streams_in streams) o.state)) head
    ∙ ap (λ (o : Told ℕ). and_then (session_text session (Some from.uuid) (length archives)) o) (body_is asked t folder from archives streams s.files)

-- the folder, of which it is the only session
pub whole_is : (asked : Bool) (t : Tree) (dir session : List ℕ) (from : TraceState) (archives : List Numbered) (streams : List StreamFiles)
    → (s : StandsAlone t dir session from archives streams)
    → survey_of asked t dir ≡ told (recorded_text asked session from archives streams) (Faults 0)
whole_is asked t dir session from archives streams s =
    let folder = archives_folder dir session in
    let begin = session_text session (Some from.uuid) (length archives) in
    let streams-text = (recorded_streams_told from streams 0).text in
    let lines = lines_asked asked archives (recorded_sums from archives streams) in
    let there : has_archives t dir session ≡ true = ap (λ (b : Bool). b || is_some (t.names folder)) s.stands.seen ∙ s.stands.there in
    let here : name_told asked t dir None session ≡ told (begin ++ (streams-text ++ lines)) (Some 0) =
    ap (λ (b : Bool). cond b (able_told asked t dir None session) (told (passed_told t dir session) None)) s.named
    ∙ ap (λ (b : Bool). cond b (counted (session_told asked t folder 0 session)) (told [] None)) there
    ∙ ap counted (session_is asked t session folder from archives streams s.stands) in
    ap (λ (b : Bool). cond b (told [] Unlisted) (ended_told (names_told asked t dir None (names_in_order (names_at t dir))))) s.seen
    ∙ ap (λ (l : List (List ℕ)). ended_told (names_told asked t dir None l)) s.alone
    ∙ ap (λ (o : Told (Option ℕ)). ended_told (and_then o.text (told [] o.state))) here
    ∙ ap (λ (l : List ℕ). told l (Faults 0))
    (ap (λ (l : List ℕ). l ++ codes "whole\n") (append-nil (begin ++ (streams-text ++ lines)))
    ∙ append_assoc begin (streams-text ++ lines) (codes "whole\n")
    ∙ ap (λ (l : List ℕ). begin ++ l) (append_assoc streams-text lines (codes "whole\n")))
