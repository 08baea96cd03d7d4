-- The sums of archives, one file and one line after another.
use Rattle.std.proofs.Common.{◌≡◌, ◌+◌, ◌<◌, ◌≤◌, ℕ, sym, ap, ◌∙◌, arith, List, [], ◌∷◌, ◌++◌, length, map, take, drop, set, get_or, append-nil, append_assoc}
use Rattle.std.proofs.lemmas.List.{drop-set-lt, drop_all, drop_more, take_all, take_more_set}
use Rattle.tr_folders.specs.Tree.{Tree}
use Rattle.tr_survey.specs.Lines.{sums_text}
use Rattle.tr_survey.specs.Listing.{key_of}
use Rattle.tr_survey.specs.Order.{Numbered}
use Rattle.tr_survey.specs.Paths.{file_in}
use Rattle.tr_survey.specs.Streams.{TraceState, file_told, place_of}
use Rattle.tr_survey.specs.Sums.{sums_after_files, sums_lines, with_rises}
use Rattle.tr_survey.specs.declared.names.Numbered as value
use Rattle.tr_survey.specs.declared.sums.Sums.{Sums}
use Rattle.tr_survey.specs.declared.tally.Tally.{Tally}
use Rattle.tr_survey.proofs.PrefixLemmas.{from_place}

-- ---- a stream's files

-- the sums that are done, and those that a stream's files from a place on still come to
abbrev pub sums_from : Tree → List ℕ → TraceState → Numbered → Tally → List value.Numbered → List Sums → ℕ → List Sums
sums_from t folder from stream s archives sums i =
    take i sums ++ sums_after_files t folder from stream s (map key_of (drop i archives)) (drop i sums)

pub sums_step : (t : Tree) (folder : List ℕ) (from : TraceState) (stream : Numbered) (s after : Tally) (archives : List value.Numbered) (sums : List Sums) (i : ℕ)
    (a : value.Numbered) (d y : Sums) → i < length archives → i < length sums → a ≡ get_or archives i a → y ≡ with_rises (get_or sums i d) s after
    → after ≡ (file_told (place_of from stream.number (key_of a)) s (file_in t folder stream (key_of a))).state
    → sums_from t folder from stream after archives (set sums i y) (i + 1) ≡ sums_from t folder from stream s archives sums i
sums_step t folder from stream s after archives sums i a d y within fits is-a is-y is =
    let x = get_or sums i d in
    let rest : Tally → List Sums → List Sums = λ u l. sums_after_files t folder from stream u (map key_of (drop (i + 1) archives)) l in
    let here : sums_after_files t folder from stream s (map key_of (drop i archives)) (drop i sums) ≡ y ∷ rest after (drop (i + 1) sums) =
    ap (λ (l : List Numbered). sums_after_files t folder from stream s l (drop i sums)) (from_place key_of archives i a within is-a)
    ∙ ap (sums_after_files t folder from stream s (key_of a ∷ map key_of (drop (i + 1) archives))) (drop_more sums i d fits)
    ∙ ap (λ (u : Tally). with_rises x s u ∷ rest u (drop (i + 1) sums)) (sym is)
    ∙ ap (λ (z : Sums). z ∷ rest after (drop (i + 1) sums)) (sym is-y) in
    let next : i < i + 1 = omega arith in
    ap (λ (l : List Sums). l ++ rest after (drop (i + 1) (set sums i y))) (take_more_set sums i y fits)
    ∙ ap (λ (l : List Sums). (take i sums ++ y ∷ []) ++ rest after l) (drop-set-lt (i + 1) sums i y next)
    ∙ append_assoc (take i sums) (y ∷ []) (rest after (drop (i + 1) sums))
    ∙ ap (λ (l : List Sums). take i sums ++ l) (sym here)

pub sums_end : (t : Tree) (folder : List ℕ) (from : TraceState) (stream : Numbered) (s : Tally) (archives : List value.Numbered) (sums : List Sums) (i : ℕ)
    → length sums ≤ i → sums_from t folder from stream s archives sums i ≡ sums
sums_end t folder from stream s archives sums i past =
    ap (λ (l : List Sums). take i sums ++ sums_after_files t folder from stream s (map key_of (drop i archives)) l) (drop_all i sums past)
    ∙ append-nil (take i sums) ∙ take_all i sums past

-- ---- their lines

pub line_step : (archives : List value.Numbered) (sums : List Sums) (i : ℕ) (a : value.Numbered) (d : Sums) (line : List ℕ) → i < length archives
    → i < length sums → a ≡ get_or archives i a → line ≡ sums_text (key_of a) (get_or sums i d)
    → sums_lines (map key_of (drop i archives)) (drop i sums) ≡ line ++ sums_lines (map key_of (drop (i + 1) archives)) (drop (i + 1) sums)
line_step archives sums i a d line within fits is-a is =
    ap (λ (l : List Numbered). sums_lines l (drop i sums)) (from_place key_of archives i a within is-a)
    ∙ ap (sums_lines (key_of a ∷ map key_of (drop (i + 1) archives))) (drop_more sums i d fits)
    ∙ ap (λ (l : List ℕ). l ++ sums_lines (map key_of (drop (i + 1) archives)) (drop (i + 1) sums)) (sym is)

pub lines_end : (archives : List value.Numbered) (sums : List Sums) (i : ℕ) → length archives ≤ i → sums_lines (map key_of (drop i archives)) (drop i sums) ≡ []
lines_end archives sums i past = ap (λ (l : List value.Numbered). sums_lines (map key_of l) (drop i sums)) (drop_all i archives past)
