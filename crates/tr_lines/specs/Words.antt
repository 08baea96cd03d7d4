-- The words of a line.
use Rattle.std.specs.Prelude.{ℕ, List, [], ◌∷◌, ◌==◌, Bool, true, false, filter, length, not}
use Rattle.std.specs.List.{slice_split}

abbrev pub is_space : ℕ → Bool
is_space b = b == 32

-- a part between spaces is a word unless it is empty
abbrev pub is_word : List ℕ → Bool
is_word part = not (length part == 0)

abbrev pub part_words : List ℕ → List (List ℕ)
part_words part = filter is_word (part ∷ [])

-- the parts between spaces, without empty ones
abbrev pub words_of : List ℕ → List (List ℕ)
words_of text = filter is_word (slice_split is_space text)

-- a word that begins with `#`
abbrev pub is_comment : List ℕ → Bool
is_comment [] = false
is_comment (b ∷ word) = b == 35

-- a line with these words gets no answer: there are none, or the first one begins a comment
abbrev pub is_skipped : List (List ℕ) → Bool
is_skipped [] = true
is_skipped (word ∷ words) = is_comment word
