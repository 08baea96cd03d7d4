-- What the tokens of a tally's table know, and the rule of one tally.
use Rattle.std.specs.Prelude.{◌≡◌, ℕ, Bool, true, false, zero, suc, ◌+◌, ◌*◌, ◌/◌, ◌<◌, ◌≤◌, List, [], ◌∷◌, ◌++◌, length, replicate, max, slice_index, slice_set}
use Rattle.std.specs.List.{Contains}
use Rattle.std.specs.List.Sorted.{IsNonDecreasing}
use mathlib.Core.Option.{some}
use lib.ListN.{get_elem?}
use Rattle.tr_tally.specs.declared.rule.Asked.{Asked}
use Rattle.tr_tally.specs.declared.rule.TheConstants.{WORDS_APART}
use Rattle.tr_tally.specs.declared.rule.View.{View}
use Rattle.tr_tally.specs.declared.rule.View.TheVariants.{Opener, Teller, Watcher, Note, Compared, Spent}

-- ---- the words

-- at which place a stream has its word, and which stream has the word at a place
abbrev pub word_of : ℕ → ℕ
word_of stream = WORDS_APART * stream

abbrev pub stream_at : ℕ → ℕ
stream_at word = word / WORDS_APART

-- without watchers there is one word, by which tokens step, and none of a stream
abbrev pub words_by : ℕ → ℕ → ℕ
words_by streams zero = 1
words_by streams (suc watchers) = WORDS_APART * (streams + 1)

abbrev pub words_for : Asked → ℕ
words_for asked = words_by asked.streams asked.watchers

-- if some of so many words are streams', one is that of this stream
abbrev pub HasWord : ℕ → ℕ → Type 0
HasWord words stream = 1 < words → word_of stream + WORDS_APART < words

-- ---- the counts of a stream: 0 first, and then those that were published

abbrev pub Rise : List ℕ → Type 0
Rise counts = IsNonDecreasing (0 ∷ counts)

abbrev pub last_of : List ℕ → ℕ
last_of counts = slice_index (0 ∷ counts) (length counts)

abbrev pub IsAmong : ℕ → List ℕ → Type 0
IsAmong count counts = Contains (0 ∷ counts) count

-- whether there are watchers
abbrev pub AreWatchers : Bool → ℕ → Type 0
AreWatchers true watchers = 0 < watchers
AreWatchers false watchers = watchers ≡ 0

-- a teller's count is the last that its view lists; if nobody watches, the list may lack the last ones until a note is asked for
abbrev pub IsListed : Bool → List ℕ → ℕ → Type 0
IsListed true counts count = last_of counts ≡ count
IsListed false counts count = last_of counts ≤ count

-- ---- the rule

-- what the rule says of the token at a place, if these counts were published on each stream, each by the token at this place
abbrev pub Fits : (ℕ → List ℕ) → (ℕ → ℕ) → ℕ → View → Type 0
Fits counts teller at (Opener made streams) = (i : ℕ) → made ≤ i → i < streams → (teller i ≡ at) × (counts i ≡ [])
Fits counts teller at (Teller stream published) = (teller stream ≡ at) × (counts stream ≡ published)
Fits counts teller at (Watcher answers) = (i : ℕ) → IsAmong (slice_index answers i) (counts i)
Fits counts teller at (Note stream count) = IsAmong count (counts stream)
Fits counts teller at (Compared stream published answer) =
    (teller stream ≡ at) × (counts stream ≡ published) × IsAmong answer (counts stream)
Fits counts teller at Spent = Unit {0}

-- on each stream counts were published, which never fall, by one token, whose view has them; if there are watchers, the word of
-- a stream is the last of them; each answer of a watcher, and the count of each note, is one of them
pub record IsTold (asked : Asked) (words : List ℕ) (views : List View) : Type 0 where
  pub long : length words ≡ words_for asked
  pub counts : ℕ → List ℕ
  pub teller : ℕ → ℕ
  pub rising : (i : ℕ) → Rise (counts i)
  pub words_are : 0 < asked.watchers → (i : ℕ) → i < asked.streams → slice_index words (word_of i) ≡ last_of (counts i)
  pub each : (at : ℕ) (v : View) → get_elem? views at ≡ some v → Fits counts teller at v

-- ---- the views, and what steps make of them. A view of another kind stays as it is, or makes a spent one

abbrev pub opener_view : ℕ → ℕ → View
opener_view made streams = Opener made streams

abbrev pub teller_view : ℕ → List ℕ → View
teller_view stream counts = Teller stream counts

abbrev pub watcher_view : List ℕ → View
watcher_view answers = Watcher answers

abbrev pub note_view : ℕ → ℕ → View
note_view stream count = Note stream count

abbrev pub made_in : View → ℕ
made_in (Opener made streams) = made
made_in v = 0

abbrev pub counts_in : View → List ℕ
counts_in (Teller stream counts) = counts
counts_in v = []

abbrev pub answers_in : View → List ℕ
answers_in (Watcher answers) = answers
answers_in v = []

-- the next stream has its teller
abbrev pub with_teller : View → View
with_teller (Opener made streams) = Opener (made + 1) streams
with_teller v = v

abbrev pub next_teller : View → View
next_teller (Opener made streams) = Teller made []
next_teller v = Spent

abbrev pub new_watcher : View → View
new_watcher (Opener made streams) = Watcher (replicate streams 0)
new_watcher v = Spent

-- a count was published
abbrev pub with_count : ℕ → View → View
with_count count (Teller stream counts) = Teller stream (counts ++ count ∷ [])
with_count count v = v

-- a note of a teller's last count
abbrev pub note_of : View → View
note_of (Teller stream counts) = Note stream (last_of counts)
note_of v = Spent

-- this is the last answer for a stream
abbrev pub with_answer : ℕ → ℕ → View → View
with_answer stream count (Watcher answers) = Watcher (slice_set answers stream count)
with_answer stream count v = v

-- a note was joined: its count is the last answer for its stream, if that was less
abbrev pub with_note : View → View → View
with_note v (Note stream count) = with_answer stream (max (slice_index (answers_in v) stream) count) v
with_note v w = v

-- a watcher's last answer for a stream, as a note of it
abbrev pub answer_of : ℕ → View → View
answer_of stream (Watcher answers) = Note stream (slice_index answers stream)
answer_of stream v = Spent

abbrev pub count_in : View → ℕ
count_in (Note stream count) = count
count_in v = 0

-- a teller has an answer beside the counts that it published, and has it no more
abbrev pub with_answer_beside : View → View → View
with_answer_beside (Teller stream counts) (Note of count) = Compared stream counts count
with_answer_beside v w = v

abbrev pub without_answer : View → View
without_answer (Compared stream counts answer) = Teller stream counts
without_answer v = v

abbrev pub compared_view : ℕ → List ℕ → ℕ → View
compared_view stream counts answer = Compared stream counts answer

-- an answer is no more than the last of the counts beside it
abbrev pub IsPublished : View → Type 0
IsPublished (Compared stream counts answer) = answer ≤ last_of counts
IsPublished v = Unit {0}
