-- How many words a tally has, and which of them are streams'.
use Rattle.std.proofs.Common.{◌≡◌, ◌≢◌, ℕ, zero, suc, ◌+◌, ◌<◌, refl, sym, subst, arith}
use Rattle.tr_tally.specs.declared.rule.Asked.{Asked}
use Rattle.tr_tally.specs.Views.{HasWord, stream_at, word_of, words_by, words_for}

some-words : (streams watchers : ℕ) → 0 < words_by streams watchers
some-words streams zero = omega arith
some-words streams (suc watchers) = omega arith

-- a token can step
pub has-word : (asked : Asked) (words : ℕ) → words ≡ words_for asked → 0 < words
has-word asked words is = subst (λ n. 0 < n) (sym is) (some-words asked.streams asked.watchers)

watched : (streams watchers : ℕ) → 0 < watchers → words_by streams watchers ≡ word_of (streams + 1)
watched streams zero none = absurd (omega arith)
watched streams (suc watchers) lt = refl

-- if there are watchers, each stream has a word
pub word-within : (asked : Asked) (words stream : ℕ) → words ≡ words_for asked → 0 < asked.watchers → stream < asked.streams
    → word_of stream < words
word-within asked words stream is some lt = omega (arith, is, lt, watched asked.streams asked.watchers some)

-- a stream that has its word is one of the streams
pub stream-within : (asked : Asked) (words stream : ℕ) → words ≡ words_for asked → 0 < asked.watchers → HasWord words stream
    → stream < asked.streams
stream-within asked words stream is some has =
    let all = watched asked.streams asked.watchers some in
    let many : 1 < words = omega (arith, is, all) in
    omega (arith, is, all, has many)

-- each word is its stream's alone
pub stream_at-word_of : (stream : ℕ) → stream_at (word_of stream) ≡ stream
stream_at-word_of stream = omega arith

pub word_of-apart : (i j : ℕ) → j ≢ i → word_of j ≢ word_of i
word_of-apart i j apart e = apart (omega (arith, e))

-- and a stream has one, if there are any
pub has-its-word : (asked : Asked) (words stream : ℕ) → words ≡ words_for asked → stream < asked.streams → HasWord words stream
has-its-word asked words stream is lt = has (asked.watchers) (is)
  where
    has : (watchers : ℕ) → words ≡ words_by asked.streams watchers → HasWord words stream
    has zero is many = absurd (omega (arith, is, many))
    has (suc watchers) is many = omega (arith, is, lt)
