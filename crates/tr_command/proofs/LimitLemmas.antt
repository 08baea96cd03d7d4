-- The moment and the offset of what a line asks for are within their limits.
use Rattle.std.proofs.Common.{◌≡◌, ◌≤◌, ℕ, ℤ, pos, ◌-ℤ◌, refl, sym, codes, List, Option, Some, None, IfOk, IfSome, Result, Ok, Err, subst, arith, option_and_then, option_map}
use Rattle.std.proofs.lemmas.Int.{ints}
use Rattle.clap.specs.Words.{Row, Text, first_of}
use Rattle.tr_terms.specs.declared.limits.TheConstants.{LAST_MOMENT, MOST_FILL, MOST_MINUTES}
use Rattle.tr_command.specs.Language.{asked_from, asked_of, entered_by, script_app}
use Rattle.tr_command.specs.Asked.{Asked, Command, asked_by, at_moment, command_named, moment_in, of_session, offset_in, read, read_command}
use Rattle.tr_terms.specs.Offsets.{IsOffset}
use Rattle.tr_command.specs.Reading.{and_last, and_then, most_u32, most_u64, mode_given, number_given, number_if_given, number_or_0, offset_given, session_given}
use Rattle.tr_command.specs.declared.commands.Reader.{Reader}
use Rattle.tr_command.specs.declared.commands.Reader.TheVariants as reader
use Rattle.tr_command.specs.declared.requests.Request.{Request}
use Rattle.tr_command.proofs.ReadingLemmas.{number_given-at_most, number_or_0-at_most}

abbrev pub IsWithinLimits : Asked → Type 0
IsWithinLimits a = (moment_in a ≤ LAST_MOMENT) × IsOffset (offset_in a)

abbrev pub HasLimits : Option Asked → Type 0
HasLimits asked = IfSome asked IsWithinLimits

module _ {A : Type 0} where
  then-limits : (o : Option A) (next : A → Option Asked) → ((a : A) → o ≡ Some a → HasLimits (next a)) → HasLimits (and_then o next)
  then-limits None next h = tt
  then-limits (Some a) next h = h a refl

  last-limits : (o : Option A) (made : A → Asked) → ((a : A) → o ≡ Some a → IsWithinLimits (made a)) → HasLimits (and_last o made)
  last-limits None made h = tt
  last-limits (Some a) made h = h a refl

no_offset : IsOffset (pos 0)
no_offset = (omega (arith, ints), omega (arith, ints))

-- a request with neither a moment nor an offset
neither : (0 ≤ LAST_MOMENT) × IsOffset (pos 0)
neither = (omega arith, no_offset)

-- one with a moment that was read
moment-limits : (rows : List Row) (moment : ℕ) → number_given (codes "moment") LAST_MOMENT rows ≡ Some moment
    → (moment ≤ LAST_MOMENT) × IsOffset (pos 0)
moment-limits rows moment is = (number_given-at_most (codes "moment") LAST_MOMENT rows moment is, no_offset)

-- a number of minutes less another, both within the limit
difference-IsOffset : (east west : ℕ) → east ≤ 1439 → west ≤ 1439 → IsOffset (pos east -ℤ pos west)
difference-IsOffset east west east-fits west-fits = (omega (arith, ints), omega (arith, ints))

offset_given-IsOffset : (rows : List Row) (offset : ℤ) → offset_given rows ≡ Some offset → IsOffset offset
offset_given-IsOffset rows offset is = go (number_or_0 (codes "east") MOST_MINUTES rows) (number_or_0 (codes "west") MOST_MINUTES rows) refl refl is
  where
    go : (east west : Option ℕ) → number_or_0 (codes "east") MOST_MINUTES rows ≡ east → number_or_0 (codes "west") MOST_MINUTES rows ≡ west
        → and_then east (λ e. and_last west (λ w. pos e -ℤ pos w)) ≡ Some offset → IsOffset offset
    go None west e w d = cc
    go (Some a) None e w d = cc
    go (Some a) (Some b) e w d = subst (λ (o : Option ℤ). IfSome o IsOffset) d
        (difference-IsOffset a b (number_or_0-at_most (codes "east") MOST_MINUTES rows a e)
        (number_or_0-at_most (codes "west") MOST_MINUTES rows b w))

read_of_session-limits : (rows : List Row) (made : Text → Asked) → ((session : Text) → IsWithinLimits (made session)) → HasLimits (of_session made rows)
read_of_session-limits rows made h = last-limits (session_given rows) made (λ session _. h session)

read_at_moment-limits : (rows : List Row) (made : Text → ℕ → Asked)
    → ((session : Text) (moment : ℕ) → moment ≤ LAST_MOMENT → IsWithinLimits (made session moment)) → HasLimits (at_moment made rows)
read_at_moment-limits rows made h = then-limits (session_given rows) _ (λ session _. last-limits (number_given (codes "moment") LAST_MOMENT rows) _
    (λ moment is. h session moment (number_given-at_most (codes "moment") LAST_MOMENT rows moment is)))

-- what each reader gives
read-limits : (reader : Reader) (rows : List Row) → HasLimits (read reader rows)
read-limits reader.Create rows = then-limits (session_given rows) _ (λ session _. then-limits (first_of (codes "uuid") rows) _ (λ uuid _.
    last-limits (offset_given rows) _ (λ offset is. (omega arith, offset_given-IsOffset rows offset is))))
read-limits reader.Channel rows = then-limits (session_given rows) _ (λ session _. then-limits (first_of (codes "channel") rows) _ (λ channel _.
    then-limits (number_given (codes "size") most_u32 rows) _ (λ size _. then-limits (number_given (codes "count") most_u32 rows) _ (λ count _.
    last-limits (mode_given (codes "mode") rows) _ (λ mode _. neither)))))
read-limits reader.Thread rows = then-limits (session_given rows) _ (λ session _. last-limits (first_of (codes "channel") rows) _ (λ channel _. neither))
read-limits reader.Start rows = read_at_moment-limits rows _ (λ session moment fits. (fits, no_offset))
read-limits reader.Stop rows = read_of_session-limits rows _ (λ session. neither)
read-limits reader.Offer rows = then-limits (session_given rows) _ (λ session _. then-limits (number_given (codes "stream") most_u64 rows) _ (λ stream _.
    then-limits (number_given (codes "moment") LAST_MOMENT rows) _ (λ moment is. then-limits (number_given (codes "id") most_u32 rows) _ (λ id _.
    last-limits (number_or_0 (codes "fill") MOST_FILL rows) _ (λ fill _. moment-limits rows moment is)))))
read-limits reader.Consume rows = then-limits (session_given rows) _
    (λ session _. last-limits (number_given (codes "stream") most_u64 rows) _ (λ stream _. neither))
read-limits reader.Clear rows = read_of_session-limits rows _ (λ session. neither)
read-limits reader.RotateBegin rows = read_at_moment-limits rows _ (λ session moment fits. (fits, no_offset))
read-limits reader.RotateNext rows = read_of_session-limits rows _ (λ session. neither)
read-limits reader.RotateFinish rows = read_of_session-limits rows _ (λ session. neither)
read-limits reader.Rotate rows = read_at_moment-limits rows _ (λ session moment fits. (fits, no_offset))
read-limits reader.Snapshot rows = read_at_moment-limits rows _ (λ session moment fits. (fits, no_offset))
read-limits reader.Schedule rows = then-limits (session_given rows) _ (λ session _. then-limits (number_if_given (codes "every") most_u64 rows) _ (λ every _.
    last-limits (number_if_given (codes "size") most_u64 rows) _ (λ size _. neither)))
read-limits reader.Tick rows = read_at_moment-limits rows _ (λ session moment fits. (fits, no_offset))
read-limits reader.Fate rows = then-limits (session_given rows) _ (λ session _. then-limits (number_given (codes "stream") most_u64 rows) _ (λ stream _.
    last-limits (number_given (codes "serial") most_u64 rows) _ (λ serial _. neither)))
read-limits reader.Status rows = read_of_session-limits rows _ (λ session. neither)
read-limits reader.Archives rows = read_of_session-limits rows _ (λ session. neither)
read-limits reader.Release rows = then-limits (session_given rows) _
    (λ session _. last-limits (number_given (codes "archive") most_u64 rows) _ (λ archive _. neither))

asked_as-limits : (name : Text) (rows : List Row) → HasLimits (read_command name rows)
asked_as-limits name rows = go (command_named name)
  where
    go : (o : Option Command) → HasLimits (option_and_then (λ (c : Command). read c.reader rows) o)
    go None = tt
    go (Some c) = read-limits c.reader rows

asked_of-limits : (words : List Text) → HasLimits (asked_of words)
unfolding asked_from
asked_of-limits words = go (entered_by script_app words)
  where
    go : (o : Option (Text × List Row)) → HasLimits (option_and_then (λ (p : Text × List Row). read_command p.0 p.1) o)
    go None = tt
    go (Some p) = asked_as-limits p.0 p.1

request-limits : (r : Option Request) (words : List Text) → option_map asked_by r ≡ asked_of words → HasLimits (option_map asked_by r)
request-limits r words e = subst HasLimits (sym e) (asked_of-limits words)

-- and so are those of a request
pub asked-moment : (r : Option Request) (words : List Text) → option_map asked_by r ≡ asked_of words
    → IfSome r (λ request. moment_in (asked_by request) ≤ LAST_MOMENT)
asked-moment None words e = tt
asked-moment (Some request) words e = (request-limits (Some request) words e).0

pub asked-offset : (r : Option Request) (words : List Text) → option_map asked_by r ≡ asked_of words
    → IfSome r (λ request. IsOffset (offset_in (asked_by request)))
asked-offset None words e = tt
asked-offset (Some request) words e = (request-limits (Some request) words e).1

pub answered-moment : {E : Type 0} (r : Result (Option Request) E) (words : List Text) → IfOk r (λ o. option_map asked_by o ≡ asked_of words)
    → IfOk r (λ o. IfSome o (λ request. moment_in (asked_by request) ≤ LAST_MOMENT))
answered-moment (Ok o) words e = asked-moment o words e
answered-moment (Err e) words _ = tt

pub answered-offset : {E : Type 0} (r : Result (Option Request) E) (words : List Text) → IfOk r (λ o. option_map asked_by o ≡ asked_of words)
    → IfOk r (λ o. IfSome o (λ request. IsOffset (offset_in (asked_by request))))
answered-offset (Ok o) words e = asked-offset o words e
answered-offset (Err e) words _ = tt
