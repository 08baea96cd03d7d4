-- Between which records others were discarded. Each offer takes a serial, also one that is discarded, so serials that no record
-- has tell it.
use Rattle.std.specs.Prelude.{ℕ, ◌+◌, ◌-◌, Bool, true, ◌&&◌, nat_eq, nat_le, List, [], ◌∷◌, ◌++◌, codes, find, ◌==◌, Option, Some, None, if◌then◌else◌}
use Rattle.std.specs.Fmt.{decimal}
use Rattle.tr_chunk.specs.Audit.{capped_count}
use Rattle.tr_events.specs.Events.{Event}
use Rattle.tr_record.specs.Records.{Entry}
use Rattle.tr_survey.specs.Lines.{lost_text}
use Rattle.tr_survey.specs.declared.losses.Kept.{Kept}
use Rattle.tr_survey.specs.declared.losses.Taken.{Taken}

-- ---- taken serials

-- a record of an archive of this number
abbrev pub kept_in : ℕ → Entry → Kept
kept_in archive e = record { archive = archive; moment = e.moment; id = e.id }

-- no serial is taken
abbrev pub no_taken : Taken
no_taken = record { next = 0; last = None }

abbrev pub next_serial : Entry → ℕ
next_serial e = capped_count (e.serial + 1)

-- those up to this record's are
abbrev pub taken_with : ℕ → Entry → Taken
taken_with archive e = record { next = next_serial e; last = Some (kept_in archive e) }

-- those up to the last of these records' are
abbrev pub taken_after : ℕ → Taken → List Entry → Taken
taken_after archive t [] = t
taken_after archive t (e ∷ es) = taken_after archive (taken_with archive e) es

-- so many more are
abbrev pub and_more : Taken → ℕ → Taken
and_more t count = record t { next = capped_count (t.next + count) }

-- ---- missing serials

-- the first record's serial isn't below the next one
abbrev pub starts_from : ℕ → List Entry → Bool
starts_from next [] = true
starts_from next (e ∷ es) = nat_le next e.serial

-- how many serials from the next one on are missing before and among these records
abbrev pub missing_among : ℕ → List Entry → ℕ
missing_among next [] = 0
missing_among next (e ∷ es) = (e.serial - next) + missing_among (next_serial e) es

-- of so many discarded records those that took none of these. None: the serials don't fit, since a record has one that was
-- taken before, or more are missing than records were discarded
abbrev pub unplaced : ℕ → ℕ → List Entry → Option ℕ
unplaced count next es =
    if starts_from next es && nat_le (missing_among next es) count then Some (count - missing_among next es) else None

-- ---- what is reported

-- the name of a record's event, if any events are declared: `-` if the record's isn't
abbrev pub name_by : List Event → Option Event → List ℕ
name_by [] own = []
name_by (e ∷ events) None = codes " -"
name_by (e ∷ events) (Some own) = 32 ∷ own.name

abbrev pub name_text : List Event → ℕ → List ℕ
name_text events id = name_by events (find (λ (e : Event). e.id == id) events)

-- a moment of an archive
abbrev pub moment_text : ℕ → ℕ → List ℕ
moment_text archive moment = decimal archive ++ (32 ∷ decimal moment)

-- a record: its moment, and its event's name
abbrev pub kept_text : List Event → Kept → List ℕ
kept_text events k = decimal k.archive ++ (32 ∷ (decimal k.moment ++ name_text events k.id))

-- before this moment or record, or between a record and it
abbrev pub since_text : List Event → Option Kept → List ℕ → List ℕ
since_text events None until = codes " before " ++ (until ++ 10 ∷ [])
since_text events (Some k) until = codes " between " ++ (kept_text events k ++ (codes " and " ++ (until ++ 10 ∷ [])))

-- so many records were discarded then, if any
abbrev pub lost_line : List Event → ℕ → ℕ → Option Kept → List ℕ → List ℕ
lost_line events stream count since until = if nat_eq count 0 then [] else lost_text stream count ++ since_text events since until

-- where serials are missing before and among these records of a stream in an archive
abbrev pub places_told : List Event → ℕ → ℕ → Taken → List Entry → List ℕ
places_told events stream archive t [] = []
places_told events stream archive t (e ∷ es) =
    lost_line events stream (e.serial - t.next) t.last (kept_text events (kept_in archive e))
    ++ places_told events stream archive (taken_with archive e) es

-- the same, and how many more were discarded after the last record and by this moment
abbrev pub placed_told : List Event → ℕ → ℕ → Taken → List Entry → ℕ → ℕ → List ℕ
placed_told events stream archive t es rest end =
    places_told events stream archive t es ++ lost_line events stream rest (taken_after archive t es).last (moment_text archive end)
