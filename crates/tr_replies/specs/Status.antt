-- The lines of a status: a session in numbers, and a line for each stream.
use Rattle.std.specs.Fmt.{decimal}
use Rattle.std.specs.Prelude.{None, Option, Some, [], codes, if◌then◌else◌, length, replicate, ℕ, ◌++◌, ◌-◌, ◌==◌, ◌∷◌}
use Rattle.tr_book.specs.declared.counts.Counts.{Counts}
use Rattle.tr_replies.specs.Text.{Text}
use Rattle.tr_session_book.specs.Book.{SessionBookState}
use Rattle.tr_session_book.specs.declared.archive.Pending.{Pending}
use Rattle.tr_session_book.specs.declared.state.State.TheVariants.{Active, Inactive, New}
use Rattle.tr_session_book.specs.declared.state.State.{State}
use Rattle.tr_terms.specs.declared.session_mode.SessionMode.TheVariants.{Local, Snapshot}
use Rattle.tr_terms.specs.declared.session_mode.SessionMode.{SessionMode}

-- a number, right-aligned in so many `places`; a longer one takes the places that it needs
abbrev pub right_aligned : ℕ → ℕ → Text
right_aligned places n = replicate (places - length (decimal n)) 32 ++ decimal n

-- the heads of the columns of a status: the first is right-aligned in 6 places, each other one in 11 after one space
abbrev pub status_head : Text
status_head = codes "stream     offered   discarded overwritten     in-ring   in-chunks"

-- a stream's line in these columns
abbrev pub status_row : ℕ → Counts → Text
status_row i counts =
    right_aligned 6 i ++ (32 ∷ (right_aligned 11 counts.offered
    ++ (32 ∷ (right_aligned 11 counts.discarded ++ (32 ∷ (right_aligned 11 counts.overwritten
    ++ (32 ∷ (right_aligned 11 counts.in_ring ++ (32 ∷ right_aligned 11 counts.in_chunks)))))))))

abbrev pub mode_text : SessionMode → Text
mode_text Local = codes "local"
mode_text Snapshot = codes "snapshot"

abbrev pub state_text : State → Text
state_text New = codes "new"
state_text Active = codes "active"
state_text Inactive = codes "inactive"

-- the rotation that has begun and isn't finished
abbrev pub pending_text : Option Pending → Text
pending_text None = []
pending_text (Some pending) = codes " pending " ++ decimal pending.archive.id

-- how many records were cleared, if any were
abbrev pub status_cleared : ℕ → Text
status_cleared records = if records == 0 then [] else codes " cleared " ++ decimal records

-- how many channels, streams and archives there are
abbrev pub sizes_text : SessionBookState → Text
sizes_text b =
    codes " channels " ++ (decimal (length b.channels) ++ (codes " streams "
    ++ (decimal (length b.threads) ++ (codes " archives " ++ decimal (length b.archives)))))

-- what is said of the session as a whole, if this number of its records was cleared
abbrev pub status_line : Text → SessionBookState → ℕ → Text
status_line name b cleared = codes "session " ++ (name ++ (32 ∷ (mode_text b.mode
    ++ (32 ∷ (state_text b.state ++ (sizes_text b ++ (pending_text b.pending ++ status_cleared cleared)))))))
