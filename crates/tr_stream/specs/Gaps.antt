-- How the serials of a ring's sub-buffers go on, and where it shows that some are missing.
use Rattle.std.specs.Prelude.{◌≡◌, ◌≢◌, ℕ, ◌+◌, nat_le, List, [], ◌∷◌, if◌then◌else◌}
use Rattle.tr_book.specs.Runs.{AreInRow, RecordsRise, first_in, next_serial}
use Rattle.tr_ring.specs.ClosedBuffer.{ClosedBuffer}

-- a gap in a sub-buffer's serials shows: more had been discarded when it was closed than when the one before it was, or than
-- `discarded` if it is the first
abbrev pub DiscardsShow : ℕ → List ClosedBuffer → Type 0
DiscardsShow discarded [] = Unit {0}
DiscardsShow discarded (b ∷ bs) = (b.discarded ≡ discarded → AreInRow b.records) × DiscardsShow b.discarded bs

-- sub-buffers have records, whose serials rise from this one on, within sub-buffers and from one to the next
abbrev pub BuffersRise : ℕ → List ClosedBuffer → Type 0
BuffersRise low [] = Unit {0}
BuffersRise low (b ∷ bs) =
    (b.records ≢ []) × RecordsRise low b.records × BuffersRise (next_serial low b.records) bs

-- how many of them begin at this serial or before
abbrev pub begun : ℕ → List ClosedBuffer → ℕ
begun serial [] = 0
begun serial (b ∷ bs) = if nat_le (first_in b.records 0) serial then begun serial bs + 1 else begun serial bs
