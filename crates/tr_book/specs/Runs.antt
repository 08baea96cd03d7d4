-- What is kept of packets whose records are gone: which serials each had.
use Rattle.std.specs.Prelude.{◌≡◌, ◌≢◌, ℕ, zero, suc, ◌+◌, ◌-◌, ◌≤◌, Bool, ◌==◌, ◌&&◌, nat_le, nat_lt, List, [], ◌∷◌, Option, find, if◌then◌else◌}
use Rattle.std.specs.List.{flat_map}
use Rattle.std.specs.Option.{option_map}
use Rattle.tr_book.specs.declared.runs.Run.{Run}
use Rattle.tr_packet.specs.Packets.{Contents}
use Rattle.tr_record.specs.Records.{Entry}

abbrev pub run_of : ℕ → ℕ → ℕ → Run
run_of seq first count = record { seq = seq; first = first; count = count }

-- a run that goes on as long as serials follow each other, and then the runs of the records that are left
abbrev pub runs_on : ℕ → ℕ → ℕ → List Entry → List Run
runs_on seq first count [] = run_of seq first count ∷ []
runs_on seq first count (e ∷ es) =
    if e.serial == first + count then runs_on seq first (count + 1) es
    else run_of seq first count ∷ runs_on seq e.serial 1 es

-- the runs of a packet of this number, each as long as it can be
abbrev pub runs_of : ℕ → List Entry → List Run
runs_of seq [] = []
runs_of seq (e ∷ es) = runs_on seq e.serial 1 es

-- the runs of packets, in order
abbrev pub packet_runs : List Contents → List Run
packet_runs packets = flat_map (λ (p : Contents). runs_of p.head.seq p.records) packets

-- one of its records has the serial
abbrev pub is_in_run : ℕ → Run → Bool
is_in_run n r = nat_le r.first n && nat_lt (n - r.first) r.count

-- the number of the packet that had the record of a serial
abbrev pub seq_in_runs : ℕ → List Run → Option ℕ
seq_in_runs n runs = option_map (λ (r : Run). r.seq) (find (λ (r : Run). is_in_run n r) runs)

-- each run begins after the one before has ended
abbrev pub RunsRise : ℕ → List Run → Type 0
RunsRise low [] = Unit {0}
RunsRise low (r ∷ rs) = (low ≤ r.first) × RunsRise (r.first + r.count) rs

-- serials follow each other
abbrev pub SerialsFollow : ℕ → List Entry → Type 0
SerialsFollow n [] = Unit {0}
SerialsFollow n (e ∷ es) = (e.serial ≡ n) × SerialsFollow (n + 1) es

-- from the first one on
abbrev pub AreInRow : List Entry → Type 0
AreInRow [] = Unit {0}
AreInRow (e ∷ es) = SerialsFollow (e.serial + 1) es

-- a gap in a packet's serials shows: it says that more was lost than the packet before it, or than `lost` if it is the first
abbrev pub GapsShow : ℕ → List Contents → Type 0
GapsShow lost [] = Unit {0}
GapsShow lost (p ∷ ps) = (p.head.lost ≡ lost → AreInRow p.records) × GapsShow p.head.lost ps

-- serials from this one on, each above the one before
abbrev pub RecordsRise : ℕ → List Entry → Type 0
RecordsRise low [] = Unit {0}
RecordsRise low (e ∷ es) = (low ≤ e.serial) × RecordsRise (e.serial + 1) es

-- one past the last serial
abbrev pub next_serial : ℕ → List Entry → ℕ
next_serial low [] = low
next_serial low (e ∷ es) = next_serial (e.serial + 1) es

-- the first serial, or this one if there is none
abbrev pub first_in : List Entry → ℕ → ℕ
first_in [] next = next
first_in (e ∷ es) next = e.serial

-- packets have records, whose serials rise from this one on, within packets and from one to the next
abbrev pub PacketsRise : ℕ → List Contents → Type 0
PacketsRise low [] = Unit {0}
PacketsRise low (p ∷ ps) =
    (p.records ≢ []) × RecordsRise low p.records × PacketsRise (next_serial low p.records) ps

-- how much was lost when the packet before this place was closed; or `lost`, before the first
abbrev pub lost_before : ℕ → ℕ → List Contents → ℕ
lost_before lost zero ps = lost
lost_before lost (suc place) [] = lost
lost_before lost (suc place) (p ∷ ps) = lost_before p.head.lost place ps
