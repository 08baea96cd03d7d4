-- A tally and its ends as contracts see them.
use Rattle.std.specs.Prelude.{ℕ, List, map, replicate}
use Rattle.std.specs.List.{range_with_len}
use Rattle.atomic_table.specs.Seated.{TableId}

-- which table a tally is, and how many streams and watchers it was made for
pub record TallyState : Type 0 where
  pub table : TableId
  pub streams : ℕ
  pub watchers : ℕ

abbrev pub tally_state : TableId → ℕ → ℕ → TallyState
tally_state table streams watchers = record { table = table; streams = streams; watchers = watchers }

-- which table a teller is of, its stream, and the count that it published last
pub record TellerState : Type 0 where
  pub table : TableId
  pub stream : ℕ
  pub count : ℕ

abbrev pub teller_state : TableId → ℕ → ℕ → TellerState
teller_state table stream count = record { table = table; stream = stream; count = count }

-- which table a note is of, the stream, and the count that was its teller's last
pub record NoteState : Type 0 where
  pub table : TableId
  pub stream : ℕ
  pub count : ℕ

abbrev pub note_state : TableId → ℕ → ℕ → NoteState
note_state table stream count = record { table = table; stream = stream; count = count }

-- which table a watcher is of, and its last answer for each stream
pub record WatcherState : Type 0 where
  pub table : TableId
  pub answers : List ℕ

abbrev pub watcher_state : TableId → List ℕ → WatcherState
watcher_state table answers = record { table = table; answers = answers }

-- a teller for each of so many streams, in order, each at 0
abbrev pub new_tellers : TableId → ℕ → List TellerState
new_tellers table streams = map (λ i. teller_state table i 0) (range_with_len 0 streams)

-- so many watchers, which have answered nothing but 0
abbrev pub new_watchers : TableId → ℕ → ℕ → List WatcherState
new_watchers table streams watchers = replicate watchers (watcher_state table (replicate streams 0))

-- a tally whose ends are being made: how many streams have their tellers
pub record OpenerState : Type 0 where
  pub tally : TallyState
  pub made : ℕ

abbrev pub opener_state : TallyState → ℕ → OpenerState
opener_state tally made = record { tally = tally; made = made }
