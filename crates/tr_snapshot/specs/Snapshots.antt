-- What a snapshot shows.
use Rattle.std.specs.Prelude.{ℕ, List, slice_get, Option}
use Rattle.std.specs.List.{flat_map}
use Rattle.std.specs.Option.{option_map}
use Rattle.tr_record.specs.Records.{Entry}
use Rattle.tr_packet.specs.Packets.{Contents}
use Rattle.tr_book.specs.Snaps.{SnapState}

-- the moment of a session's snapshot, and what is shown of each stream, by its number
pub record SnapshotState : Type 0 where
  pub moment : ℕ
  pub streams : List SnapState

abbrev pub snapshot_state : ℕ → List SnapState → SnapshotState
snapshot_state moment streams = record { moment = moment; streams = streams }

-- the records of all packets that are shown, in order
abbrev pub entries_shown : SnapState → List Entry
entries_shown s = flat_map (λ (p : Contents). p.records) s.packets

-- the first record's serial
abbrev pub oldest_in : SnapState → Option ℕ
oldest_in s = option_map (λ (e : Entry). e.serial) (slice_get (entries_shown s) 0)
