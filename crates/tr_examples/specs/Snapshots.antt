-- Scripts of snapshots, and their answers worked out by hand: those of the folder `examples`.
use Rattle.std.specs.Prelude.{ℕ, List, [], ◌∷◌, codes}
use Rattle.tr_packet.specs.Metadata.{lines}

abbrev pub empty_script : List ℕ
empty_script =
    lines (
    codes "# a rotation of a chunk without packets, and an offer after it"
    ∷ codes "create s 00000000-0000-0000-0000-000000000001"
    ∷ codes "channel s c 256 2 discard"
    ∷ codes "thread s c"
    ∷ codes "start s 0"
    ∷ codes "rotate s 0"
    ∷ codes "archives s"
    ∷ codes "offer s 0 1 1"
    ∷ codes "# a snapshot of a stream without offers"
    ∷ codes "create z 00000000-0000-0000-0000-000000000001 --snapshot"
    ∷ codes "channel z c 256 2 overwrite"
    ∷ codes "thread z c"
    ∷ codes "start z 0"
    ∷ codes "snapshot z 5"
    ∷ []
    )

abbrev pub empty_answer : List ℕ
empty_answer =
    lines (
    codes "created s"
    ∷ codes "channel c"
    ∷ codes "stream 0"
    ∷ codes "started"
    ∷ codes "archived 0 19700101T000000+0000-19700101T000000+0000-0"
    ∷ codes "0 19700101T000000+0000-19700101T000000+0000-0 packets 0 bytes 0"
    ∷ codes "stored 0 in 0"
    ∷ codes "created z"
    ∷ codes "channel c"
    ∷ codes "stream 0"
    ∷ codes "started"
    ∷ codes "snapshot 5"
    ∷ codes "stream 0 offered 0 packets 0 records 0"
    ∷ []
    )

abbrev pub snapshot_script : List ℕ
snapshot_script =
    lines (
    codes "# a snapshot session: what it refuses, and snapshots before an offer and after it"
    ∷ codes "create s 00000000-0000-0000-0000-000000000001"
    ∷ codes "snapshot s 6"
    ∷ codes "create z 00000000-0000-0000-0000-000000000001 --snapshot"
    ∷ codes "channel z c 256 2 discard"
    ∷ codes "channel z c 256 2 overwrite"
    ∷ codes "thread z c"
    ∷ codes "snapshot z 5"
    ∷ codes "start z 0"
    ∷ codes "consume z 0"
    ∷ codes "rotate z 0"
    ∷ codes "offer z 0 1 7 --fill 64"
    ∷ codes "offer z 0 2 7 --fill 64"
    ∷ codes "offer z 0 3 7 --fill 64"
    ∷ codes "offer z 0 4 7 --fill 64"
    ∷ codes "offer z 0 5 7 --fill 64"
    ∷ codes "offer z 0 6 7 --fill 64"
    ∷ codes "snapshot z 10"
    ∷ codes "snapshot z 10"
    ∷ codes "offer z 0 11 7 --fill 64"
    ∷ codes "snapshot z 12"
    ∷ codes "status z"
    ∷ []
    )

abbrev pub snapshot_answer : List ℕ
snapshot_answer =
    lines (
    codes "created s"
    ∷ codes "refused S2 NotSnapshotMode"
    ∷ codes "created z"
    ∷ codes "refused S9 DiscardInSnapshot"
    ∷ codes "channel c"
    ∷ codes "stream 0"
    ∷ codes "refused S3 NeverStarted"
    ∷ codes "started"
    ∷ codes "refused T2 SnapshotMode"
    ∷ codes "refused S1 SnapshotMode"
    ∷ codes "stored 0 in 0"
    ∷ codes "stored 1 in 0"
    ∷ codes "stored 2 in 1"
    ∷ codes "stored 3 in 1"
    ∷ codes "stored 4 in 2 over 0 2"
    ∷ codes "stored 5 in 2"
    ∷ codes "snapshot 10"
    ∷ codes "stream 0 offered 6 packets 2 records 4"
    ∷ codes "packet 1 records 2 first 2 last 3"
    ∷ codes "packet 2 records 2 first 4 last 5"
    ∷ codes "snapshot 10"
    ∷ codes "stream 0 offered 6 packets 2 records 4"
    ∷ codes "packet 1 records 2 first 2 last 3"
    ∷ codes "packet 2 records 2 first 4 last 5"
    ∷ codes "stored 6 in 3 over 1 2"
    ∷ codes "snapshot 12"
    ∷ codes "stream 0 offered 7 packets 2 records 3"
    ∷ codes "packet 2 records 2 first 4 last 5"
    ∷ codes "packet 3 records 1 first 6 last 6"
    ∷ codes "session z snapshot active channels 1 streams 1 archives 0"
    ∷ codes "stream     offered   discarded overwritten     in-ring   in-chunks"
    ∷ codes "     0           7           0           4           3           0"
    ∷ []
    )
