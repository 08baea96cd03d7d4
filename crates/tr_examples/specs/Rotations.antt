-- Scripts of rotations and schedules, and their answers worked out by hand: those of the folder `examples`.
use Rattle.std.specs.Prelude.{ℕ, List, [], ◌∷◌, codes}
use Rattle.tr_packet.specs.Metadata.{lines}

abbrev pub archives_script : List ℕ
archives_script =
    lines (
    codes "# a discarded record, a take and a rotation: the archive has the packet that was taken and the one that the cut closed"
    ∷ codes "create s 00000000-0000-0000-0000-000000000001"
    ∷ codes "channel s c 256 2 discard"
    ∷ codes "thread s c"
    ∷ codes "start s 0"
    ∷ codes "offer s 0 1 7 --fill 50"
    ∷ codes "offer s 0 2 7 --fill 50"
    ∷ codes "offer s 0 3 7 --fill 50"
    ∷ codes "offer s 0 4 7 --fill 50"
    ∷ codes "offer s 0 5 7 --fill 50"
    ∷ codes "offer s 0 6 7 --fill 4"
    ∷ codes "consume s 0"
    ∷ codes "rotate s 10"
    ∷ codes "archives s"
    ∷ codes "fate s 0 4"
    ∷ codes "fate s 0 5"
    ∷ codes "fate s 0 6"
    ∷ []
    )

abbrev pub archives_answer : List ℕ
archives_answer =
    lines (
    codes "created s"
    ∷ codes "channel c"
    ∷ codes "stream 0"
    ∷ codes "started"
    ∷ codes "stored 0 in 0"
    ∷ codes "stored 1 in 0"
    ∷ codes "stored 2 in 1"
    ∷ codes "stored 3 in 1"
    ∷ codes "discarded 4"
    ∷ codes "stored 5 in 1"
    ∷ codes "taken 0 records 2 chunk 0"
    ∷ codes "archived 0 19700101T000000+0000-19700101T000000+0000-0"
    ∷ codes "0 19700101T000000+0000-19700101T000000+0000-0 packets 2 bytes 484"
    ∷ codes "discarded"
    ∷ codes "in chunk 0 1"
    ∷ codes "not offered"
    ∷ []
    )

abbrev pub pending_script : List ℕ
pending_script =
    lines (
    codes "# while a rotation is pending, another one and a stop are refused"
    ∷ codes "create s 00000000-0000-0000-0000-000000000001"
    ∷ codes "channel s c 256 2 discard"
    ∷ codes "thread s c"
    ∷ codes "start s 0"
    ∷ codes "rotate-begin s 10"
    ∷ codes "rotate-begin s 11"
    ∷ codes "stop s"
    ∷ codes "rotate-next s"
    ∷ codes "rotate-finish s"
    ∷ codes "rotate-finish s"
    ∷ []
    )

abbrev pub pending_answer : List ℕ
pending_answer =
    lines (
    codes "created s"
    ∷ codes "channel c"
    ∷ codes "stream 0"
    ∷ codes "started"
    ∷ codes "rotating 0"
    ∷ codes "refused S4 RotationPending"
    ∷ codes "refused S4 RotationPending"
    ∷ codes "cut 0 records 0"
    ∷ codes "archived 0 19700101T000000+0000-19700101T000000+0000-0"
    ∷ codes "refused S13 NotPending"
    ∷ []
    )

abbrev pub rotation_script : List ℕ
rotation_script =
    lines (
    codes "# two streams in a rotation by single steps: what is offered after a stream was cut goes to the next chunk"
    ∷ codes "create s 00000000-0000-0000-0000-000000000001"
    ∷ codes "channel s c 256 2 discard"
    ∷ codes "thread s c"
    ∷ codes "thread s c"
    ∷ codes "start s 0"
    ∷ codes "offer s 0 1 1 --fill 50"
    ∷ codes "offer s 1 1 1 --fill 50"
    ∷ codes "rotate-begin s 10"
    ∷ codes "rotate-next s"
    ∷ codes "offer s 0 11 1 --fill 50"
    ∷ codes "offer s 0 12 1 --fill 50"
    ∷ codes "offer s 0 13 1 --fill 50"
    ∷ codes "consume s 0"
    ∷ codes "offer s 1 11 1 --fill 50"
    ∷ codes "offer s 1 12 1 --fill 50"
    ∷ codes "consume s 1"
    ∷ codes "rotate-finish s"
    ∷ codes "rotate-next s"
    ∷ codes "rotate-next s"
    ∷ codes "rotate-finish s"
    ∷ codes "fate s 0 1"
    ∷ codes "fate s 0 3"
    ∷ codes "fate s 1 2"
    ∷ []
    )

abbrev pub rotation_answer : List ℕ
rotation_answer =
    lines (
    codes "created s"
    ∷ codes "channel c"
    ∷ codes "stream 0"
    ∷ codes "stream 1"
    ∷ codes "started"
    ∷ codes "stored 0 in 0"
    ∷ codes "stored 0 in 0"
    ∷ codes "rotating 0"
    ∷ codes "cut 0 records 1"
    ∷ codes "stored 1 in 1"
    ∷ codes "stored 2 in 1"
    ∷ codes "stored 3 in 2"
    ∷ codes "taken 1 records 2 chunk 1"
    ∷ codes "stored 1 in 0"
    ∷ codes "stored 2 in 1"
    ∷ codes "taken 0 records 2 chunk 0"
    ∷ codes "refused S14 CutMissing"
    ∷ codes "cut 1 records 1"
    ∷ codes "all cut"
    ∷ codes "archived 0 19700101T000000+0000-19700101T000000+0000-0"
    ∷ codes "in chunk 1 1"
    ∷ codes "in ring 2"
    ∷ codes "in chunk 0 1"
    ∷ []
    )

abbrev pub stopped_script : List ℕ
stopped_script =
    lines (
    codes "# a stopped session takes no offers, and is rotated once until it is started again"
    ∷ codes "create s 00000000-0000-0000-0000-000000000001"
    ∷ codes "channel s c 256 2 discard"
    ∷ codes "thread s c"
    ∷ codes "start s 0"
    ∷ codes "stop s"
    ∷ codes "offer s 0 1 1"
    ∷ codes "rotate s 1"
    ∷ codes "rotate s 2"
    ∷ codes "start s 3"
    ∷ codes "rotate s 4"
    ∷ []
    )

abbrev pub stopped_answer : List ℕ
stopped_answer =
    lines (
    codes "created s"
    ∷ codes "channel c"
    ∷ codes "stream 0"
    ∷ codes "started"
    ∷ codes "stopped"
    ∷ codes "refused O1 Inactive"
    ∷ codes "archived 0 19700101T000000+0000-19700101T000000+0000-0"
    ∷ codes "refused S5 AlreadyRotated"
    ∷ codes "started"
    ∷ codes "archived 1 19700101T000000+0000-19700101T000000+0000-1"
    ∷ []
    )

abbrev pub schedule_script : List ℕ
schedule_script =
    lines (
    codes "# a schedule by period and by size: what is due is judged at a tick, over what was taken into the current chunk"
    ∷ codes "create s 00000000-0000-0000-0000-000000000001"
    ∷ codes "channel s c 256 2 discard"
    ∷ codes "thread s c"
    ∷ codes "start s 0"
    ∷ codes "schedule s --every 100 --size 200"
    ∷ codes "tick s 99"
    ∷ codes "tick s 100"
    ∷ codes "offer s 0 101 7 --fill 50"
    ∷ codes "offer s 0 102 7 --fill 50"
    ∷ codes "offer s 0 103 7 --fill 50"
    ∷ codes "consume s 0"
    ∷ codes "tick s 150"
    ∷ codes "schedule s --every 0"
    ∷ codes "schedule s --size 0"
    ∷ codes "schedule s"
    ∷ codes "tick s 1000"
    ∷ []
    )

abbrev pub schedule_answer : List ℕ
schedule_answer =
    lines (
    codes "created s"
    ∷ codes "channel c"
    ∷ codes "stream 0"
    ∷ codes "started"
    ∷ codes "schedule set"
    ∷ codes "idle"
    ∷ codes "rotated timer 0 19700101T000000+0000-19700101T000000+0000-0"
    ∷ codes "stored 0 in 0"
    ∷ codes "stored 1 in 0"
    ∷ codes "stored 2 in 1"
    ∷ codes "taken 0 records 2 chunk 1"
    ∷ codes "rotated size 1 19700101T000000+0000-19700101T000000+0000-1"
    ∷ codes "refused D1 ZeroPeriod"
    ∷ codes "refused D2 ZeroSize"
    ∷ codes "schedule off"
    ∷ codes "idle"
    ∷ []
    )
