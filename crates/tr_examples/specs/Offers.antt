-- Scripts of offers, and their answers worked out by hand: those of the folder `examples`.
use Rattle.std.specs.Prelude.{ℕ, List, [], ◌∷◌, codes}
use Rattle.tr_packet.specs.Metadata.{lines}

abbrev pub nobody_script : List ℕ
nobody_script =
    lines (
    codes "# x"
    ∷ codes ""
    ∷ codes "offer nobody 0 1 1"
    ∷ []
    )

abbrev pub nobody_answer : List ℕ
nobody_answer =
    lines (
    codes "refused K1 NoSession"
    ∷ []
    )

abbrev pub first_run_script : List ℕ
first_run_script =
    lines (
    codes "create s 00000000-0000-0000-0000-000000000001"
    ∷ codes "channel s c 256 2 discard"
    ∷ codes "thread s c"
    ∷ codes "start s 0"
    ∷ codes "offer s 0 1 7 --fill 50"
    ∷ codes "offer s 0 2 7 --fill 50"
    ∷ codes "offer s 0 3 7 --fill 50"
    ∷ codes "offer s 0 4 7 --fill 50"
    ∷ codes "offer s 0 5 7 --fill 50"
    ∷ codes "offer s 0 6 7 --fill 4"
    ∷ codes "consume s 0"
    ∷ codes "status s"
    ∷ []
    )

abbrev pub first_run_answer : List ℕ
first_run_answer =
    lines (
    codes "created s"
    ∷ codes "channel c"
    ∷ codes "stream 0"
    ∷ codes "started"
    ∷ codes "stored 0 in 0"
    ∷ codes "stored 1 in 0"
    ∷ codes "stored 2 in 1"
    ∷ codes "stored 3 in 1"
    ∷ codes "discarded 4"
    ∷ codes "stored 5 in 1"
    ∷ codes "taken 0 records 2 chunk 0"
    ∷ codes "session s local active channels 1 streams 1 archives 0"
    ∷ codes "stream     offered   discarded overwritten     in-ring   in-chunks"
    ∷ codes "     0           6           1           0           3           2"
    ∷ []
    )

abbrev pub sizes_script : List ℕ
sizes_script =
    lines (
    codes "# a record that fills a sub-buffer, one that fits none, and an empty one"
    ∷ codes "create s 00000000-0000-0000-0000-000000000001"
    ∷ codes "channel s c 256 2 discard"
    ∷ codes "thread s c"
    ∷ codes "start s 0"
    ∷ codes "offer s 0 1 7 --fill 152"
    ∷ codes "offer s 0 2 7 --fill 153"
    ∷ codes "offer s 0 3 7"
    ∷ []
    )

abbrev pub sizes_answer : List ℕ
sizes_answer =
    lines (
    codes "created s"
    ∷ codes "channel c"
    ∷ codes "stream 0"
    ∷ codes "started"
    ∷ codes "stored 0 in 0"
    ∷ codes "refused O2 TooBig"
    ∷ codes "stored 1 in 1"
    ∷ []
    )

abbrev pub moments_script : List ℕ
moments_script =
    lines (
    codes "# a moment before the last one is stored as the last one; one above the limit is a bad line"
    ∷ codes "create s 00000000-0000-0000-0000-000000000001"
    ∷ codes "channel s c 256 2 discard"
    ∷ codes "thread s c"
    ∷ codes "start s 0"
    ∷ codes "offer s 0 9 1"
    ∷ codes "offer s 0 5 1"
    ∷ codes "offer s 0 9000000000000000001 1"
    ∷ codes "offer s 0 9000000000000000000 1"
    ∷ []
    )

abbrev pub moments_answer : List ℕ
moments_answer =
    lines (
    codes "created s"
    ∷ codes "channel c"
    ∷ codes "stream 0"
    ∷ codes "started"
    ∷ codes "stored 0 in 0"
    ∷ codes "stored 1 in 0"
    ∷ codes "bad line"
    ∷ codes "stored 2 in 0"
    ∷ []
    )

abbrev pub overwriting_script : List ℕ
overwriting_script =
    lines (
    codes "# a full ring drops its oldest sub-buffer, and the fates of its records tell"
    ∷ codes "create s 00000000-0000-0000-0000-000000000001"
    ∷ codes "channel s c 256 2 overwrite"
    ∷ codes "thread s c"
    ∷ codes "start s 0"
    ∷ codes "offer s 0 1 7 --fill 64"
    ∷ codes "offer s 0 2 7 --fill 64"
    ∷ codes "offer s 0 3 7 --fill 64"
    ∷ codes "offer s 0 4 7 --fill 64"
    ∷ codes "offer s 0 5 7 --fill 64"
    ∷ codes "offer s 0 6 7 --fill 64"
    ∷ codes "fate s 0 1"
    ∷ codes "fate s 0 2"
    ∷ []
    )

abbrev pub overwriting_answer : List ℕ
overwriting_answer =
    lines (
    codes "created s"
    ∷ codes "channel c"
    ∷ codes "stream 0"
    ∷ codes "started"
    ∷ codes "stored 0 in 0"
    ∷ codes "stored 1 in 0"
    ∷ codes "stored 2 in 1"
    ∷ codes "stored 3 in 1"
    ∷ codes "stored 4 in 2 over 0 2"
    ∷ codes "stored 5 in 2"
    ∷ codes "overwritten"
    ∷ codes "in ring 1"
    ∷ []
    )

abbrev pub gaps_script : List ℕ
gaps_script =
    lines (
    codes "# two sub-buffers give way, before and between the packets of a chunk"
    ∷ codes "create s 00000000-0000-0000-0000-000000000001"
    ∷ codes "channel s c 256 2 overwrite"
    ∷ codes "thread s c"
    ∷ codes "start s 0"
    ∷ codes "offer s 0 1 7 --fill 64"
    ∷ codes "offer s 0 2 7 --fill 64"
    ∷ codes "offer s 0 3 7 --fill 64"
    ∷ codes "offer s 0 4 7 --fill 64"
    ∷ codes "offer s 0 5 7 --fill 64"
    ∷ codes "offer s 0 6 7 --fill 64"
    ∷ codes "consume s 0"
    ∷ codes "offer s 0 7 7 --fill 64"
    ∷ codes "offer s 0 8 7 --fill 64"
    ∷ codes "offer s 0 9 7 --fill 64"
    ∷ codes "offer s 0 10 7 --fill 64"
    ∷ codes "rotate s 20"
    ∷ codes "archives s"
    ∷ []
    )

abbrev pub gaps_answer : List ℕ
gaps_answer =
    lines (
    codes "created s"
    ∷ codes "channel c"
    ∷ codes "stream 0"
    ∷ codes "started"
    ∷ codes "stored 0 in 0"
    ∷ codes "stored 1 in 0"
    ∷ codes "stored 2 in 1"
    ∷ codes "stored 3 in 1"
    ∷ codes "stored 4 in 2 over 0 2"
    ∷ codes "stored 5 in 2"
    ∷ codes "taken 1 records 2 chunk 0"
    ∷ codes "stored 6 in 3"
    ∷ codes "stored 7 in 3"
    ∷ codes "stored 8 in 4 over 2 2"
    ∷ codes "stored 9 in 4"
    ∷ codes "archived 0 19700101T000000+0000-19700101T000000+0000-0"
    ∷ codes "0 19700101T000000+0000-19700101T000000+0000-0 packets 3 bytes 768"
    ∷ []
    )
