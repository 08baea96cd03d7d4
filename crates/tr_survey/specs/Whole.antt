-- What a survey says of what a recorder writes: packets of streams at no fault, in archives that follow each other.
use Rattle.std.specs.Prelude.{◌≡◌, ◌<◌, ◌≤◌, ◌^◌, ℕ, ◌+◌, Bool, true, false, List, [], ◌∷◌, ◌++◌, codes, length, map, replicate, Some, is_some}
use Rattle.std.specs.List.{AllByRecursion}
use Rattle.tr_chunk.specs.Audit.{AreOfStream, all_of}
use Rattle.tr_chunk.specs.Files.{packets_text}
use Rattle.tr_folders.specs.Kept.{file_of}
use Rattle.tr_folders.specs.Tree.{Tree}
use Rattle.tr_packet.specs.Packets.{Contents}
use Rattle.tr_survey.specs.Declaring.{events_at}
use Rattle.tr_survey.specs.Heads.{is_next}
use Rattle.tr_survey.specs.Lines.{session_text}
use Rattle.tr_survey.specs.Listing.{archives_of, names_at, names_in_order, streams_of}
use Rattle.tr_survey.specs.Order.{Numbered}
use Rattle.tr_survey.specs.Paths.{archives_folder, file_in}
use Rattle.tr_survey.specs.Sessions.{namings_of}
use Rattle.tr_survey.specs.Streams.{Place, TraceState, are_deleted, ended_told, gap_told, lost_told, no_tally, place_of, tally_after}
use Rattle.tr_survey.specs.Sums.{lines_asked, no_sums, with_rises}
use Rattle.tr_survey.specs.Told.{Told, and_then, told}
use Rattle.tr_survey.specs.declared.naming.Naming.TheVariants.{Named}
use Rattle.tr_survey.specs.declared.sums.Sums.{Sums}
use Rattle.tr_survey.specs.declared.tally.Tally.{Tally}
use Rattle.tr_terms.specs.Names.{is_name}

-- ---- a stream's files

-- counts of discarded records don't fall, from this one on
abbrev pub LossesStay : ℕ → List Contents → Type 0
LossesStay from [] = Unit {0}
LossesStay from (p ∷ ps) = (from ≤ p.head.lost) × LossesStay p.head.lost ps

-- an archive, and the packets in a stream's file there
abbrev pub Recorded : Type 0
Recorded = Numbered × List Contents

-- the packets of all of a stream's files, in order
abbrev pub packets_of : List Recorded → List Contents
packets_of files = all_of (map (λ (r : Recorded). r.1) files)

-- these are a stream's: packets that its audit passes, and none has fewer discarded records than the one before
pub record AreRecorded (uuid : List ℕ) (stream : ℕ) (files : List Recorded) : Type 0 where
  pub sound : AreOfStream uuid stream (packets_of files)
  pub losses : LossesStay 0 (packets_of files)

-- the files of a stream in a folder have these packets
abbrev pub HasFiles : Tree → List ℕ → Numbered → List Recorded → Type 0
HasFiles t folder stream = AllByRecursion (λ (r : Recorded). file_in t folder stream r.0 ≡ Some (file_of (packets_text r.1) false))

-- what is reported of packets, one after another: where numbers are absent, and what was lost
abbrev pub packets_told : Place → Tally → List Contents → Told Tally
packets_told at s [] = told [] s
packets_told at s (p ∷ ps) = and_then (gap_told at s.last p ++ lost_told at s.last p) (packets_told at (tally_after at s p) ps)

abbrev pub recorded_told : TraceState → ℕ → Tally → List Recorded → Told Tally
recorded_told from stream s [] = told [] s
recorded_told from stream s (r ∷ files) =
    and_then (packets_told (place_of from stream r.0) s r.1).text
    (recorded_told from stream (packets_told (place_of from stream r.0) s r.1).state files)

-- the archives
abbrev pub archives_in : List Recorded → List Numbered
archives_in files = map (λ (r : Recorded). r.0) files

-- what is reported of a stream with these files
abbrev pub recorded_stream_told : TraceState → Numbered → List Recorded → ℕ → Told ℕ
recorded_stream_told from stream files n =
    and_then (recorded_told from stream.number (no_tally n) files).text
    (ended_told stream (are_deleted (archives_in files)) (recorded_told from stream.number (no_tally n) files).state)

-- ---- a session

-- a stream, and its files in each archive
abbrev pub StreamFiles : Type 0
StreamFiles = Numbered × List Recorded

abbrev pub streams_in : List StreamFiles → List Numbered
streams_in files = map (λ (s : StreamFiles). s.0) files

-- what is reported of streams, after this number of faults
abbrev pub recorded_streams_told : TraceState → List StreamFiles → ℕ → Told ℕ
recorded_streams_told from [] n = told [] n
recorded_streams_told from (s ∷ streams) n =
    and_then (recorded_stream_told from s.0 s.1 n).text (recorded_streams_told from streams (recorded_stream_told from s.0 s.1 n).state)

-- archives are numbered from this number on, and each begins when the one before it ends
abbrev pub FollowEachOther : ℕ → List Numbered → Type 0
FollowEachOther k [] = Unit {0}
FollowEachOther k (a ∷ []) = a.number ≡ k
FollowEachOther k (a ∷ b ∷ archives) = (a.number ≡ k) × (is_next a b ≡ true) × FollowEachOther (k + 1) (b ∷ archives)

-- streams are numbered from this number on
abbrev pub NumberedFrom : ℕ → List Numbered → Type 0
NumberedFrom k [] = Unit {0}
NumberedFrom k (s ∷ streams) = (k + 1 < 2 ^ 64) × (s.number ≡ k) × NumberedFrom (k + 1) streams

-- the stream has a file in each archive, and these have its packets
pub record HasItsFiles (t : Tree) (folder uuid : List ℕ) (archives : List Numbered) (s : StreamFiles) : Type 0 where
  pub each : archives_in s.1 ≡ archives
  pub files : HasFiles t folder s.0 s.1
  pub packets : AreRecorded uuid s.0.number s.1

-- what a recorder writes of a session is in a folder: archives from number 0 on, each with the metadata of the trace, the
-- first one's with its events, and streams from number 0 on, each with its files; nothing is missing, hidden, or there beside them
pub record Stands (t : Tree) (folder : List ℕ) (from : TraceState) (archives : List Numbered) (streams : List StreamFiles) : Type 0 where
  pub seen : t.is_hidden folder ≡ false
  pub there : is_some (t.names folder) ≡ true
  pub archives_are : archives_of t folder (names_at t folder) ≡ archives
  pub first : Numbered
  pub others : List Numbered
  pub some : archives ≡ first ∷ others
  pub follow : FollowEachOther 0 archives
  pub metadata : namings_of t folder archives ≡ map (λ (a : Numbered). Named from.uuid) archives
  pub declared : events_at t folder (Some first) ≡ from.events
  pub streams_are : streams_of t folder archives ≡ streams_in streams
  pub numbered : NumberedFrom 0 (streams_in streams)
  pub files : AllByRecursion (HasItsFiles t folder from.uuid archives) streams

-- the sums of archives after a stream's files in them, each with the stream's counts before it
abbrev pub sums_with_files : TraceState → ℕ → Tally → List Recorded → List Sums → List Sums
sums_with_files from stream s files [] = []
sums_with_files from stream s [] (x ∷ sums) = x ∷ sums
sums_with_files from stream s (r ∷ files) (x ∷ sums) =
    with_rises x s (packets_told (place_of from stream r.0) s r.1).state
    ∷ sums_with_files from stream (packets_told (place_of from stream r.0) s r.1).state files sums

-- those after all streams
abbrev pub sums_with_streams : TraceState → ℕ → List StreamFiles → List Sums → List Sums
sums_with_streams from n [] sums = sums
sums_with_streams from n (s ∷ streams) sums =
    sums_with_streams from (recorded_stream_told from s.0 s.1 n).state streams (sums_with_files from s.0.number (no_tally n) s.1 sums)

abbrev pub recorded_sums : TraceState → List Numbered → List StreamFiles → List Sums
recorded_sums from archives streams = sums_with_streams from 0 streams (replicate (length archives) no_sums)

-- what is reported of it: its archives, and where numbers are absent and what was lost in each stream, with its counts; then
-- each archive, if that is asked for
abbrev pub recorded_text : Bool → List ℕ → TraceState → List Numbered → List StreamFiles → List ℕ
recorded_text asked session from archives streams =
    session_text session (Some from.uuid) (length archives)
    ++ ((recorded_streams_told from streams 0).text
    ++ (lines_asked asked archives (recorded_sums from archives streams) ++ codes "whole\n"))

-- it is below a folder, as its only session
pub record StandsAlone (t : Tree) (dir session : List ℕ) (from : TraceState) (archives : List Numbered) (streams : List StreamFiles) : Type 0 where
  pub seen : t.is_hidden dir ≡ false
  pub alone : names_in_order (names_at t dir) ≡ session ∷ []
  pub named : is_name session ≡ true
  pub stands : Stands t (archives_folder dir session) from archives streams
