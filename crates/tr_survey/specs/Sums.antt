-- What the files of each archive add to the counts of their streams.
use Rattle.std.specs.Prelude.{ℕ, ◌+◌, ◌-◌, Bool, List, [], ◌∷◌, length, replicate, if◌then◌else◌}
use Rattle.std.specs.List.{flat_map, zip}
use Rattle.tr_chunk.specs.Audit.{capped_count}
use Rattle.tr_folders.specs.Tree.{Tree}
use Rattle.tr_survey.specs.Lines.{sums_text}
use Rattle.tr_survey.specs.Order.{Numbered}
use Rattle.tr_survey.specs.Paths.{file_in}
use Rattle.tr_survey.specs.Streams.{TraceState, file_told, lost_by, no_tally, place_of, stream_told}
use Rattle.tr_survey.specs.declared.sums.Sums.{Sums}
use Rattle.tr_survey.specs.declared.tally.Tally.{Tally}

abbrev pub no_sums : Sums
no_sums = record { packets = 0; records = 0; bytes = 0; absent = 0; lost = 0 }

-- a sum, and how far a count rose
abbrev pub and_rise : ℕ → ℕ → ℕ → ℕ
and_rise sum before after = capped_count (sum + (after - before))

-- with what was added to a stream's counts
abbrev pub with_rises : Sums → Tally → Tally → Sums
with_rises s before after = record {
  packets = and_rise s.packets before.packets after.packets;
  records = and_rise s.records before.records after.records;
  bytes = and_rise s.bytes before.bytes after.bytes;
  absent = and_rise s.absent before.absent after.absent;
  lost = and_rise s.lost (lost_by before.last) (lost_by after.last);
}

-- the sums of archives of a folder, after a stream's files in them, each with the stream's counts before that file
abbrev pub sums_after_files : Tree → List ℕ → TraceState → Numbered → Tally → List Numbered → List Sums → List Sums
sums_after_files t folder from stream s archives [] = []
sums_after_files t folder from stream s [] (x ∷ sums) = x ∷ sums
sums_after_files t folder from stream s (a ∷ archives) (x ∷ sums) =
    with_rises x s (file_told (place_of from stream.number a) s (file_in t folder stream a)).state
    ∷ sums_after_files t folder from stream (file_told (place_of from stream.number a) s (file_in t folder stream a)).state archives sums

-- those after all streams
abbrev pub sums_after_streams : Tree → List ℕ → TraceState → List Numbered → ℕ → List Numbered → List Sums → List Sums
sums_after_streams t folder from archives n [] sums = sums
sums_after_streams t folder from archives n (s ∷ streams) sums =
    sums_after_streams t folder from archives (stream_told t folder from archives n s).state streams
    (sums_after_files t folder from s (no_tally n) archives sums)

abbrev pub sums_of : Tree → List ℕ → TraceState → List Numbered → ℕ → List Numbered → List Sums
sums_of t folder from archives n streams = sums_after_streams t folder from archives n streams (replicate (length archives) no_sums)

-- a line for each archive
abbrev pub sums_lines : List Numbered → List Sums → List ℕ
sums_lines archives sums = flat_map (λ (a : Numbered × Sums). sums_text a.0 a.1) (zip archives sums)

-- the same, if they are asked for
abbrev pub lines_asked : Bool → List Numbered → List Sums → List ℕ
lines_asked asked archives sums = if asked then sums_lines archives sums else []
