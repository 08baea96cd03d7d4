-- What files at no fault add to the sums of archives.
use Rattle.std.proofs.Common.{◌≡◌, ◌∙◌, ℕ, ap, refl, sym, List, [], ◌∷◌}
use Rattle.std.specs.List.{AllByRecursion}
use Rattle.tr_folders.specs.Tree.{Tree}
use Rattle.tr_survey.specs.Order.{Numbered}
use Rattle.tr_survey.specs.Paths.{file_in}
use Rattle.tr_survey.specs.Streams.{TraceState, file_told, no_tally, place_of, stream_told}
use Rattle.tr_survey.specs.Sums.{sums_after_files, sums_after_streams, with_rises}
use Rattle.tr_survey.specs.Told.{Told}
use Rattle.tr_survey.specs.Whole.{HasFiles, HasItsFiles, Recorded, StreamFiles, archives_in, packets_of, packets_told, recorded_stream_told, streams_in, sums_with_files, sums_with_streams}
use Rattle.tr_survey.specs.declared.sums.Sums.{Sums}
use Rattle.tr_survey.specs.declared.tally.Tally.{Tally}
use Rattle.tr_survey.proofs.WholeLemmas.{Goes, after_packets, begun, file_is, recorded_stream}

files_add : (t : Tree) (folder : List ℕ) (from : TraceState) (stream : Numbered) (s : Tally) (files : List Recorded) (sums : List Sums) → HasFiles t folder stream files
    → Goes from.uuid stream.number s (packets_of files)
    → sums_after_files t folder from stream s (archives_in files) sums ≡ sums_with_files from stream.number s files sums
files_add t folder from stream s [] [] has goes = refl
files_add t folder from stream s [] (x ∷ sums) has goes = refl
files_add t folder from stream s (r ∷ files) [] has goes = refl
files_add t folder from stream s (r ∷ files) (x ∷ sums) has goes =
    let at = place_of from stream.number r.0 in
    let here : file_told at s (file_in t folder stream r.0) ≡ packets_told at s r.1 =
    ap (file_told at s) has.0 ∙ file_is at s r.1 (packets_of files) goes in
    ap (λ (o : Told Tally). with_rises x s o.state ∷ sums_after_files t folder from stream o.state (archives_in files) sums) here
    ∙ ap (λ (l : List Sums). with_rises x s (packets_told at s r.1).state ∷ l)
    (files_add t folder from stream (packets_told at s r.1).state files sums has.1 (after_packets from.uuid at s r.1 (packets_of files) goes).goes)

pub streams_add : (t : Tree) (folder : List ℕ) (from : TraceState) (archives : List Numbered) (streams : List StreamFiles) (n : ℕ) (sums : List Sums)
    → AllByRecursion (HasItsFiles t folder from.uuid archives) streams
    → sums_after_streams t folder from archives n (streams_in streams) sums ≡ sums_with_streams from n streams sums
streams_add t folder from archives [] n sums have = refl
streams_add t folder from archives (s ∷ streams) n sums have =
    let own = have.0 in
    let told : stream_told t folder from archives n s.0 ≡ recorded_stream_told from s.0 s.1 n =
    ap (λ (l : List Numbered). stream_told t folder from l n s.0) (sym own.each) ∙ recorded_stream t folder from s.0 s.1 n own.files own.packets in
    let files : sums_after_files t folder from s.0 (no_tally n) archives sums ≡ sums_with_files from s.0.number (no_tally n) s.1 sums =
    ap (λ (l : List Numbered). sums_after_files t folder from s.0 (no_tally n) l sums) (sym own.each)
    ∙ files_add t folder from s.0 (no_tally n) s.1 sums own.files (begun from.uuid s.0.number n s.1 own.packets) in
    ap (λ (o : Told ℕ). sums_after_streams t folder from archives o.state (streams_in streams) (sums_after_files t folder from s.0 (no_tally n) archives sums)) told
    ∙ ap (sums_after_streams t folder from archives (recorded_stream_told from s.0 s.1 n).state (streams_in streams)) files
    ∙ streams_add t folder from archives streams (recorded_stream_told from s.0 s.1 n).state (sums_with_files from s.0.number (no_tally n) s.1 sums) have.1
