-- Packets that were found in an image, and what a survey reports of the archive that is made of them.
use Rattle.std.specs.Prelude.{◌<◌, ℕ, Bool, List, [], ◌∷◌, codes, map, pos}
use Rattle.std.specs.List.{AllByRecursion}
use Rattle.tr_chunk.specs.ArchiveName.{archive_name_text}
use Rattle.tr_chunk.specs.Audit.{AreOfStream}
use Rattle.tr_image.specs.Kept.{AreInOrder}
use Rattle.tr_packet.specs.Packets.{Contents}
use Rattle.tr_recover.specs.Archive.{StreamPackets, earliest, latest, parted, streams_found}
use Rattle.tr_survey.specs.Names.{of_parts}
use Rattle.tr_survey.specs.Order.{Numbered}
use Rattle.tr_survey.specs.Streams.{TraceState}
use Rattle.tr_survey.specs.Whole.{LossesStay, StreamFiles, recorded_text}
use Rattle.tr_terms.specs.declared.limits.TheConstants.{MOST_STREAMS}

-- packets of one stream are what its audit passes, and their counts of discarded records don't fall
abbrev pub ArePassed : List ℕ → List Contents → Type 0
ArePassed uuid [] = Unit {0}
ArePassed uuid (p ∷ ps) = AreOfStream uuid p.head.stream (p ∷ ps) × LossesStay 0 (p ∷ ps)

-- packets of a trace, in the order of their streams and numbers: of streams that a session can have, each one's as its audit
-- passes them
pub record AreOfTrace (uuid : List ℕ) (ps : List Contents) : Type 0 where
  pub order : AreInOrder ps
  pub within : AllByRecursion (λ (p : Contents). p.head.stream < MOST_STREAMS) ps
  pub passed : AllByRecursion (ArePassed uuid) (parted ps)

-- their archive, by its number and its folder's name
abbrev pub found_archive : Contents → List Contents → Numbered
found_archive p ps = of_parts (archive_name_text (earliest p.head.begin ps) (latest p.head.end ps) (pos 0) 0) 0

-- a stream, and its packets in that archive
abbrev pub found_files : Numbered → StreamPackets → StreamFiles
found_files archive s = (of_parts (codes "ring") s.0, (archive, s.1) ∷ [])

-- what is reported of them: one archive, and streams from number 0 up to the last one that has packets
abbrev pub found_recorded_text : Bool → TraceState → Contents → List Contents → List ℕ
found_recorded_text asked from p ps =
    recorded_text asked (codes "recovered") from (found_archive p ps ∷ []) (map (found_files (found_archive p ps)) (streams_found (p ∷ ps)))
