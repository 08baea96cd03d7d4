-- Where discarded records are drawn: between the two records where the serials place them, or else between the packets.
use Rattle.std.specs.Prelude.{ℕ, ◌-◌, nat_eq, List, [], ◌∷◌, Option, Some, None, if◌then◌else◌}
use Rattle.tr_packet.specs.Packets.{Contents}
use Rattle.tr_picture.specs.Bars.{lost_bar}
use Rattle.tr_picture.specs.Lanes.{Lane, add}
use Rattle.tr_picture.specs.declared.frame.Frame.{Frame}
use Rattle.tr_record.specs.Records.{Entry}
use Rattle.tr_survey.specs.Losses.{taken_after, taken_with, unplaced}
use Rattle.tr_survey.specs.Streams.{discarded, taken_before}
use Rattle.tr_survey.specs.declared.losses.Kept.{Kept}
use Rattle.tr_survey.specs.declared.losses.Taken.{Taken}
use Rattle.tr_survey.specs.declared.tally.Last.{Last}

-- from the last record's moment on, or from the packet's begin if there is none
abbrev pub since : ℕ → Option Kept → ℕ
since begin None = begin
since begin (Some k) = k.moment

-- from the packet's end on, or from the next one's begin if there is none
abbrev pub since_end : ℕ → Option Last → ℕ
since_end begin None = begin
since_end begin (Some l) = l.end

-- so many records were discarded between two moments, if any
abbrev pub with_lost : Frame → ℕ → Lane → ℕ → ℕ → ℕ → Lane
with_lost f archive l begin end count = if nat_eq count 0 then l else add l (lost_bar f archive begin end count)

-- where serials are missing before and among these records
abbrev pub with_places : Frame → ℕ → ℕ → Lane → Taken → List Entry → Lane
with_places f archive begin l t [] = l
with_places f archive begin l t (e ∷ es) =
    with_places f archive begin (with_lost f archive l (since begin t.last) e.moment (e.serial - t.next)) (taken_with archive e) es

-- the same, and how many more were discarded after the last record
abbrev pub with_placed : Frame → ℕ → Lane → Taken → ℕ → Contents → Lane
with_placed f archive l t rest p =
    with_lost f archive (with_places f archive p.head.begin l t p.records) (since p.head.begin (taken_after archive t p.records).last) p.head.end rest

-- between the ends of two packets
abbrev pub with_ends : Frame → ℕ → Lane → Option Last → Contents → Lane
with_ends f archive l last p = with_lost f archive l (since_end p.head.begin last) p.head.end (discarded last p)

abbrev pub with_fitted : Frame → ℕ → Lane → Option Last → Taken → Option ℕ → Contents → Lane
with_fitted f archive l last t None p = with_ends f archive l last p
with_fitted f archive l last t (Some rest) p = with_placed f archive l t rest p

abbrev pub with_taken : Frame → ℕ → Lane → Option Last → Option Taken → Contents → Lane
with_taken f archive l last None p = with_ends f archive l last p
with_taken f archive l last (Some t) p = with_fitted f archive l last t (unplaced (discarded last p) t.next p.records) p

-- the records that were discarded since the packet before
abbrev pub with_discarded : Frame → ℕ → Lane → Option Last → Contents → Lane
with_discarded f archive l last p = if nat_eq (discarded last p) 0 then l else with_taken f archive l last (taken_before last p) p
