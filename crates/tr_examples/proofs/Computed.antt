-- The definitions, computed on the examples.
use Rattle.std.proofs.Common.{◌≡◌, ◌∷◌, [], Some, None, drop, length, map, option_map, refl, take}
use Rattle.std.specs.Prelude.{codes, neg_ℤ, pos, slice_get}
use Rattle.tr_chunk.specs.Audit.{audit_of, packet_cause}
use Rattle.tr_chunk.specs.declared.audit_fault.AuditCause.TheVariants.{NumberRepeat}
use Rattle.tr_examples.specs.Files.{archived_audit, archived_file, empty_audit, first_chunk, gaps_audit, one_record, one_record_bytes, outline, trace}
use Rattle.tr_packet.specs.Decoding.{fields_fault, first_fault, front_fault}
use Rattle.tr_packet.specs.Packets.{packet_text}
use Rattle.tr_packet.specs.declared.faults.PacketFault.TheVariants.{BadMagic, Short}
use Rattle.tr_record.specs.Reading.{entry_at, payload_at}
use Rattle.tr_record.specs.Whole.{entries_at, entries_of, entries_up_to}
use Rattle.clap.specs.Takes.{flags_pass, walk_passes}
use Rattle.clap.specs.Walk.{bundle_met, walked}
use Rattle.clap.specs.Faults.{flags_fault, walk_fault, defaults_fault}
use Rattle.tr_command.specs.Language.{asked_from}
use Rattle.tr_console.specs.Script.{line_step, script_text}
use Rattle.tr_examples.specs.Offers.{nobody_script, nobody_answer, first_run_script, first_run_answer, sizes_script, sizes_answer, moments_script, moments_answer, overwriting_script, overwriting_answer, gaps_script, gaps_answer}
use Rattle.tr_examples.specs.Rotations.{archives_script, archives_answer, pending_script, pending_answer, rotation_script, rotation_answer, stopped_script, stopped_answer, schedule_script, schedule_answer}
use Rattle.tr_examples.specs.Snapshots.{empty_script, empty_answer, snapshot_script, snapshot_answer}
use Rattle.tr_examples.specs.Tour.{tour_script, tour_answer}
use Rattle.std.specs.Fmt.{char_count, digits, padded, padded_integral}
use Rattle.tr_chunk.specs.ArchiveName.{archive_name_text, day_at, stamp_text}
use Rattle.uuid.specs.Text.{by_index}

pub archives : script_text archives_script ≡ archives_answer
unfolding line_step asked_from flags_pass walk_passes bundle_met walked flags_fault walk_fault defaults_fault by_index
    digits char_count padded padded_integral day_at stamp_text archive_name_text lib.Count.ones
archives = refl

pub empty : script_text empty_script ≡ empty_answer
unfolding line_step asked_from flags_pass walk_passes bundle_met walked flags_fault walk_fault defaults_fault by_index
    digits char_count padded padded_integral day_at stamp_text archive_name_text lib.Count.ones
empty = refl

pub first_run : script_text first_run_script ≡ first_run_answer
unfolding line_step asked_from flags_pass walk_passes bundle_met walked flags_fault walk_fault defaults_fault by_index
    digits char_count padded padded_integral day_at stamp_text archive_name_text lib.Count.ones
first_run = refl

pub gaps : script_text gaps_script ≡ gaps_answer
unfolding line_step asked_from flags_pass walk_passes bundle_met walked flags_fault walk_fault defaults_fault by_index
    digits char_count padded padded_integral day_at stamp_text archive_name_text lib.Count.ones
gaps = refl

pub moments : script_text moments_script ≡ moments_answer
unfolding line_step asked_from flags_pass walk_passes bundle_met walked flags_fault walk_fault defaults_fault by_index
    digits char_count padded padded_integral day_at stamp_text archive_name_text lib.Count.ones
moments = refl

pub nobody : script_text nobody_script ≡ nobody_answer
unfolding line_step asked_from flags_pass walk_passes bundle_met walked flags_fault walk_fault defaults_fault by_index
    digits char_count padded padded_integral day_at stamp_text archive_name_text lib.Count.ones
nobody = refl

pub overwriting : script_text overwriting_script ≡ overwriting_answer
unfolding line_step asked_from flags_pass walk_passes bundle_met walked flags_fault walk_fault defaults_fault by_index
    digits char_count padded padded_integral day_at stamp_text archive_name_text lib.Count.ones
overwriting = refl

pub pending : script_text pending_script ≡ pending_answer
unfolding line_step asked_from flags_pass walk_passes bundle_met walked flags_fault walk_fault defaults_fault by_index
    digits char_count padded padded_integral day_at stamp_text archive_name_text lib.Count.ones
pending = refl

pub rotation : script_text rotation_script ≡ rotation_answer
unfolding line_step asked_from flags_pass walk_passes bundle_met walked flags_fault walk_fault defaults_fault by_index
    digits char_count padded padded_integral day_at stamp_text archive_name_text lib.Count.ones
rotation = refl

pub schedule : script_text schedule_script ≡ schedule_answer
unfolding line_step asked_from flags_pass walk_passes bundle_met walked flags_fault walk_fault defaults_fault by_index
    digits char_count padded padded_integral day_at stamp_text archive_name_text lib.Count.ones
schedule = refl

pub sizes : script_text sizes_script ≡ sizes_answer
unfolding line_step asked_from flags_pass walk_passes bundle_met walked flags_fault walk_fault defaults_fault by_index
    digits char_count padded padded_integral day_at stamp_text archive_name_text lib.Count.ones
sizes = refl

pub snapshot : script_text snapshot_script ≡ snapshot_answer
unfolding line_step asked_from flags_pass walk_passes bundle_met walked flags_fault walk_fault defaults_fault by_index
    digits char_count padded padded_integral day_at stamp_text archive_name_text lib.Count.ones
snapshot = refl

pub stopped : script_text stopped_script ≡ stopped_answer
unfolding line_step asked_from flags_pass walk_passes bundle_met walked flags_fault walk_fault defaults_fault by_index
    digits char_count padded padded_integral day_at stamp_text archive_name_text lib.Count.ones
stopped = refl

pub tour : script_text tour_script ≡ tour_answer
unfolding line_step asked_from flags_pass walk_passes bundle_met walked flags_fault walk_fault defaults_fault by_index
    digits char_count padded padded_integral day_at stamp_text archive_name_text lib.Count.ones
tour = refl

pub file_packet : packet_text one_record ≡ one_record_bytes
unfolding line_step asked_from flags_pass walk_passes bundle_met walked flags_fault walk_fault defaults_fault by_index
    digits char_count padded padded_integral day_at stamp_text archive_name_text lib.Count.ones fields_fault front_fault entry_at
    payload_at entries_at entries_of entries_up_to
file_packet = refl

pub file_size : length one_record_bytes ≡ 105
unfolding line_step asked_from flags_pass walk_passes bundle_met walked flags_fault walk_fault defaults_fault by_index
    digits char_count padded padded_integral day_at stamp_text archive_name_text lib.Count.ones fields_fault front_fault entry_at
    payload_at entries_at entries_of entries_up_to
file_size = refl

pub file_archived : map outline (first_chunk archives_script) ≡ (0, (0, 0 ∷ 1 ∷ [])) ∷ (1, (1, 2 ∷ 3 ∷ 5 ∷ [])) ∷ []
unfolding line_step asked_from flags_pass walk_passes bundle_met walked flags_fault walk_fault defaults_fault by_index
    digits char_count padded padded_integral day_at stamp_text archive_name_text lib.Count.ones fields_fault front_fault entry_at
    payload_at entries_at entries_of entries_up_to
file_archived = refl

pub file_file : length archived_file ≡ 484
unfolding line_step asked_from flags_pass walk_passes bundle_met walked flags_fault walk_fault defaults_fault by_index
    digits char_count padded padded_integral day_at stamp_text archive_name_text lib.Count.ones fields_fault front_fault entry_at
    payload_at entries_at entries_of entries_up_to
file_file = refl

pub file_audit : audit_of {A = Unit {0}} (first_chunk archives_script) ≡ archived_audit
unfolding line_step asked_from flags_pass walk_passes bundle_met walked flags_fault walk_fault defaults_fault by_index
    digits char_count padded padded_integral day_at stamp_text archive_name_text lib.Count.ones fields_fault front_fault entry_at
    payload_at entries_at entries_of entries_up_to
file_audit = refl

pub file_gaps : audit_of {A = Unit {0}} (first_chunk gaps_script) ≡ gaps_audit
unfolding line_step asked_from flags_pass walk_passes bundle_met walked flags_fault walk_fault defaults_fault by_index
    digits char_count padded padded_integral day_at stamp_text archive_name_text lib.Count.ones fields_fault front_fault entry_at
    payload_at entries_at entries_of entries_up_to
file_gaps = refl

pub file_nothing : audit_of {A = Unit {0}} [] ≡ empty_audit
unfolding line_step asked_from flags_pass walk_passes bundle_met walked flags_fault walk_fault defaults_fault by_index
    digits char_count padded padded_integral day_at stamp_text archive_name_text lib.Count.ones fields_fault front_fault entry_at
    payload_at entries_at entries_of entries_up_to
file_nothing = refl

pub file_whole : first_fault archived_file ≡ None
unfolding line_step asked_from flags_pass walk_passes bundle_met walked flags_fault walk_fault defaults_fault by_index
    digits char_count padded padded_integral day_at stamp_text archive_name_text lib.Count.ones fields_fault front_fault entry_at
    payload_at entries_at entries_of entries_up_to
file_whole = refl

pub file_second : first_fault (drop 228 archived_file) ≡ None
unfolding line_step asked_from flags_pass walk_passes bundle_met walked flags_fault walk_fault defaults_fault by_index
    digits char_count padded padded_integral day_at stamp_text archive_name_text lib.Count.ones fields_fault front_fault entry_at
    payload_at entries_at entries_of entries_up_to
file_second = refl

pub file_short : first_fault (drop 228 (take 483 archived_file)) ≡ Some Short
unfolding line_step asked_from flags_pass walk_passes bundle_met walked flags_fault walk_fault defaults_fault by_index
    digits char_count padded padded_integral day_at stamp_text archive_name_text lib.Count.ones fields_fault front_fault entry_at
    payload_at entries_at entries_of entries_up_to
file_short = refl

pub file_magic : first_fault (0 ∷ drop 1 archived_file) ≡ Some BadMagic
unfolding line_step asked_from flags_pass walk_passes bundle_met walked flags_fault walk_fault defaults_fault by_index
    digits char_count padded padded_integral day_at stamp_text archive_name_text lib.Count.ones fields_fault front_fault entry_at
    payload_at entries_at entries_of entries_up_to
file_magic = refl

pub file_twice : option_map (packet_cause trace 0 (Some 1) (Some 5)) (slice_get (first_chunk archives_script) 0) ≡ Some (Some NumberRepeat)
unfolding line_step asked_from flags_pass walk_passes bundle_met walked flags_fault walk_fault defaults_fault by_index
    digits char_count padded padded_integral day_at stamp_text archive_name_text lib.Count.ones fields_fault front_fault entry_at
    payload_at entries_at entries_of entries_up_to
file_twice = refl

pub file_west : archive_name_text 1700000000000000000 1700000060000000000 (neg_ℤ (pos 300)) 0 ≡ codes "20231114T171320-0500-20231114T171420-0500-0"
unfolding line_step asked_from flags_pass walk_passes bundle_met walked flags_fault walk_fault defaults_fault by_index
    digits char_count padded padded_integral day_at stamp_text archive_name_text lib.Count.ones fields_fault front_fault entry_at
    payload_at entries_at entries_of entries_up_to
file_west = refl

pub file_before : archive_name_text 0 0 (neg_ℤ (pos 30)) 3 ≡ codes "19691231T233000-0030-19691231T233000-0030-3"
unfolding line_step asked_from flags_pass walk_passes bundle_met walked flags_fault walk_fault defaults_fault by_index
    digits char_count padded padded_integral day_at stamp_text archive_name_text lib.Count.ones fields_fault front_fault entry_at
    payload_at entries_at entries_of entries_up_to
file_before = refl
