-- How much a session's archives hold, and how much was cleared.
use Rattle.std.specs.Prelude.{◌≡◌, ℕ, None, is_some, if◌then◌else◌}
use Rattle.std.specs.List.{AllByRecursion, sum_by}
use Rattle.std.specs.Option.{option_map_or}
use Rattle.tr_book.specs.Parts.{PartState, part_bytes, part_packets, part_records}
use Rattle.tr_session.specs.Session.{SessionOf}
use Rattle.tr_stream.specs.Fates.{all_parts}
use Rattle.tr_stream.specs.Rules.{StreamRules}
use Rattle.tr_stream.specs.State.{StreamState}

-- one if the part was released
abbrev pub part_released : PartState → ℕ
part_released p = if is_some p.released then 1 else 0

-- none of a stream's parts was released, and none is forgotten
pub record HoldsItsParts (s : StreamState) : Type 0 where
  pub held : AllByRecursion (λ (p : PartState). p.released ≡ None) (all_parts s.parts)
  pub known : s.parts.forgotten ≡ 0

-- how many packets, records and bytes the parts of a chunk have over all streams; a stream without that part adds none
abbrev pub archive_packets : {S : Type 0} → StreamRules S → ℕ → SessionOf S → ℕ
archive_packets rules id s = sum_by (λ t. option_map_or part_packets (rules.part id t) 0) s.streams

abbrev pub archive_records : {S : Type 0} → StreamRules S → ℕ → SessionOf S → ℕ
archive_records rules id s = sum_by (λ t. option_map_or part_records (rules.part id t) 0) s.streams

abbrev pub archive_bytes : {S : Type 0} → StreamRules S → ℕ → SessionOf S → ℕ
archive_bytes rules id s = sum_by (λ t. option_map_or part_bytes (rules.part id t) 0) s.streams

-- of how many streams the part was released
abbrev pub archive_released : {S : Type 0} → StreamRules S → ℕ → SessionOf S → ℕ
archive_released rules id s = sum_by (λ t. option_map_or part_released (rules.part id t) 0) s.streams

-- how many records were cleared over all streams
abbrev pub all_cleared : {S : Type 0} → StreamRules S → SessionOf S → ℕ
all_cleared rules s = sum_by (λ t. (rules.counts t).cleared) s.streams
