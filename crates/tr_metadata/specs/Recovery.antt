-- The declarations that come out of a metadata text again.
use Rattle.std.specs.Prelude.{ℕ, Bool, false, not, nat_eq, List, codes, drop, length, Option, Some, None, if◌then◌else◌}
use Rattle.std.specs.Cmp.Lexicographic.{pointwise}
use Rattle.std.specs.List.{slice_split, starts_with, take_while}
use Rattle.std.specs.Option.{option_and_then, option_map_or}
use Rattle.std.specs.Result.{result_ok}
use Rattle.tr_lines.specs.Lines.{is_feed}
use Rattle.tr_packet.specs.Metadata.{preface_text}
use Rattle.tr_events.specs.Events.{Declarations, nothing}
use Rattle.tr_events.specs.Lines.{after_lines}
use Rattle.tr_metadata.specs.Metadata.{metadata_with}

-- what is behind this front of a text
abbrev pub behind_front : List ℕ → List ℕ → Option (List ℕ)
behind_front front text = if starts_with nat_eq text front then Some (drop (length front) text) else None

-- the line that ends the declarations
abbrev pub is_end : List ℕ → Bool
is_end line = pointwise nat_eq line (codes "*/")

-- what lines declare before the one that ends them
abbrev pub declared_before_end : List (List ℕ) → Option Declarations
declared_before_end lines = result_ok (after_lines 1 nothing (take_while (λ line. not (is_end line)) lines))

-- what the comment declares, if the text has one
abbrev pub declared_by : Option (List ℕ) → Option Declarations
declared_by None = Some nothing
declared_by (Some comment) = declared_before_end (slice_split is_feed comment)

-- what a metadata text declares; none: it is no such text
unfoldable pub declared_in : List ℕ → Option Declarations
declared_in text = option_and_then (λ rest. declared_by (behind_front (codes "/* tracerd events\n") rest)) (behind_front preface_text text)

-- the text is that of this identifier, and of what it declares itself
abbrev pub is_text_of : List ℕ → List ℕ → Bool
is_text_of uuid text = option_map_or (λ (d : Declarations). pointwise nat_eq text (metadata_with d uuid)) (declared_in text) false
