-- The identifier that metadata name.
use Rattle.std.specs.Prelude.{◌≢◌, ◌≤◌, ℕ, Bool, ◌&&◌, ◌-◌, ◌==◌, nat_eq, nat_lt, List, [], ◌∷◌, codes, length, map, take, drop, Option, Some, None, if◌then◌else◌}
use Rattle.std.specs.List.{slice_split, starts_with, ends_with}
use Rattle.std.specs.Option.{option_and_then, option_or}
use Rattle.tr_folders.specs.Tree.{File}
use Rattle.tr_events.specs.Events.{Declarations, nothing}
use Rattle.tr_metadata.specs.Metadata.{metadata_with}
use Rattle.tr_metadata.specs.Recovery.{is_text_of}
use Rattle.tr_metadata.specs.declared.metadata.TheConstants.{LONGEST_METADATA}
use Rattle.tr_survey.specs.Identifiers.{most_often}
use Rattle.tr_survey.specs.declared.naming.Naming.{Naming}
use Rattle.tr_survey.specs.declared.naming.Naming.TheVariants.{Unfinished, Unreadable, NoUuid, Other, Named}
use Rattle.uuid.specs.Text.{parsed}

-- a line without the spaces in front of it
abbrev pub without_indent : List ℕ → List ℕ
without_indent [] = []
without_indent (b ∷ line) = if b == 32 then without_indent line else b ∷ line

-- what is between quotes in a line `uuid = "..";`
abbrev pub quoted : List ℕ → Option (List ℕ)
quoted text =
    if starts_with nat_eq text (codes "uuid = \"") then unquoted (drop 8 text) else None
  where
    unquoted : List ℕ → Option (List ℕ)
    unquoted rest = if ends_with nat_eq rest (codes "\";") then Some (take (length rest - 2) rest) else None

-- the identifier that such a line names, indented or not
abbrev pub uuid_in_line : List ℕ → Option (List ℕ)
uuid_in_line line = option_and_then parsed (quoted (without_indent line))

abbrev pub ends_line : ℕ → Bool
ends_line b = b == 10

-- the first of those that lines name
abbrev pub uuid_in_lines : List (List ℕ) → Option (List ℕ)
uuid_in_lines [] = None
uuid_in_lines (line ∷ lines) = option_or (uuid_in_line line) (uuid_in_lines lines)

abbrev pub uuid_in : List ℕ → Option (List ℕ)
uuid_in bytes = uuid_in_lines (slice_split ends_line bytes)

-- what bytes of metadata name: nothing; or an identifier, in a text of their own or in the recorder's of that identifier, with
-- the events that it declares
abbrev pub named : List ℕ → Option (List ℕ) → Naming
named bytes None = NoUuid
named bytes (Some uuid) = if is_text_of uuid bytes then Named uuid else Other uuid

-- the same, where a recorder that hasn't written them whole may have left none
abbrev pub naming_by : List ℕ → Naming
naming_by [] = Unfinished
naming_by (b ∷ bytes) = named (b ∷ bytes) (uuid_in (b ∷ bytes))

-- what metadata name by their first bytes
abbrev pub naming_in : Option File → Naming
naming_in None = Unfinished
naming_in (Some file) =
    if nat_lt (length file.bytes) LONGEST_METADATA && file.breaks then Unreadable else naming_by (take LONGEST_METADATA file.bytes)

-- the text of these declarations and this identifier isn't longer than what is looked at, or nothing is declared: then it is
-- shorter
abbrev pub IsShort : Declarations → List ℕ → Type 0
IsShort d uuid = d ≢ nothing → length (metadata_with d uuid) ≤ LONGEST_METADATA

-- the identifier that is named, if one is
abbrev pub uuid_named : Naming → Option (List ℕ)
uuid_named Unfinished = None
uuid_named Unreadable = None
uuid_named NoUuid = None
uuid_named (Other uuid) = Some uuid
uuid_named (Named uuid) = Some uuid

-- the identifier that metadata name most often
abbrev pub most_named : List Naming → Option (List ℕ)
most_named namings = most_often (map uuid_named namings)
