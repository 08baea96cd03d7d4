-- What a disk in memory keeps.
use Rattle.std.specs.Prelude.{ℕ, String, List, map, Vec, string_bytes}
use Rattle.tr_export.specs.Making.{Makings}
use Rattle.tr_export.specs.declared.made.Made.{Made}
use Rattle.tr_export.specs.declared.made.Made.TheVariants.{Folder, File, Broken}

-- paths and bytes as their texts
abbrev pub as_text : {Z : Type 0} → Made (String Z) (Vec ℕ Z) → Made (List ℕ) (List ℕ)
as_text (Folder path) = Folder (string_bytes path)
as_text (File path bytes) = File (string_bytes path) bytes.items
as_text (Broken path) = Broken (string_bytes path)

abbrev pub by_text : {Z : Type 0} → List (Made (String Z) (Vec ℕ Z)) → Makings
by_text = map as_text
