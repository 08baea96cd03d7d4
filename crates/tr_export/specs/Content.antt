-- What goes into a file of an archive.
use Rattle.std.specs.Prelude.{◌≡◌, ℕ, List, None}
use Rattle.tr_chunk.specs.Files.{packets_text}
use Rattle.tr_export.specs.declared.content.Content.{Content}
use Rattle.tr_export.specs.declared.content.Content.TheVariants.{Bytes, Metadata, Packets, Texts}
use Rattle.tr_metadata.specs.Metadata.{metadata_with}

-- the text that goes into the file
abbrev pub content_text : {A : Type 0} → Content A → List ℕ
content_text (Metadata uuid events) = metadata_with events.now uuid.now
content_text (Packets part) = packets_text part.now.packets
content_text (Texts texts) = packets_text texts.now
content_text (Bytes bytes) = bytes.now

-- it is there to be written: a part is, if it wasn't released
abbrev pub IsHeld : {A : Type 0} → Content A → Type 0
IsHeld (Metadata uuid events) = Unit {0}
IsHeld (Packets part) = part.now.released ≡ None
IsHeld (Texts texts) = Unit {0}
IsHeld (Bytes bytes) = Unit {0}
