-- What a part has of its packets, as it is kept.
use Rattle.std.specs.Prelude.{◌≡◌, ◌≤◌, ◌*◌, ℕ, [], Some}
use Rattle.tr_book.specs.Parts.{PartState, bytes_of, part_state, records_of}
use Rattle.tr_book.specs.declared.part.Body.{Body}
use Rattle.tr_book.specs.declared.part.Body.TheVariants.{Held, Released}
use Rattle.tr_terms.specs.declared.limits.TheConstants.{LARGEST_PACKET}

-- a part with this number, so many records and bytes, and this body
abbrev pub part_of_body : {A : Type 0} → ℕ → ℕ → ℕ → Body A → PartState
part_of_body id records bytes (Held texts) = part_state id texts.items
part_of_body id records bytes (Released runs packets) = record {
  id = id;
  packets = [];
  released = Some (record { runs = runs; packets = packets; records = records; bytes = bytes });
}

-- so many records and bytes are those of its packets, and no packet was too large
abbrev pub IsBodyOf : {A : Type 0} → ℕ → ℕ → Body A → Type 0
IsBodyOf records bytes (Held texts) =
    (records ≡ records_of texts.items) × (bytes ≡ bytes_of texts.items) × (bytes ≤ LARGEST_PACKET * records)
IsBodyOf records bytes (Released runs packets) = bytes ≤ LARGEST_PACKET * records
