-- Bytes that are the texts of records, end to end.
use Rattle.std.specs.Prelude.{◌≡◌, ◌<◌, ℕ, zero, suc, List, [], ◌∷◌, length, get_or, Option, Some, None, unwrap_or, ◌==◌, if◌then◌else◌}
use Rattle.std.specs.List.{AllByRecursion}
use Rattle.tr_record.specs.Records.{Entry, records_text, HasText, Fits}
use Rattle.tr_record.specs.Reading.{◌>>=◌, entry_at}

-- whole records, at most k of them, and nothing after them
unfoldable pub entries_up_to : ℕ → List ℕ → Option (List Entry)
entries_up_to zero bytes = if length bytes == 0 then Some [] else None
entries_up_to (suc k) bytes =
    if length bytes == 0 then Some []
    else (entry_at bytes >>= λ first. entries_up_to k first.1 >>= λ others. Some (first.0 ∷ others))

-- the records, if the bytes are whole records; each has at least one byte, so there are no more records than bytes
unfoldable pub entries_at : List ℕ → Option (List Entry)
entries_at bytes = entries_up_to (length bytes) bytes

unfoldable pub entries_of : List ℕ → List Entry
entries_of bytes = unwrap_or (entries_at bytes) []

-- each of these is a byte
abbrev pub AreBytes : List ℕ → Type 0
AreBytes bytes = (i : ℕ) → get_or bytes i 0 < 256

-- the bytes are the texts of these records, end to end
pub record AreRecords (es : List Entry) (bytes : List ℕ) : Type 0 where
  pub text : AllByRecursion HasText es
  pub parts : bytes ≡ records_text es

-- the bytes are whole records, each with a moment within the limit
pub record AreWhole (bytes : List ℕ) : Type 0 where
  pub are : AreRecords (entries_of bytes) bytes
  pub fits : AllByRecursion Fits (entries_of bytes)
