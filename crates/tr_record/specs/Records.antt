-- Records and their texts.
use Rattle.std.specs.Prelude.{◌≡◌, ℕ, ◌+◌, ◌^◌, ◌<◌, ◌≤◌, Bool, ◌==◌, List, ◌++◌, length, take}
use Rattle.std.specs.Int.{w32, w64, to_le_bytes}
use Rattle.std.specs.List.{flat_map, list_any}
use Rattle.tr_terms.specs.declared.limits.TheConstants.{LAST_MOMENT, RECORD_HEADER}

-- a record, wherever it lies in memory
pub record Entry : Type 0 where
  pub serial : ℕ
  pub moment : ℕ
  pub id : ℕ
  pub payload : List ℕ

abbrev pub entry : ℕ → ℕ → ℕ → List ℕ → Entry
entry serial moment id payload = record { serial = serial; moment = moment; id = id; payload = payload }

-- id, moment, serial and the payload's length, lowest byte first, and then the payload
abbrev pub record_text : Entry → List ℕ
record_text e =
    to_le_bytes w32 e.id
    ++ (to_le_bytes w64 e.moment ++ (to_le_bytes w64 e.serial ++ (to_le_bytes w32 (length e.payload) ++ e.payload)))

-- the text before the payload
abbrev pub header_text : Entry → List ℕ
header_text e =
    to_le_bytes w32 e.id ++ (to_le_bytes w64 e.moment ++ (to_le_bytes w64 e.serial ++ to_le_bytes w32 (length e.payload)))

-- the texts of records, end to end
abbrev pub records_text : List Entry → List ℕ
records_text = flat_map record_text

-- one of the records has this serial
abbrev pub has_serial : ℕ → List Entry → Bool
has_serial n es = list_any (λ (e : Entry). e.serial == n) es

-- what has a text: each number fits its field
pub record HasText (e : Entry) : Type 0 where
  pub serial : e.serial < 2 ^ 64
  pub moment : e.moment < 2 ^ 64
  pub id : e.id < 2 ^ 32
  pub payload : length e.payload < 2 ^ 32

-- what a record obeys: also, its moment is within the limit
pub record Fits (e : Entry) : Type 0 where
  pub serial : e.serial < 2 ^ 64
  pub moment : e.moment ≤ LAST_MOMENT
  pub id : e.id < 2 ^ 32
  pub payload : length e.payload < 2 ^ 32

-- the bytes start with the text of the record e, which is n bytes long
pub record Stands (e : Entry) (n : ℕ) (bytes : List ℕ) : Type 0 where
  pub fits : Fits e
  pub size : n ≡ RECORD_HEADER + length e.payload
  pub within : n ≤ length bytes
  pub text : take n bytes ≡ record_text e
