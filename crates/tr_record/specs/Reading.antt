-- Reading a record from the front of bytes, field by field.
use Rattle.std.specs.Prelude.{◌≡◌, ℕ, List, ◌++◌, length, take, drop, nat_lt, Option, Some, None, if◌then◌else◌}
use Rattle.std.specs.Int.{Width, w32, w64, byte_len, from_le_bytes}
use Rattle.tr_record.specs.Records.{Entry, record_text, HasText, entry}

infixl 10 ◌>>=◌
abbrev pub ◌>>=◌ : {A B : Type 0} → Option A → (A → Option B) → Option B
(Some x) >>= f = f x
None >>= f = None

-- what a function returned, seen by view, is what reading gives
abbrev pub Gives : {X Y : Type 0} → (X → Y) → Option X → Option Y → Type 0
Gives view (Some x) read = read ≡ Some (view x)
Gives view None read = read ≡ None

-- a number, lowest byte first, and the bytes after it
abbrev pub number_at : Width → List ℕ → Option (ℕ × List ℕ)
number_at w bytes =
    if nat_lt (length bytes) (byte_len w) then None
    else Some (from_le_bytes w (take (byte_len w) bytes), drop (byte_len w) bytes)

-- a length, that many bytes, and the bytes after them
unfoldable pub payload_at : List ℕ → Option (List ℕ × List ℕ)
payload_at bytes = do
  n ← number_at w32 bytes
  if nat_lt (length n.1) n.0 then None else Some (take n.0 n.1, drop n.0 n.1)

-- a record, whatever its moment, and the bytes after it
unfoldable pub entry_at : List ℕ → Option (Entry × List ℕ)
entry_at bytes = do
  id ← number_at w32 bytes
  moment ← number_at w64 id.1
  serial ← number_at w64 moment.1
  payload ← payload_at serial.1
  Some (entry serial.0 moment.0 id.0 payload.0, payload.1)

-- the bytes start with the text of the record e, and the rest follows
pub record Begins (e : Entry) (rest bytes : List ℕ) : Type 0 where
  pub text : HasText e
  pub parts : bytes ≡ record_text e ++ rest
