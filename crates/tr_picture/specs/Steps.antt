-- While a stream's file is read: what came of the bytes that are there.
use Rattle.std.specs.Prelude.{◌≡◌, ◌≢◌, ◌<◌, ◌≤◌, ℕ, Bool, true, false, List, ◌++◌, drop, length, suc, Some}
use Rattle.tr_packet.specs.Decoding.{first_fault}
use Rattle.tr_packet.specs.declared.faults.PacketFault.{PacketFault}
use Rattle.tr_packet.specs.declared.faults.PacketFault.TheVariants.{Short}
use Rattle.tr_picture.specs.Rows.{bytes_row, faulty}
use Rattle.tr_picture.specs.declared.files.Step.{Step}
use Rattle.tr_picture.specs.declared.files.Step.TheVariants.{Packet, Waits, Stopped}
use Rattle.tr_picture.specs.declared.frame.Frame.{Frame}
use Rattle.tr_picture.specs.declared.rows.Row.{Row}
use Rattle.tr_survey.specs.Streams.{Place}

-- the bytes are too few for a packet
abbrev pub AreFew : List ℕ → Type 0
AreFew bytes = first_fault bytes ≡ Some Short

-- what came of the front of bytes, whatever follows them: a packet of this size was taken, and the next one isn't yet; or they
-- are too few; or the file was taken up to its end or its first fault
abbrev pub IsStep : Frame → Place → Row → List ℕ → Step → Row → Type 0
IsStep f at s bytes (Packet size) after =
    (0 < size) × (size ≤ length bytes)
    × ((n : ℕ) (rest : List ℕ) (breaks : Bool)
    → bytes_row (suc n) f at s (bytes ++ rest) breaks ≡ bytes_row n f at after (drop size bytes ++ rest) breaks)
IsStep f at s bytes Waits after = AreFew bytes × (after ≡ s)
IsStep f at s bytes Stopped after = (n : ℕ) (rest : List ℕ) (breaks : Bool) → bytes_row (suc n) f at s (bytes ++ rest) breaks ≡ after

-- what came of bytes that don't start with a packet, for this reason
abbrev pub IsBad : Frame → Place → Row → PacketFault → Step → Row → Type 0
IsBad f at s fault (Packet size) after = ⊥
IsBad f at s fault Waits after = (fault ≡ Short) × (after ≡ s)
IsBad f at s fault Stopped after = (fault ≢ Short) × (after ≡ faulty f at s)

-- of bytes that are held, and of what follows them, some is taken, and these bytes are left
pub record HasGone (f : Frame) (at : Place) (s : Row) (n : ℕ) (held rest : List ℕ) (breaks : Bool) (after : Row) (left : List ℕ) : Type 0 where
  pub most : ℕ
  pub enough : length (left ++ rest) < most
  pub goes : bytes_row n f at s (held ++ rest) breaks ≡ bytes_row most f at after (left ++ rest) breaks

-- what came of held bytes, whatever follows them: the file was taken up to its first fault; or too few of them are left
abbrev pub IsHeld : Frame → Place → Row → List ℕ → Bool → Row → List ℕ → Type 0
IsHeld f at s held true after left =
    (n : ℕ) (rest : List ℕ) (breaks : Bool) → length (held ++ rest) < n → bytes_row n f at s (held ++ rest) breaks ≡ after
IsHeld f at s held false after left =
    AreFew left
    × ((n : ℕ) (rest : List ℕ) (breaks : Bool) → length (held ++ rest) < n → HasGone f at s n held rest breaks after left)
