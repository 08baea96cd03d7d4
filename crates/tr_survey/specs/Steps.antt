-- While a stream's file is read: what came of the bytes that are there.
use Rattle.std.specs.Prelude.{◌≡◌, ◌≢◌, ◌+◌, ◌<◌, ◌≤◌, ℕ, Bool, true, false, List, ◌++◌, drop, length, suc, Option, Some}
use Rattle.tr_chunk.specs.Audit.{capped_count}
use Rattle.tr_chunk.specs.declared.audit_fault.AuditCause.TheVariants as cause
use Rattle.tr_packet.specs.Decoding.{first_fault}
use Rattle.tr_packet.specs.declared.faults.PacketFault.{PacketFault}
use Rattle.tr_packet.specs.declared.faults.PacketFault.TheVariants.{Short}
use Rattle.tr_survey.specs.Prefix.{GoesOn, IsTold}
use Rattle.tr_survey.specs.Streams.{Place, bytes_told, fault_told}
use Rattle.tr_survey.specs.declared.files.Step.{Step}
use Rattle.tr_survey.specs.declared.files.Step.TheVariants.{Packet, Waits, Stopped}
use Rattle.tr_survey.specs.declared.tally.Tally.{Tally}

-- the bytes are too few for a packet
abbrev pub AreFew : List ℕ → Type 0
AreFew bytes = first_fault bytes ≡ Some Short

-- what came of the front of bytes, whatever follows them: a packet of this size was reported, and the next one isn't yet; or
-- they are too few; or the file was reported up to its end or its first fault
abbrev pub IsStep : Place → Tally → ℕ → List ℕ → Step → Option (List ℕ) → Option (List ℕ) → Tally → Type 0
IsStep at s offset bytes (Packet size) before now after =
    (0 < size) × (size ≤ length bytes)
    × ((n : ℕ) (rest : List ℕ) (breaks : Bool)
    → GoesOn (bytes_told (suc n) at s offset (bytes ++ rest) breaks)
    (bytes_told n at after (capped_count (offset + size)) (drop size bytes ++ rest) breaks) before now)
IsStep at s offset bytes Waits before now after = AreFew bytes × (now ≡ before) × (after ≡ s)
IsStep at s offset bytes Stopped before now after =
    (n : ℕ) (rest : List ℕ) (breaks : Bool) → IsTold (bytes_told (suc n) at s offset (bytes ++ rest) breaks) before now after

-- what came of bytes that don't start with a packet, for this reason
abbrev pub IsBad : Place → Tally → ℕ → PacketFault → Step → Option (List ℕ) → Option (List ℕ) → Tally → Type 0
IsBad at s offset fault (Packet size) before now after = ⊥
IsBad at s offset fault Waits before now after = (fault ≡ Short) × (now ≡ before) × (after ≡ s)
IsBad at s offset fault Stopped before now after = (fault ≢ Short) × IsTold (fault_told at s offset (cause.Packet fault)) before now after

-- of bytes that are held, and of what follows them, some is reported, and the rest is reported from these bytes on
pub record HasGone (at : Place) (s : Tally) (offset n : ℕ) (held rest : List ℕ) (breaks : Bool) (before now : Option (List ℕ))
    (after : Tally) (further : ℕ) (left : List ℕ) : Type 0 where
  pub most : ℕ
  pub enough : length (left ++ rest) < most
  pub goes : GoesOn (bytes_told n at s offset (held ++ rest) breaks) (bytes_told most at after further (left ++ rest) breaks) before now

-- what came of held bytes, whatever follows them: the file was reported up to its first fault; or too few of them are left
abbrev pub IsHeld : Place → Tally → ℕ → List ℕ → Bool → Option (List ℕ) → Option (List ℕ) → Tally → ℕ → List ℕ → Type 0
IsHeld at s offset held true before now after further left =
    (n : ℕ) (rest : List ℕ) (breaks : Bool) → length (held ++ rest) < n → IsTold (bytes_told n at s offset (held ++ rest) breaks) before now after
IsHeld at s offset held false before now after further left =
    AreFew left
    × ((n : ℕ) (rest : List ℕ) (breaks : Bool) → length (held ++ rest) < n
    → HasGone at s offset n held rest breaks before now after further left)
