-- While a stream's file is read: what came of the bytes that are there.
use Rattle.std.specs.Prelude.{◌≡◌, ◌<◌, ◌≤◌, ℕ, Bool, List, ◌++◌, drop, length, Option, Some, None}
use Rattle.tr_describe.specs.Flaws.{bytes_flaw}
use Rattle.tr_describe.specs.declared.flaws.Flaw.{Flaw}
use Rattle.tr_describe.specs.declared.flaws.Flaw.TheVariants.{Unsound}
use Rattle.tr_describe.specs.declared.flaws.Step.{Step}
use Rattle.tr_describe.specs.declared.flaws.Step.TheVariants.{Packet, Waits, Wrong}
use Rattle.tr_events.specs.Events.{Declarations}
use Rattle.tr_packet.specs.Decoding.{first_fault}
use Rattle.tr_packet.specs.declared.faults.PacketFault.{PacketFault}
use Rattle.tr_packet.specs.declared.faults.PacketFault.TheVariants.{Short, BadMagic, BadStreamId, BadSize, BadRecord, SerialOrder, MomentOrder}

-- the bytes are too few for a packet
abbrev pub AreFew : List ℕ → Type 0
AreFew bytes = first_fault bytes ≡ Some Short

-- whatever follows, what is wrong with these bytes is what is wrong with those
abbrev pub AreAlike : Declarations → List ℕ → ℕ → List ℕ → List ℕ → Type 0
AreAlike events uuid stream bytes left =
    (rest : List ℕ) (breaks : Bool) → bytes_flaw events uuid stream (bytes ++ rest) breaks ≡ bytes_flaw events uuid stream (left ++ rest) breaks

-- whatever follows, this is wrong with the bytes
abbrev pub AreWrong : Declarations → List ℕ → ℕ → List ℕ → Flaw → Type 0
AreWrong events uuid stream bytes flaw =
    (rest : List ℕ) (breaks : Bool) → bytes_flaw events uuid stream (bytes ++ rest) breaks ≡ Some flaw

-- what came of the front of bytes: a packet of this size, with which nothing is wrong; too few bytes; or something wrong
abbrev pub IsStep : Declarations → List ℕ → ℕ → List ℕ → Step → Type 0
IsStep events uuid stream bytes (Packet size) = (0 < size) × (size ≤ length bytes) × AreAlike events uuid stream bytes (drop size bytes)
IsStep events uuid stream bytes Waits = AreFew bytes
IsStep events uuid stream bytes (Wrong flaw) = AreWrong events uuid stream bytes flaw

-- what comes of bytes that don't start with a packet, for this reason
abbrev pub step_of : PacketFault → Step
step_of Short = Waits
step_of BadMagic = Wrong Unsound
step_of BadStreamId = Wrong Unsound
step_of BadSize = Wrong Unsound
step_of BadRecord = Wrong Unsound
step_of SerialOrder = Wrong Unsound
step_of MomentOrder = Wrong Unsound

-- what came of held bytes: something wrong; or too few of them are left
abbrev pub IsHeld : Declarations → List ℕ → ℕ → List ℕ → Option Flaw → List ℕ → Type 0
IsHeld events uuid stream held (Some flaw) left = AreWrong events uuid stream held flaw
IsHeld events uuid stream held None left = AreFew left × AreAlike events uuid stream held left
