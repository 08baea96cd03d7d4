-- What is recovered of an image: what goes out, what is made, and how it ends.
use Rattle.std.specs.Prelude.{◌≡◌, ◌⊎◌, ℕ, List, [], ◌∷◌, Option, Some, None, Result, Ok, Err, unwrap_or, if◌then◌else◌}
use Rattle.tr_export.specs.Failures.{HasFailed, HasNotFailed}
use Rattle.tr_export.specs.Making.{MadePrefix, Makings, and_then_made}
use Rattle.tr_export.specs.declared.faults.ExportFault.{ExportFault}
use Rattle.tr_export.specs.declared.faults.ExportFault.TheVariants as export
use Rattle.tr_folders.specs.Tree.{File}
use Rattle.tr_folders.specs.declared.faults.ReadFault.{ReadFault}
use Rattle.tr_folders.specs.declared.faults.ReadFault.TheVariants as folders
use Rattle.tr_image.specs.Kept.{recovered_from}
use Rattle.tr_image.specs.Traces.{TraceState, trace_in, untyped}
use Rattle.tr_packet.specs.Packets.{Contents}
use Rattle.tr_record.specs.Bytes.{and_then_bytes, once_more}
use Rattle.tr_record.specs.Whole.{AreBytes}
use Rattle.tr_survey.specs.Prefix.{IsPrefixOut}
use Rattle.tr_recover.specs.Archive.{recovered_made}
use Rattle.tr_recover.specs.Lines.{recovered_text}
use Rattle.tr_recover.specs.declared.faults.RecoverFault.{RecoverFault}
use Rattle.tr_recover.specs.declared.faults.RecoverFault.TheVariants.{TooMuch, Write, NoMemory}
use Rattle.tr_recover.specs.declared.faults.Recovered.{Recovered}
use Rattle.tr_recover.specs.declared.faults.Recovered.TheVariants.{Unreadable, Nothing, Done}

-- ---- what is found

-- the packets of a trace that are found in an image, and the text by which their records are read
pub record FoundState : Type 0 where
  pub metadata : List ℕ
  pub packets : List Contents

abbrev pub nothing_found : FoundState
nothing_found = record { metadata = []; packets = [] }

-- the trace that is looked for: the one that is wanted, with its metadata if the image has them; else the first that the image names
abbrev pub sought : Option (List ℕ) → List ℕ → Option TraceState
sought None image = trace_in None image
sought (Some uuid) image = Some (unwrap_or (trace_in (Some uuid) image) (untyped uuid))

abbrev pub found_of : List ℕ → Option TraceState → FoundState
found_of image None = nothing_found
found_of image (Some trace) = record { metadata = trace.metadata; packets = recovered_from trace.uuid image }

abbrev pub found_in : Option (List ℕ) → List ℕ → FoundState
found_in wanted image = found_of image (sought wanted image)

-- ---- how it ends

abbrev pub fault_of : ExportFault → RecoverFault
fault_of export.Write = Write
fault_of export.NoMemory = NoMemory

abbrev pub without_image : ReadFault → Result (Option FoundState) RecoverFault
without_image folders.Unreadable = Ok None
without_image folders.TooMuch = Err TooMuch
without_image folders.NoMemory = Err NoMemory

abbrev pub said_of : List Contents → Recovered
said_of [] = Nothing
said_of (p ∷ ps) = Done

-- of a file that is an image, if there is one and it is read to its end
abbrev pub found_at : Option (List ℕ) → Option File → FoundState
found_at wanted None = nothing_found
found_at wanted (Some file) = if file.breaks then nothing_found else found_in wanted file.bytes

abbrev pub said_at : Option (List ℕ) → Option File → Recovered
said_at wanted None = Unreadable
said_at wanted (Some file) = if file.breaks then Unreadable else said_of (found_in wanted file.bytes).packets

-- what reading came to: it can't be read, or this was found
abbrev pub FindsAt : Option (List ℕ) → Option File → Option FoundState → Type 0
FindsAt wanted file None = (found_at wanted file ≡ nothing_found) × (said_at wanted file ≡ Unreadable)
FindsAt wanted file (Some found) = (found_at wanted file ≡ found) × (said_at wanted file ≡ said_of found.packets)

-- what a file has are bytes
abbrev pub HasBytes : Option File → Type 0
HasBytes None = Unit {0}
HasBytes (Some file) = AreBytes file.bytes

-- the lines of what was found go out, and then its archive is made; or a front of the lines goes out, or all of them and a prefix of
-- the archive is made
abbrev pub Tells : List ℕ → FoundState → Result (Unit {0}) RecoverFault → (out out_now : Option (List ℕ)) → (made made_now : Option Makings) → Type 0
Tells dir found (Ok done) out out_now made made_now =
    (out_now ≡ and_then_bytes out (recovered_text found.packets)) × (made_now ≡ and_then_made made (recovered_made dir found.metadata found.packets))
Tells dir found (Err fault) out out_now made made_now =
    (IsPrefixOut (recovered_text found.packets) out out_now × (made_now ≡ made))
    ⊎ ((out_now ≡ and_then_bytes out (recovered_text found.packets))
    × MadePrefix made made_now (recovered_made dir found.metadata found.packets))

-- the same, and what it came to
abbrev pub Recovers : Option (List ℕ) → List ℕ → Option File → Result Recovered RecoverFault → (out out_now : Option (List ℕ))
    → (made made_now : Option Makings) → Type 0
Recovers wanted dir file (Ok said) out out_now made made_now =
    (said ≡ said_at wanted file) × Tells dir (found_at wanted file) (Ok tt) out out_now made made_now
Recovers wanted dir file (Err fault) out out_now made made_now = Tells dir (found_at wanted file) (Err fault) out out_now made made_now

-- ---- what failed

-- how often reading failed after it
abbrev pub reads_after : {R : Type 0} → Result R RecoverFault → ℕ → ℕ
reads_after (Ok done) count = count
reads_after (Err TooMuch) count = once_more count
reads_after (Err Write) count = count
reads_after (Err NoMemory) count = count

-- and how often the output and the disk did
abbrev pub FailedSo : {R : Type 0} → Result R RecoverFault → (outs outs_now : ℕ) → (disks disks_now : Option ℕ) → Type 0
FailedSo (Ok done) outs outs_now disks disks_now = (outs_now ≡ outs) × HasNotFailed disks disks_now
FailedSo (Err TooMuch) outs outs_now disks disks_now = (outs_now ≡ outs) × HasNotFailed disks disks_now
FailedSo (Err NoMemory) outs outs_now disks disks_now = (outs_now ≡ outs) × HasNotFailed disks disks_now
FailedSo (Err Write) outs outs_now disks disks_now =
    ((outs_now ≡ once_more outs) × HasNotFailed disks disks_now) ⊎ ((outs_now ≡ outs) × HasFailed disks disks_now)
