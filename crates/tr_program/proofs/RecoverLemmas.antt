-- How runs end that were to recover what stands in an image.
use Rattle.std.proofs.Common.{◌≡◌, ◌⊎◌, ℕ, Bool, true, false, refl, inl, inr, List, [], ◌∷◌, Option, Some, None, Result, Ok, Err}
use Rattle.tr_chunk.specs.Files.{Sunk}
use Rattle.tr_export.specs.Failures.{HasFailed}
use Rattle.tr_folders.specs.Tree.{File, Tree}
use Rattle.tr_load.specs.Telling.{DiskState}
use Rattle.tr_packet.specs.Packets.{Contents}
use Rattle.tr_record.specs.Bytes.{once_more}
use Rattle.tr_recover.specs.Recovering.{FailedSo, HasBytes, Recovers, found_at, found_in, reads_after, said_at, said_of}
use Rattle.tr_recover.specs.declared.faults.RecoverFault.{RecoverFault}
use Rattle.tr_recover.specs.declared.faults.RecoverFault.TheVariants as recover
use Rattle.tr_recover.specs.declared.faults.Recovered.{Recovered}
use Rattle.tr_recover.specs.declared.faults.Recovered.TheVariants as recovered
use Rattle.tr_survey.proofs.PrefixLemmas.{front_nothing}
use Rattle.tr_program.specs.Endings.{ending_of_recover}
use Rattle.tr_program.specs.Runs.{CannotSee, EndsWanted, FoldersState, HasNoPacket, HasRecovered, Host, IsUnreadable}
use Rattle.tr_program.specs.declared.ending.Ending.{Ending}
use Rattle.tr_program.specs.declared.ending.Ending.TheVariants.{NoMemory, NoSession, ReadOrWrite}

-- ---- without memory

-- nothing was begun
pub wanted_without_memory : (wanted : Option (Option (List ℕ))) (image dir : List ℕ) (host : Host) (folders : FoldersState)
    → EndsWanted host host wanted image dir folders folders NoMemory
wanted_without_memory None image dir host folders = (inr refl, (refl, refl, refl))
wanted_without_memory (Some wanted) image dir host folders = record {
  recovered = record {
    result = Err recover.NoMemory;
    ends = refl;
    recovers = λ t known bytes. inl (front_nothing _ host.taken, refl);
    reads = refl;
    failures = (refl, λ n is. is);
  };
  given = refl;
  inputs = refl;
}

-- ---- what is said of the image

not_unreadable : (ps : List Contents) → recovered.Unreadable ≡ said_of ps → ⊥
not_unreadable [] e = absurd cc
not_unreadable (p ∷ ps) e = absurd cc

unreadable_if : (wanted : Option (List ℕ)) (file : Option File) → recovered.Unreadable ≡ said_at wanted file → IsUnreadable file
unreadable_if wanted None e = tt
unreadable_if wanted (Some file) e = go file.breaks refl e
  where
    go : (b : Bool) → file.breaks ≡ b → recovered.Unreadable ≡ said_at wanted (Some (record file { breaks = b })) → file.breaks ≡ true
    go true is e = is
    go false is e = absurd (not_unreadable (found_in wanted file.bytes).packets e)

none_of : (ps : List Contents) → recovered.Nothing ≡ said_of ps → ps ≡ []
none_of [] e = refl
none_of (p ∷ ps) e = absurd cc

none_if : (wanted : Option (List ℕ)) (file : Option File) → recovered.Nothing ≡ said_at wanted file → (found_at wanted file).packets ≡ []
none_if wanted None e = refl
none_if wanted (Some file) e = go file.breaks e
  where
    go : (b : Bool) → recovered.Nothing ≡ said_at wanted (Some (record file { breaks = b }))
        → (found_at wanted (Some (record file { breaks = b }))).packets ≡ []
    go true e = refl
    go false e = none_of (found_in wanted file.bytes).packets e

-- ---- how it ends

-- why recovering ends as if reading or writing failed
abbrev pub Why : (image : List ℕ) → (folders folders_now : FoldersState) → (out out_now : Sunk) → (disk disk_now : DiskState) → Type 0
Why image folders folders_now out out_now disk disk_now =
    ((out_now.failures ≡ once_more out.failures) ⊎ HasFailed disk.failures disk_now.failures)
    ⊎ ((folders_now.failures ≡ once_more folders.failures) ⊎ CannotSee image folders.tree)

why : (wanted : Option (List ℕ)) (image dir : List ℕ) (folders folders_now : FoldersState) (out out_now : Sunk) (disk disk_now : DiskState)
    (result : Result Recovered RecoverFault) → ReadOrWrite ≡ ending_of_recover result
    → ((t : Tree) → folders.tree ≡ Some t → HasBytes (t.file image)
    → Recovers wanted dir (t.file image) result out.taken out_now.taken disk.made disk_now.made)
    → folders_now.failures ≡ reads_after result folders.failures
    → FailedSo result out.failures out_now.failures disk.failures disk_now.failures
    → Why image folders folders_now out out_now disk disk_now
why wanted image dir folders folders_now out out_now disk disk_now (Ok recovered.Unreadable) e recovers reads failed =
    inr (inr (λ t known bytes. unreadable_if wanted (t.file image) (recovers t known bytes).0))
why wanted image dir folders folders_now out out_now disk disk_now (Ok recovered.Nothing) e recovers reads failed = absurd cc
why wanted image dir folders folders_now out out_now disk disk_now (Ok recovered.Done) e recovers reads failed = absurd cc
why wanted image dir folders folders_now out out_now disk disk_now (Err recover.TooMuch) e recovers reads failed = inr (inl reads)
why wanted image dir folders folders_now out out_now disk disk_now (Err recover.Write) e recovers reads failed =
    elim failed [ inl put ↦ inl (inl put.0) | inr made ↦ inl (inr made.1) ]
why wanted image dir folders folders_now out out_now disk disk_now (Err recover.NoMemory) e recovers reads failed = absurd cc

pub recover_fault : (wanted : Option (List ℕ)) (image dir : List ℕ) (folders folders_now : FoldersState) (out out_now : Sunk)
    (disk disk_now : DiskState) (ending : Ending)
    → HasRecovered wanted image dir folders folders_now out out_now disk disk_now ending → ending ≡ ReadOrWrite
    → Why image folders folders_now out out_now disk disk_now
recover_fault wanted image dir folders folders_now out out_now disk disk_now ending has is =
    why wanted image dir folders folders_now out out_now disk disk_now has.result (rw is at has.ends) has.recovers has.reads has.failures

found_none : (wanted : Option (List ℕ)) (image dir : List ℕ) (t : Tree) (out out_now : Sunk) (disk disk_now : DiskState)
    (result : Result Recovered RecoverFault) → NoSession ≡ ending_of_recover result
    → Recovers wanted dir (t.file image) result out.taken out_now.taken disk.made disk_now.made
    → (found_at wanted (t.file image)).packets ≡ []
found_none wanted image dir t out out_now disk disk_now (Ok recovered.Unreadable) e recovers = absurd cc
found_none wanted image dir t out out_now disk disk_now (Ok recovered.Nothing) e recovers = none_if wanted (t.file image) recovers.0
found_none wanted image dir t out out_now disk disk_now (Ok recovered.Done) e recovers = absurd cc
found_none wanted image dir t out out_now disk disk_now (Err recover.TooMuch) e recovers = absurd cc
found_none wanted image dir t out out_now disk disk_now (Err recover.Write) e recovers = absurd cc
found_none wanted image dir t out out_now disk disk_now (Err recover.NoMemory) e recovers = absurd cc

pub nothing_recovered : (wanted : Option (List ℕ)) (image dir : List ℕ) (folders folders_now : FoldersState) (out out_now : Sunk)
    (disk disk_now : DiskState) (ending : Ending)
    → HasRecovered wanted image dir folders folders_now out out_now disk disk_now ending → ending ≡ NoSession
    → HasNoPacket (Some wanted) image folders.tree
nothing_recovered wanted image dir folders folders_now out out_now disk disk_now ending has is t known bytes =
    found_none wanted image dir t out out_now disk disk_now has.result (rw is at has.ends) (has.recovers t known bytes)
