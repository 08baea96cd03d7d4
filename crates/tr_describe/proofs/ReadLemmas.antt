-- What is wrong with a file, piece by piece.
use Rattle.std.proofs.Common.{◌≡◌, ◌<◌, ℕ, refl, sym, ap, ◌∙◌, arith, Bool, true, false, List, [], ◌∷◌, ◌++◌, length, Option, Some, None, append_assoc, append-nil}
use Rattle.tr_describe.specs.Flaws.{bytes_flaw, file_flaw}
use Rattle.tr_describe.specs.Steps.{AreAlike, AreFew, AreWrong}
use Rattle.tr_describe.specs.declared.flaws.Flaw.{Flaw}
use Rattle.tr_describe.specs.declared.flaws.Flaw.TheVariants.{Unsound}
use Rattle.tr_describe.proofs.FlawLemmas.{broken_wrong, none_if_fault, none_wrong, nothing_wrong}
use Rattle.tr_events.specs.Events.{Declarations}
use Rattle.tr_folders.specs.Kept.{file_of}
use Rattle.tr_folders.specs.Tree.{File, IsBroken, Reads}
use Rattle.tr_packet.specs.declared.faults.PacketFault.TheVariants.{Short}

-- ---- held bytes

pub alike_both : (events : Declarations) (uuid : List ℕ) (stream : ℕ) (a b c : List ℕ) → AreAlike events uuid stream a b → AreAlike events uuid stream b c
    → AreAlike events uuid stream a c
alike_both events uuid stream a b c first then rest breaks = first rest breaks ∙ then rest breaks

pub alike_wrong : (events : Declarations) (uuid : List ℕ) (stream : ℕ) (a b : List ℕ) (flaw : Flaw) → AreAlike events uuid stream a b
    → AreWrong events uuid stream b flaw → AreWrong events uuid stream a flaw
alike_wrong events uuid stream a b flaw first then rest breaks = first rest breaks ∙ then rest breaks

-- ---- a file

-- of an open file this is held, and what comes after it is left
pub record ReadSoFar (events : Declarations) (uuid : List ℕ) (stream : ℕ) (file : File) (left : Option File) (held : List ℕ) : Type 0 where
  pub rest : List ℕ
  pub left_is : left ≡ Some (file_of rest file.breaks)
  pub same : file_flaw events uuid stream (Some file) ≡ bytes_flaw events uuid stream (held ++ rest) file.breaks

pub read_start : (events : Declarations) (uuid : List ℕ) (stream : ℕ) (file : File) (left : Option File) → left ≡ Some file
    → ReadSoFar events uuid stream file left []
read_start events uuid stream file left is = record { rest = file.bytes; left_is = is; same = refl }

pub read_more : (events : Declarations) (uuid : List ℕ) (stream : ℕ) (file : File) (left after : Option File) (held given more : List ℕ)
    → more ≡ held ++ given → (so_far : ReadSoFar events uuid stream file left held) → ((one : File) → left ≡ Some one → Reads one given after)
    → ReadSoFar events uuid stream file after more
read_more events uuid stream file left after held given more is so_far reads =
    let step = reads (file_of so_far.rest file.breaks) so_far.left_is in
    let same : held ++ so_far.rest ≡ more ++ step.rest =
    ap (λ (l : List ℕ). held ++ l) step.is ∙ sym (append_assoc held given step.rest) ∙ ap (λ (l : List ℕ). l ++ step.rest) (sym is) in
    record {
      rest = step.rest;
      left_is = step.left_is;
      same = so_far.same ∙ ap (λ (l : List ℕ). bytes_flaw events uuid stream l file.breaks) same;
    }

pub read_held : (events : Declarations) (uuid : List ℕ) (stream : ℕ) (file : File) (left : Option File) (held kept : List ℕ)
    → ReadSoFar events uuid stream file left held → AreAlike events uuid stream held kept → ReadSoFar events uuid stream file left kept
read_held events uuid stream file left held kept so_far alike = record {
  rest = so_far.rest;
  left_is = so_far.left_is;
  same = so_far.same ∙ alike so_far.rest file.breaks;
}

pub read_wrong : (events : Declarations) (uuid : List ℕ) (stream : ℕ) (file : File) (left : Option File) (held : List ℕ) (flaw : Flaw)
    → ReadSoFar events uuid stream file left held → AreWrong events uuid stream held flaw → Some flaw ≡ file_flaw events uuid stream (Some file)
read_wrong events uuid stream file left held flaw so_far wrong = sym (so_far.same ∙ wrong so_far.rest file.breaks)

-- nothing comes after what is held
ends : (events : Declarations) (uuid : List ℕ) (stream : ℕ) (file : File) (left : Option File) (held : List ℕ) (breaks : Bool)
    → (so_far : ReadSoFar events uuid stream file left held) → so_far.rest ≡ [] → file.breaks ≡ breaks
    → file_flaw events uuid stream (Some file) ≡ bytes_flaw events uuid stream held breaks
ends events uuid stream file left held breaks so_far none is =
    so_far.same
    ∙ ap (λ (l : List ℕ). bytes_flaw events uuid stream (held ++ l) file.breaks) none
    ∙ ap (λ (l : List ℕ). bytes_flaw events uuid stream l file.breaks) (append-nil held)
    ∙ ap (bytes_flaw events uuid stream held) is

end_by : (events : Declarations) (uuid : List ℕ) (stream : ℕ) (held : List ℕ) (flaw : Option Flaw) → AreFew held
    → (length held ≡ 0 → flaw ≡ None) → (0 < length held → flaw ≡ Some Unsound) → flaw ≡ bytes_flaw events uuid stream held false
end_by events uuid stream [] flaw few none some = none refl ∙ sym (nothing_wrong events uuid stream)
end_by events uuid stream (b ∷ held) flaw few none some =
    some (omega arith) ∙ sym (none_wrong events uuid stream (b ∷ held) false (none_if_fault uuid stream (b ∷ held) Short few) (omega arith))

pub read_end : (events : Declarations) (uuid : List ℕ) (stream : ℕ) (file : File) (left after : Option File) (held : List ℕ) (flaw : Option Flaw)
    → (so_far : ReadSoFar events uuid stream file left held) → AreFew held → ((one : File) → left ≡ Some one → Reads one [] after)
    → (length held ≡ 0 → flaw ≡ None) → (0 < length held → flaw ≡ Some Unsound) → flaw ≡ file_flaw events uuid stream (Some file)
read_end events uuid stream file left after held flaw so_far few reads none some =
    let step = reads (file_of so_far.rest file.breaks) so_far.left_is in
    let at_end = step.end refl in
    end_by events uuid stream held flaw few none some ∙ sym (ends events uuid stream file left held false so_far (step.is ∙ at_end.0) at_end.1)

pub read_broken : (events : Declarations) (uuid : List ℕ) (stream : ℕ) (file : File) (left : Option File) (held : List ℕ)
    → (so_far : ReadSoFar events uuid stream file left held) → AreFew held → ((one : File) → left ≡ Some one → IsBroken one)
    → Some Unsound ≡ file_flaw events uuid stream (Some file)
read_broken events uuid stream file left held so_far few breaking =
    let broken = breaking (file_of so_far.rest file.breaks) so_far.left_is in
    sym (ends events uuid stream file left held true so_far broken.0 broken.1
    ∙ broken_wrong events uuid stream held (none_if_fault uuid stream held Short few))
