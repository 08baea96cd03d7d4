-- What was read of a file of declarations.
use Rattle.std.proofs.Common.{◌≡◌, ◌<◌, ℕ, Bool, true, false, cond, ◌&&◌, ltb, refl, sym, ap, ◌∙◌, List, length, take, Option, Some, None}
use Rattle.std.proofs.lemmas.Bool.{lt-ltb, ltb-true}
use Rattle.tr_describe.specs.Files.{Declaring, declaring, looked_at}
use Rattle.tr_events.specs.Lines.{declared}
use Rattle.tr_folders.specs.Tree.{File}

pub declares_front : (file : File) (front : List ℕ) (d : Option Declaring) → front ≡ take looked_at file.bytes
    → (length file.bytes < looked_at → file.breaks ≡ false) → d ≡ Some (declared front) → d ≡ declaring (Some file)
declares_front file front d is whole found = found ∙ ap (λ (l : List ℕ). Some (declared l)) is ∙ by_test (ltb (length file.bytes) looked_at) refl
  where
    by_test : (test : Bool) → ltb (length file.bytes) looked_at ≡ test
        → Some (declared (take looked_at file.bytes))
        ≡ cond (ltb (length file.bytes) looked_at && file.breaks) None (Some (declared (take looked_at file.bytes)))
    by_test true e =
        ap (λ (t : Bool). cond t None (Some (declared (take looked_at file.bytes))))
        (sym (ap (λ (t : Bool). t && file.breaks) e ∙ whole (ltb-true (length file.bytes) looked_at e)))
    by_test false e =
        ap (λ (t : Bool). cond t None (Some (declared (take looked_at file.bytes)))) (sym (ap (λ (t : Bool). t && file.breaks) e))

pub declares_none : (file : File) → (length file.bytes < looked_at) × (file.breaks ≡ true) → None ≡ declaring (Some file)
declares_none file broken =
    ap (λ (t : Bool). cond t None (Some (declared (take looked_at file.bytes))))
    (sym (ap (λ (t : Bool). t && file.breaks) (lt-ltb _ _ broken.0) ∙ broken.1))
