-- Threads that wait for the word to begin.
use Rattle.std.specs.Prelude.{◌≡◌, Bool, true, false}

-- a thread did its work if it began, and nothing else
abbrev pub DidIfBegun : {S : Type 0} → (S → S → Type 0) → Bool → S → S → Type 0
DidIfBegun did began before after = (began ≡ true → did before after) × (began ≡ false → after ≡ before)
