-- What is in folders.
use Rattle.std.specs.Prelude.{◌≡◌, ℕ, Bool, true, false, String, string_bytes, List, [], ◌++◌, map, Option, Some, None}

-- what can be read of a file, and whether it can't be read to its end
pub record File : Type 0 where
  pub bytes : List ℕ
  pub breaks : Bool

-- by paths: the names in the folder there, whether that folder can't be read, and the file there; none where there is no such thing
pub record Tree : Type 0 where
  pub names : List ℕ → Option (List (List ℕ))
  pub is_hidden : List ℕ → Bool
  pub file : List ℕ → Option File

-- names as their texts
abbrev pub by_text : {Z : Type 0} → List (String Z) → List (List ℕ)
by_text = map string_bytes

-- a file is opened, and has all its bytes to give, or there is no file
abbrev pub Opens : Option File → Bool → Option File → Type 0
Opens file true left = (one : File) × (file ≡ Some one) × (left ≡ Some one)
Opens file false left = file ≡ None

-- these bytes of what a file had to give were given, and this is left; only at the end none are given
pub record Reads (before : File) (given : List ℕ) (left : Option File) : Type 0 where
  pub rest : List ℕ
  pub is : before.bytes ≡ given ++ rest
  pub left_is : left ≡ Some (record { bytes = rest; breaks = before.breaks })
  pub end : given ≡ [] → (rest ≡ []) × (before.breaks ≡ false)

-- the same of several reads one after another, which go on until so many bytes are there or the file ends
pub record ReadsOn (before : File) (given : List ℕ) (Ends : Type 0) (left : Option File) : Type 0 where
  pub rest : List ℕ
  pub is : before.bytes ≡ given ++ rest
  pub left_is : left ≡ Some (record { bytes = rest; breaks = before.breaks })
  pub end : Ends → (rest ≡ []) × (before.breaks ≡ false)

-- all was given that can be read of a file, and more of it can't
abbrev pub IsBroken : File → Type 0
IsBroken file = (file.bytes ≡ []) × (file.breaks ≡ true)
