-- Names in a text of XML: nothing of a name leaves its text.
use Rattle.std.specs.Prelude.{◌≡◌, ◌≢◌, ◌≤◌, ◌⊎◌, ℕ, ◌||◌, nat_eq, nat_lt, List, [], ◌∷◌, codes, if◌then◌else◌}
use Rattle.std.specs.List.{flat_map}

-- a byte as XML has it: an entity in place of a mark of the language, and a question mark in place of a byte that isn't printable
-- ASCII, which not every text of XML 1.0 may have
abbrev pub escaped_byte : ℕ → List ℕ
escaped_byte b =
    if nat_eq b 38 then codes "&amp;"
    else if nat_eq b 60 then codes "&lt;"
    else if nat_eq b 62 then codes "&gt;"
    else if nat_eq b 34 then codes "&quot;"
    else if nat_eq b 39 then codes "&apos;"
    else if nat_lt b 32 || nat_lt 126 b then 63 ∷ []
    else b ∷ []

abbrev pub escaped : List ℕ → List ℕ
escaped = flat_map escaped_byte

-- ---- what an escaped text is made of

-- printable ASCII, and none of & < > " '
pub record IsPlain (b : ℕ) : Type 0 where
  pub printable : (32 ≤ b) × (b ≤ 126)
  pub no_mark : (b ≢ 38) × (b ≢ 60) × (b ≢ 62) × (b ≢ 34) × (b ≢ 39)

-- one of the five entities that XML has of itself
abbrev pub IsEntity : List ℕ → Type 0
IsEntity part =
    (part ≡ codes "&amp;") ⊎ ((part ≡ codes "&lt;") ⊎ ((part ≡ codes "&gt;") ⊎ ((part ≡ codes "&quot;") ⊎ (part ≡ codes "&apos;"))))

-- one plain byte, or one entity
abbrev pub IsPart : List ℕ → Type 0
IsPart part = ((b : ℕ) × (part ≡ b ∷ []) × IsPlain b) ⊎ IsEntity part
