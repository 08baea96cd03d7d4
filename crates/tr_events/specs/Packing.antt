-- What a producer packs into the payload of a declared event.
use Rattle.std.specs.Prelude.{◌≡◌, ℕ, ◌<◌, ◌^◌, false, ◌==◌, List, [], ◌∷◌, ◌++◌, map, length}
use Rattle.std.specs.Int.{Width, w32, to_le_bytes, cast_unsigned}
use Rattle.std.specs.List.{AllByRecursion, flat_map, list_any}
use Rattle.tr_events.specs.declared.layouts.Layout.{Layout}
use Rattle.tr_events.specs.declared.layouts.Layout.TheVariants.{One, Array, Sequence, Text, All}
use Rattle.tr_events.specs.declared.layouts.Number.{Number}
use Rattle.tr_events.specs.declared.layouts.Size.{Size}
use Rattle.tr_events.specs.declared.layouts.Size.TheVariants.{Bits8, Bits16, Bits32, Bits64}
use Rattle.tr_events.specs.Events.{Field, Atom, Natural, Integer, Bits, Value, Single, Several, Bytes, width_of, atom_of}

-- how many numbers a size has
abbrev pub limit_of : Size → ℕ
limit_of Bits8 = 2 ^ 8
limit_of Bits16 = 2 ^ 16
limit_of Bits32 = 2 ^ 32
limit_of Bits64 = 2 ^ 64

-- a number of this type: what some bits of its size stand for
pub record IsOf (k : Number) (a : Atom) : Type 0 where
  pub number : ℕ
  pub below : number < limit_of k.size
  pub is : a ≡ atom_of k number

-- the bits of a number
abbrev pub bits_of : Width → Atom → ℕ
bits_of w (Natural n) = n
bits_of w (Integer z) = cast_unsigned w z
bits_of w (Bits n) = n

-- lowest byte first
abbrev pub atom_text : Number → Atom → List ℕ
atom_text k a = to_le_bytes (width_of k.size) (bits_of (width_of k.size) a)

abbrev pub IsNatural : Atom → Type 0
IsNatural a = a ≡ Natural (bits_of w32 a)

-- a value for a field that is laid out so: numbers of its type, as many as there may be, and text without a zero byte
abbrev pub IsFor : Layout → Value → Type 0
IsFor (One k) (Single a) = IsOf k a
IsFor (Array k count) (Several atoms) = (length atoms ≡ count) × AllByRecursion (IsOf k) atoms
IsFor (Sequence k) (Several atoms) = (length atoms < 2 ^ 32) × AllByRecursion (IsOf k) atoms
IsFor Text (Bytes text) = list_any (λ b. b == 0) text ≡ false
IsFor (All form) (Several atoms) = AllByRecursion IsNatural atoms
IsFor l v = ⊥

-- the bytes of a value
abbrev pub value_text : Layout → Value → List ℕ
value_text (One k) (Single a) = atom_text k a
value_text (Array k count) (Several atoms) = flat_map (atom_text k) atoms
value_text (Sequence k) (Several atoms) = to_le_bytes w32 (length atoms) ++ flat_map (atom_text k) atoms
value_text Text (Bytes text) = text ++ 0 ∷ []
value_text (All form) (Several atoms) = map (bits_of w32) atoms
value_text l v = []

-- a value for each field
abbrev pub AreFor : List Field → List Value → Type 0
AreFor [] [] = Unit {0}
AreFor (f ∷ fields) (v ∷ values) = IsFor f.layout v × AreFor fields values
AreFor fields values = ⊥

-- the payload of these values
abbrev pub pack : List Field → List Value → List ℕ
pack (f ∷ fields) (v ∷ values) = value_text f.layout v ++ pack fields values
pack fields values = []
