-- What a word of a declaration says of a field.
use Rattle.std.specs.Prelude.{ℕ, ◌^◌, ◌-◌, ℤ, pos, negsuc, Bool, true, false, not, ◌&&◌, ◌||◌, nat_le, nat_lt, nat_eq, List, [], ◌∷◌, ◌++◌, codes, length, take, drop, Option, Some, None, if◌then◌else◌, bytes_eq}
use Rattle.std.specs.Cmp.Lexicographic.{pointwise}
use Rattle.std.specs.List.{after_first, before_first, ends_with, list_any, position_or_len, slice_split}
use Rattle.std.specs.Option.{option_and_then, option_map}
use Rattle.std.specs.Ordering.{int_eq}
use Rattle.tr_terms.specs.Names.{is_name}
use Rattle.tr_events.specs.declared.layouts.Form.TheVariants.{AsText, AsBytes}
use Rattle.tr_events.specs.declared.layouts.Layout.{Layout}
use Rattle.tr_events.specs.declared.layouts.Layout.TheVariants.{One, Array, Sequence, Text, All}
use Rattle.tr_events.specs.declared.layouts.Number.{Number}
use Rattle.tr_events.specs.declared.layouts.Size.{Size}
use Rattle.tr_events.specs.declared.layouts.Size.TheVariants.{Bits8, Bits16, Bits32, Bits64}
use Rattle.tr_events.specs.declared.layouts.Sort.{Sort}
use Rattle.tr_events.specs.declared.layouts.Sort.TheVariants.{Unsigned, Signed, Hexadecimal, Floating, Flag}
use Rattle.tr_events.specs.declared.layouts.TheConstants.{MOST_COUNT}
use Rattle.tr_events.specs.Events.{Label, label}
use Rattle.tr_events.specs.Numbers.{integer_of, number_of}

-- ---- a text in two

abbrev pub is_byte : ℕ → ℕ → Bool
is_byte b c = nat_eq c b

-- what is before the first such byte, and what is after it
abbrev pub parts_at : ℕ → List ℕ → List ℕ × List ℕ
parts_at b text = (before_first (is_byte b) text, after_first (is_byte b) text)

-- the same, if there is one
abbrev pub parted_at : ℕ → List ℕ → Option (List ℕ × List ℕ)
parted_at b text = if nat_lt (position_or_len (is_byte b) text) (length text) then Some (parts_at b text) else None

-- ---- numbers

abbrev pub number_type : Sort → Size → Number
number_type sort size = record { sort = sort; size = size }

-- the number's type of this name
abbrev pub number_named : List ℕ → Option Number
number_named word =
    if bytes_eq word (codes "u8") then Some (number_type Unsigned Bits8)
    else if bytes_eq word (codes "u16") then Some (number_type Unsigned Bits16)
    else if bytes_eq word (codes "u32") then Some (number_type Unsigned Bits32)
    else if bytes_eq word (codes "u64") then Some (number_type Unsigned Bits64)
    else if bytes_eq word (codes "i8") then Some (number_type Signed Bits8)
    else if bytes_eq word (codes "i16") then Some (number_type Signed Bits16)
    else if bytes_eq word (codes "i32") then Some (number_type Signed Bits32)
    else if bytes_eq word (codes "i64") then Some (number_type Signed Bits64)
    else if bytes_eq word (codes "x8") then Some (number_type Hexadecimal Bits8)
    else if bytes_eq word (codes "x16") then Some (number_type Hexadecimal Bits16)
    else if bytes_eq word (codes "x32") then Some (number_type Hexadecimal Bits32)
    else if bytes_eq word (codes "x64") then Some (number_type Hexadecimal Bits64)
    else if bytes_eq word (codes "f32") then Some (number_type Floating Bits32)
    else if bytes_eq word (codes "f64") then Some (number_type Floating Bits64)
    else if bytes_eq word (codes "flag") then Some (number_type Flag Bits8)
    else None

-- ---- labels

-- its values may have names
abbrev pub is_whole : Sort → Bool
is_whole Unsigned = true
is_whole Signed = true
is_whole Hexadecimal = true
is_whole Floating = false
is_whole Flag = false

-- the greatest value that may have a name
abbrev pub most_named : Sort → Size → ℕ
most_named Signed Bits8 = 2 ^ 7 - 1
most_named Signed Bits16 = 2 ^ 15 - 1
most_named Signed Bits32 = 2 ^ 31 - 1
most_named sort Bits8 = 2 ^ 8 - 1
most_named sort Bits16 = 2 ^ 16 - 1
most_named sort Bits32 = 2 ^ 32 - 1
most_named sort Bits64 = 2 ^ 63 - 1

abbrev pub is_signed : Sort → Bool
is_signed Unsigned = false
is_signed Signed = true
is_signed Hexadecimal = false
is_signed Floating = false
is_signed Flag = false

-- a value of this type may have a name
abbrev pub is_value : Number → ℤ → Bool
is_value k (pos n) = nat_le n (most_named k.sort k.size)
is_value k (negsuc n) = is_signed k.sort && nat_le n (most_named k.sort k.size)

-- NAME=VALUE
abbrev pub label_by : Number → Option (List ℕ × List ℕ) → Option Label
label_by k None = None
label_by k (Some p) = if is_name p.0 then (option_and_then (λ z. if is_value k z then Some (label p.0 z) else None) (integer_of p.1)) else None

abbrev pub label_in : Number → List ℕ → Option Label
label_in k word = label_by k (parted_at 61 word)

abbrev pub labels_among : Number → List (List ℕ) → Option (List Label)
labels_among k [] = Some []
labels_among k (word ∷ words) = option_and_then (λ l. option_map (λ ls. l ∷ ls) (labels_among k words)) (label_in k word)

-- two labels that can't stand together
abbrev pub is_same_label : Label → Label → Bool
is_same_label l m = pointwise nat_eq l.name m.name || int_eq l.value m.value

-- no two of them
abbrev pub are_labels_apart : List Label → Bool
are_labels_apart [] = true
are_labels_apart (l ∷ labels) = not (list_any (is_same_label l) labels) && are_labels_apart labels

abbrev pub labels_if_apart : List Label → Option (List Label)
labels_if_apart labels = if are_labels_apart labels then Some labels else None

-- NAME=VALUE,NAME=VALUE
abbrev pub labels_in : Number → List ℕ → Option (List Label)
labels_in k text = option_and_then labels_if_apart (labels_among k (slice_split (is_byte 44) text))

-- ---- types

-- a layout, and the names of its values
abbrev pub Type_named : Type 0
Type_named = Layout × List Label

abbrev pub plain : Layout → Option Type_named
plain l = Some (l, [])

-- the text before this byte, which ends it
abbrev pub without_end : ℕ → List ℕ → Option (List ℕ)
without_end b text = if ends_with nat_eq text (b ∷ []) then Some (take (length text - 1) text) else None

-- a number's type, a brace, and labels up to the closing one
abbrev pub labelled : List ℕ → List ℕ → Option Type_named
labelled word rest =
    option_and_then (λ k. if is_whole k.sort
    then option_and_then (λ text. option_map (λ labels. (One k, labels)) (labels_in k text)) (without_end 125 rest)
    else None) (number_named word)

-- as many as there are between the brackets, or as a length says
abbrev pub counted_by : Number → List ℕ → Option Type_named
counted_by k [] = plain (Sequence k)
counted_by k (b ∷ text) = option_and_then (λ n. if nat_lt 0 n && nat_le n MOST_COUNT then plain (Array k n) else None) (number_of (b ∷ text))

-- a number's type, a bracket, and a count up to the closing one
abbrev pub counted : List ℕ → List ℕ → Option Type_named
counted word rest = option_and_then (λ k. option_and_then (counted_by k) (without_end 93 rest)) (number_named word)

-- a type in one word
abbrev pub named_whole : List ℕ → Option Type_named
named_whole word =
    if bytes_eq word (codes "str") then plain Text
    else if bytes_eq word (codes "text") then plain (All AsText)
    else if bytes_eq word (codes "bytes") then plain (All AsBytes)
    else option_and_then (λ k. plain (One k)) (number_named word)

abbrev pub type_by : List ℕ → Option (List ℕ × List ℕ) → Option (List ℕ × List ℕ) → Option Type_named
type_by word (Some p) brackets = labelled p.0 p.1
type_by word None (Some p) = counted p.0 p.1
type_by word None None = named_whole word

-- the type that a word names
abbrev pub type_in : List ℕ → Option Type_named
type_in word = type_by word (parted_at 123 word) (parted_at 91 word)
