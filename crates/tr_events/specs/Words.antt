-- The language of declarations: a line for each variable and each event.
use Rattle.std.specs.Prelude.{ℕ, List, [], ◌∷◌, ◌++◌, codes}
use Rattle.std.specs.Fmt.{decimal, signed_decimal}
use Rattle.std.specs.List.{flat_map}
use Rattle.tr_events.specs.declared.layouts.Form.TheVariants.{AsText, AsBytes}
use Rattle.tr_events.specs.declared.layouts.Layout.{Layout}
use Rattle.tr_events.specs.declared.layouts.Layout.TheVariants.{One, Array, Sequence, Text, All}
use Rattle.tr_events.specs.declared.layouts.Number.{Number}
use Rattle.tr_events.specs.declared.layouts.Size.{Size}
use Rattle.tr_events.specs.declared.layouts.Size.TheVariants.{Bits8, Bits16, Bits32, Bits64}
use Rattle.tr_events.specs.declared.layouts.Sort.{Sort}
use Rattle.tr_events.specs.declared.layouts.Sort.TheVariants.{Unsigned, Signed, Hexadecimal, Floating, Flag}
use Rattle.tr_events.specs.Events.{Label, Field, Event, Declarations}
use Rattle.tr_events.specs.Variables.{Variable}

-- ---- types

abbrev pub size_word : Size → List ℕ
size_word Bits8 = codes "8"
size_word Bits16 = codes "16"
size_word Bits32 = codes "32"
size_word Bits64 = codes "64"

abbrev pub word_as : Sort → Size → List ℕ
word_as Unsigned size = 117 ∷ size_word size
word_as Signed size = 105 ∷ size_word size
word_as Hexadecimal size = 120 ∷ size_word size
word_as Floating size = 102 ∷ size_word size
word_as Flag size = codes "flag"

abbrev pub number_word : Number → List ℕ
number_word k = word_as k.sort k.size

-- ---- the declarations, a line an event

abbrev pub label_word : Label → List ℕ
label_word l = l.name ++ (61 ∷ signed_decimal l.value)

-- a label after another one
abbrev pub label_rest : Label → List ℕ
label_rest l = 44 ∷ label_word l

-- in braces, with commas between
abbrev pub labels_word : List Label → List ℕ
labels_word [] = []
labels_word (l ∷ labels) = 123 ∷ (label_word l ++ (flat_map label_rest labels ++ 125 ∷ []))

abbrev pub layout_word : Layout → List Label → List ℕ
layout_word (One k) labels = number_word k ++ labels_word labels
layout_word (Array k count) labels = number_word k ++ (91 ∷ (decimal count ++ 93 ∷ []))
layout_word (Sequence k) labels = number_word k ++ codes "[]"
layout_word Text labels = codes "str"
layout_word (All AsText) labels = codes "text"
layout_word (All AsBytes) labels = codes "bytes"

-- a space, the name, a colon and the type
abbrev pub field_word : Field → List ℕ
field_word f = 32 ∷ (f.name ++ (58 ∷ layout_word f.layout f.labels))

-- NAME ID FIELD:TYPE ..
abbrev pub event_word : Event → List ℕ
event_word e = e.name ++ (32 ∷ decimal e.id)

abbrev pub event_line : Event → List ℕ
event_line e = event_word e ++ (flat_map field_word e.fields ++ 10 ∷ [])

-- env NAME VALUE
abbrev pub env_line : Variable → List ℕ
env_line v = codes "env " ++ (v.name ++ (32 ∷ (v.value ++ 10 ∷ [])))

-- variables before events
abbrev pub declarations_text : Declarations → List ℕ
declarations_text d = flat_map env_line d.env ++ flat_map event_line d.events
