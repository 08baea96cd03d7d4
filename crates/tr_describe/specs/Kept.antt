-- What texts in memory keep.
use Rattle.std.specs.Prelude.{List, map, String, string_bytes}
use Rattle.tr_describe.specs.Put.{Text, text_at}

-- paths and texts as their bytes
abbrev pub put_by_text : {Z : Type 0} → List (String Z × String Z) → List Text
put_by_text {Z = Z} = map (λ (p : String Z × String Z). text_at (string_bytes p.0) (string_bytes p.1))
