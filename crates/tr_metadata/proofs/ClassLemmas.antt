-- The text of a sequence's members, and of declared events.
use Rattle.std.proofs.Common.{◌≡◌, ℕ, false, List, [], ◌∷◌, ◌++◌, sym, ◌∙◌, ap, append_assoc, append-nil}
use Rattle.std.specs.Prelude.{codes}
use Rattle.std.specs.List.{flat_map}
use Rattle.tr_events.specs.declared.layouts.Layout.TheVariants.{Sequence}
use Rattle.tr_events.specs.declared.layouts.Number.{Number}
use Rattle.tr_events.specs.Events.{Declarations, Field, Label, is_nothing}
use Rattle.tr_events.specs.Words.{number_word}
use Rattle.tr_metadata.specs.Metadata.{member_text, field_text, typed_metadata, metadata_with}
use Rattle.tr_metadata.specs.Reader.{members_as}
use Rattle.tr_metadata.proofs.RecoveryLemmas.{typedly}

-- the text of a sequence's members
abbrev pub sequence_text : (name word : List ℕ) → List ℕ
sequence_text name word =
    codes "    u32_t _" ++ (name ++ (codes "_length;\n    " ++ (word ++ (codes "_t _" ++ (name ++ (codes "[_" ++ (name ++ codes "_length];\n")))))))

-- in the order of the two members
regrouped : (a n l e s w t b c : List ℕ) → a ++ (n ++ (l ++ (e ++ (s ++ (w ++ (t ++ (n ++ (b ++ (n ++ (l ++ c))))))))))
    ≡ (a ++ ((n ++ l) ++ e)) ++ ((s ++ (w ++ (t ++ (n ++ (b ++ ((n ++ l) ++ c)))))) ++ [])
regrouped a n l e s w t b c = simp (append_assoc, append-nil)

sequence_parts : (name word : List ℕ) → sequence_text name word
    ≡ (codes "    u32_t _" ++ ((name ++ codes "_length") ++ codes ";\n"))
    ++ ((codes "    " ++ (word ++ (codes "_t _" ++ (name ++ (codes "[_" ++ ((name ++ codes "_length") ++ codes "];\n")))))) ++ [])
sequence_parts name word = regrouped (codes "    u32_t _") name (codes "_length") (codes ";\n") (codes "    ") word (codes "_t _") (codes "[_") (codes "];\n")

-- as the members of a sequence
members_written : (name : List ℕ) (labels : List Label) (k : Number)
    → sequence_text name (number_word k) ≡ flat_map member_text (members_as (95 ∷ name) labels (Sequence k))
members_written name labels k =
    sequence_parts name (number_word k)
    ∙ ap (λ t. (codes "    u32_t _" ++ ((name ++ codes "_length") ++ codes ";\n")) ++ (codes "    " ++ t ++ []))
    (sym (append_assoc (number_word k) (codes "_t") (codes " _" ++ (name ++ (codes "[_" ++ ((name ++ codes "_length") ++ codes "];\n"))))))

pub sequence_written : (f : Field) (k : Number) (name word old new : List ℕ) → f.layout ≡ Sequence k → name ≡ f.name → word ≡ number_word k
    → new ≡ old ++ sequence_text name word → new ≡ old ++ field_text f
sequence_written f k name word old new layout name-is word-is e =
    e ∙ ap (λ t. old ++ t) (ap (λ n. sequence_text n word) name-is ∙ ap (sequence_text f.name) word-is ∙ members_written f.name f.labels k
    ∙ ap (λ l. flat_map member_text (members_as (95 ∷ f.name) f.labels l)) (sym layout))

-- if something is declared
pub metadata_typed : (d : Declarations) (uuid text : List ℕ) → is_nothing d ≡ false → text ≡ typed_metadata d uuid → text ≡ metadata_with d uuid
metadata_typed d uuid text some e = e ∙ sym (typedly d uuid some)
