-- A record's text, from its header and its payload.
use Rattle.std.proofs.Common.{◌≡◌, ℕ, List, ◌++◌, length, ap, ◌∙◌, append_assoc}
use Rattle.std.specs.Int.{w32, w64, to_le_bytes}
use Rattle.tr_record.specs.Records.{Entry, header_text, record_text}

-- four fields and the payload, one after another
in-one : (id moment serial len payload : List ℕ)
    → (id ++ (moment ++ (serial ++ len))) ++ payload ≡ id ++ (moment ++ (serial ++ (len ++ payload)))
in-one id moment serial len payload = simp append_assoc

pub record_written : (e : Entry) (out front whole header payload : List ℕ) → header ≡ header_text e → front ≡ out ++ header
    → whole ≡ front ++ payload → payload ≡ e.payload → whole ≡ out ++ record_text e
record_written e out front whole header payload is first then same =
    then ∙ ap (λ (a : List ℕ). a ++ payload) (first ∙ ap (λ (h : List ℕ). out ++ h) is)
    ∙ append_assoc out (header_text e) payload
    ∙ ap (λ (p : List ℕ). out ++ (header_text e ++ p)) same
    ∙ ap (λ (t : List ℕ). out ++ t)
    (in-one (to_le_bytes w32 e.id) (to_le_bytes w64 e.moment) (to_le_bytes w64 e.serial) (to_le_bytes w32 (length e.payload)) e.payload)
