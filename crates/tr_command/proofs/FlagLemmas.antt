-- What a flag that was read says of its text.
use Rattle.std.proofs.Common.{◌≡◌, Bool, true, false, refl, sym, codes, Option, Some, None}
use Rattle.std.specs.Option.{option_map_or, unwrap_or}
use Rattle.std.specs.Str.{bytes_eq}
use Rattle.std.specs.Str.Parse.{ParsesBool}
use Rattle.std.proofs.lemmas.Bool.{false_from_ne_true}
use Rattle.std.proofs.lemmas.Slice.Eq.{bytes_eq-Decides}
use Rattle.clap.specs.Words.{ReadsOne, Text}

-- a text that is read as a truth value is read as true if it is `true`, and only then
read-is_true : (E : Type 0) (text : Text) (read : Option Bool) → ReadsOne (ParsesBool {E = E}) text read
    → unwrap_or read false ≡ bytes_eq (codes "true") text
read-is_true E text (Some true) h = rw h refl
read-is_true E text (Some false) h = rw h refl
read-is_true E text None h = sym (false_from_ne_true _ (λ e. h.1.0 (sym ((bytes_eq-Decides (codes "true") text).0 e))))

-- without a text it is read as false
pub flag-read : (E : Type 0) (text : Option Text) (read : Option Bool) → (text ≡ None → read ≡ None)
    → ((t : Text) → text ≡ Some t → ReadsOne (ParsesBool {E = E}) t read)
    → unwrap_or read false ≡ option_map_or (bytes_eq (codes "true")) text false
flag-read E None read none value = rw (none refl) refl
flag-read E (Some t) read none value = read-is_true E t read (value t refl)
