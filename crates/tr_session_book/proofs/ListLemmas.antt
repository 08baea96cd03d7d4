-- What a reference by place shows.
use Rattle.std.proofs.Common.{◌≡◌, ℕ, List, length, Option, Some, None, refl, sym}
use Rattle.std.proofs.lemmas.Option.{slice_get_past, slice_get_read}
use Rattle.std.specs.Borrow.{Bor}
use Rattle.std.specs.Prelude.{option_copied, slice_get}
use Rattle.std.specs.Slice.{IsItemAt}

module _ {X : Type 0} where
  -- what a reference by place shows
  pub copied-item : (xs : List X) (i : ℕ) (r : Option (Bor X)) → IsItemAt xs i r → option_copied r ≡ slice_get xs i
  copied-item xs i None is = sym (slice_get_past xs i is.3)
  copied-item xs i (Some x) is = sym (slice_get_read xs (length xs) i x.now refl (is.3).0 is.1)
