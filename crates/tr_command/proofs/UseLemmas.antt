-- What is read of the uses of an ordinary line.
use Rattle.std.proofs.Common.{◌≡◌, Bool, true, false, refl, List, [], ◌∷◌, Some, cond, map}
use Rattle.std.specs.Prelude.{find, option_and_then, slice_get}
use Rattle.std.specs.Str.{bytes_eq}
use Rattle.clap.specs.Walk.{Row, Text, first_of, one_of, row_text}
use Rattle.tr_command.specs.Ordinary.{row_of_use}
use Rattle.tr_command.specs.declared.uses.Use.{Use}
use Rattle.tr_command.specs.declared.uses.Use.TheVariants.{Text as TextUse, Given, LeftOut}

own_text : (u : Use) → row_text (row_of_use u) ≡ slice_get (row_of_use u).values 0
own_text (TextUse name text) = refl
own_text (Given name) = refl
own_text (LeftOut name) = refl

-- a value is read as it was written
pub one_of-first : (id : Text) (uses : List Use) → one_of id (map row_of_use uses) ≡ first_of id (map row_of_use uses)
one_of-first id [] = refl
one_of-first id (u ∷ uses) = go (bytes_eq (row_of_use u).id id) (one_of-first id uses)
  where
    go : (b : Bool) → one_of id (map row_of_use uses) ≡ first_of id (map row_of_use uses)
        → option_and_then row_text (cond b (Some (row_of_use u)) (find (λ r. bytes_eq r.id id) (map row_of_use uses)))
        ≡ option_and_then (λ (r : Row). slice_get r.values 0) (cond b (Some (row_of_use u)) (find (λ r. bytes_eq r.id id) (map row_of_use uses)))
    go true rest = own_text u
    go false rest = rest
