-- Loops over the arguments of a command, and over the table of commands.
use Rattle.std.proofs.Common.{◌≡◌, ◌∙◌, ◌||◌, ◌+◌, ◌<◌, ◌∷◌, ℕ, Bool, true, List, [], Option, Some, IfOk, Result, Ok, Err, false, ap, ap₂, cond, drop, get_or, length, map, sym, take}
use Rattle.std.specs.List.{find, fold, list_any}
use Rattle.std.proofs.lemmas.List.{drop_more, map-append, take_more}
use Rattle.std.proofs.lemmas.List.Sums.{fold-append}
use Rattle.clap.specs.Words.{App, app_of, with_subcommand}
use Rattle.clap.specs.declared.builder.command.Command.{Command}
use Rattle.clap.specs.declared.builder.command.Command.TheViews.{out-Command as fields_of}
use Rattle.tr_command.specs.Asked.{command_in}
use Rattle.tr_command.specs.Language.{command_app, with_command}
use Rattle.tr_command.specs.declared.commands.CommandRow.{CommandRow}

-- a fold over the first elements of a list, mapped, and one more
pub folded-more : {X Y B : Type 0} (f : X → Y) (g : B → Y → B) (z : B) (xs : List X) (i : ℕ) (x : X) → i < length xs
    → fold g z (map f (take (i + 1) xs)) ≡ g (fold g z (map f (take i xs))) (f (get_or xs i x))
folded-more f g z xs i x within =
    ap (λ ys. fold g z (map f ys)) (take_more xs i x within)
    ∙ ap (fold g z) (map-append f (take i xs) (get_or xs i x ∷ []))
    ∙ fold-append g z (map f (take i xs)) (f (get_or xs i x) ∷ [])

-- what is found from here on, if the element here passes the test, and if it doesn't
module _ {X Y : Type 0} (f : X → Y) (test : Y → Bool) (xs : List X) (i : ℕ) (x : X) (found : Option Y) where
  here : i < length xs → found ≡ find test (map f (drop i xs))
      → found ≡ cond (test (f (get_or xs i x))) (Some (f (get_or xs i x))) (find test (map f (drop (i + 1) xs)))
  here within is = is ∙ ap (λ ys. find test (map f ys)) (drop_more xs i x within)

  pub found-here : i < length xs → found ≡ find test (map f (drop i xs)) → test (f (get_or xs i x)) ≡ true → Some (f (get_or xs i x)) ≡ found
  found-here within is passes = sym (here within is ∙ ap (λ b. cond b (Some (f (get_or xs i x))) (find test (map f (drop (i + 1) xs)))) passes)

  pub found-later : i < length xs → found ≡ find test (map f (drop i xs)) → test (f (get_or xs i x)) ≡ false
      → found ≡ find test (map f (drop (i + 1) xs))
  found-later within is fails = here within is ∙ ap (λ b. cond b (Some (f (get_or xs i x))) (find test (map f (drop (i + 1) xs)))) fails

-- an element passes the test, if the element here does
pub any-here : {X Y : Type 0} (f : X → Y) (test : Y → Bool) (xs : List X) (i : ℕ) (x : X) → i < length xs → test (f (get_or xs i x)) ≡ true
    → list_any test (map f (drop i xs)) ≡ true
any-here f test xs i x within passes =
    ap (λ ys. list_any test (map f ys)) (drop_more xs i x within) ∙ ap (λ b. b || list_any test (map f (drop (i + 1) xs))) passes

-- a command line with the first commands of a table, and one more that was built
pub command-added : {E : Type 0} (z : App) (program joined built : Result Command E) (rows : List CommandRow) (i : ℕ) (row : CommandRow)
    → i < length rows → IfOk program (λ p. app_of p ≡ fold with_command z (map command_in (take i rows)))
    → IfOk built (λ b. app_of b ≡ command_app (command_in (get_or rows i row))) → IfOk built (λ b. (fields_of b).has_globals ≡ false)
    → IfOk joined (λ r. (c : Command) × (b : Command) × (program ≡ Ok c) × (built ≡ Ok b)
    × ((fields_of b).has_globals ≡ false → app_of r ≡ with_subcommand (app_of c) (app_of b).top))
    → IfOk joined (λ r. app_of r ≡ fold with_command z (map command_in (take (i + 1) rows)))
command-added z program (Err e) built rows i row within is shape local below = tt
command-added z program (Ok joined) built rows i row within is shape local below =
    below.4 (rw below.3 at local)
    ∙ ap₂ (λ (a b : App). with_subcommand a b.top) (rw below.2 at is) (rw below.3 at shape)
    ∙ sym (folded-more command_in with_command z rows i row within)
