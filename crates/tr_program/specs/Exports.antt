-- What a run of the program makes below a folder.
use Rattle.std.specs.Prelude.{◌≡◌, ℕ, List, Option, Some, None}
use Rattle.std.specs.List.{flat_map}
use Rattle.tr_console.specs.World.{World}
use Rattle.tr_export.specs.Archives.{archives_made}
use Rattle.tr_export.specs.Making.{Makings, and_then_made}
use Rattle.tr_stream.specs.State.{StreamState}

-- the archives of every session, in order of creation
abbrev pub all_made : List ℕ → World StreamState → Makings
all_made dir w = flat_map (λ e. archives_made dir e.0 e.1) w.sessions

-- these archives were made below the folder; nothing, if none is named
abbrev pub IsMadeBelow : Option (List ℕ) → World StreamState → Option Makings → Option Makings → Type 0
IsMadeBelow None w before after = after ≡ before
IsMadeBelow (Some dir) w before after = after ≡ and_then_made before (all_made dir w)
