-- What is known of ids beside the events themselves.
use Rattle.std.specs.Prelude.{◌≡◌, ◌≤◌, ◌==◌, ℕ, List, [], length, Option, Some, None, Vec, slice_index_or}
use Rattle.tr_events.specs.declared.ids.Known.{Known}
use Rattle.tr_events.specs.declared.ids.Known.TheVariants.{Free, Exact, Ask}
use Rattle.tr_events.specs.Declarations.{AreDeclared}
use Rattle.tr_events.specs.Events.{Declarations, Event, event_with, fits_among}

-- no id from this one on is declared
abbrev pub IsBound : List Event → ℕ → Type 0
IsBound events bound = (id : ℕ) → bound ≤ id → event_with id events ≡ None

-- what an entry says of an id: it isn't declared, a payload fits if it has this size, or nothing
abbrev pub Says : List Event → ℕ → Known → Type 0
Says events id Free = event_with id events ≡ None
Says events id (Exact size) = (payload : List ℕ) → fits_among events id payload ≡ (length payload == size)
Says events id Ask = Unit {0}

-- each entry says what is so; of other ids they say nothing
abbrev pub AreSo : List Event → List Known → Type 0
AreSo events entries = (id : ℕ) → Says events id (slice_index_or entries id Ask)

-- declared events, with what is known of their ids
pub record AreKnown (d : Declarations) (limit : ℕ) (entries : List Known) : Type 0 where
  pub declared : AreDeclared d
  pub bound : IsBound d.events limit
  pub so : AreSo d.events entries

-- what is in a list, if there is one
abbrev pub kept : {X Z : Type 0} → Option (Vec X Z) → List X
kept None = []
kept (Some list) = list.items
