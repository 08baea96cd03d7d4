-- A session by what its streams hold, and the same by their histories.
use Rattle.std.specs.Prelude.{◌≡◌, ℕ, ◌≤◌, List, [], ◌∷◌}
use Rattle.tr_terms.specs.Geometry.{GeometryState}
use Rattle.tr_terms.specs.declared.limits.TheConstants.{FEWEST_SUB_BUFFERS, SMALLEST_SUB_BUFFER}
use Rattle.tr_session.specs.Session.{SessionOf}
use Rattle.tr_session_book.specs.declared.channel.Channel.{Channel}
use Rattle.tr_stream.specs.Rules.{Traced, Agrees}
use Rattle.tr_stream.specs.State.{StreamState}

-- each stream agrees with the history of its number
abbrev pub AllAgree : List StreamState → List Traced → Type 0
AllAgree [] [] = Unit {0}
AllAgree [] (t ∷ ts) = ⊥
AllAgree (s ∷ ss) [] = ⊥
AllAgree (s ∷ ss) (t ∷ ts) = Agrees s t × AllAgree ss ts

-- rings of such sub-buffers can be made
abbrev pub CanBeMade : GeometryState → Type 0
CanBeMade g = (SMALLEST_SUB_BUFFER ≤ g.size) × (FEWEST_SUB_BUFFERS ≤ g.count)

abbrev pub AllCanBeMade : List (List ℕ × Channel) → Type 0
AllCanBeMade [] = Unit {0}
AllCanBeMade (c ∷ cs) = CanBeMade c.1.geometry × AllCanBeMade cs

-- the same book, and streams that agree
pub record SessionsAgree (a : SessionOf StreamState) (b : SessionOf Traced) : Type 0 where
  pub book : a.book ≡ b.book
  pub streams : AllAgree a.streams b.streams
  pub made : AllCanBeMade a.book.channels
