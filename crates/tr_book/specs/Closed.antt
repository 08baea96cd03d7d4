-- The closed parts as they are kept: of those that are forgotten contracts alone know what they were.
use Rattle.std.specs.Prelude.{◌≡◌, ◌+◌, ◌<◌, ◌^◌, ℕ, List, ◌++◌, length, map, vec_capacity, vec_len}
use Rattle.tr_book.specs.Parts.{AreReleased, PartState, PartsState, begun_at, parts_state}
use Rattle.tr_book.specs.declared.runs.Run.{Run}
use Rattle.tr_book.specs.declared.closed.ClosedParts.{ClosedParts}
use Rattle.tr_book.specs.declared.closed.Gone.{Gone}

module _ {A : Type 0} where
  -- the parts that are forgotten, and where the part after each of them began
  abbrev pub gone_parts : List (Gone A) → List PartState
  gone_parts gone = map (λ g. g.part.of) gone

  abbrev pub gone_starts : List (Gone A) → List ℕ
  gone_starts gone = map (λ g. g.next.of) gone

  -- all closed parts in order
  abbrev pub closed_of : ClosedParts A → List PartState
  closed_of c = gone_parts c.gone.items ++ c.parts.items

  -- where the parts after each of them began
  abbrev pub starts_of : ClosedParts A → List ℕ
  starts_of c = gone_starts c.gone.items ++ c.starts.items

  abbrev pub forgotten_of : ClosedParts A → ℕ
  forgotten_of c = length c.gone.items

  -- after each part one began, forgotten ones were released, and the part after these began at this serial
  pub record IsClosed (c : ClosedParts A) : Type 0 where
    pub paired : length c.starts.items ≡ length c.parts.items
    pub released : AreReleased (gone_parts c.gone.items)
    pub begun : c.begin ≡ begun_at (forgotten_of c) (starts_of c)
    pub few : length (closed_of c) < 2 ^ 63

  -- the lists of parts and of their ends have room for one more
  pub record HasRoom (c : ClosedParts A) : Type 0 where
    pub one_part : vec_len c.parts < vec_capacity c.parts
    pub one_start : vec_len c.starts < vec_capacity c.starts
    pub few : length (closed_of c) + 1 < 2 ^ 63

  -- with this current part, and these runs of cleared packets
  abbrev pub parts_of : ClosedParts A → PartState → List Run → PartsState
  parts_of c current cleared = parts_state (closed_of c) current cleared (starts_of c) (forgotten_of c)
