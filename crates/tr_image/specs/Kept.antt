-- Which packets of an image are kept: of each stream and number one, the one with the most records.
use Rattle.std.specs.Prelude.{◌≡◌, ◌≤◌, Bool, true, ◌&&◌, ◌||◌, ◌==◌, nat_lt, List, [], ◌∷◌, ℕ, ◌⊎◌, length, if◌then◌else◌}
use Rattle.std.specs.List.{AllByRecursion}
use Rattle.tr_packet.specs.Packets.{Contents}
use Rattle.tr_image.specs.Image.{packets_in}

-- by its stream, and then by its number
abbrev pub comes_before : Contents → Contents → Bool
comes_before p q = nat_lt p.head.stream q.head.stream || ((p.head.stream == q.head.stream) && nat_lt p.head.seq q.head.seq)

-- the one with more records, else the first
abbrev pub fuller : Contents → Contents → Contents
fuller q p = if nat_lt (length q.records) (length p.records) then p else q

-- a packet takes its place among those that are kept, or that of the one of its stream and number if it has more records
abbrev pub placed : Contents → List Contents → List Contents
placed p [] = p ∷ []
placed p (q ∷ kept) =
    if comes_before q p then q ∷ placed p kept else (if comes_before p q then p ∷ q ∷ kept else fuller q p ∷ kept)

-- one after another
abbrev pub gathered : List Contents → List Contents → List Contents
gathered kept [] = kept
gathered kept (p ∷ ps) = gathered (placed p kept) ps

-- what is recovered of a trace from an image
abbrev pub recovered_from : List ℕ → List ℕ → List Contents
recovered_from uuid image = gathered [] (packets_in uuid image)

-- a packet of the same stream and number has as many records, or more
pub record StandsFor (p q : Contents) : Type 0 where
  pub stream : p.head.stream ≡ q.head.stream
  pub seq : p.head.seq ≡ q.head.seq
  pub records : length p.records ≤ length q.records

-- one of them does
abbrev pub OneOf : (Contents → Type 0) → List Contents → Type 0
OneOf Does [] = ⊥
OneOf Does (p ∷ ps) = Does p ⊎ OneOf Does ps

-- each comes before all that follow it
abbrev pub AreInOrder : List Contents → Type 0
AreInOrder [] = Unit {0}
AreInOrder (p ∷ ps) = AllByRecursion (λ q. comes_before p q ≡ true) ps × AreInOrder ps
