-- If no stream's part was released, none of an archive was.
use Rattle.std.proofs.Common.{◌≡◌, ℕ, zero, suc, Bool, true, false, List, [], ◌∷◌, ◌++◌, ◌==◌, Some, None, ap, arith, is_some, length, refl, sum_by, if◌then◌else◌}
use Rattle.std.specs.List.{AllByRecursion}
use Rattle.std.specs.Option.{option_map_or}
use Rattle.std.specs.Prelude.{slice_get}
use Rattle.std.proofs.lemmas.List.Sums.{sum_by-cons}
use Rattle.tr_book.specs.Parts.{PartState, part_at}
use Rattle.tr_recorded.specs.Recorded.{HasItsArchives}
use Rattle.tr_session.specs.Session.{SessionOf}
use Rattle.tr_session.specs.Sizes.{HoldsItsParts, archive_released, part_released}
use Rattle.tr_session_book.specs.declared.archive.Archive.{Archive}
use Rattle.tr_stream.specs.Rules.{by_state}
use Rattle.tr_stream.specs.State.{StreamState}

held-one : (p : PartState) → p.released ≡ None → part_released p ≡ 0
held-one p held = ap (λ r. if is_some r then 1 else 0) held

held-at : (closed : List PartState) (current : PartState) (k : ℕ) → AllByRecursion (λ (p : PartState). p.released ≡ None) (closed ++ current ∷ [])
    → (option_map_or part_released (slice_get closed k) 0 ≡ 0) × (part_released current ≡ 0)
held-at [] current k held = (refl, held-one current held.0)
held-at (p ∷ ps) current zero held = (held-one p held.0, (held-at ps current zero held.1).1)
held-at (p ∷ ps) current (suc k) held = held-at ps current k held.1

-- of the part of a chunk, if the stream has it
held-part : (s : StreamState) (k : ℕ) → HoldsItsParts s → option_map_or part_released (part_at k s.parts) 0 ≡ 0
held-part s k held = by_place (k == length s.parts.closed)
  where
    are : (option_map_or part_released (slice_get s.parts.closed k) 0 ≡ 0) × (part_released s.parts.current ≡ 0)
    are = held-at s.parts.closed s.parts.current k held.held

    by_place : (is_current : Bool)
        → option_map_or part_released (if is_current then Some s.parts.current else slice_get s.parts.closed k) 0 ≡ 0
    by_place true = are.1
    by_place false = are.0

held-streams : (streams : List StreamState) (k : ℕ) → AllByRecursion HoldsItsParts streams
    → sum_by (λ (t : StreamState). option_map_or part_released (part_at k t.parts) 0) streams ≡ 0
held-streams [] k held = refl
held-streams (s ∷ ss) k held =
    omega (
      arith,
      held-part s k held.0,
      held-streams ss k held.1,
      sum_by-cons (λ (t : StreamState). option_map_or part_released (part_at k t.parts) 0) s ss,
    )

pub held-archives : (s : SessionOf StreamState) → AllByRecursion HoldsItsParts s.streams → HasItsArchives s
held-archives s held = each s.book.archives
  where
    each : (archives : List Archive) → AllByRecursion (λ (a : Archive). archive_released by_state a.id s ≡ 0) archives
    each [] = tt
    each (a ∷ rest) = (held-streams s.streams a.id held, each rest)
