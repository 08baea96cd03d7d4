-- How much an archive holds, one stream after another.
use Rattle.std.proofs.Common.{◌≡◌, ℕ, ◌+◌, ◌*◌, ◌^◌, ◌≤◌, ◌<◌, zero, suc, Bool, true, false, List, [], ◌∷◌, Option, None, Some, arith, length, refl, sym, take}
use Rattle.std.proofs.lemmas.Grind.{common_steps}
use Rattle.std.specs.Borrow.{Bor}
use Rattle.std.specs.List.{sum_by}
use Rattle.std.specs.Option.{option_map_or}
use Rattle.std.specs.Prelude.{◌==◌, IfSome, IsSome, if◌then◌else◌, slice_get}
use Rattle.tr_book.specs.Parts.{PartsState, part_at, part_bytes, part_packets, part_records}
use Rattle.tr_session.specs.Session.{HasArchivedParts, IsStreamOf, SessionOf}
use Rattle.tr_session.specs.declared.archive_size.ArchiveSize.{ArchiveSize}
use Rattle.tr_session_book.specs.Book.{SessionBookState}
use Rattle.tr_session_book.specs.BookSteps.{is_cut}
use Rattle.tr_stream.specs.Rules.{by_state}
use Rattle.tr_stream.specs.State.{StreamState}
use Rattle.tr_terms.specs.declared.limits.TheConstants.{LARGEST_PACKET, MOST_STREAMS}
use Rattle.tr_session.specs.Sizes.{part_released}

pub sum-more : {X : Type 0} (f : X → ℕ) (n : ℕ) (xs : List X) (x : X) → slice_get xs n ≡ Some x → sum_by f (take (n + 1) xs) ≡ sum_by f (take n xs) + f x
sum-more f n [] x at = absurd cc
sum-more f zero (y ∷ ys) x at = let same : y ≡ x = cc in grind (arith, common_steps, same)
sum-more f (suc n) (y ∷ ys) x at = let rest = sum-more f n ys x at in let one : suc n + 1 ≡ suc (n + 1) =
    omega arith in grind (arith, common_steps, rest, one)

-- the sizes of the first streams, at most these
pub record TalliesSo (n id : ℕ) (s : SessionOf StreamState) (size : ArchiveSize) : Type 0 where
  pub packets : size.packets ≡ sum_by (λ t. option_map_or part_packets (by_state.part id t) 0) (take n s.streams)
  pub records : size.records ≡ sum_by (λ t. option_map_or part_records (by_state.part id t) 0) (take n s.streams)
  pub bytes : size.bytes ≡ sum_by (λ t. option_map_or part_bytes (by_state.part id t) 0) (take n s.streams)
  pub released : size.released ≡ sum_by (λ t. option_map_or part_released (by_state.part id t) 0) (take n s.streams)
  pub few : (size.packets ≤ n * 2 ^ 64) × (size.records ≤ n * 2 ^ 64) × (size.bytes ≤ n * (LARGEST_PACKET * 2 ^ 64))
      × (size.released ≤ n)

pub tallies-more : (n id : ℕ) (s : SessionOf StreamState) (size part : ArchiveSize) (t : StreamState)
    → TalliesSo n id s size → slice_get s.streams n ≡ Some t
    → part.packets ≡ option_map_or part_packets (by_state.part id t) 0 → part.records ≡ option_map_or part_records (by_state.part id t) 0
    → part.bytes ≡ option_map_or part_bytes (by_state.part id t) 0
    → part.released ≡ option_map_or part_released (by_state.part id t) 0
    → (part.packets < 2 ^ 64) × (part.records < 2 ^ 64) × (part.bytes < LARGEST_PACKET * 2 ^ 64) × (part.released ≤ 1)
    → TalliesSo (n + 1) id s (record {
      packets = size.packets + part.packets;
      records = size.records + part.records;
      bytes = size.bytes + part.bytes;
      released = size.released + part.released;
    })
tallies-more n id s size part t so at packets records bytes released few = record {
  packets = let more = sum-more (λ u. option_map_or part_packets (by_state.part id u) 0) n s.streams t at in rw (so.packets, packets) (sym more);
  records = let more = sum-more (λ u. option_map_or part_records (by_state.part id u) 0) n s.streams t at in rw (so.records, records) (sym more);
  bytes = let more = sum-more (λ u. option_map_or part_bytes (by_state.part id u) 0) n s.streams t at in rw (so.bytes, bytes) (sym more);
  released = let more = sum-more (λ u. option_map_or part_released (by_state.part id u) 0) n s.streams t at in rw (so.released, released) (sym more);
  few = (
    omega (arith, so.few.0, few.0),
    omega (arith, so.few.1, few.1),
    omega (arith, so.few.2, few.2),
    omega (arith, so.few.3, few.3),
  );
}

-- the sums fit, since there are few streams
pub fits-count : (i n size part : ℕ) → i < n → n ≤ MOST_STREAMS → size ≤ i * 2 ^ 64 → part < 2 ^ 64 → size + part < 2 ^ 128
fits-count i n size part within few all one = omega (arith, within, few, all, one)

pub fits-bytes : (i n size part : ℕ) → i < n → n ≤ MOST_STREAMS → size ≤ i * (LARGEST_PACKET * 2 ^ 64) → part < LARGEST_PACKET * 2 ^ 64 → size + part < 2 ^ 128
fits-bytes i n size part within few all one = omega (arith, within, few, all, one)

-- a record has at most as many bytes as the largest packet
pub fits-part : (bytes n records : ℕ) → bytes ≤ LARGEST_PACKET * records → n ≡ records → n < 2 ^ 64 → bytes < LARGEST_PACKET * 2 ^ 64
fits-part bytes n records small is few = omega (arith, small, is, few)

-- ---- a stream's parts of archived chunks

item-within : {X : Type 0} (xs : List X) (i : ℕ) → i < length xs → IsSome (slice_get xs i)
item-within [] i within = absurd (omega (arith, within))
item-within (x ∷ xs) zero within = refl
item-within (x ∷ xs) (suc i) within = item-within xs i (grind (arith, common_steps, within))

part-closed : (ps : PartsState) (id : ℕ) → id < length ps.closed → IsSome (part_at id ps)
part-closed ps id within = go (id == length ps.closed)
  where
    go : (b : Bool) → IsSome (if b then Some ps.current else slice_get ps.closed id)
    go true = refl
    go false = item-within ps.closed id within

pub archived-parts : (b : SessionBookState) (i : ℕ) (o : Option (Bor StreamState)) → IfSome o (λ t. IsStreamOf b i t.now)
    → IfSome o (λ t. HasArchivedParts b t.now)
archived-parts b i None is = tt
archived-parts b i (Some t) is = λ id below.
    let closed : length t.now.parts.closed ≡ length b.archives + (if is_cut i b.pending then 1 else 0) = is.closed in
    part-closed t.now.parts id (omega (arith, closed, below))
