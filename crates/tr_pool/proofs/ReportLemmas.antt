-- The sums over the first streams.
use Rattle.std.proofs.Common.{◌≡◌, ℕ, zero, suc, ◌+◌, ◌*◌, ◌^◌, ◌<◌, ◌≤◌, List, [], ◌∷◌, Some, take, ap, sym, ◌∙◌, arith, subst, ⊎_elim}
use Rattle.std.specs.List.{sum_by}
use Rattle.std.specs.Prelude.{slice_get}
use Rattle.std.proofs.lemmas.Bool.{cases_lt}
use Rattle.std.proofs.lemmas.Grind.{common_steps}
use Rattle.tr_book.specs.declared.counts.Counts.{Counts}
use Rattle.tr_pool.specs.Logs.{AgreeBelow, Agrees, report_of}
use Rattle.tr_pool.specs.Reports.{HasRoomFor, with_counts}
use Rattle.tr_pool.specs.declared.log.Log.{Log}
use Rattle.tr_pool.specs.declared.report.Report.{Report}
use Rattle.tr_stream.specs.Calls.{in_parts, in_ring, state_counts}
use Rattle.tr_stream.specs.State.{StreamState}
use Rattle.tr_terms.specs.declared.limits.TheConstants.{MOST_STREAMS}

sum-more : {X : Type 0} (f : X → ℕ) (n : ℕ) (xs : List X) (x : X) → slice_get xs n ≡ Some x → sum_by f (take (n + 1) xs) ≡ sum_by f (take n xs) + f x
sum-more f n [] x at = absurd cc
sum-more f zero (y ∷ ys) x at = let same : y ≡ x = cc in grind (arith, common_steps, same)
sum-more f (suc n) (y ∷ ys) x at = let rest = sum-more f n ys x at in let one : suc n + 1 ≡ suc (n + 1) =
    omega arith in grind (arith, common_steps, rest, one)

pub reports-more : (n : ℕ) (streams : List StreamState) (s : StreamState) → slice_get streams n ≡ Some s
    → with_counts (report_of (take n streams)) (state_counts s) ≡ report_of (take (n + 1) streams)
reports-more n streams s at = λ i. record {
  offered = sym (sum-more (λ (t : StreamState). t.counters.offered) n streams s at) i;
  discarded = sym (sum-more (λ (t : StreamState). t.ring.discarded) n streams s at) i;
  overwritten = sym (sum-more (λ (t : StreamState). t.counters.overwritten) n streams s at) i;
  in_ring = sym (sum-more (λ (t : StreamState). in_ring t.ring) n streams s at) i;
  in_chunks = sym (sum-more (λ (t : StreamState). in_parts t.parts) n streams s at) i;
  cleared = sym (sum-more (λ (t : StreamState). t.counters.cleared) n streams s at) i;
}

-- each sum over n streams is at most this
abbrev pub IsSmall : ℕ → Report → Type 0
IsSmall n r = (r.offered ≤ n * 2 ^ 64) × (r.discarded ≤ n * 2 ^ 64) × (r.overwritten ≤ n * 2 ^ 64) × (r.in_ring ≤ n * 2 ^ 64)
    × (r.in_chunks ≤ n * 2 ^ 64) × (r.cleared ≤ n * 2 ^ 64)

-- counts fit a u64
abbrev pub AreCounts : Counts → Type 0
AreCounts c = (c.offered < 2 ^ 64) × (c.discarded < 2 ^ 64) × (c.overwritten < 2 ^ 64) × (c.in_ring < 2 ^ 64)
    × (c.in_chunks < 2 ^ 64) × (c.cleared < 2 ^ 64)

fits : (i n size part : ℕ) → i < n → n ≤ MOST_STREAMS → size ≤ i * 2 ^ 64 → part < 2 ^ 64 → size + part < 2 ^ 128
fits i n size part within few all one = omega (arith, within, few, all, one)

pub has-room : (i n : ℕ) (r : Report) (c : Counts) → i < n → n ≤ MOST_STREAMS → IsSmall i r → AreCounts c → HasRoomFor r c
has-room i n r c within few small are = (
  fits i n r.offered c.offered within few small.0 are.0,
  fits i n r.discarded c.discarded within few small.1 are.1,
  fits i n r.overwritten c.overwritten within few small.2 are.2,
  fits i n r.in_ring c.in_ring within few small.3 are.3,
  fits i n r.in_chunks c.in_chunks within few small.4 are.4,
  fits i n r.cleared c.cleared within few small.5 are.5,
)

pub small-more : (i : ℕ) (r : Report) (c : Counts) → IsSmall i r → AreCounts c → IsSmall (i + 1) (with_counts r c)
small-more i r c small are = (
  omega (arith, small.0, are.0),
  omega (arith, small.1, are.1),
  omega (arith, small.2, are.2),
  omega (arith, small.3, are.3),
  omega (arith, small.4, are.4),
  omega (arith, small.5, are.5),
)

pub agree-more : (logs : List Log) (streams : List StreamState) (n : ℕ) (s : StreamState) → slice_get streams n ≡ Some s
    → AgreeBelow logs streams n → Agrees logs n s → AgreeBelow logs streams (n + 1)
agree-more logs streams n s at before here i t low is =
    ⊎_elim
    (λ (below : i < n). before i t below is)
    (λ (past : n ≤ i).
    let same : n ≡ i = omega (arith, past, low) in
    let one : s ≡ t = let both : Some s ≡ Some t = sym at ∙ ap (λ k. slice_get streams k) same ∙ is in cc in
    subst (λ x. Agrees logs i x) one (subst (λ k. Agrees logs k s) same here))
    (cases_lt i n)
