-- Which serials are in runs, and how many.
use Rattle.std.proofs.Common.{◌≡◌, ℕ, ◌+◌, ◌-◌, Bool, true, false, cond, eqb, leb, ltb, List, [], ◌∷◌, ◌++◌, length, map, Option, Some, refl, sym, ◌∙◌, ap, arith}
use Rattle.std.proofs.lemmas.Bool.Decides.{nat_tests}
use Rattle.std.proofs.lemmas.Grind.{common_steps}
use Rattle.std.proofs.lemmas.List.Sums.{sum_by-append, sum_by-cons}
use Rattle.std.specs.Prelude.{◌&&◌, ◌||◌, sum_by}
use Rattle.tr_book.specs.Parts.{seq_among}
use Rattle.tr_book.specs.Runs.{packet_runs, run_of, runs_of, runs_on, seq_in_runs}
use Rattle.tr_book.specs.declared.runs.Run.{Run}
use Rattle.tr_packet.specs.Packets.{Contents}
use Rattle.tr_record.specs.Records.{Entry, has_serial}
use Rattle.tr_ring.specs.ClosedBuffer.{ClosedBuffer}
use Rattle.tr_ring.specs.Ring.{seq_waiting}
use Rattle.tr_stream.specs.Chunks.{buffer_runs, packet_of}
use Rattle.tr_stream.specs.State.{records_in}
use Rattle.tr_stream.specs.declared.config.StreamConfig.{StreamConfig}

abbrev is_in : ℕ → ℕ → ℕ → Bool
is_in n first count = leb first n && ltb (n - first) count

or_false : (b : Bool) → (b || false) ≡ b
or_false true = refl
or_false false = refl

-- one serial more
in-more : (n first count : ℕ) → is_in n first (count + 1) ≡ (is_in n first count || eqb (first + count) n)
in-more n first count = grind (arith, nat_tests)

in-one : (n first : ℕ) → is_in n first 1 ≡ eqb first n
in-one n first = grind (arith, nat_tests)

or_assoc : (a b c : Bool) → ((a || b) || c) ≡ (a || (b || c))
or_assoc true b c = refl
or_assoc false b c = refl

one-run : (n seq first count : ℕ) (rest : List Run)
    → seq_in_runs n (run_of seq first count ∷ rest) ≡ cond (is_in n first count) (Some seq) (seq_in_runs n rest)
one-run n seq first count rest = either (is_in n first count) refl
  where
    either : (b : Bool) → is_in n first count ≡ b
        → seq_in_runs n (run_of seq first count ∷ rest) ≡ cond (is_in n first count) (Some seq) (seq_in_runs n rest)
    either true e = rw e refl
    either false e = rw e refl

cond_or : {X : Type 0} (a b : Bool) (x y : X) → cond a x (cond b x y) ≡ cond (a || b) x y
cond_or true b x y = refl
cond_or false b x y = refl

-- what the runs of records say of a serial
on-has : (n seq first count : ℕ) (es : List Entry) (rest : List Run)
    → seq_in_runs n (runs_on seq first count es ++ rest)
    ≡ cond (is_in n first count || has_serial n es) (Some seq) (seq_in_runs n rest)
on-has n seq first count [] rest =
    one-run n seq first count rest ∙ ap (λ (b : Bool). cond b (Some seq) (seq_in_runs n rest)) (sym (or_false (is_in n first count)))
on-has n seq first count (e ∷ es) rest =
    either (on-has n seq first (count + 1) es rest) (on-has n seq e.serial 1 es rest) (eqb e.serial (first + count)) refl
  where
    either : seq_in_runs n (runs_on seq first (count + 1) es ++ rest)
        ≡ cond (is_in n first (count + 1) || has_serial n es) (Some seq) (seq_in_runs n rest)
        → seq_in_runs n (runs_on seq e.serial 1 es ++ rest)
        ≡ cond (is_in n e.serial 1 || has_serial n es) (Some seq) (seq_in_runs n rest)
        → (b : Bool) → eqb e.serial (first + count) ≡ b
        → seq_in_runs n (cond b (runs_on seq first (count + 1) es) (run_of seq first count ∷ runs_on seq e.serial 1 es) ++ rest)
        ≡ cond (is_in n first count || (eqb e.serial n || has_serial n es)) (Some seq) (seq_in_runs n rest)
    either longer other true f =
        let same : e.serial ≡ first + count = grind (arith, nat_tests, f) in
        longer
        ∙ ap (λ (b : Bool). cond (b || has_serial n es) (Some seq) (seq_in_runs n rest)) (in-more n first count)
        ∙ ap (λ (b : Bool). cond b (Some seq) (seq_in_runs n rest))
        (or_assoc (is_in n first count) (eqb (first + count) n) (has_serial n es))
        ∙ ap (λ (m : ℕ). cond (is_in n first count || (eqb m n || has_serial n es)) (Some seq) (seq_in_runs n rest)) (sym same)
    either longer other false f =
        one-run n seq first count (runs_on seq e.serial 1 es ++ rest)
        ∙ ap (λ (q : Option ℕ). cond (is_in n first count) (Some seq) q)
        (other ∙ ap (λ (b : Bool). cond (b || has_serial n es) (Some seq) (seq_in_runs n rest)) (in-one n e.serial))
        ∙ cond_or (is_in n first count) (eqb e.serial n || has_serial n es) (Some seq) (seq_in_runs n rest)

pub of-has : (n seq : ℕ) (es : List Entry) (rest : List Run)
    → seq_in_runs n (runs_of seq es ++ rest) ≡ cond (has_serial n es) (Some seq) (seq_in_runs n rest)
of-has n seq [] rest = refl
of-has n seq (e ∷ es) rest = on-has n seq e.serial 1 es rest
    ∙ ap (λ (b : Bool). cond (b || has_serial n es) (Some seq) (seq_in_runs n rest)) (in-one n e.serial)

-- the runs of sub-buffers have the serials that these had
pub runs-have : (n : ℕ) (bs : List ClosedBuffer) → seq_in_runs n (buffer_runs bs) ≡ seq_waiting n bs
runs-have n [] = refl
runs-have n (b ∷ bs) =
    of-has n b.seq b.records (buffer_runs bs)
    ∙ ap (λ (q : Option ℕ). cond (has_serial n b.records) (Some b.seq) q) (runs-have n bs)
    ∙ first_of (has_serial n b.records) refl
  where
    first_of : (h : Bool) → has_serial n b.records ≡ h
        → cond (has_serial n b.records) (Some b.seq) (seq_waiting n bs) ≡ seq_waiting n (b ∷ bs)
    first_of true e = rw e refl
    first_of false e = rw e refl

-- and so do the runs of packets
pub packets-have : (n : ℕ) (ps : List Contents) → seq_in_runs n (packet_runs ps) ≡ seq_among n ps
packets-have n [] = refl
packets-have n (p ∷ ps) =
    of-has n p.head.seq p.records (packet_runs ps)
    ∙ ap (λ (q : Option ℕ). cond (has_serial n p.records) (Some p.head.seq) q) (packets-have n ps)
    ∙ first_of (has_serial n p.records) refl
  where
    first_of : (h : Bool) → has_serial n p.records ≡ h
        → cond (has_serial n p.records) (Some p.head.seq) (seq_among n ps) ≡ seq_among n (p ∷ ps)
    first_of true e = rw e refl
    first_of false e = rw e refl

-- packets have the runs of their sub-buffers
pub packet_runs-are : (c : StreamConfig) (bs : List ClosedBuffer) → packet_runs (map (packet_of c) bs) ≡ buffer_runs bs
packet_runs-are c [] = refl
packet_runs-are c (b ∷ bs) = ap (λ (rs : List Run). runs_of b.seq b.records ++ rs) (packet_runs-are c bs)

-- runs have as many records as their sub-buffers had
on-count : (seq first count : ℕ) (es : List Entry) → sum_by (λ (r : Run). r.count) (runs_on seq first count es) ≡ count + length es
on-count seq first count [] = omega (arith, sum_by-cons (λ (r : Run). r.count) (run_of seq first count) [])
on-count seq first count (e ∷ es) =
    either (on-count seq first (count + 1) es) (on-count seq e.serial 1 es) (eqb e.serial (first + count))
  where
    either : sum_by (λ (r : Run). r.count) (runs_on seq first (count + 1) es) ≡ count + 1 + length es
        → sum_by (λ (r : Run). r.count) (runs_on seq e.serial 1 es) ≡ 1 + length es → (b : Bool)
        → sum_by (λ (r : Run). r.count) (cond b (runs_on seq first (count + 1) es) (run_of seq first count ∷ runs_on seq e.serial 1 es))
        ≡ count + length (e ∷ es)
    either longer other true = let n : length (e ∷ es) ≡ length es + 1 = grind (arith, common_steps) in omega (arith, longer, n)
    either longer other false =
        let n : length (e ∷ es) ≡ length es + 1 = grind (arith, common_steps) in
        omega (arith, other, n, sum_by-cons (λ (r : Run). r.count) (run_of seq first count) (runs_on seq e.serial 1 es))

of-count : (seq : ℕ) (es : List Entry) → sum_by (λ (r : Run). r.count) (runs_of seq es) ≡ length es
of-count seq [] = refl
of-count seq (e ∷ es) = let n : length (e ∷ es) ≡ length es + 1 = grind (arith, common_steps) in omega (arith, n, on-count seq e.serial 1 es)

pub runs-count : (bs : List ClosedBuffer) → sum_by (λ (r : Run). r.count) (buffer_runs bs) ≡ records_in bs
runs-count [] = refl
runs-count (b ∷ bs) =
    omega (
      arith,
      of-count b.seq b.records,
      runs-count bs,
      sum_by-append (λ (r : Run). r.count) (runs_of b.seq b.records) (buffer_runs bs),
      sum_by-cons (λ (b : ClosedBuffer). length b.records) b bs,
    )
