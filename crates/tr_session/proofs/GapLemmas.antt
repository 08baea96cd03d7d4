-- The runs of absent numbers are the blocks that were dropped or cleared.
use Rattle.std.proofs.Common.{◌≡◌, ℕ, ◌+◌, ◌≤◌, ◌<◌, Bool, true, false, List, [], ◌∷◌, length, map, Option, Some, None, refl, sym, ◌∙◌, ap, arith}
use Rattle.std.proofs.lemmas.Bool.Decides.{nat_tests}
use Rattle.std.proofs.lemmas.Grind.{common_steps}
use Rattle.std.proofs.lemmas.List.Folds.{list_any-append}
use Rattle.std.specs.Prelude.{nat_lt, nat_le, nat_eq, ◌&&◌, ◌||◌}
use Rattle.tr_chunk.specs.Audit.{numbers_of, gap_before, gaps_behind, is_in_runs}
use Rattle.tr_ring.specs.ClosedBuffer.{ClosedBuffer}
use Rattle.tr_session.specs.Audits.{was_removed, kept_above}
use Rattle.tr_stream.proofs.ChunkLemmas.{none_wait}
use Rattle.tr_stream.specs.Chunks.{buffers_where, packet_of}
use Rattle.tr_stream.specs.History.{Status, Waiting, Dropped, Kept, Cleared, Closed, is_waiting, is_kept}
use Rattle.tr_stream.specs.WellFormed.{NumberedFrom, AllWait, WaitLast}
use Rattle.tr_stream.specs.declared.config.StreamConfig.{StreamConfig}

abbrev pub seqs : List ClosedBuffer → List ℕ
seqs bs = map (λ (b : ClosedBuffer). b.seq) bs

-- the first number, or serial, that may come next
abbrev pub low : Option ℕ → ℕ
low None = 0
low (Some before) = before + 1

pub in_gap : (before : Option ℕ) (q n : ℕ) → is_in_runs n (gap_before before q) ≡ (nat_le (low before) n && nat_lt n q)
in_gap None q n = grind (arith, nat_tests, common_steps)
in_gap (Some before) q n = grind (arith, nat_tests, common_steps)

-- numbers below the first place
removed-none : (n place : ℕ) (cs : List Closed) → n < place → NumberedFrom place cs → was_removed n cs ≡ false
removed-none n place [] below numbers = refl
removed-none n place (c ∷ cs) below numbers =
    grind (arith, nat_tests, common_steps, numbers.0, removed-none n (place + 1) cs (omega (arith, below)) numbers.1)

waits-unkept : (st : Status) → is_waiting st ≡ true → is_kept st ≡ false
waits-unkept Waiting e = refl
waits-unkept Dropped e = cc
waits-unkept (Kept k) e = cc
waits-unkept (Cleared t) e = cc

-- if all wait, none was kept
none-kept : (n : ℕ) (cs : List Closed) → AllWait cs → kept_above n cs ≡ false
none-kept n [] wait = refl
none-kept n (c ∷ cs) wait = let st = waits-unkept c.status wait.0 in let rest =
    none-kept n cs wait.1 in grind (arith, nat_tests, common_steps, st, rest)

bool_waiting : (x : Bool) → false ≡ (x && false)
bool_waiting true = refl
bool_waiting false = refl

bool_removed : (lo n place : ℕ) (d k l : Bool) → lo ≤ place → l ≡ (((nat_le lo n && nat_lt n (place + 1)) || d) && k)
    → l ≡ (((nat_le lo n && nat_lt n place) || ((nat_eq place n && true) || d)) && ((nat_lt n place && false) || k))
bool_removed lo n place d k l le is = grind (arith, nat_tests, le, is)

bool_kept : (lo n place : ℕ) (d k l g : Bool) → lo ≤ place → (n < place → d ≡ false) → g ≡ (nat_le lo n && nat_lt n place)
    → l ≡ (((nat_le (place + 1) n && nat_lt n (place + 1)) || d) && k)
    → (g || l) ≡ (((nat_le lo n && nat_lt n place) || ((nat_eq place n && false) || d)) && ((nat_lt n place && true) || k))
bool_kept lo n place d k l g le none gap is = grind (arith, nat_tests, le, none, gap, is)

gap_step : (n place discarded : ℕ) (before : Option ℕ) (c : Closed) (cs : List Closed) (st : Status) → c.status ≡ st
    → NumberedFrom place (c ∷ cs) → WaitLast (c ∷ cs) → low before ≤ place
    → is_in_runs n (gaps_behind (Some place) (seqs (buffers_where is_kept (discarded + length c.block.discarded) cs)))
    ≡ (((nat_le (place + 1) n && nat_lt n (place + 1)) || was_removed n cs) && kept_above n cs)
    → is_in_runs n (gaps_behind before (seqs (buffers_where is_kept (discarded + length c.block.discarded) cs)))
    ≡ (((nat_le (low before) n && nat_lt n (place + 1)) || was_removed n cs) && kept_above n cs)
    → is_in_runs n (gaps_behind before (seqs (buffers_where is_kept discarded (c ∷ cs))))
    ≡ (((nat_le (low before) n && nat_lt n place) || was_removed n (c ∷ cs)) && kept_above n (c ∷ cs))
gap_step n place discarded before c cs Waiting e numbers order le kept dropped =
    let waits : is_waiting c.status ≡ true = ap is_waiting e in
    let nothing : buffers_where is_kept discarded (c ∷ cs) ≡ [] = none_wait is_kept discarded (c ∷ cs) refl (waits, order.0 waits) in
    let above : kept_above n (c ∷ cs) ≡ false = none-kept n (c ∷ cs) (waits, order.0 waits) in
    ap (λ (bs : List ClosedBuffer). is_in_runs n (gaps_behind before (seqs bs))) nothing
    ∙ bool_waiting ((nat_le (low before) n && nat_lt n place) || was_removed n (c ∷ cs))
    ∙ ap (λ (k : Bool). ((nat_le (low before) n && nat_lt n place) || was_removed n (c ∷ cs)) && k) (sym above)
gap_step n place discarded before c cs Dropped e numbers order le kept dropped =
    rw (e, numbers.0) (bool_removed (low before) n place (was_removed n cs) (kept_above n cs) _ le dropped)
gap_step n place discarded before c cs (Cleared t) e numbers order le kept dropped =
    rw (e, numbers.0) (bool_removed (low before) n place (was_removed n cs) (kept_above n cs) _ le dropped)
gap_step n place discarded before c cs (Kept k) e numbers order le kept dropped =
    rw (e, numbers.0) (
    list_any-append (λ (r : ℕ × ℕ). nat_le r.0 n && nat_lt n (r.0 + r.1)) (gap_before before place)
    (gaps_behind (Some place) (seqs (buffers_where is_kept (discarded + length c.block.discarded) cs)))
    ∙ bool_kept (low before) n place (was_removed n cs) (kept_above n cs) _ _ le
    (λ below. removed-none n (place + 1) cs (omega (arith, below)) numbers.1) (in_gap before place n) kept
    )

-- the runs of absent numbers are the blocks below a kept one that were dropped or cleared
gaps-closed : (n place discarded : ℕ) (before : Option ℕ) (cs : List Closed) → NumberedFrom place cs → WaitLast cs
    → low before ≤ place → is_in_runs n (gaps_behind before (seqs (buffers_where is_kept discarded cs)))
    ≡ (((nat_le (low before) n && nat_lt n place) || was_removed n cs) && kept_above n cs)
gaps-closed n place discarded before [] numbers order le = bool_waiting ((nat_le (low before) n && nat_lt n place) || false)
gaps-closed n place discarded before (c ∷ cs) numbers order le =
    gap_step n place discarded before c cs c.status refl numbers order le
    (gaps-closed n (place + 1) (discarded + length c.block.discarded) (Some place) cs numbers.1 order.1 (omega arith))
    (gaps-closed n (place + 1) (discarded + length c.block.discarded) before cs numbers.1 order.1 (omega (arith, le)))

-- the numbers of packets are those of their sub-buffers
pub numbers-packets : (c : StreamConfig) (bs : List ClosedBuffer) → numbers_of (map (packet_of c) bs) ≡ seqs bs
numbers-packets c [] = refl
numbers-packets c (b ∷ bs) = ap (λ (ns : List ℕ). b.seq ∷ ns) (numbers-packets c bs)

-- from the start on
pub gaps-are : (c : StreamConfig) (n : ℕ) (cs : List Closed) → NumberedFrom 0 cs → WaitLast cs
    → is_in_runs n (gaps_behind None (numbers_of (map (packet_of c) (buffers_where is_kept 0 cs))))
    ≡ (was_removed n cs && kept_above n cs)
gaps-are c n cs numbers order =
    ap (λ (ns : List ℕ). is_in_runs n (gaps_behind None ns)) (numbers-packets c (buffers_where is_kept 0 cs))
    ∙ gaps-closed n 0 0 None cs numbers order (omega arith) ∙ grind (arith, nat_tests)
