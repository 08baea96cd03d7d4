-- What steps keep of a well-formed model.
use Rattle.std.proofs.Common.{◌≡◌, ◌≢◌, ℕ, ◌+◌, ◌≤◌, ◌<◌, Bool, true, false, cond, eqb, ltb, List, [], ◌∷◌, ◌++◌, length, refl, sym, ap, subst, ◌∙◌, arith}
use Rattle.std.proofs.lemmas.Bool.Decides.{nat_tests}
use Rattle.std.proofs.lemmas.Grind.{common_steps}
use Rattle.std.proofs.lemmas.List.Sums.{sum_by-cons, sum_by_push}
use Rattle.tr_stream.specs.History.{Status, Waiting, Dropped, Kept, Cleared, Block, Closed, is_waiting, is_kept_in, offers_in, offers_before}
use Rattle.tr_stream.specs.WellFormed.{NumberedFrom, AllWait, WaitLast, IsWithin, AllWithinCuts, IsRecent, AllRecent, RecentLast, RecordsRise, next_serial, StartsAt, Covers, CoversFrom, AllUsed, LastHeld}
use Rattle.tr_record.specs.Records.{Entry}
use Rattle.tr_stream.specs.Steps.{settle_first}

pub NumberedFrom-push : (n : ℕ) (cs : List Closed) (c : Closed) → NumberedFrom n cs → c.block.number ≡ n + length cs → NumberedFrom n (cs ++ c ∷ [])
NumberedFrom-push n [] c old new = (grind arith, tt)
NumberedFrom-push n (d ∷ cs) c old new = (old.0, NumberedFrom-push (n + 1) cs c old.1 (grind (arith, common_steps)))

pub AllWait-push : (cs : List Closed) (c : Closed) → AllWait cs → is_waiting c.status ≡ true → AllWait (cs ++ c ∷ [])
AllWait-push [] c old new = (new, tt)
AllWait-push (d ∷ cs) c old new = (old.0, AllWait-push cs c old.1 new)

pub WaitLast-push : (cs : List Closed) (c : Closed) → WaitLast cs → is_waiting c.status ≡ true → WaitLast (cs ++ c ∷ [])
WaitLast-push [] c old new = (λ _. tt, tt)
WaitLast-push (d ∷ cs) c old new = (λ w. AllWait-push cs c (old.0 w) new, WaitLast-push cs c old.1 new)

pub WaitLast-settle_first : (status : Status) (cs : List Closed) → is_waiting status ≡ false → WaitLast cs → WaitLast (settle_first status cs)
WaitLast-settle_first status [] settled old = tt
WaitLast-settle_first status (c ∷ cs) settled old = grind (arith, common_steps, WaitLast-settle_first status cs settled old.1)

pub AllWithinCuts-push : (cuts : ℕ) (cs : List Closed) (c : Closed) → AllWithinCuts cuts cs → IsWithin cuts c.status
    → AllWithinCuts cuts (cs ++ c ∷ [])
AllWithinCuts-push cuts [] c old new = (new, tt)
AllWithinCuts-push cuts (d ∷ cs) c old new = (old.0, AllWithinCuts-push cuts cs c old.1 new)

pub AllWithinCuts-settle_first : (cuts : ℕ) (status : Status) (cs : List Closed) → IsWithin cuts status
    → AllWithinCuts cuts cs → AllWithinCuts cuts (settle_first status cs)
AllWithinCuts-settle_first cuts status [] new old = tt
AllWithinCuts-settle_first cuts status (c ∷ cs) new old = grind (arith, common_steps, AllWithinCuts-settle_first cuts status cs new old.1)

-- after a block kept in the current chunk
pub AllRecent-push : (k : ℕ) (cs : List Closed) (c : Closed) → AllRecent k cs → IsRecent k c.status → AllRecent k (cs ++ c ∷ [])
AllRecent-push k [] c old new = (new, tt)
AllRecent-push k (d ∷ cs) c old new = (old.0, AllRecent-push k cs c old.1 new)

pub RecentLast-push : (k : ℕ) (cs : List Closed) (c : Closed) → RecentLast k cs → IsRecent k c.status → RecentLast k (cs ++ c ∷ [])
RecentLast-push k [] c old new = (λ _. tt, tt)
RecentLast-push k (d ∷ cs) c old new = (λ e. AllRecent-push k cs c (old.0 e) new, RecentLast-push k cs c old.1 new)

AllRecent-settle_first : (k : ℕ) (status : Status) (cs : List Closed) → IsRecent k status → AllRecent k cs → AllRecent k (settle_first status cs)
AllRecent-settle_first k status [] new old = tt
AllRecent-settle_first k status (c ∷ cs) new old = grind (arith, common_steps, AllRecent-settle_first k status cs new old.1)

waits_recent : (k : ℕ) (st : Status) → is_waiting st ≡ true → IsRecent k st
waits_recent k Waiting e = tt
waits_recent k Dropped e = tt
waits_recent k (Kept j) e = cc
waits_recent k (Cleared c) e = cc

AllWait-recent : (k : ℕ) (cs : List Closed) → AllWait cs → AllRecent k cs
AllWait-recent k [] wait = tt
AllWait-recent k (c ∷ cs) wait = (waits_recent k c.status wait.0, AllWait-recent k cs wait.1)

pub RecentLast-settle_first : (k : ℕ) (status : Status) (cs : List Closed) → IsRecent k status → WaitLast cs → RecentLast k cs
    → RecentLast k (settle_first status cs)
RecentLast-settle_first k status [] new order old = tt
RecentLast-settle_first k status (c ∷ cs) new order old =
    by_test (RecentLast-settle_first k status cs new order.1 old.1) (is_waiting c.status) refl
  where
    by_test : RecentLast k (settle_first status cs) → (w : Bool) → is_waiting c.status ≡ w
        → RecentLast k (settle_first status (c ∷ cs))
    by_test rest true e = subst (λ (w : Bool). RecentLast k (cond w (record c { status = status } ∷ cs) (c ∷ settle_first status cs)))
        (sym e) ((λ _. AllWait-recent k cs (order.0 e)), old.1)
    by_test rest false e = subst (λ (w : Bool). RecentLast k (cond w (record c { status = status } ∷ cs) (c ∷ settle_first status cs)))
        (sym e)
        ((λ kept. AllRecent-settle_first k status cs new (old.0 kept)), rest)

-- no block is kept in a chunk that wasn't begun
never_kept : (cuts k : ℕ) (st : Status) → cuts < k → IsWithin cuts st → is_kept_in k st ≡ true → ⊥
never_kept cuts k Waiting lt within e = cc
never_kept cuts k Dropped lt within e = cc
never_kept cuts k (Kept j) lt within e = let f : j ≡ k = grind (arith, nat_tests, e) in omega (arith, f)
never_kept cuts k (Cleared c) lt within e = cc

pub RecentLast-new : (cuts k : ℕ) (cs : List Closed) → cuts < k → AllWithinCuts cuts cs → RecentLast k cs
RecentLast-new cuts k [] lt within = tt
RecentLast-new cuts k (c ∷ cs) lt within = ((λ e. absurd (never_kept cuts k c.status lt within.0 e)), RecentLast-new cuts k cs lt within.1)

-- one more serial
pub serials_more : (n serial offered offered' before after : ℕ) → serial ≡ offered → offered' ≡ offered + 1
    → before ≡ cond (ltb n offered) 1 0 → after ≡ before + cond (eqb serial n) 1 0 → after ≡ cond (ltb n offered') 1 0
serials_more n serial offered offered' before after next more old new = grind (arith, nat_tests)

pub serials_same : (n offered offered' before after : ℕ) → offered' ≡ offered → before ≡ cond (ltb n offered) 1 0
    → after ≡ before → after ≡ cond (ltb n offered') 1 0
serials_same n offered offered' before after same old new = new ∙ old ∙ ap (λ (k : ℕ). cond (ltb n k) 1 0) (sym same)

RecordsRise-push : (low : ℕ) (rs : List Entry) (r : Entry) → RecordsRise low rs → next_serial low rs ≤ r.serial → RecordsRise low (rs ++ r ∷ [])
RecordsRise-push low [] r rise above = (above, tt)
RecordsRise-push low (q ∷ rs) r rise above = (rise.0, RecordsRise-push (q.serial + 1) rs r rise.1 above)

next_serial-push : (low : ℕ) (rs : List Entry) (r : Entry) → next_serial low (rs ++ r ∷ []) ≡ r.serial + 1
next_serial-push low [] r = refl
next_serial-push low (q ∷ rs) r = next_serial-push (q.serial + 1) rs r

starts-join : (low : ℕ) (rs : List Entry) (discarded : List ℕ) (r : Entry) → r.serial ≡ low + (length rs + length discarded)
    → StartsAt low rs discarded → StartsAt low (rs ++ r ∷ []) discarded
starts-join low [] discarded r next old = let e : length discarded ≡ 0 = ap length old in omega (arith, e)
starts-join low (q ∷ rs) discarded r next old = old

starts-discard : (low : ℕ) (rs : List Entry) (discarded more : List ℕ) → rs ≢ [] → StartsAt low rs discarded → StartsAt low rs more
starts-discard low [] discarded more used old = absurd (used refl)
starts-discard low (q ∷ rs) discarded more used old = old

pub Covers-join : (low : ℕ) (b : Block) (r : Entry) → r.serial ≡ low + offers_in b → Covers low b
    → Covers low (record b { records = b.records ++ r ∷ [] })
Covers-join low b r next old = record {
  starts = starts-join low b.records b.discarded r next old.starts;
  rise = RecordsRise-push low b.records r old.rise (omega (arith, old.within));
  within = grind (arith, common_steps, next, next_serial-push low b.records r);
}

pub Covers-discard : (low : ℕ) (b : Block) (serial : ℕ) → b.records ≢ [] → Covers low b
    → Covers low (record b { discarded = b.discarded ++ serial ∷ [] })
Covers-discard low b serial used old =
    record {
      starts = starts-discard low b.records b.discarded (b.discarded ++ serial ∷ []) used old.starts;
      rise = old.rise;
      within = grind (arith, common_steps, old.within);
    }

pub Covers-one : (low number : ℕ) (r : Entry) → r.serial ≡ low → Covers low (record { number = number; records = r ∷ []; discarded = [] })
Covers-one low number r next = record { starts = next; rise = (omega arith, tt); within = grind (arith, next) }

pub offers_before-push : (cs : List Closed) (c : Closed) → offers_before (cs ++ c ∷ []) ≡ offers_before cs + offers_in c.block
offers_before-push cs c = sum_by_push (λ (c : Closed). offers_in c.block) cs c

pub CoversFrom-push : (low : ℕ) (cs : List Closed) (c : Closed) → CoversFrom low cs
    → Covers (low + offers_before cs) c.block → CoversFrom low (cs ++ c ∷ [])
CoversFrom-push low [] c old new = (subst (λ (n : ℕ). Covers n c.block) (omega arith) new, tt)
CoversFrom-push low (d ∷ cs) c old new = (
  old.0,
  CoversFrom-push (low + offers_in d.block) cs c old.1
      (subst (λ (n : ℕ). Covers n c.block) (omega (arith, sum_by-cons (λ (c : Closed). offers_in c.block) d cs)) new),
)

pub AllUsed-push : (cs : List Closed) (c : Closed) → AllUsed cs → c.block.records ≢ [] → AllUsed (cs ++ c ∷ [])
AllUsed-push [] c old new = (new, tt)
AllUsed-push (d ∷ cs) c old new = (old.0, AllUsed-push cs c old.1 new)

pub LastHeld-settle_first : (k : ℕ) (cs : List Closed) → LastHeld cs → LastHeld (settle_first (Kept k) cs)
LastHeld-settle_first k [] old = tt
LastHeld-settle_first k (c ∷ []) old = grind (arith, common_steps, old)
LastHeld-settle_first k (c ∷ d ∷ ds) old = grind (arith, common_steps, LastHeld-settle_first k (d ∷ ds) old)

pub nil-push : {X : Type 0} (xs : List X) (x : X) → xs ++ x ∷ [] ≢ []
nil-push [] x e = cc
nil-push (y ∷ xs) x e = cc
