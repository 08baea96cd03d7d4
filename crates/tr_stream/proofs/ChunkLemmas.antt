-- Laws of the sub-buffers of blocks.
use Rattle.std.proofs.Common.{◌≡◌, ℕ, ◌+◌, Bool, true, false, cond, List, [], ◌∷◌, ◌++◌, length, drop, take, refl, arith}
use Rattle.std.specs.Prelude.{sum_by}
use Rattle.tr_record.specs.Records.{Entry}
use Rattle.tr_stream.proofs.BlockLemmas.{sum-same, blocks_of-settle_first, blocks_of-keep_waiting}
use Rattle.std.proofs.lemmas.List.Sums.{sum_by-cons, sum_by-append, sum_by_push}
use Rattle.std.proofs.lemmas.Grind.{common_steps}
use Rattle.tr_stream.specs.State.{records_in}
use Rattle.tr_stream.specs.History.{Status, Waiting, Kept, Block, Closed, is_waiting, discarded_in, records_where, blocks_where}
use Rattle.tr_stream.specs.Chunks.{buffer_of, buffers_where}
use Rattle.tr_stream.specs.WellFormed.{AllWait, WaitLast}
use Rattle.tr_ring.specs.ClosedBuffer.{ClosedBuffer}
use Rattle.tr_stream.specs.Steps.{settle_first, keep_waiting}

pub discarded_in-cons : (c : Closed) (cs : List Closed) → discarded_in (c ∷ cs) ≡ length c.block.discarded + discarded_in cs
discarded_in-cons c cs = sum_by-cons (λ (c : Closed). length c.block.discarded) c cs

-- one more block at the end
pub buffers_where-push : (wanted : Status → Bool) (discarded : ℕ) (cs : List Closed) (c : Closed)
    → buffers_where wanted discarded (cs ++ c ∷ [])
    ≡ buffers_where wanted discarded cs ++ cond (wanted c.status) (buffer_of (discarded + discarded_in cs) c ∷ []) []
buffers_where-push wanted discarded [] c = grind arith
buffers_where-push wanted discarded (d ∷ cs) c =
    grind (
      arith,
      common_steps,
      buffers_where-push wanted (discarded + length d.block.discarded) cs c,
      discarded_in-cons d cs,
    )

-- settling the first that waits leaves the others waiting
pub waiting-settle_first : (status : Status) (discarded : ℕ) (cs : List Closed) → is_waiting status ≡ false
    → buffers_where is_waiting discarded (settle_first status cs) ≡ drop 1 (buffers_where is_waiting discarded cs)
waiting-settle_first status discarded [] settled = refl
waiting-settle_first status discarded (c ∷ cs) settled =
    grind (arith, common_steps, waiting-settle_first status (discarded + length c.block.discarded) cs settled)

-- settling a block that waits leaves the sub-buffers of other statuses than its old one and its new one
pub other-settle_first : (wanted : Status → Bool) (status : Status) (discarded : ℕ) (cs : List Closed)
    → wanted status ≡ false → wanted Waiting ≡ false
    → buffers_where wanted discarded (settle_first status cs) ≡ buffers_where wanted discarded cs
other-settle_first wanted status discarded [] new old = refl
other-settle_first wanted status discarded (c ∷ cs) new old =
    grind (arith, common_steps, other-settle_first wanted status (discarded + length c.block.discarded) cs new old)

-- none is wanted if all wait
pub none_wait : (wanted : Status → Bool) (discarded : ℕ) (cs : List Closed) → wanted Waiting ≡ false → AllWait cs
    → buffers_where wanted discarded cs ≡ []
none_wait wanted discarded [] old wait = refl
none_wait wanted discarded (c ∷ cs) old wait = grind (arith, common_steps, none_wait wanted (discarded + length c.block.discarded) cs old wait.1)

-- a block that waited is the last of its new status
pub new-settle_first : (wanted : Status → Bool) (status : Status) (discarded : ℕ) (cs : List Closed) → wanted status ≡ true
    → wanted Waiting ≡ false → WaitLast cs
    → buffers_where wanted discarded (settle_first status cs)
    ≡ buffers_where wanted discarded cs ++ take 1 (buffers_where is_waiting discarded cs)
new-settle_first wanted status discarded [] new old order = refl
new-settle_first wanted status discarded (c ∷ cs) new old order =
    grind (
      arith,
      common_steps,
      new-settle_first wanted status (discarded + length c.block.discarded) cs new old order.1,
      none_wait wanted (discarded + length c.block.discarded) cs old,
    )

pub records_where-cons : (wanted : Status → Bool) (c : Closed) (cs : List Closed)
    → records_where wanted (c ∷ cs) ≡ cond (wanted c.status) (length c.block.records) 0 + records_where wanted cs
records_where-cons wanted c cs = sum_by-cons (λ (c : Closed). cond (wanted c.status) (length c.block.records) 0) c cs

pub records_where-push : (wanted : Status → Bool) (cs : List Closed) (c : Closed)
    → records_where wanted (cs ++ c ∷ []) ≡ records_where wanted cs + cond (wanted c.status) (length c.block.records) 0
records_where-push wanted cs c = sum_by_push (λ (c : Closed). cond (wanted c.status) (length c.block.records) 0) cs c

pub blocks_where-cons : (wanted : Status → Bool) (c : Closed) (cs : List Closed)
    → blocks_where wanted (c ∷ cs) ≡ cond (wanted c.status) 1 0 + blocks_where wanted cs
blocks_where-cons wanted c cs = sum_by-cons (λ (c : Closed). cond (wanted c.status) 1 0) c cs

pub blocks_where-push : (wanted : Status → Bool) (cs : List Closed) (c : Closed)
    → blocks_where wanted (cs ++ c ∷ []) ≡ blocks_where wanted cs + cond (wanted c.status) 1 0
blocks_where-push wanted cs c = sum_by_push (λ (c : Closed). cond (wanted c.status) 1 0) cs c

pub records_in-cons : (p : ClosedBuffer) (ps : List ClosedBuffer) → records_in (p ∷ ps) ≡ length p.records + records_in ps
records_in-cons p ps = sum_by-cons (λ (p : ClosedBuffer). length p.records) p ps

pub records_in-append : (ps qs : List ClosedBuffer) → records_in (ps ++ qs) ≡ records_in ps + records_in qs
records_in-append ps qs = sum_by-append (λ (p : ClosedBuffer). length p.records) ps qs

-- what the blocks of a status weigh, by their records
abbrev pub weight : (List Entry → ℕ) → (Status → Bool) → List Closed → ℕ
weight size wanted cs = sum_by (λ (c : Closed). cond (wanted c.status) (size c.block.records) 0) cs

abbrev pub buffers_weight : (List Entry → ℕ) → List ClosedBuffer → ℕ
buffers_weight size bs = sum_by (λ (b : ClosedBuffer). size b.records) bs

-- they weigh what their sub-buffers do
pub weight-of_buffers : (size : List Entry → ℕ) (wanted : Status → Bool) (discarded : ℕ) (cs : List Closed)
    → weight size wanted cs ≡ buffers_weight size (buffers_where wanted discarded cs)
weight-of_buffers size wanted discarded [] = refl
weight-of_buffers size wanted discarded (c ∷ cs) =
    let more = discarded + length c.block.discarded in
    grind (
      arith,
      common_steps,
      weight-of_buffers size wanted more cs,
      sum_by-cons (λ (c : Closed). cond (wanted c.status) (size c.block.records) 0) c cs,
      sum_by-cons (λ (b : ClosedBuffer). size b.records) (buffer_of discarded c) (buffers_where wanted more cs),
    )

pub records-of_buffers : (wanted : Status → Bool) (discarded : ℕ) (cs : List Closed)
    → records_where wanted cs ≡ records_in (buffers_where wanted discarded cs)
records-of_buffers wanted discarded cs = weight-of_buffers length wanted discarded cs

-- each block weighs one
abbrev pub one : List Entry → ℕ
one records = 1

weight-ones : (bs : List ClosedBuffer) → buffers_weight one bs ≡ length bs
weight-ones [] = refl
weight-ones (b ∷ bs) = grind (arith, common_steps, weight-ones bs, sum_by-cons (λ (b : ClosedBuffer). 1) b bs)

-- a block that waited weighs under its new status
weight-settle_first : (size : List Entry → ℕ) (wanted : Status → Bool) (status : Status) (discarded : ℕ) (cs : List Closed)
    → wanted Waiting ≡ false
    → weight size wanted (settle_first status cs)
    ≡ weight size wanted cs + cond (wanted status) (buffers_weight size (take 1 (buffers_where is_waiting discarded cs))) 0
weight-settle_first size wanted status discarded [] old = grind (arith, common_steps)
weight-settle_first size wanted status discarded (c ∷ cs) old =
    let f = λ (c : Closed). cond (wanted c.status) (size c.block.records) 0 in
    grind (
      arith,
      common_steps,
      weight-settle_first size wanted status (discarded + length c.block.discarded) cs old,
      sum_by-cons f c cs,
      sum_by-cons f c (settle_first status cs),
      sum_by-cons f (record c { status = status }) cs,
      sum_by-cons (λ (b : ClosedBuffer). size b.records) (buffer_of discarded c) [],
    )

-- all that waited weigh under their new status
weight-keep_waiting : (size : List Entry → ℕ) (wanted : Status → Bool) (k discarded : ℕ) (cs : List Closed)
    → wanted Waiting ≡ false
    → weight size wanted (keep_waiting k cs)
    ≡ weight size wanted cs + cond (wanted (Kept k)) (buffers_weight size (buffers_where is_waiting discarded cs)) 0
weight-keep_waiting size wanted k discarded [] old = grind (arith, common_steps)
weight-keep_waiting size wanted k discarded (c ∷ cs) old =
    let f = λ (c : Closed). cond (wanted c.status) (size c.block.records) 0 in
    let more = discarded + length c.block.discarded in
    grind (
      arith,
      common_steps,
      weight-keep_waiting size wanted k more cs old,
      sum_by-cons f c cs,
      sum_by-cons f c (keep_waiting k cs),
      sum_by-cons f (record c { status = Kept k }) (keep_waiting k cs),
      sum_by-cons (λ (b : ClosedBuffer). size b.records) (buffer_of discarded c) (buffers_where is_waiting more cs),
    )

pub records-settle_first : (wanted : Status → Bool) (status : Status) (discarded : ℕ) (cs : List Closed)
    → wanted status ≡ true → wanted Waiting ≡ false
    → records_where wanted (settle_first status cs)
    ≡ records_where wanted cs + records_in (take 1 (buffers_where is_waiting discarded cs))
records-settle_first wanted status discarded cs new old = grind (arith, new, weight-settle_first length wanted status discarded cs old)

pub other_records-settle_first : (wanted : Status → Bool) (status : Status) (cs : List Closed) → wanted status ≡ false
    → wanted Waiting ≡ false → records_where wanted (settle_first status cs) ≡ records_where wanted cs
other_records-settle_first wanted status cs new old = grind (arith, new, weight-settle_first length wanted status 0 cs old)

pub blocks-settle_first : (wanted : Status → Bool) (status : Status) (discarded : ℕ) (cs : List Closed)
    → wanted status ≡ true → wanted Waiting ≡ false
    → blocks_where wanted (settle_first status cs)
    ≡ blocks_where wanted cs + length (take 1 (buffers_where is_waiting discarded cs))
blocks-settle_first wanted status discarded cs new old =
    grind (arith, new, weight-settle_first one wanted status discarded cs old, weight-ones (take 1 (buffers_where is_waiting discarded cs)))

pub other_blocks-settle_first : (wanted : Status → Bool) (status : Status) (cs : List Closed) → wanted status ≡ false
    → wanted Waiting ≡ false → blocks_where wanted (settle_first status cs) ≡ blocks_where wanted cs
other_blocks-settle_first wanted status cs new old = grind (arith, new, weight-settle_first one wanted status 0 cs old)

pub sum-settle_first : (f : Block → ℕ) (status : Status) (cs : List Closed)
    → sum_by (λ (c : Closed). f c.block) (settle_first status cs) ≡ sum_by (λ (c : Closed). f c.block) cs
sum-settle_first f status cs = sum-same f (settle_first status cs) cs (blocks_of-settle_first status cs)

-- if all that waits is kept, none waits
pub waiting-keep_waiting : (k discarded : ℕ) (cs : List Closed) → buffers_where is_waiting discarded (keep_waiting k cs) ≡ []
waiting-keep_waiting k discarded [] = refl
waiting-keep_waiting k discarded (c ∷ cs) = grind (arith, common_steps, waiting-keep_waiting k (discarded + length c.block.discarded) cs)

pub other-keep_waiting : (wanted : Status → Bool) (k discarded : ℕ) (cs : List Closed) → wanted (Kept k) ≡ false
    → wanted Waiting ≡ false → buffers_where wanted discarded (keep_waiting k cs) ≡ buffers_where wanted discarded cs
other-keep_waiting wanted k discarded [] new old = refl
other-keep_waiting wanted k discarded (c ∷ cs) new old =
    grind (arith, common_steps, other-keep_waiting wanted k (discarded + length c.block.discarded) cs new old)

-- if all wait, all are wanted now
all-keep_waiting : (wanted : Status → Bool) (k discarded : ℕ) (cs : List Closed) → wanted (Kept k) ≡ true → AllWait cs
    → buffers_where wanted discarded (keep_waiting k cs) ≡ buffers_where is_waiting discarded cs
all-keep_waiting wanted k discarded [] new wait = refl
all-keep_waiting wanted k discarded (c ∷ cs) new wait =
    grind (arith, common_steps, all-keep_waiting wanted k (discarded + length c.block.discarded) cs new wait.1)

-- those that waited come last
pub new-keep_waiting : (wanted : Status → Bool) (k discarded : ℕ) (cs : List Closed) → wanted (Kept k) ≡ true
    → wanted Waiting ≡ false → WaitLast cs
    → buffers_where wanted discarded (keep_waiting k cs)
    ≡ buffers_where wanted discarded cs ++ buffers_where is_waiting discarded cs
new-keep_waiting wanted k discarded [] new old order = refl
new-keep_waiting wanted k discarded (c ∷ cs) new old order =
    grind (
      arith,
      common_steps,
      new-keep_waiting wanted k (discarded + length c.block.discarded) cs new old order.1,
      all-keep_waiting wanted k (discarded + length c.block.discarded) cs new,
      none_wait wanted (discarded + length c.block.discarded) cs old,
    )

pub records-keep_waiting : (wanted : Status → Bool) (k discarded : ℕ) (cs : List Closed) → wanted (Kept k) ≡ true
    → wanted Waiting ≡ false → records_where wanted (keep_waiting k cs)
    ≡ records_where wanted cs + records_in (buffers_where is_waiting discarded cs)
records-keep_waiting wanted k discarded cs new old = grind (arith, new, weight-keep_waiting length wanted k discarded cs old)

pub other_records-keep_waiting : (wanted : Status → Bool) (k : ℕ) (cs : List Closed) → wanted (Kept k) ≡ false
    → wanted Waiting ≡ false → records_where wanted (keep_waiting k cs) ≡ records_where wanted cs
other_records-keep_waiting wanted k cs new old = grind (arith, new, weight-keep_waiting length wanted k 0 cs old)

pub other_blocks-keep_waiting : (wanted : Status → Bool) (k : ℕ) (cs : List Closed) → wanted (Kept k) ≡ false
    → wanted Waiting ≡ false → blocks_where wanted (keep_waiting k cs) ≡ blocks_where wanted cs
other_blocks-keep_waiting wanted k cs new old = grind (arith, new, weight-keep_waiting one wanted k 0 cs old)

pub sum-keep_waiting : (f : Block → ℕ) (k : ℕ) (cs : List Closed)
    → sum_by (λ (c : Closed). f c.block) (keep_waiting k cs) ≡ sum_by (λ (c : Closed). f c.block) cs
sum-keep_waiting f k cs = sum-same f (keep_waiting k cs) cs (blocks_of-keep_waiting k cs)
