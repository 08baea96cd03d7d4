-- A search among a ring's sub-buffers.
use Rattle.std.proofs.Common.{◌≡◌, ◌≢◌, ℕ, ◌+◌, ◌-◌, ◌<◌, ◌≤◌, zero, suc, Bool, true, false, cond, leb, List, [], ◌∷◌, ◌++◌, length, Option, Some, None, refl, sym, ◌∙◌, ap, arith}
use Rattle.std.proofs.lemmas.Bool.Decides.{nat_tests}
use Rattle.std.proofs.lemmas.Grind.{common_steps}
use Rattle.std.specs.Option.{option_or}
use Rattle.tr_book.proofs.PacketLemmas.{before-none, first-below, first-least, next-high, past-none}
use Rattle.tr_book.specs.Runs.{AreInRow, RecordsRise, first_in, next_serial}
use Rattle.tr_record.specs.Records.{Entry, has_serial}
use Rattle.tr_ring.specs.ClosedBuffer.{ClosedBuffer, closed_buffer}
use Rattle.tr_ring.specs.Ring.{RingState, seq_of, seq_waiting}
use Rattle.tr_stream.specs.Chunks.{closed_if_any, ring_buffers}
use Rattle.tr_stream.specs.Gaps.{BuffersRise, DiscardsShow, begun}

-- lower bounds may fall
lower-records : (low least : ℕ) (es : List Entry) → least ≤ low → RecordsRise low es → RecordsRise least es
lower-records low least [] le rise = tt
lower-records low least (e ∷ es) le rise = (omega (arith, le, rise.0), rise.1)

pub lower : (low least : ℕ) (bs : List ClosedBuffer) → least ≤ low → BuffersRise low bs → BuffersRise least bs
lower low least [] le rise = tt
lower low least (b ∷ bs) le rise =
    (rise.0, lower-records low least b.records le rise.1, same b.records rise.0 rise.2)
  where
    same : (es : List Entry) → es ≢ [] → BuffersRise (next_serial low es) bs → BuffersRise (next_serial least es) bs
    same [] some later = absurd (some refl)
    same (e ∷ es) some later = later

first-buffer : (n : ℕ) (b : ClosedBuffer) (bs : List ClosedBuffer)
    → seq_waiting n (b ∷ bs) ≡ cond (has_serial n b.records) (Some b.seq) (seq_waiting n bs)
first-buffer n b bs = either (has_serial n b.records) refl
  where
    either : (w : Bool) → has_serial n b.records ≡ w
        → seq_waiting n (b ∷ bs) ≡ cond (has_serial n b.records) (Some b.seq) (seq_waiting n bs)
    either true e = rw e refl
    either false e = rw e refl

-- if one has begun, the serial isn't below all
begun-low : (n low : ℕ) (bs : List ClosedBuffer) → BuffersRise low bs → 0 < begun n bs → low ≤ n
begun-low n low [] rise some = absurd (omega (arith, some))
begun-low n low (b ∷ bs) rise some =
    by_first (leb (first_in b.records 0) n) refl (λ more. begun-low n (next_serial low b.records) bs rise.2 more)
  where
    by_first : (w : Bool) → leb (first_in b.records 0) n ≡ w → (0 < begun n bs → next_serial low b.records ≤ n) → low ≤ n
    by_first true e later = grind (arith, nat_tests, e, first-least low b.records rise.0 rise.1)
    by_first false e later =
        let rest : begun n (b ∷ bs) ≡ begun n bs = ap (λ (w : Bool). cond w (begun n bs + 1) (begun n bs)) e in
        omega (arith, next-high low b.records rise.1, later (omega (arith, some, rest)))

-- if none has begun, none has the serial
pub none-begun : (n low : ℕ) (bs : List ClosedBuffer) → BuffersRise low bs → begun n bs ≡ 0 → seq_waiting n bs ≡ None
none-begun n low [] rise none = refl
none-begun n low (b ∷ bs) rise none =
    by_first (leb (first_in b.records 0) n) refl (λ rest. none-begun n (next_serial low b.records) bs rise.2 rest)
  where
    by_first : (w : Bool) → leb (first_in b.records 0) n ≡ w → (begun n bs ≡ 0 → seq_waiting n bs ≡ None)
        → seq_waiting n (b ∷ bs) ≡ None
    by_first true e later =
        let more : begun n (b ∷ bs) ≡ begun n bs + 1 = ap (λ (w : Bool). cond w (begun n bs + 1) (begun n bs)) e in
        absurd (omega (arith, more, none))
    by_first false e later =
        let rest : begun n (b ∷ bs) ≡ begun n bs = ap (λ (w : Bool). cond w (begun n bs + 1) (begun n bs)) e in
        let outside = before-none n low b.records rise.1 (grind (arith, nat_tests, e)) in
        first-buffer n b bs ∙ ap (λ (w : Bool). cond w (Some b.seq) (seq_waiting n bs)) outside
        ∙ later (sym rest ∙ none)

-- if one alone has begun, it is the first, and no other can have the serial
pub one-begun : (n low : ℕ) (b : ClosedBuffer) (bs : List ClosedBuffer) → BuffersRise low (b ∷ bs) → begun n (b ∷ bs) ≡ 1
    → seq_waiting n (b ∷ bs) ≡ cond (has_serial n b.records) (Some b.seq) None
one-begun n low b bs rise one = by_first (leb (first_in b.records 0) n) refl
  where
    by_first : (w : Bool) → leb (first_in b.records 0) n ≡ w
        → seq_waiting n (b ∷ bs) ≡ cond (has_serial n b.records) (Some b.seq) None
    by_first true e =
        let more : begun n (b ∷ bs) ≡ begun n bs + 1 = ap (λ (w : Bool). cond w (begun n bs + 1) (begun n bs)) e in
        first-buffer n b bs
        ∙ ap (λ (o : Option ℕ). cond (has_serial n b.records) (Some b.seq) o)
        (none-begun n (next_serial low b.records) bs rise.2 (omega (arith, more, one)))
    by_first false e =
        let rest : begun n (b ∷ bs) ≡ begun n bs = ap (λ (w : Bool). cond w (begun n bs + 1) (begun n bs)) e in
        let high : next_serial low b.records ≤ n = begun-low n (next_serial low b.records) bs rise.2 (omega (arith, rest, one)) in
        absurd (grind (arith, nat_tests, e, high, first-below low b.records rise.0 rise.1))

-- otherwise the first doesn't have it
pub record Passed (n left : ℕ) (b : ClosedBuffer) (bs : List ClosedBuffer) : Type 0 where
  pub found : seq_waiting n (b ∷ bs) ≡ seq_waiting n bs
  pub begun : left - 1 ≡ begun n bs

pub passed : (n low left : ℕ) (b : ClosedBuffer) (bs : List ClosedBuffer) → BuffersRise low (b ∷ bs) → left ≡ begun n (b ∷ bs)
    → left ≢ 1 → Passed n left b bs
passed n low left b bs rise count more = by_first (leb (first_in b.records 0) n) refl
  where
    by_first : (w : Bool) → leb (first_in b.records 0) n ≡ w → Passed n left b bs
    by_first true e =
        let one : begun n (b ∷ bs) ≡ begun n bs + 1 = ap (λ (w : Bool). cond w (begun n bs + 1) (begun n bs)) e in
        let some : 0 < begun n bs = omega (arith, one, count, more) in
        let high = begun-low n (next_serial low b.records) bs rise.2 some in
        let outside = past-none n low b.records rise.1 high in
        record {
          found = first-buffer n b bs ∙ ap (λ (w : Bool). cond w (Some b.seq) (seq_waiting n bs)) outside;
          begun = omega (arith, one, count);
        }
    by_first false e =
        let rest : begun n (b ∷ bs) ≡ begun n bs = ap (λ (w : Bool). cond w (begun n bs + 1) (begun n bs)) e in
        let outside = before-none n low b.records rise.1 (grind (arith, nat_tests, e)) in
        record {
          found = first-buffer n b bs ∙ ap (λ (w : Bool). cond w (Some b.seq) (seq_waiting n bs)) outside;
          begun = none (begun n bs) refl rest;
        }
      where
        none : (k : ℕ) → begun n bs ≡ k → begun n (b ∷ bs) ≡ begun n bs → left - 1 ≡ begun n bs
        none zero f rest = omega (arith, f, rest, count)
        none (suc k) f rest =
            let high : next_serial low b.records ≤ n = begun-low n (next_serial low b.records) bs rise.2 (omega (arith, f)) in
            absurd (grind (arith, nat_tests, e, high, first-below low b.records rise.0 rise.1))

-- a ring has what its sub-buffers have, the current one as if closed
pub ring-has : (n : ℕ) (r : RingState) → seq_waiting n (ring_buffers 0 r) ≡ seq_of n r
ring-has n r = after r.waiting
  where
    last : (es : List Entry)
        → seq_waiting n (closed_if_any r.seq 0 r.discarded es) ≡ cond (has_serial n es) (Some r.seq) None
    last [] = refl
    last (e ∷ es) = first-buffer n (closed_buffer r.seq 0 r.discarded (e ∷ es)) []

    after : (bs : List ClosedBuffer)
        → seq_waiting n (bs ++ closed_if_any r.seq 0 r.discarded r.current)
        ≡ option_or (seq_waiting n bs) (cond (has_serial n r.current) (Some r.seq) None)
    after [] = last r.current
    after (b ∷ bs) =
        first-buffer n b (bs ++ closed_if_any r.seq 0 r.discarded r.current)
        ∙ ap (λ (o : Option ℕ). cond (has_serial n b.records) (Some b.seq) o) (after bs)
        ∙ split (has_serial n b.records)
        ∙ ap (λ (o : Option ℕ). option_or o (cond (has_serial n r.current) (Some r.seq) None)) (sym (first-buffer n b bs))
      where
        split : (w : Bool)
            → cond w (Some b.seq) (option_or (seq_waiting n bs) (cond (has_serial n r.current) (Some r.seq) None))
            ≡ option_or (cond w (Some b.seq) (seq_waiting n bs)) (cond (has_serial n r.current) (Some r.seq) None)
        split true = refl
        split false = refl

pub begun-few : (n : ℕ) (bs : List ClosedBuffer) → begun n bs ≤ length bs
begun-few n [] = omega arith
begun-few n (b ∷ bs) = by_first (leb (first_in b.records 0) n) refl (begun-few n bs)
  where
    count : length (b ∷ bs) ≡ length bs + 1
    count = grind (arith, common_steps)

    by_first : (w : Bool) → leb (first_in b.records 0) n ≡ w → begun n bs ≤ length bs → begun n (b ∷ bs) ≤ length (b ∷ bs)
    by_first true e few =
        let more : begun n (b ∷ bs) ≡ begun n bs + 1 = ap (λ (w : Bool). cond w (begun n bs + 1) (begun n bs)) e in
        omega (arith, more, count, few)
    by_first false e few =
        let rest : begun n (b ∷ bs) ≡ begun n bs = ap (λ (w : Bool). cond w (begun n bs + 1) (begun n bs)) e in
        omega (arith, rest, count, few)

-- the current sub-buffer's serials are in a row if no more was discarded
pub last-row : (seq end discarded before : ℕ) (es : List Entry) → DiscardsShow before (closed_if_any seq end discarded es)
    → discarded ≡ before → AreInRow es
last-row seq end discarded before [] show same = tt
last-row seq end discarded before (e ∷ es) show same = show.0 same
