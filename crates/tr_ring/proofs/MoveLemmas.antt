-- Pages that move.
use Rattle.std.proofs.Common.{◌≡◌, ℕ, ◌+◌, ◌<◌, ◌≤◌, Bool, List, [], ◌∷◌, ◌++◌, length, map, drop, slice_get, Option, None, Some, ap, refl, sym, subst, ◌∙◌, arith, length-append}
use Rattle.std.specs.List.{AllByRecursion}
use Rattle.std.specs.Option.{option_map}
use Rattle.std.proofs.lemmas.Grind.{common_steps}
use Rattle.std.proofs.lemmas.List.{length-map, map-append}
use Rattle.circular_buffer.specs.Buffer.{Buffer, buffer, keep_last}
use Rattle.tr_record.specs.Records.{Entry}
use Rattle.tr_record.specs.Weight.{weight_of}
use Rattle.tr_record.proofs.RecordLemmas.{all_push}
use Rattle.tr_subbuf.specs.SubBuffer.{SubBuffer, empty_buffer, ending, sub_buffer}
use Rattle.tr_ring.specs.ClosedBuffer.{ClosedBuffer, closed_buffer}
use Rattle.tr_packet.specs.declared.head.Head.{Head}
use Rattle.tr_ring.specs.Heads.{begin_of, head_from, last_after, page_from, packet_from}
use Rattle.tr_ring.specs.declared.origin.Origin.{Origin}
use Rattle.tr_ring.specs.Pages.{ArePages, HasSize, IsFree, IsPacketFrom, SealedPage, closed_in, sealed_page}
use Rattle.tr_ring.specs.Ring.{IsClosedWithin, IsRing, RingState, close_current, current_head, drop_front, ring_state}

-- what a ring is, by its pages
pub record Holds (o : Origin) (size : ℕ) (waiting : Buffer SealedPage) (free : Buffer SubBuffer) (current : List Entry) (seq discarded : ℕ)
    (over : Bool) : Type 0 where
  pub ring : IsRing (ring_state (closed_in waiting.items) current seq discarded size (waiting.capacity + 1) over o)
  pub pages : ArePages o size waiting.items free waiting.capacity

all-of-them : (n : ℕ) (xs : List SubBuffer) → length xs ≤ n → keep_last n xs ≡ xs
all-of-them n xs fit = grind (arith, common_steps, fit)

-- the oldest page is gone, and an empty one is free
pub front-gone : (o : Origin) (size : ℕ) (waiting then : Buffer SealedPage) (free now : Buffer SubBuffer) (b : SubBuffer) (current : List Entry)
    (seq discarded : ℕ) (over : Bool)
    → IsRing (ring_state (closed_in waiting.items) current seq discarded size (waiting.capacity + 1) over o)
    → ArePages o size waiting.items free waiting.capacity → 1 ≤ length waiting.items → b ≡ empty_buffer size
    → then ≡ buffer (drop 1 waiting.items) waiting.capacity
    → now ≡ buffer (keep_last free.capacity (free.items ++ b ∷ [])) free.capacity
    → Holds o size then now current seq discarded over
front-gone o size waiting then free now b current seq discarded over is are some empty then-is now-is =
    by_pages waiting.items refl
  where
    by_pages : (pages : List SealedPage) → pages ≡ waiting.items → Holds o size then now current seq discarded over
    by_pages [] e = absurd (omega (arith, some, ap length e))
    by_pages (p ∷ ps) e =
        let is' : IsRing (ring_state (closed_in (p ∷ ps)) current seq discarded size (waiting.capacity + 1) over o) =
        subst (λ (qs : List SealedPage). IsRing (ring_state (closed_in qs) current seq discarded size (waiting.capacity + 1) over o)) (sym e) is in
        let are' : ArePages o size (p ∷ ps) free waiting.capacity = subst (λ (qs : List SealedPage). ArePages o size qs free waiting.capacity) (sym e) are in
        let long = length-append free.items (b ∷ []) in
        let all : keep_last free.capacity (free.items ++ b ∷ []) ≡ free.items ++ b ∷ [] =
        all-of-them free.capacity (free.items ++ b ∷ []) (omega (arith, long, are'.all, are'.room)) in
        let then' : then ≡ buffer ps waiting.capacity = then-is ∙ ap (λ (qs : List SealedPage). buffer (drop 1 qs) waiting.capacity) (sym e) in
        let now' : now ≡ buffer (free.items ++ b ∷ []) free.capacity = now-is ∙ ap (λ (bs : List SubBuffer). buffer bs free.capacity) all in
        let held : Holds o size (buffer ps waiting.capacity) (buffer (free.items ++ b ∷ []) free.capacity) current seq discarded over =
        record {
          ring = record {
            room = omega (arith, is'.room);
            closed = is'.closed.1;
            current = is'.current;
            size_low = is'.size_low;
            size_high = is'.size_high;
            count_low = is'.count_low;
          };
          pages = record {
            sizes = are'.sizes.1;
            packets = are'.packets.1;
            empty = all_push (IsFree size) free.items b are'.empty empty;
            all = omega (arith, long, are'.all);
            room = are'.room;
          };
        } in
        subst (λ (w : Buffer SealedPage). Holds o size w now current seq discarded over) (sym then')
        (subst (λ (f : Buffer SubBuffer). Holds o size (buffer ps waiting.capacity) f current seq discarded over) (sym now') held)

-- what is left waits as before
pub left-waits : (pages : List SealedPage) → closed_in (drop 1 pages) ≡ drop 1 (closed_in pages)
left-waits [] = refl
left-waits (p ∷ ps) = refl

-- the page that goes has the records of the oldest sub-buffer
pub front-page : (o : Origin) (size : ℕ) (pages : List SealedPage) (p : SealedPage) (b : SubBuffer) → AllByRecursion (HasSize size) pages
    → AllByRecursion (IsPacketFrom o) pages → Some p ≡ slice_get pages 0 → b ≡ sub_buffer p.closed.records p.size p.head
    → Some b ≡ option_map (page_from o size) (slice_get (closed_in pages) 0)
front-page o size [] p b are packets first is = absurd (grind (arith, common_steps, first))
front-page o size (q ∷ ps) p b are packets first is =
    let same : p ≡ q = cc in
    ap Some (is ∙ ap (λ (x : SealedPage). sub_buffer x.closed.records x.size x.head) same
    ∙ ap (λ (n : ℕ). sub_buffer q.closed.records n q.head) are.0 ∙ ap (sub_buffer q.closed.records size) packets.0)

-- a current sub-buffer is closed, and a free page follows
pub closing : (o : Origin) (size : ℕ) (waiting then : Buffer SealedPage) (free now : Buffer SubBuffer) (next : SubBuffer) (current : List Entry)
    (seq end discarded : ℕ) (over : Bool) (head : Option Head)
    → IsRing (ring_state (closed_in waiting.items) current seq discarded size (waiting.capacity + 1) over o)
    → ArePages o size waiting.items free waiting.capacity → 1 ≤ length current → length waiting.items < waiting.capacity
    → Some next ≡ slice_get free.items 0 → head ≡ Some (head_from o (closed_buffer seq end discarded current))
    → then ≡ buffer (waiting.items ++ sealed_page (closed_buffer seq end discarded current) size head ∷ []) waiting.capacity
    → now ≡ buffer (drop 1 free.items) free.capacity
    → (next ≡ empty_buffer size) × Holds o size then now [] (seq + 1) discarded over
closing o size waiting then free now next current seq end discarded over head is are some room first head-is then-is now-is =
    by_free free.items refl
  where
    by_free : (frees : List SubBuffer) → frees ≡ free.items → (next ≡ empty_buffer size) × Holds o size then now [] (seq + 1) discarded over
    by_free [] e = absurd (omega (arith, room, are.all, ap length e))
    by_free (f ∷ fs) e =
        let same : next ≡ f = cc in
        let empty : AllByRecursion (IsFree size) (f ∷ fs) = subst (AllByRecursion (IsFree size)) (sym e) are.empty in
        let p : SealedPage = sealed_page (closed_buffer seq end discarded current) size head in
        let long = length-append waiting.items (p ∷ []) in
        let closed-is : closed_in (waiting.items ++ p ∷ []) ≡ closed_in waiting.items ++ p.closed ∷ [] =
        map-append (λ (q : SealedPage). q.closed) waiting.items (p ∷ []) in
        let closed-long = length-map waiting.items (λ (q : SealedPage). q.closed) in
        let closed-more = length-append (closed_in waiting.items) (p.closed ∷ []) in
        let all : length (f ∷ fs) + length waiting.items ≡ waiting.capacity = ap (λ (xs : List SubBuffer). length xs + length waiting.items) e ∙ are.all in
        let held : Holds o size (buffer (waiting.items ++ p ∷ []) waiting.capacity) (buffer fs free.capacity) [] (seq + 1) discarded over =
        record {
          ring = subst (λ (bs : List ClosedBuffer). IsRing (ring_state bs [] (seq + 1) discarded size (waiting.capacity + 1) over o)) (sym closed-is)
              (record {
                room = omega (arith, room, closed-more, closed-long);
                closed = all_push (IsClosedWithin size) (closed_in waiting.items) p.closed is.closed (record { some = some; within = is.current });
                current = omega (arith, is.size_low);
                size_low = is.size_low;
                size_high = is.size_high;
                count_low = is.count_low;
              });
          pages = record {
            sizes = all_push (HasSize size) waiting.items p are.sizes refl;
            packets = all_push (IsPacketFrom o) waiting.items p are.packets head-is;
            empty = empty.1;
            all = omega (arith, long, all);
            room = are.room;
          };
        } in
        let now' : now ≡ buffer fs free.capacity = now-is ∙ ap (λ (bs : List SubBuffer). buffer (drop 1 bs) free.capacity) (sym e) in (
          same ∙ empty.0,
          subst (λ (w : Buffer SealedPage). Holds o size w now [] (seq + 1) discarded over) (sym then-is)
              (subst (λ (g : Buffer SubBuffer). Holds o size (buffer (waiting.items ++ p ∷ []) waiting.capacity) g [] (seq + 1) discarded over) (sym now') held),
        )

-- and the ring is as it is then
pub closes : (o : Origin) (waiting then : Buffer SealedPage) (next : SubBuffer) (current : List Entry) (size seq end discarded : ℕ) (over : Bool) (head : Option Head)
    → then ≡ buffer (waiting.items ++ sealed_page (closed_buffer seq end discarded current) size head ∷ []) waiting.capacity
    → next ≡ empty_buffer size
    → ring_state (closed_in then.items) next.records (seq + 1) discarded next.size (then.capacity + 1) over o
    ≡ close_current end (ring_state (closed_in waiting.items) current seq discarded size (waiting.capacity + 1) over o)
closes o waiting then next current size seq end discarded over head then-is next-is =
    let p : SealedPage = sealed_page (closed_buffer seq end discarded current) size head in
    ap (λ (w : Buffer SealedPage). ring_state (closed_in w.items) next.records (seq + 1) discarded next.size (w.capacity + 1) over o) then-is
    ∙ ap (λ (b : SubBuffer). ring_state (closed_in (waiting.items ++ p ∷ [])) b.records (seq + 1) discarded b.size (waiting.capacity + 1) over o) next-is
    ∙ ap (λ (bs : List ClosedBuffer). ring_state bs [] (seq + 1) discarded size (waiting.capacity + 1) over o)
    (map-append (λ (q : SealedPage). q.closed) waiting.items (p ∷ []))

-- and the ring's size
pub front-size : (size : ℕ) (pages : List SealedPage) (p : SealedPage) → AllByRecursion (HasSize size) pages
    → Some p ≡ slice_get pages 0 → p.size ≡ size
front-size size [] p are first = absurd (grind (arith, common_steps, first))
front-size size (q ∷ ps) p are first = let same : p ≡ q = cc in ap (λ (x : SealedPage). x.size) same ∙ are.0

-- ---- what stands in pages

-- a current page that is closed at a moment has the packet that it becomes
pub ends-as-packet : (o : Origin) (seq end discarded : ℕ) (es : List Entry) (head : Option Head) → 1 ≤ length es
    → head ≡ current_head o seq discarded es → option_map (ending end) head ≡ Some (head_from o (closed_buffer seq end discarded es))
ends-as-packet o seq end discarded [] head some is = absurd (omega (arith, some))
ends-as-packet o seq end discarded (e ∷ es) head some is = ap (option_map (ending end)) is

-- one more record is the last one
last-push : (m : ℕ) (es : List Entry) (e : Entry) → last_after m (es ++ e ∷ []) ≡ e.moment
last-push m [] e = refl
last-push m (x ∷ es) e = last-push x.moment es e

pub joins-as-packet : (o : Origin) (seq discarded : ℕ) (es : List Entry) (e : Entry) (head : Option Head) → 1 ≤ length es
    → head ≡ current_head o seq discarded es → option_map (ending e.moment) head ≡ current_head o seq discarded (es ++ e ∷ [])
joins-as-packet o seq discarded [] e head some is = absurd (omega (arith, some))
joins-as-packet o seq discarded (x ∷ es) e head some is =
    ap (option_map (ending e.moment)) is
    ∙ ap (λ (m : ℕ). Some (head_from o (closed_buffer seq m discarded (x ∷ (es ++ e ∷ []))))) (sym (last-push x.moment es e))
