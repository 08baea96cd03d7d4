-- What is held and what was cleared, put together again.
use Rattle.std.proofs.Common.{◌≡◌, ◌≢◌, ℕ, ◌+◌, zero, suc, Bool, true, false, cond, eqb, List, [], ◌∷◌, ◌++◌, length, map, refl, sym, ◌∙◌, ap, subst, append_assoc, arith, None, Option}
use Rattle.std.proofs.lemmas.Grind.{common_steps}
use Rattle.std.proofs.lemmas.List.{append-nil, length-map}
use Rattle.std.specs.List.{AllByRecursion, flat_map}
use Rattle.tr_book.specs.Parts.{PartState, Rest}
use Rattle.tr_book.specs.Runs.{run_of, runs_of, runs_on}
use Rattle.tr_book.specs.declared.runs.Run.{Run}
use Rattle.tr_record.specs.Records.{Entry}
use Rattle.tr_ring.specs.ClosedBuffer.{ClosedBuffer}
use Rattle.tr_stream.proofs.ChunkLemmas.{none_wait}
use Rattle.tr_stream.proofs.FateLemmas.{parts-are}
use Rattle.tr_stream.specs.Chunks.{buffer_runs, closed_if_any, closed_part, buffer_of, buffers_where, waiting_of, chunk_of, kept_of, packet_of, parts_below, ring_buffers, part_if}
use Rattle.tr_stream.specs.Consistent.{HasRecord, IsConsistent, IsLeftOf, PartsLeft, Piece, buffers_of, held_among, cleared_among, buffer_in, AreLeftOf}
use Rattle.tr_stream.specs.Fates.{all_parts}
use Rattle.tr_stream.specs.History.{Status, Waiting, Dropped, Kept, Cleared, Closed, History, is_waiting, is_kept, is_cleared, discarded_of, is_released}
use Rattle.tr_stream.specs.StandsFor.{StandsFor}
use Rattle.tr_stream.specs.State.{StreamState}
use Rattle.tr_stream.specs.WellFormed.{AllUsed, WaitLast, chunks_below}
use Rattle.tr_stream.specs.declared.config.StreamConfig.{StreamConfig}
use Rattle.tr_stream.proofs.GoneLemmas.{packet_runs-are}
use Rattle.tr_stream.proofs.SoundLemmas.{records_of-packets}

-- a block that is held, or was cleared
abbrev pub is_undropped : Status → Bool
is_undropped Waiting = true
is_undropped Dropped = false
is_undropped (Kept k) = true
is_undropped (Cleared c) = true

-- a block that is held
abbrev pub is_held : Status → Bool
is_held Waiting = true
is_held Dropped = false
is_held (Kept k) = true
is_held (Cleared c) = false

-- the kept blocks, and then those that wait
pub held-split : (discarded : ℕ) (cs : List Closed) → WaitLast cs
    → buffers_where is_held discarded cs ≡ buffers_where is_kept discarded cs ++ buffers_where is_waiting discarded cs
held-split discarded [] order = refl
held-split discarded (c ∷ cs) order =
    grind (
      arith,
      common_steps,
      held-split (discarded + length c.block.discarded) cs order.1,
      none_wait is_kept (discarded + length c.block.discarded) cs refl,
    )

-- all that a history holds or cleared, in order
abbrev pub undropped_of : ℕ → History → List ClosedBuffer
undropped_of end h = buffers_where is_undropped 0 h.closed ++ closed_if_any h.filling.number end (discarded_of h) h.filling.records

-- packets give back their sub-buffers
pub buffer_in-packets : (c : StreamConfig) (bs : List ClosedBuffer) → map buffer_in (map (packet_of c) bs) ≡ bs
buffer_in-packets c [] = refl
buffer_in-packets c (b ∷ bs) = ap (λ (more : List ClosedBuffer). b ∷ more) (buffer_in-packets c bs)

-- one part more at the end
left-push : (ps : List PartState) (p : PartState) (bs own : List ClosedBuffer) → PartsLeft ps bs → IsLeftOf p own
    → PartsLeft (ps ++ p ∷ []) (bs ++ own)
left-push [] p bs own left is = (own, [], ap (λ (xs : List ClosedBuffer). xs ++ own) left ∙ sym (append-nil own), is, refl)
left-push (q ∷ qs) p bs own left is = (
  left.0,
  left.1 ++ own,
  ap (λ (xs : List ClosedBuffer). xs ++ own) left.2 ∙ append_assoc left.0 left.1 own,
  left.3,
  left-push qs p left.1 own left.4 is,
)

-- a part is what is left of its chunk, released or not
if-left : (c : StreamConfig) (k : ℕ) (bs : List ClosedBuffer) (b : Bool) → IsLeftOf (part_if b k (map (packet_of c) bs)) bs
if-left c k bs false = buffer_in-packets c bs
if-left c k bs true =
    record { runs = packet_runs-are c bs; packets = length-map bs (packet_of c); records = records_of-packets c bs }

-- the parts of the chunks below a number are what is left of these chunks
left-below : (c : StreamConfig) (k : ℕ) (h : History) → PartsLeft (parts_below c k h) (chunks_below k h)
left-below c zero h = refl
left-below c (suc k) h = left-push (parts_below c k h) (closed_part c k h) (chunks_below k h) (chunk_of k h) (left-below c k h)
    (if-left c k (chunk_of k h) (is_released k h))

-- the parts are what is left of all that is kept
pub parts-left : (s : StreamState) (h : History) → StandsFor s h → PartsLeft (all_parts s.parts) (kept_of h)
parts-left s h is =
    subst (λ (ps : List PartState). PartsLeft ps (kept_of h)) (sym (parts-are s h is))
    (subst (λ (bs : List ClosedBuffer). PartsLeft (parts_below s.config (suc h.cuts) h) bs) is.model.chunks
    (left-below s.config (suc h.cuts) h))

-- what a history holds, in order
abbrev pub held_of : ℕ → History → List ClosedBuffer
held_of end h = buffers_where is_held 0 h.closed ++ closed_if_any h.filling.number end (discarded_of h) h.filling.records

-- it is what is kept, and then the ring
pub held-is : (s : StreamState) (h : History) → StandsFor s h
    → kept_of h ++ ring_buffers s.counters.last s.ring ≡ held_of s.counters.last h
held-is s h is =
    let c = is.waiting in let d = is.number in let e = is.discarded in let f = is.filling in
    let k = held-split 0 h.closed is.model.order in
    let l = append_assoc (kept_of h) (waiting_of h) (closed_if_any h.filling.number s.counters.last (discarded_of h) h.filling.records) in
    cc

-- the packets of parts as sub-buffers, in order
abbrev pub buffers_in : List PartState → List ClosedBuffer
buffers_in parts = flat_map (λ (p : PartState). map buffer_in p.packets) parts

-- parts that were not released
abbrev pub AreHeld : List PartState → Type 0
AreHeld parts = AllByRecursion (λ (p : PartState). p.released ≡ None) parts

left-is : (ps : List PartState) (bs : List ClosedBuffer) → AreHeld ps → PartsLeft ps bs → bs ≡ buffers_in ps
left-is [] bs held left = left
left-is (p ∷ ps) bs held left =
    let here = left.2 in
    let own : map buffer_in p.packets ≡ left.0 = subst (λ (rest : Option Rest). AreLeftOf p.packets rest left.0) held.0 left.3 in
    let more = left-is ps left.1 held.1 left.4 in
    cc

-- all that is held: the packets of the parts in order, and then the ring
abbrev pub held_buffers : StreamState → List ClosedBuffer
held_buffers s = buffers_in (all_parts s.parts) ++ ring_buffers s.counters.last s.ring

-- the pieces of blocks
abbrev pub pieces_where : ℕ → List Closed → List Piece
pieces_where discarded [] = []
pieces_where discarded (c ∷ cs) =
    cond (is_undropped c.status)
    (record { buffer = buffer_of discarded c; cleared = is_cleared c.status } ∷ pieces_where (discarded + length c.block.discarded) cs)
    (pieces_where (discarded + length c.block.discarded) cs)

abbrev pub here : ClosedBuffer → Piece
here b = record { buffer = b; cleared = false }

abbrev pub pieces_of : ℕ → History → List Piece
pieces_of end h =
    pieces_where 0 h.closed ++ map here (closed_if_any h.filling.number end (discarded_of h) h.filling.records)

pub pieces-buffers : (discarded : ℕ) (cs : List Closed) (bs : List ClosedBuffer)
    → buffers_of (pieces_where discarded cs ++ map here bs) ≡ buffers_where is_undropped discarded cs ++ bs
pieces-buffers discarded [] [] = refl
pieces-buffers discarded [] (b ∷ bs) = ap (λ (more : List ClosedBuffer). b ∷ more) (pieces-buffers discarded [] bs)
pieces-buffers discarded (c ∷ cs) bs =
    grind (arith, common_steps, pieces-buffers (discarded + length c.block.discarded) cs bs)

by_status : (P : Status → Type 0) → P Waiting → P Dropped → ((k : ℕ) → P (Kept k)) → ((b : Bool) → P (Cleared b)) → (st : Status) → P st
by_status P a b c d Waiting = a
by_status P a b c d Dropped = b
by_status P a b c d (Kept k) = c k
by_status P a b c d (Cleared t) = d t

pub pieces-held : (discarded : ℕ) (cs : List Closed) (bs : List ClosedBuffer)
    → held_among (pieces_where discarded cs ++ map here bs) ≡ buffers_where is_held discarded cs ++ bs
pieces-held discarded [] [] = refl
pieces-held discarded [] (b ∷ bs) = ap (λ (more : List ClosedBuffer). b ∷ more) (pieces-held discarded [] bs)
pieces-held discarded (c ∷ cs) bs =
    let rest = pieces-held (discarded + length c.block.discarded) cs bs in
    let b = buffer_of discarded c in
    let ps = pieces_where (discarded + length c.block.discarded) cs in
    let qs = buffers_where is_held (discarded + length c.block.discarded) cs in
    by_status (λ (st : Status). held_among (cond (is_undropped st) (record { buffer = b; cleared = is_cleared st } ∷ ps) ps ++ map here bs)
    ≡ cond (is_held st) (b ∷ qs) qs ++ bs)
    (ap (λ (more : List ClosedBuffer). b ∷ more) rest) rest (λ k. ap (λ (more : List ClosedBuffer). b ∷ more) rest) (λ t. rest)
    c.status

pub pieces-used : (discarded : ℕ) (cs : List Closed) (ps : List Piece) → AllUsed cs → AllByRecursion HasRecord ps
    → AllByRecursion HasRecord (pieces_where discarded cs ++ ps)
pieces-used discarded [] ps used rest = rest
pieces-used discarded (c ∷ cs) ps used rest =
    let more = pieces_where (discarded + length c.block.discarded) cs in
    let all = pieces-used (discarded + length c.block.discarded) cs ps used.1 rest in
    by_status (λ (st : Status). AllByRecursion HasRecord
    (cond (is_undropped st) (record { buffer = buffer_of discarded c; cleared = is_cleared st } ∷ more) more ++ ps))
    (used.0, all) all (λ k. (used.0, all)) (λ t. (used.0, all)) c.status

pub pieces-cleared : (discarded : ℕ) (cs : List Closed) (bs : List ClosedBuffer)
    → cleared_among (pieces_where discarded cs ++ map here bs) ≡ buffers_where is_cleared discarded cs
pieces-cleared discarded [] [] = refl
pieces-cleared discarded [] (b ∷ bs) = pieces-cleared discarded [] bs
pieces-cleared discarded (c ∷ cs) bs =
    let rest = pieces-cleared (discarded + length c.block.discarded) cs bs in
    let b = buffer_of discarded c in
    let ps = pieces_where (discarded + length c.block.discarded) cs in
    let qs = buffers_where is_cleared (discarded + length c.block.discarded) cs in
    by_status (λ (st : Status). cleared_among (cond (is_undropped st) (record { buffer = b; cleared = is_cleared st } ∷ ps) ps ++ map here bs)
    ≡ cond (is_cleared st) (b ∷ qs) qs)
    rest rest (λ k. rest) (λ t. ap (λ (more : List ClosedBuffer). b ∷ more) rest)
    c.status

-- if nothing was cleared, the pieces are what is held
some-runs : (seq first count : ℕ) (es : List Entry) (rest : List Run) → runs_on seq first count es ++ rest ≢ []
some-runs seq first count [] rest e = cc
some-runs seq first count (r ∷ es) rest e =
    either (some-runs seq first (count + 1) es rest) (eqb r.serial (first + count)) e
  where
    either : runs_on seq first (count + 1) es ++ rest ≢ [] → (b : Bool)
        → cond b (runs_on seq first (count + 1) es) (run_of seq first count ∷ runs_on seq r.serial 1 es) ++ rest ≢ []
    either longer true e = longer e
    either longer false e = cc

no-runs : (seq : ℕ) (es : List Entry) (rest : List Run) → es ≢ [] → runs_of seq es ++ rest ≢ []
no-runs seq [] rest used = absurd (used refl)
no-runs seq (e ∷ es) rest used = some-runs seq e.serial 1 es rest

all-held : (ps : List Piece) → AllByRecursion HasRecord ps → buffer_runs (cleared_among ps) ≡ [] → buffers_of ps ≡ held_among ps
all-held [] used none = refl
all-held (p ∷ ps) used none = either p.cleared refl (all-held ps used.1)
  where
    either : (b : Bool) → p.cleared ≡ b → (buffer_runs (cleared_among ps) ≡ [] → buffers_of ps ≡ held_among ps)
        → buffers_of (p ∷ ps) ≡ held_among (p ∷ ps)
    either true e rest =
        let there : runs_of p.buffer.seq p.buffer.records ++ buffer_runs (cleared_among ps) ≡ [] =
        subst (λ (b : Bool). buffer_runs (cond b (p.buffer ∷ cleared_among ps) (cleared_among ps)) ≡ []) e none in
        absurd (no-runs p.buffer.seq p.buffer.records (buffer_runs (cleared_among ps)) used.0 there)
    either false e rest =
        let there : buffer_runs (cleared_among ps) ≡ [] =
        subst (λ (b : Bool). buffer_runs (cond b (p.buffer ∷ cleared_among ps) (cleared_among ps)) ≡ []) e none in
        subst (λ (b : Bool). buffers_of (p ∷ ps) ≡ cond b (held_among ps) (p.buffer ∷ held_among ps)) (sym e)
        (ap (λ (bs : List ClosedBuffer). p.buffer ∷ bs) (rest there))

pub none-cleared : (s : StreamState) (is : IsConsistent s) → AreHeld (all_parts s.parts) → s.parts.cleared ≡ []
    → buffers_of is.pieces ≡ held_buffers s
none-cleared s is held none =
    all-held is.pieces is.are.used (is.are.cleared ∙ none) ∙ is.are.held
    ∙ ap (λ (bs : List ClosedBuffer). bs ++ ring_buffers s.counters.last s.ring) (left-is (all_parts s.parts) is.are.kept held is.are.left)
