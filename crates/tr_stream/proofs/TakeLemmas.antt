-- A new stream begins a history, a take is the history's take, and the counts are the history's.
use Rattle.std.proofs.Common.{◌≡◌, ℕ, ◌+◌, zero, suc, List, [], ◌∷◌, length, Err, refl, sym, ◌∙◌, ap, subst, arith, map}
use Rattle.std.proofs.lemmas.Bool.Decides.{nat_tests}
use Rattle.std.proofs.lemmas.Grind.{common_steps}
use Rattle.std.proofs.lemmas.List.Sums.{sum_by_push}
use Rattle.std.specs.Prelude.{sum_by}
use Rattle.tr_book.specs.Parts.{part_records}
use Rattle.tr_ring.specs.ClosedBuffer.{ClosedBuffer}
use Rattle.tr_stream.proofs.ChunkLemmas.{records-of_buffers, records_in-append}
use Rattle.tr_stream.proofs.SoundLemmas.{records_of-packets}
use Rattle.tr_stream.proofs.Refinement.{stands-moved}
use Rattle.tr_stream.specs.Chunks.{buffers_where, chunk_of, parts_below, waiting_of, closed_part, packet_of}
use Rattle.tr_stream.specs.History.{Status, Kept, Closed, History, is_kept, is_waiting, records_where, is_released}
use Rattle.tr_stream.specs.StandsFor.{StandsFor}
use Rattle.tr_stream.specs.State.{StreamState, in_parts, records_in}
use Rattle.tr_stream.specs.WellFormed.{chunks_below}
use Rattle.tr_stream.specs.StateSteps.{state_take_answer, move_oldest, state_after_take, state_counts, new_state}
use Rattle.tr_stream.specs.Steps.{taken_from, settle_first, keep_oldest, history_take_answer, history_after_take, history_counts, new_history}
use Rattle.tr_stream.specs.declared.answers.TakeFault.TheVariants.{SnapshotMode}
use Rattle.tr_terms.specs.declared.session_mode.SessionMode.{SessionMode}
use Rattle.tr_terms.specs.declared.session_mode.SessionMode.TheVariants.{Local, Snapshot}
use Rattle.tr_stream.specs.declared.config.StreamConfig.{StreamConfig}
use Rattle.tr_terms.specs.SessionModes.{by_session_mode}
use Rattle.tr_stream.proofs.ReleaseForms.{if-records}

-- a new stream stands for a history that begins
pub starts : (c : StreamConfig) → StandsFor (new_state c) new_history
starts c = record {
  model = record {
    numbers = tt;
    filling = refl;
    order = tt;
    kept = tt;
    recent = tt;
    used = tt;
    room = λ none. tt;
    covers = tt;
    covers_filling = record { starts = refl; rise = tt; within = omega arith };
    chunks = refl;
    released = tt;
    serials = λ n. grind (arith, nat_tests);
  };
  closed = refl;
  current = refl;
  starts = refl;
  forgotten = refl;
  runs = refl;
  waiting = refl;
  filling = refl;
  number = refl;
  discarded = refl;
  offered = refl;
  overwritten = refl;
  overwritten_packets = refl;
  consumed = refl;
  cleared = refl;
  withdrawn = refl;
  last = refl;
  active = refl;
}

nothing_settled : (status : Status) (discarded : ℕ) (cs : List Closed) → buffers_where is_waiting discarded cs ≡ [] → settle_first status cs ≡ cs
nothing_settled status discarded [] none = refl
nothing_settled status discarded (c ∷ cs) none = grind (arith, common_steps, nothing_settled status (discarded + length c.block.discarded) cs)

pub taken : (s : StreamState) (h : History) (waiting : List ClosedBuffer) → s.ring.waiting ≡ waiting → StandsFor s h
    → StandsFor (move_oldest waiting s) (keep_oldest h)
taken s h [] waiting_is is =
    let same : settle_first (Kept h.cuts) h.closed ≡ h.closed = nothing_settled (Kept h.cuts) 0 h.closed (sym is.waiting ∙ waiting_is) in
    subst (λ (cs : List Closed). StandsFor s (record h { closed = cs })) (sym same) is
taken s h (b ∷ bs) waiting_is is = stands-moved s h b bs waiting_is is

-- a take from a stream is the history's take
takes_in : (m : SessionMode) (s : StreamState) (h : History) → StandsFor s h
    → (by_session_mode m (taken_from s.parts.current.id s.ring.waiting) (Err SnapshotMode)
    ≡ by_session_mode m (taken_from h.cuts (waiting_of h)) (Err SnapshotMode))
    × StandsFor (by_session_mode m (move_oldest s.ring.waiting s) s) (by_session_mode m (keep_oldest h) h)
takes_in Local s h is = (let a = is.current in let b = is.waiting in cc, taken s h s.ring.waiting refl is)
takes_in Snapshot s h is = (refl, is)

pub takes : (s : StreamState) (h : History) → StandsFor s h
    → (state_take_answer s ≡ history_take_answer s.config h)
    × StandsFor (state_after_take s) (history_after_take s.config h)
takes s h is = takes_in s.config.session s h is

pub length-parts_below : (c : StreamConfig) (k : ℕ) (h : History) → length (parts_below c k h) ≡ k
length-parts_below c zero h = refl
length-parts_below c (suc k) h = grind (arith, common_steps, length-parts_below c k h)

-- the parts have the records that are kept
parts-records : (c : StreamConfig) (k : ℕ) (h : History)
    → sum_by part_records (parts_below c k h) ≡ records_in (chunks_below k h)
parts-records c zero h = refl
parts-records c (suc k) h =
    omega (
      arith,
      parts-records c k h,
      sum_by_push part_records (parts_below c k h) (closed_part c k h),
      if-records (is_released k h) k (map (packet_of c) (chunk_of k h)),
      records_of-packets c (chunk_of k h),
      records_in-append (chunks_below k h) (chunk_of k h),
    )

pub kept-records : (s : StreamState) (h : History) → StandsFor s h → in_parts s.parts ≡ records_where is_kept h.closed
kept-records s h is =
    let a = ap (sum_by part_records) is.closed ∙ parts-records s.config h.cuts h in
    let b : part_records s.parts.current ≡ records_in (chunk_of h.cuts h) =
    ap part_records is.current ∙ records_of-packets s.config (chunk_of h.cuts h) in
    let c = ap records_in is.model.chunks in
    let d = records_in-append (chunks_below h.cuts h) (chunk_of h.cuts h) in
    let e = records-of_buffers is_kept 0 h.closed in
    omega (arith, a, b, c, d, e)

-- the counts of a stream are the history's
pub counts-are : (s : StreamState) (h : History) → StandsFor s h → state_counts s ≡ history_counts s.config h
counts-are s h is =
    let a = is.offered in let b = is.discarded in let c = is.overwritten in let d = is.overwritten_packets in
    let e = is.consumed in let f = is.waiting in let g = is.filling in
    let k : length s.parts.closed ≡ h.cuts = ap length is.closed ∙ length-parts_below s.config h.cuts h in
    let m = is.current in let n = kept-records s h is in
    cc
