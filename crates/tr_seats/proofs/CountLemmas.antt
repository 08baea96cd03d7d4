-- What a stream's calls do to what it counts.
use Rattle.std.proofs.Common.{◌≡◌, ◌≢◌, ◌∙◌, ℕ, ◌+◌, ◌≤◌, ◌^◌, Bool, true, false, List, [], ◌∷◌, length, Option, Some, None, Result, Ok, Err, ap, arith, refl, subst, sym, if◌then◌else◌}
use Rattle.std.proofs.lemmas.List.{length-append}
use Rattle.std.specs.List.{AllByRecursion}
use Rattle.std.specs.Prelude.{max}
use Rattle.tr_record.specs.Records.{Entry}
use Rattle.tr_ring.specs.ClosedBuffer.{ClosedBuffer}
use Rattle.tr_ring.specs.Ring.{IsClosedWithin, discard_newest, follow_current, join_current, over_first, push_answer, drop_front}
use Rattle.tr_ring.specs.declared.pushed.Pushed.{Pushed}
use Rattle.tr_ring.specs.declared.pushed.Pushed.TheVariants as pushed
use Rattle.tr_seats.specs.Slots.{serial_of}
use Rattle.tr_seats.specs.Sums.{totals_after_offer, totals_in}
use Rattle.tr_seats.specs.declared.totals.Totals.{Totals}
use Rattle.tr_stream.specs.Sound.{IsSound}
use Rattle.tr_stream.specs.State.{StreamState, in_ring}
use Rattle.tr_stream.specs.StateSteps.{counters_after_push, cut_done, move_oldest, offered_as, refusal_of, state_after_clear, state_after_cut, state_after_offer, state_after_take, state_clear_answer, state_clear_ring, state_cleared, state_cut_answer, state_cut_ring, state_entry, state_offer_answer, state_take_answer, state_with_offer}
use Rattle.tr_stream.proofs.CutLemmas.{records_in-ring}
use Rattle.tr_stream.specs.declared.answers.ClearFault.{ClearFault}
use Rattle.tr_stream.specs.declared.answers.ClearFault.TheVariants as clear_fault
use Rattle.tr_stream.specs.declared.answers.Cleared.{Cleared}
use Rattle.tr_stream.specs.declared.answers.CutDone.{CutDone}
use Rattle.tr_stream.specs.declared.answers.CutFault.{CutFault}
use Rattle.tr_stream.specs.declared.answers.CutFault.TheVariants as cut_fault
use Rattle.tr_stream.specs.declared.answers.OfferFault.{OfferFault}
use Rattle.tr_stream.specs.declared.answers.Offered.{Offered}
use Rattle.tr_stream.specs.declared.answers.TakeFault.{TakeFault}
use Rattle.tr_stream.specs.declared.answers.TakeFault.TheVariants as take_fault
use Rattle.tr_stream.specs.declared.answers.Taken.{Taken}
use Rattle.tr_terms.specs.declared.session_mode.SessionMode.{SessionMode}
use Rattle.tr_terms.specs.declared.session_mode.SessionMode.TheVariants.{Local, Snapshot}

-- ---- offers

-- one more is counted as it was pushed
pushed-totals : (e : Entry) (s : StreamState) → totals_in (state_with_offer e s)
    ≡ totals_after_offer (offered_as s.counters.offered (push_answer e s.ring)) (totals_in s)
pushed-totals e s = go _ _ _ s.ring.waiting
  where
    go : (room more over : Bool) (waiting : List ClosedBuffer)
        → (let ring = if room then join_current e s.ring else
        (if more then follow_current e s.ring else (if over then follow_current e (drop_front s.ring) else discard_newest s.ring))
        in let answer = if room then pushed.Stored s.ring.seq else
        (if more then pushed.Stored (s.ring.seq + 1) else (if over then over_first (s.ring.seq + 1) waiting else pushed.Refused))
        in totals_in (record s { ring = ring; counters = counters_after_push answer e.moment s.counters })
        ≡ totals_after_offer (offered_as s.counters.offered answer) (totals_in s))
    go true more over waiting = refl
    go false true over waiting = refl
    go false false true [] = refl
    go false false true (b ∷ bs) = refl
    go false false false waiting = refl

-- an accepted offer is counted as it was answered
pub offer-totals : (moment id : ℕ) (payload : List ℕ) (s : StreamState) (offered : Offered)
    → Ok offered ≡ state_offer_answer moment id payload s
    → totals_in (state_after_offer moment id payload s) ≡ totals_after_offer offered (totals_in s)
offer-totals moment id payload s offered is = go (refusal_of (length payload) s) refl
  where
    go : (refusal : Option OfferFault) → refusal_of (length payload) s ≡ refusal
        → totals_in (state_after_offer moment id payload s) ≡ totals_after_offer offered (totals_in s)
    go (Some fault) at = cc
    go None at =
        let e = state_entry moment id payload s in
        let same : offered ≡ offered_as s.counters.offered (push_answer e s.ring) = cc in
        let after : state_after_offer moment id payload s ≡ state_with_offer e s = cc in
        ap totals_in after ∙ pushed-totals e s ∙ ap (λ (o : Offered). totals_after_offer o (totals_in s)) (sym same)

-- a sound stream's counts are at most its offers, and those at most 2^62
pub record AreFew (t : Totals) : Type 0 where
  pub offered : t.offered ≤ 2 ^ 62
  pub discarded : t.discarded ≤ 2 ^ 62
  pub overwritten : t.overwritten ≤ 2 ^ 62
  pub overwritten_packets : t.overwritten_packets ≤ 2 ^ 62
  pub consumed : t.consumed ≤ 2 ^ 62
  pub cleared : t.cleared ≤ 2 ^ 62

pub few-counted : (s : StreamState) → IsSound s → AreFew (totals_in s)
few-counted s is = record {
  offered = omega (arith, is.few);
  discarded = omega (arith, is.few, is.total);
  overwritten = omega (arith, is.few, is.total);
  overwritten_packets = omega (arith, is.few, is.dropped, is.numbers);
  consumed = omega (arith, is.few, is.total, is.consumed, is.withdrawn);
  cleared = omega (arith, is.few, is.total);
}

-- ---- takes

-- what is taken is counted as consumed, and it has a record
pub record IsTakenFrom (s : StreamState) (taken : Taken) : Type 0 where
  pub totals : totals_in (state_after_take s) ≡ record (totals_in s) { consumed = (totals_in s).consumed + taken.count }
  pub some : 1 ≤ taken.count

pub take-totals : (s : StreamState) (taken : Taken) → IsSound s → Ok taken ≡ state_take_answer s → IsTakenFrom s taken
take-totals s taken is answered = go s.config.session s.ring.waiting refl refl
  where
    go : (mode : SessionMode) (waiting : List ClosedBuffer) → s.config.session ≡ mode → s.ring.waiting ≡ waiting → IsTakenFrom s taken
    go Snapshot waiting at has = cc
    go Local [] at has = cc
    go Local (b ∷ bs) at has =
        let count : taken.count ≡ length b.records = cc in
        let after : state_after_take s ≡ move_oldest (b ∷ bs) s = cc in
        let closed : AllByRecursion (IsClosedWithin s.config.geometry.size) (b ∷ bs) =
        subst (AllByRecursion (IsClosedWithin s.config.geometry.size)) has is.waiting_fit in
        record {
          totals = ap totals_in after ∙ ap (λ n. record (totals_in s) { consumed = (totals_in s).consumed + n }) (sym count);
          some = omega (arith, count, closed.0.some);
        }

-- a take that is refused changes nothing
take-unchanged : (s new : StreamState) (fault : TakeFault)
    → (Err fault ≡ state_take_answer s) × (new ≡ state_after_take s) → new ≡ s
take-unchanged s new fault is = go s.config.session s.ring.waiting refl refl
  where
    go : (mode : SessionMode) (waiting : List ClosedBuffer) → s.config.session ≡ mode → s.ring.waiting ≡ waiting → new ≡ s
    go Snapshot waiting at has = is.1 ∙ cc
    go Local [] at has = is.1 ∙ cc
    go Local (b ∷ bs) at has = cc

pub refused-take : (s new : StreamState) (fault : TakeFault)
    → (◌≢◌ {A = Result Taken TakeFault} (Err fault) (Err take_fault.NoMemory) → (Err fault ≡ state_take_answer s) × (new ≡ state_after_take s))
    → (◌≡◌ {A = Result Taken TakeFault} (Err fault) (Err take_fault.NoMemory) → new ≡ s) → new ≡ s
refused-take s new take_fault.NoMemory value none = none refl
refused-take s new take_fault.Nothing value none = take-unchanged s new take_fault.Nothing (value (λ e. cc))
refused-take s new take_fault.SnapshotMode value none = take-unchanged s new take_fault.SnapshotMode (value (λ e. cc))
refused-take s new take_fault.Misplaced value none = take-unchanged s new take_fault.Misplaced (value (λ e. cc))

-- ---- cuts

-- what a cut moves is counted as consumed, and one more chunk is closed
pub cut-totals : (moment : ℕ) (s : StreamState) (done : CutDone) → Ok done ≡ state_cut_answer moment s
    → totals_in (state_after_cut moment s)
    ≡ record (totals_in s) { consumed = (totals_in s).consumed + done.records; cuts = (totals_in s).cuts + 1 }
cut-totals moment s done answered = go s.config.session refl
  where
    end : ℕ
    end = max moment s.counters.last

    go : (mode : SessionMode) → s.config.session ≡ mode → totals_in (state_after_cut moment s)
        ≡ record (totals_in s) { consumed = (totals_in s).consumed + done.records; cuts = (totals_in s).cuts + 1 }
    go Snapshot at = cc
    go Local at =
        let is : done ≡ cut_done end s = cc in
        let records : in_ring s.ring ≡ done.records = sym (ap (λ (d : CutDone). d.records) is ∙ records_in-ring s end) in
        let after : state_after_cut moment s ≡ state_cut_ring end s = cc in
        let closed = length-append s.parts.closed (_ ∷ []) in
        ap totals_in after
        ∙ (λ j. record (totals_in s) { consumed = (totals_in s).consumed + records j; cuts = closed j })

-- ---- clears

-- what a clear removes is counted as cleared, and nothing else moves
pub clear-totals : (s : StreamState) (done : Cleared) → Ok done ≡ state_clear_answer s
    → totals_in (state_after_clear s) ≡ record (totals_in s) { cleared = (totals_in s).cleared + done.records }
clear-totals s done answered = go s.config.session refl
  where
    go : (mode : SessionMode) → s.config.session ≡ mode
        → totals_in (state_after_clear s) ≡ record (totals_in s) { cleared = (totals_in s).cleared + done.records }
    go Snapshot at = cc
    go Local at =
        let is : done ≡ state_cleared s = cc in
        let after : state_after_clear s ≡ state_clear_ring s = cc in
        ap totals_in after ∙ ap (λ (d : Cleared). record (totals_in s) { cleared = (totals_in s).cleared + d.records }) (sym is)

-- a cut that is refused leaves the stream as it was
pub refused-cut : (moment : ℕ) (s new : StreamState) (fault : CutFault)
    → (◌≢◌ {A = Result CutDone CutFault} (Err fault) (Err cut_fault.NoMemory)
    → (Err fault ≡ state_cut_answer moment s) × (new ≡ state_after_cut moment s))
    → (◌≡◌ {A = Result CutDone CutFault} (Err fault) (Err cut_fault.NoMemory) → new ≡ s) → new ≡ s
refused-cut moment s new cut_fault.NoMemory value none = none refl
refused-cut moment s new cut_fault.SnapshotMode value none = go s.config.session refl
  where
    is : (Err cut_fault.SnapshotMode ≡ state_cut_answer moment s) × (new ≡ state_after_cut moment s)
    is = value (λ e. cc)

    go : (mode : SessionMode) → s.config.session ≡ mode → new ≡ s
    go Snapshot at = is.1 ∙ cc
    go Local at = let answer = is.0 in cc

-- a clear that is refused changes nothing
pub refused-clear : (s new : StreamState) (fault : ClearFault)
    → (◌≢◌ {A = Result Cleared ClearFault} (Err fault) (Err clear_fault.NoMemory) → (Err fault ≡ state_clear_answer s) × (new ≡ state_after_clear s))
    → (◌≡◌ {A = Result Cleared ClearFault} (Err fault) (Err clear_fault.NoMemory) → new ≡ s) → new ≡ s
refused-clear s new clear_fault.NoMemory value none = none refl
refused-clear s new clear_fault.SnapshotMode value none = go s.config.session refl
  where
    is : (Err clear_fault.SnapshotMode ≡ state_clear_answer s) × (new ≡ state_after_clear s)
    is = value (λ e. cc)

    go : (mode : SessionMode) → s.config.session ≡ mode → new ≡ s
    go Snapshot at = is.1 ∙ cc
    go Local at = let answer = is.0 in cc

-- an accepted offer's serial is the number of offers before it
pub offer-serial : (moment id : ℕ) (payload : List ℕ) (s : StreamState) (offered : Offered)
    → Ok offered ≡ state_offer_answer moment id payload s → serial_of offered ≡ s.counters.offered
offer-serial moment id payload s offered is = go (refusal_of (length payload) s) refl
  where
    as-pushed : (p : Pushed) → serial_of (offered_as s.counters.offered p) ≡ s.counters.offered
    as-pushed (pushed.Stored seq) = refl
    as-pushed (pushed.StoredOver seq gone_seq gone_count) = refl
    as-pushed pushed.Refused = refl

    go : (refusal : Option OfferFault) → refusal_of (length payload) s ≡ refusal → serial_of offered ≡ s.counters.offered
    go (Some fault) at = cc
    go None at =
        let p = push_answer (state_entry moment id payload s) s.ring in
        let same : offered ≡ offered_as s.counters.offered p = cc in
        ap serial_of same ∙ as-pushed p
