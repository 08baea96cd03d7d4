-- Every history of a run is well-formed, and what follows from that.
use Rattle.std.proofs.Common.{◌≡◌, ℕ, ◌+◌, ◌<◌, zero, suc, true, false, Bool, List, [], ◌∷◌, Some, refl, ◌∙◌, arith}
use Rattle.std.proofs.lemmas.Bool.Decides.{nat_tests}
use Rattle.std.proofs.lemmas.Grind.{common_steps}
use Rattle.std.specs.Prelude.{slice_get}
use Rattle.tr_stream.proofs.Consistency.{rising-where}
use Rattle.tr_stream.proofs.ClearLemmas.{clears}
use Rattle.tr_stream.proofs.CutLemmas.{cuts}
use Rattle.tr_stream.proofs.OfferLemmas.{offers}
use Rattle.tr_stream.proofs.Refinement.{stands-switched}
use Rattle.tr_stream.proofs.TakeLemmas.{starts, takes}
use Rattle.tr_stream.specs.Chunks.{chunk_of, origin_of, part_of, parts_below, waiting_of, kept_of, cleared_of, buffer_runs}
use Rattle.tr_stream.specs.Consistent.{Rising}
use Rattle.tr_stream.specs.History.{Status, Waiting, Dropped, Kept, Cleared, Closed, History, is_waiting, is_dropped, is_kept, is_cleared, is_consumed, is_withdrawn, offered_of, discarded_of, records_where, blocks_where, times}
use Rattle.tr_stream.specs.Runs.{history_after_event, history_after_events}
use Rattle.tr_stream.specs.Sound.{IsMade, IsUsable}
use Rattle.tr_stream.specs.StandsFor.{StandsFor}
use Rattle.tr_stream.specs.State.{StreamState}
use Rattle.tr_stream.specs.StateSteps.{overwrites}
use Rattle.tr_stream.specs.Steps.{new_history}
use Rattle.tr_stream.specs.WellFormed.{IsWellFormed, NumberedFrom, AllWait, WaitLast}
use Rattle.tr_stream.specs.declared.config.StreamConfig.{StreamConfig}
use Rattle.tr_stream.specs.declared.events.StreamEvent.{StreamEvent}
use Rattle.tr_stream.specs.declared.events.StreamEvent.TheVariants.{Offer, Take, Cut, Clear, Peek, Start, Stop, Release}
use Rattle.tr_stream.proofs.ReleaseLemmas.{releases}

-- what a stream that stands for a history would hold
abbrev held_by : StreamConfig → History → StreamState
held_by c h = record {
  config = c;
  ring = record {
    waiting = waiting_of h;
    current = h.filling.records;
    seq = h.filling.number;
    discarded = discarded_of h;
    size = c.geometry.size;
    count = c.geometry.count;
    overwrite = overwrites c.mode;
    origin = origin_of c;
  };
  parts = record {
    closed = parts_below c h.cuts h;
    current = part_of c h.cuts (chunk_of h.cuts h);
    cleared = buffer_runs (cleared_of h);
    starts = h.starts;
    forgotten = h.forgotten;
  };
  counters = record {
    offered = offered_of h;
    overwritten = records_where is_dropped h.closed;
    overwritten_packets = blocks_where is_dropped h.closed;
    consumed = records_where is_consumed h.closed;
    cleared = records_where is_cleared h.closed;
    withdrawn = records_where is_withdrawn h.closed;
    last = h.last;
  };
  active = h.active;
}

stands : (c : StreamConfig) (h : History) → IsWellFormed h → StandsFor (held_by c h) h
stands c h well = record {
  model = well;
  closed = refl;
  current = refl;
  starts = refl;
  forgotten = refl;
  runs = refl;
  waiting = refl;
  filling = refl;
  number = refl;
  discarded = refl;
  offered = refl;
  overwritten = refl;
  overwritten_packets = refl;
  consumed = refl;
  cleared = refl;
  withdrawn = refl;
  last = refl;
  active = refl;
}

made : (c : StreamConfig) (h : History) → IsUsable c → IsMade (held_by c h).config (held_by c h).ring
made c h is = record { size = refl; count = refl; mode = refl; origin = refl; size_low = is.size; count_low = is.count }

number-at : (n : ℕ) (cs : List Closed) (i : ℕ) (b : Closed) → NumberedFrom n cs → slice_get cs i ≡ Some b → b.block.number ≡ n + i
number-at n [] i b numbers at = cc
number-at n (c ∷ cs) zero b numbers at = grind (arith, common_steps, numbers.0, at)
number-at n (c ∷ cs) (suc i) b numbers at = number-at (n + 1) cs i b numbers.1 at ∙ omega arith

waits-at : (cs : List Closed) (i : ℕ) (b : Closed) → AllWait cs → slice_get cs i ≡ Some b → is_waiting b.status ≡ true
waits-at [] i b wait at = cc
waits-at (c ∷ cs) zero b wait at = grind (arith, common_steps, wait.0, at)
waits-at (c ∷ cs) (suc i) b wait at = waits-at cs i b wait.1 at

kept-waits : (b : Closed) → is_kept b.status ≡ true → is_waiting b.status ≡ true → ⊥
kept-waits b kept waits = by_status b.status kept waits
  where
    by_status : (st : Status) → is_kept st ≡ true → is_waiting st ≡ true → ⊥
    by_status Waiting kept waits = cc
    by_status Dropped kept waits = cc
    by_status (Kept k) kept waits = cc
    by_status (Cleared c) kept waits = cc

none-waits : (cs : List Closed) (i j : ℕ) (b d : Closed) → WaitLast cs → slice_get cs i ≡ Some b → slice_get cs j ≡ Some d
    → is_kept d.status ≡ true → i < j → is_waiting b.status ≡ false
none-waits [] i j b d order at later kept below = cc
none-waits (c ∷ cs) i zero b d order at later kept below = absurd (omega arith)
none-waits (c ∷ cs) (suc i) (suc j) b d order at later kept below = none-waits cs i j b d order.1 at later kept (omega arith)
none-waits (c ∷ cs) zero (suc j) b d order at later kept below = by_test (is_waiting b.status) refl
  where
    by_test : (w : Bool) → is_waiting b.status ≡ w → is_waiting b.status ≡ false
    by_test false e = e
    by_test true e = absurd (kept-waits d kept (waits-at cs j d (order.0 (grind (arith, common_steps, at, e))) later))

module _ {A : Type 0} where
  pub well_event : (c : StreamConfig) (e : StreamEvent A) (h : History) → IsUsable c → IsWellFormed h → IsWellFormed (history_after_event c e h)
  well_event c (Offer moment id payload) h usable well = (offers (held_by c h) h moment id payload (made c h usable) (stands c h well)).1.model
  well_event c Take h usable well = (takes (held_by c h) h (stands c h well)).1.model
  well_event c (Cut moment) h usable well = (cuts (held_by c h) h moment (stands c h well)).1.model
  well_event c Clear h usable well = (clears (held_by c h) h (stands c h well)).1.model
  well_event c (Release k) h usable well = (releases (held_by c h) h k (stands c h well)).1.model
  well_event c (Peek moment) h usable well = well
  well_event c Start h usable well = (stands-switched (held_by c h) h true (stands c h well)).model
  well_event c Stop h usable well = (stands-switched (held_by c h) h false (stands c h well)).model

  well_events : (c : StreamConfig) (es : List (StreamEvent A)) (h : History) → IsUsable c → IsWellFormed h
      → IsWellFormed (history_after_events c es h)
  well_events c [] h usable well = well
  well_events c (e ∷ es) h usable well = well_events c es (history_after_event c e h) usable (well_event c e h usable well)

  pub well_run : (c : StreamConfig) (es : List (StreamEvent A)) → IsUsable c → IsWellFormed (history_after_events c es new_history)
  well_run c es usable = well_events c es new_history usable (starts c).model

  -- each serial is in one place
  pub in_one_place : (c : StreamConfig) (es : List (StreamEvent A)) (n : ℕ) → IsUsable c
      → n < offered_of (history_after_events c es new_history) → times n (history_after_events c es new_history) ≡ 1
  in_one_place c es n usable below = let e = (well_run c es usable).serials n in grind (arith, nat_tests, e, below)

  -- the numbers and serials of what is kept rise
  pub kept_rise : (c : StreamConfig) (es : List (StreamEvent A)) → IsUsable c
      → (let h = history_after_events c es new_history in Rising 0 0 (kept_of h) h.filling.number (offered_of h))
  kept_rise c es usable =
      let h = history_after_events c es new_history in
      let well = well_run c es usable in
      rising-where is_kept 0 0 0 0 0 h.closed h.filling.number (offered_of h) well.numbers well.covers (omega arith)
      (omega arith) (omega (arith, well.filling)) (omega arith)

  -- below what is kept, all is kept, was dropped or was cleared
  pub settled_below : (c : StreamConfig) (es : List (StreamEvent A)) (i j : ℕ) (b d : Closed) → IsUsable c
      → (let h = history_after_events c es new_history in slice_get h.closed i ≡ Some b → slice_get h.closed j ≡ Some d
      → is_kept d.status ≡ true → i < j → (b.block.number ≡ i) × (is_waiting b.status ≡ false))
  settled_below c es i j b d usable at later kept below =
      let h = history_after_events c es new_history in
      let well = well_run c es usable in
      (number-at 0 h.closed i b well.numbers at ∙ omega arith, none-waits h.closed i j b d well.order at later kept below)
