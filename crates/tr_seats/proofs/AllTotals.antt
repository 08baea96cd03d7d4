-- What all seats have is what the streams count.
use Rattle.std.proofs.Common.{◌≡◌, ℕ, ◌+◌, ◌<◌, length, map, get_or, List, [], ◌∷◌, ap, ◌∙◌, subst, sym, refl, arith}
use Rattle.std.specs.Prelude.{sum}
use Rattle.std.specs.List.{sum_by}
use Rattle.std.proofs.lemmas.List.{length-map, get_or-map}
use Rattle.tr_ledger.specs.Ledgers.{SeatState, seat_state}
use Rattle.tr_seats.proofs.Joins.{tables-length}
use Rattle.tr_seats.proofs.Permuted.{one-each, sum_by-beside, sum_by-index, sum_by-same}
use Rattle.tr_seats.specs.Accounts.{IsAccountOf, IsTakenFrom}
use Rattle.tr_seats.specs.Books.{Books, cleared_books, consumed_books, cut_books, no_table}
use Rattle.tr_seats.specs.Desks.{DeskState}
use Rattle.tr_seats.specs.Drainers.{DrainerState, taken_at}
use Rattle.tr_seats.specs.Settling.{AreAccountsOf, AreAllMade, ArePacketsOf, AreTheirs, HaveCleared, HaveConsumed, IsOneEach, streams_of, taken_of, totals_of_seats}
use Rattle.tr_seats.specs.Slots.{AreJoined, AreSeatsOf, IsOwn, ProducerState, SlotState, amounts_of, slot_state}
use Rattle.tr_seats.specs.Sums.{totals_in, totals_of}
use Rattle.tr_seats.specs.declared.totals.Totals.{Totals}
use Rattle.tr_stream.specs.State.{StreamState}

sum-map : {X : Type 0} → (f : X → ℕ) (xs : List X) → sum_by f xs ≡ sum (map f xs)
sum-map f xs = sum_by-beside f (λ (n : ℕ). n) xs (map f xs) (sym (length-map xs f)) (λ k d e lt. sym (get_or-map f xs k d e lt))

-- a sum over the streams is one over their slots
of-slots : (f : StreamState → ℕ) (slots : List SlotState) → sum_by f (streams_of slots) ≡ sum_by (λ (s : SlotState). f s.stream) slots
of-slots f slots =
    sym (sum_by-beside (λ (s : SlotState). f s.stream) f slots (streams_of slots) (sym (length-map slots (λ (s : SlotState). s.stream)))
    (λ k d e lt. ap f (sym (get_or-map (λ (s : SlotState). s.stream) slots k d e lt))))

-- what a slot counts
abbrev counted : SlotState → Totals
counted s = totals_in s.stream

-- each producer is of a stream that there is
abbrev pub AreWithin : ℕ → List ProducerState → Type 0
AreWithin n producers = (k : ℕ) (p : ProducerState) → k < length producers → (get_or producers k p).number < n

-- each producer's number is that of its stream
abbrev AreCounted : (ProducerState → ℕ) → (Totals → ℕ) → List SlotState → List ProducerState → Type 0
AreCounted f h slots producers =
    (k : ℕ) (p : ProducerState) (s : SlotState) → k < length producers
    → f (get_or producers k p) ≡ h (counted (get_or slots (get_or producers k p).number s))

no-producers : (f : ProducerState → ℕ) (producers : List ProducerState) → AreWithin 0 producers → 0 ≡ sum_by f producers
no-producers f [] there = refl
no-producers f (p ∷ ps) there = absurd (omega (arith, there 0 p (omega arith)))

-- what the producers have is what the streams count
of-producers : (f : ProducerState → ℕ) (h : Totals → ℕ) (slots : List SlotState) (producers : List ProducerState)
    → IsOneEach (length slots) producers → AreWithin (length slots) producers → AreCounted f h slots producers
    → sum_by (λ (s : StreamState). h (totals_in s)) (streams_of slots) ≡ sum_by f producers
of-producers f h [] producers once there own = no-producers f producers there
of-producers f h (first ∷ rest) producers once there own =
    let slots = first ∷ rest in
    let at : ℕ → ℕ = λ i. h (counted (get_or slots i first)) in
    of-slots (λ (s : StreamState). h (totals_in s)) slots
    ∙ sym (sum_by-same f (λ p. at p.number) producers (λ k d lt. own k d first lt)
    ∙ one-each (λ (p : ProducerState). p.number) at (length slots) producers there once
    ∙ sum_by-index (λ (s : SlotState). h (counted s)) slots first)

-- what a row of whole seats has is what the streams count
of-row : (h : Totals → ℕ) (slots : List SlotState) (seats : List SeatState) → length seats ≡ length slots
    → ((k : ℕ) (d : SeatState) (s : SlotState) → k < length slots → (get_or seats k d).amount ≡ h (counted (get_or slots k s)))
    → sum_by (λ (s : StreamState). h (totals_in s)) (streams_of slots) ≡ sum (amounts_of seats)
of-row h slots seats len own =
    of-slots (λ (s : StreamState). h (totals_in s)) slots
    ∙ sym (sum_by-beside (λ (s : SeatState). s.amount) (λ (s : SlotState). h (counted s)) seats slots len
    (λ k d s lt. own k d s (omega (arith, lt, len))))
    ∙ sum-map (λ (s : SeatState). s.amount) seats

-- the seats of a row have the streams' counts
abbrev AreWholeOf : (Totals → ℕ) → List SlotState → List SeatState → Type 0
AreWholeOf h slots seats = (k : ℕ) (d : SeatState) (s : SlotState) → k < length slots → (get_or seats k d).amount ≡ h (counted (get_or slots k s))

module _ (books : List Books) (slots : List SlotState) (len : length slots ≡ length books) where
  -- the whole seats of the cuts have the streams' counts
  pub cuts-whole : (cuts : List SeatState) → AreSeatsOf (cut_books books) cuts
      → ((k : ℕ) (d : SeatState) (s : SlotState) → k < length slots → (get_or cuts k d).mark ≡ 1
      → (get_or cuts k d).amount ≡ (totals_in (get_or slots k s).stream).cuts)
      → (k : ℕ) (d : SeatState) (s : SlotState) → k < length slots → (get_or cuts k d).amount ≡ (totals_in (get_or slots k s).stream).cuts
  cuts-whole cuts row whole k d s lt =
      let wide = tables-length (cut_books books) cuts row.0 in
      whole k d s lt (row.1 k d (omega (arith, lt, len, wide, length-map books (λ (b : Books). b.cuts))))

  -- and those of the cleared records
  pub cleared-whole : (cleared : List SeatState) → AreSeatsOf (cleared_books books) cleared
      → ((k : ℕ) (d : SeatState) (s : SlotState) → k < length slots → (get_or cleared k d).mark ≡ 1
      → (get_or cleared k d).amount ≡ (totals_in (get_or slots k s).stream).cleared)
      → (k : ℕ) (d : SeatState) (s : SlotState) → k < length slots
      → (get_or cleared k d).amount ≡ (totals_in (get_or slots k s).stream).cleared
  cleared-whole cleared row whole k d s lt =
      let wide = tables-length (cleared_books books) cleared row.0 in
      whole k d s lt (row.1 k d (omega (arith, lt, len, wide, length-map books (λ (b : Books). b.cleared))))

  -- a row that was joined with the drainers' has what the streams consumed
  row-whole : (drainers : List DrainerState) (joined : List SeatState) → AreJoined (length drainers + 1) (consumed_books books) joined
      → AreAllMade (length drainers) slots
      → ((k : ℕ) (d : SeatState) (s : SlotState) → k < length slots → (get_or joined k d).mark ≡ (get_or slots k s).made + 1
      → (get_or joined k d).amount ≡ (totals_in (get_or slots k s).stream).consumed)
      → AreWholeOf (λ (t : Totals). t.consumed) slots joined
  row-whole drainers joined row made whole k d s lt =
      let wide = tables-length (consumed_books books) joined row.0 ∙ length-map books (λ (b : Books). b.consumed) in
      whole k d s lt (row.1 k d (omega (arith, lt, wide, len)) ∙ ap (λ n. n + 1) (sym (made k s lt)))

  -- so what the streams consumed is what the row had, and what the drainers took
  pub row-taken : (drainers : List DrainerState) (mine joined : List SeatState)
      → AreJoined (length drainers + 1) (consumed_books books) joined
      → ((k : ℕ) (d : SeatState) → k < length books → (get_or joined k d).amount ≡ (get_or mine k d).amount + taken_of drainers k)
      → AreAllMade (length drainers) slots
      → ((k : ℕ) (d : SeatState) (s : SlotState) → k < length slots → (get_or joined k d).mark ≡ (get_or slots k s).made + 1
      → (get_or joined k d).amount ≡ (totals_in (get_or slots k s).stream).consumed)
      → (k : ℕ) (d : SeatState) (s : SlotState) → k < length slots
      → (totals_in (get_or slots k s).stream).consumed ≡ (get_or mine k d).amount + taken_of drainers k
  row-taken drainers mine joined row each made whole k d s lt =
      sym (row-whole drainers joined row made whole k d s lt) ∙ each k d (omega (arith, lt, len))

  pub all-add_up : (producers : List ProducerState) (drainers : List DrainerState) (mine joined cuts cleared : List SeatState)
      → IsOneEach (length slots) producers → AreWithin (length books) producers
      → ((k : ℕ) (p : ProducerState) (s : SlotState) → k < length producers
      → IsOwn (get_or producers k p) (totals_in (get_or slots (get_or producers k p).number s).stream))
      → AreJoined (length drainers + 1) (consumed_books books) joined
      → sum (amounts_of joined) ≡ sum (amounts_of mine) + sum_by (λ (d : DrainerState). sum d.amounts) drainers → AreAllMade (length drainers) slots
      → ((k : ℕ) (d : SeatState) (s : SlotState) → k < length slots → (get_or joined k d).mark ≡ (get_or slots k s).made + 1
      → (get_or joined k d).amount ≡ (totals_in (get_or slots k s).stream).consumed)
      → AreSeatsOf (cut_books books) cuts
      → ((k : ℕ) (d : SeatState) (s : SlotState) → k < length slots → (get_or cuts k d).mark ≡ 1
      → (get_or cuts k d).amount ≡ (totals_in (get_or slots k s).stream).cuts)
      → AreSeatsOf (cleared_books books) cleared
      → ((k : ℕ) (d : SeatState) (s : SlotState) → k < length slots → (get_or cleared k d).mark ≡ 1
      → (get_or cleared k d).amount ≡ (totals_in (get_or slots k s).stream).cleared)
      → (desk : DeskState) → desk.consumed ≡ amounts_of mine → desk.cuts ≡ amounts_of cuts → desk.cleared ≡ amounts_of cleared
      → totals_of (streams_of slots) ≡ totals_of_seats producers drainers desk
  all-add_up producers drainers mine joined cuts cleared once there own row adds made whole cut_row cut_whole cleared_row cleared_are desk
      desk_consumed desk_cuts desk_cleared =
      let within : AreWithin (length slots) producers = λ k p lt. subst (λ n. (get_or producers k p).number < n) (sym len) (there k p lt) in
      let row_length = tables-length (consumed_books books) joined row.0 in
      let joined_length : length joined ≡ length slots = row_length ∙ length-map books (λ (b : Books). b.consumed) ∙ sym len in
      let cuts_length : length cuts ≡ length slots =
      tables-length (cut_books books) cuts cut_row.0 ∙ length-map books (λ (b : Books). b.cuts) ∙ sym len in
      let cleared_length : length cleared ≡ length slots =
      tables-length (cleared_books books) cleared cleared_row.0 ∙ length-map books (λ (b : Books). b.cleared) ∙ sym len in
      let joined_whole = row-whole drainers joined row made whole in
      let offered = of-producers (λ (p : ProducerState). p.offered) (λ (t : Totals). t.offered) slots producers once within
      (λ k p s lt. (own k p s lt).0) in
      let discarded = of-producers (λ (p : ProducerState). p.discarded) (λ (t : Totals). t.discarded) slots producers once within
      (λ k p s lt. (own k p s lt).1) in
      let overwritten = of-producers (λ (p : ProducerState). p.overwritten) (λ (t : Totals). t.overwritten) slots producers once within
      (λ k p s lt. (own k p s lt).2) in
      let packets = of-producers (λ (p : ProducerState). p.overwritten_packets) (λ (t : Totals). t.overwritten_packets) slots producers once
      within (λ k p s lt. (own k p s lt).3) in
      let consumed = of-row (λ (t : Totals). t.consumed) slots joined joined_length joined_whole
      ∙ adds ∙ ap (λ (l : List ℕ). sum l + sum_by (λ (d : DrainerState). sum d.amounts) drainers) (sym desk_consumed) in
      let cut = of-row (λ (t : Totals). t.cuts) slots cuts cuts_length (cuts-whole cuts cut_row cut_whole) ∙ ap sum (sym desk_cuts) in
      let gone = of-row (λ (t : Totals). t.cleared) slots cleared cleared_length (cleared-whole cleared cleared_row cleared_are)
      ∙ ap sum (sym desk_cleared) in
      λ k. record {
        offered = offered k;
        discarded = discarded k;
        overwritten = overwritten k;
        overwritten_packets = packets k;
        consumed = consumed k;
        cuts = cut k;
        cleared = gone k;
      }

-- each producer's numbers are those of its stream, out of its slot
pub theirs : (n : ℕ) (producers : List ProducerState) (slots : List SlotState) → length slots ≡ n → AreWithin n producers
    → ((k : ℕ) (p : ProducerState) (s : SlotState) → k < length producers
    → IsOwn (get_or producers k p) (totals_in (get_or slots (get_or producers k p).number s).stream))
    → AreTheirs producers (streams_of slots)
theirs n producers slots len there own k p t lt =
    let s = slot_state 0 t 0 in
    let q = get_or producers k p in
    let at = get_or-map (λ (x : SlotState). x.stream) slots q.number s t (omega (arith, there k p lt, len)) in
    subst (λ (x : StreamState). IsOwn q (totals_in x)) (sym at) (own k p s lt)

-- and so is what it offered
pub their-accounts : (n : ℕ) (producers : List ProducerState) (slots : List SlotState) → length slots ≡ n → AreWithin n producers
    → ((k : ℕ) (p : ProducerState) (s : SlotState) → k < length producers
    → IsAccountOf (get_or producers k p).steps (get_or slots (get_or producers k p).number s).stream)
    → AreAccountsOf producers (streams_of slots)
their-accounts n producers slots len there own k p t lt =
    let s = slot_state 0 t 0 in
    let q = get_or producers k p in
    let at = get_or-map (λ (x : SlotState). x.stream) slots q.number s t (omega (arith, there k p lt, len)) in
    subst (IsAccountOf q.steps) (sym at) (own k p s lt)

-- what a row and the drainers have is what was consumed of each stream, out of its slot
pub have-consumed : (mine : List SeatState) (drainers : List DrainerState) (slots : List SlotState) → length mine ≡ length slots
    → ((k : ℕ) (d : SeatState) (s : SlotState) → k < length slots
    → (totals_in (get_or slots k s).stream).consumed ≡ (get_or mine k d).amount + taken_of drainers k)
    → HaveConsumed (amounts_of mine) drainers (streams_of slots)
have-consumed mine drainers slots long row k t lt =
    let s = slot_state 0 t 0 in
    let d = seat_state no_table 0 1 in
    let there : k < length slots = omega (arith, lt, length-map slots (λ (x : SlotState). x.stream)) in
    let at = get_or-map (λ (x : SlotState). x.stream) slots k s t there in
    let has = get_or-map (λ (x : SeatState). x.amount) mine k d 0 (omega (arith, there, long)) in
    ap (λ (x : StreamState). (totals_in x).consumed) at ∙ row k d s there ∙ ap (λ n. n + taken_of drainers k) (sym has)

-- what a row has is what was cleared of each stream, out of its slot
pub have-cleared : (cleared : List SeatState) (slots : List SlotState) → length cleared ≡ length slots
    → ((k : ℕ) (d : SeatState) (s : SlotState) → k < length slots
    → (get_or cleared k d).amount ≡ (totals_in (get_or slots k s).stream).cleared) → HaveCleared (amounts_of cleared) (streams_of slots)
have-cleared cleared slots long row k t lt =
    let s = slot_state 0 t 0 in
    let d = seat_state no_table 0 1 in
    let there : k < length slots = omega (arith, lt, length-map slots (λ (x : SlotState). x.stream)) in
    let at = get_or-map (λ (x : SlotState). x.stream) slots k s t there in
    let has = get_or-map (λ (x : SeatState). x.amount) cleared k d 0 (omega (arith, there, long)) in
    ap (λ (x : StreamState). (totals_in x).cleared) at ∙ sym (row k d s there) ∙ sym has

-- the packets that each drainer took are what its streams have, out of their slots
pub their-packets : (drainers : List DrainerState) (slots : List SlotState)
    → ((k i : ℕ) (d : DrainerState) (s : SlotState) → k < length drainers → i < length slots
    → IsTakenFrom (taken_at (get_or drainers k d) i) (get_or slots i s).stream)
    → ArePacketsOf drainers (streams_of slots)
their-packets drainers slots own k i d t lt below =
    let s = slot_state 0 t 0 in
    let there : i < length slots = omega (arith, below, length-map slots (λ (x : SlotState). x.stream)) in
    let at = get_or-map (λ (x : SlotState). x.stream) slots i s t there in
    subst (IsTakenFrom (taken_at (get_or drainers k d) i)) (sym at) (own k i d s lt there)
