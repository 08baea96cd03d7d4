-- A slot's books after the steps of its stream.
use Rattle.std.proofs.Common.{◌≡◌, ◌≢◌, ◌∙◌, ℕ, ◌+◌, Bool, true, false, List, Result, Err, ap, arith, eqb, sym, ⊎_elim, if◌then◌else◌}
use Rattle.std.specs.Prelude.{◌==◌}
use Rattle.std.proofs.lemmas.Bool.Decides.{eqb_tells}
use Rattle.atomic_table.specs.Seated.{TableId}
use Rattle.tr_ledger.specs.Ledgers.{IsSeatOf, LedgerState, SeatState, ledger_state, seat_state}
use Rattle.tr_seats.specs.Books.{AreBooksOf, Books}
use Rattle.tr_seats.specs.Slots.{SlotState, slot_after_offer, slot_offer_answer}
use Rattle.tr_seats.specs.Sums.{totals_after_offer, totals_in}
use Rattle.tr_seats.specs.declared.totals.Totals.{Totals}
use Rattle.tr_stream.specs.State.{StreamState}
use Rattle.tr_stream.specs.StateSteps.{state_after_offer, state_offer_answer}
use Rattle.tr_stream.specs.declared.answers.OfferFault.{OfferFault}
use Rattle.tr_stream.specs.declared.answers.Offered.{Offered}
use Rattle.tr_stream.specs.declared.answers.Offered.TheVariants.{Stored, StoredOver, Discarded}

pub if-same : {X : Type 0} (i j : ℕ) (x y : X) → i ≡ j → (if i == j then x else y) ≡ x
if-same i j x y same =
    ⊎_elim (λ (t : (eqb i j ≡ true) × (i ≡ j)). ap (λ (b : Bool). if b then x else y) t.0)
    (λ (t : (eqb i j ≡ false) × (i ≢ j)). absurd (t.1 same)) (eqb_tells i j)

-- the producer's number is the slot's
pub offered-here : (number moment id : ℕ) (payload : List ℕ) (slot new : SlotState) (result : Result Offered OfferFault)
    → number ≡ slot.number → result ≡ state_offer_answer moment id payload slot.stream
    → new ≡ record slot { stream = state_after_offer moment id payload slot.stream }
    → (result ≡ slot_offer_answer number moment id payload slot) × (new ≡ slot_after_offer number moment id payload slot)
offered-here number moment id payload slot new result same answer after = (
  answer ∙ sym (if-same number slot.number (state_offer_answer moment id payload slot.stream) (Err OfferFault.Misplaced) same),
  after ∙ sym (if-same number slot.number (record slot { stream = state_after_offer moment id payload slot.stream }) slot same),
)

module _ (books : Books) (s t : StreamState) (made : ℕ) (o d v p k c l : LedgerState)
    (was : AreBooksOf books s made o d v p k c l) where
  -- the ledgers of the stream after its step, where their totals are given
  rise : (table : Books → TableId) (total : Totals → ℕ) (old new : LedgerState) (n made : ℕ)
      → old ≡ ledger_state (table books) (total (totals_in s)) made → new ≡ ledger_state old.table (old.total + n) old.made
      → total (totals_in t) ≡ total (totals_in s) + n → new ≡ ledger_state (table books) (total (totals_in t)) made
  rise table total old new n made is e more =
      e ∙ ap (λ (l : LedgerState). ledger_state l.table (l.total + n) l.made) is
      ∙ ap (λ (x : ℕ). ledger_state (table books) x made) (sym more)

  stay : (table : Books → TableId) (total : Totals → ℕ) (old : LedgerState) (made : ℕ)
      → old ≡ ledger_state (table books) (total (totals_in s)) made
      → total (totals_in t) ≡ total (totals_in s) → old ≡ ledger_state (table books) (total (totals_in t)) made
  stay table total old made is same = is ∙ ap (λ (x : ℕ). ledger_state (table books) x made) (sym same)

  -- no count but that of the offers moved
  pub books-stored : (o' : LedgerState) (serial seq : ℕ) → totals_in t ≡ totals_after_offer (Stored serial seq) (totals_in s)
      → o' ≡ ledger_state o.table (o.total + 1) o.made → AreBooksOf books t made o' d v p k c l
  books-stored o' serial seq more e = record {
    offered_is = rise (λ (b : Books). b.offered) (λ (x : Totals). x.offered) o o' 1 0 was.offered_is e (ap (λ (x : Totals). x.offered) more);
    discarded_is = stay (λ (b : Books). b.discarded) (λ (x : Totals). x.discarded) d 0 was.discarded_is (ap (λ (x : Totals). x.discarded) more);
    overwritten_is = stay (λ (b : Books). b.overwritten) (λ (x : Totals). x.overwritten) v 0 was.overwritten_is
        (ap (λ (x : Totals). x.overwritten) more);
    packets_is = stay (λ (b : Books). b.overwritten_packets) (λ (x : Totals). x.overwritten_packets) p 0 was.packets_is
        (ap (λ (x : Totals). x.overwritten_packets) more);
    consumed_is = stay (λ (b : Books). b.consumed) (λ (x : Totals). x.consumed) k made was.consumed_is (ap (λ (x : Totals). x.consumed) more);
    cuts_is = stay (λ (b : Books). b.cuts) (λ (x : Totals). x.cuts) c 0 was.cuts_is (ap (λ (x : Totals). x.cuts) more);
    cleared_is = stay (λ (b : Books). b.cleared) (λ (x : Totals). x.cleared) l 0 was.cleared_is (ap (λ (x : Totals). x.cleared) more);
  }

  pub books-stored_over : (o' v' p' : LedgerState) (serial seq gone_seq gone_count : ℕ)
      → totals_in t ≡ totals_after_offer (StoredOver serial seq gone_seq gone_count) (totals_in s)
      → o' ≡ ledger_state o.table (o.total + 1) o.made → v' ≡ ledger_state v.table (v.total + gone_count) v.made
      → p' ≡ ledger_state p.table (p.total + 1) p.made → AreBooksOf books t made o' d v' p' k c l
  books-stored_over o' v' p' serial seq gone_seq gone_count more eo ev ep = record {
    offered_is = rise (λ (b : Books). b.offered) (λ (x : Totals). x.offered) o o' 1 0 was.offered_is eo (ap (λ (x : Totals). x.offered) more);
    discarded_is = stay (λ (b : Books). b.discarded) (λ (x : Totals). x.discarded) d 0 was.discarded_is (ap (λ (x : Totals). x.discarded) more);
    overwritten_is = rise (λ (b : Books). b.overwritten) (λ (x : Totals). x.overwritten) v v' gone_count 0 was.overwritten_is ev
        (ap (λ (x : Totals). x.overwritten) more);
    packets_is = rise (λ (b : Books). b.overwritten_packets) (λ (x : Totals). x.overwritten_packets) p p' 1 0 was.packets_is ep
        (ap (λ (x : Totals). x.overwritten_packets) more);
    consumed_is = stay (λ (b : Books). b.consumed) (λ (x : Totals). x.consumed) k made was.consumed_is (ap (λ (x : Totals). x.consumed) more);
    cuts_is = stay (λ (b : Books). b.cuts) (λ (x : Totals). x.cuts) c 0 was.cuts_is (ap (λ (x : Totals). x.cuts) more);
    cleared_is = stay (λ (b : Books). b.cleared) (λ (x : Totals). x.cleared) l 0 was.cleared_is (ap (λ (x : Totals). x.cleared) more);
  }

  pub books-discarded : (o' d' : LedgerState) (serial : ℕ) → totals_in t ≡ totals_after_offer (Discarded serial) (totals_in s)
      → o' ≡ ledger_state o.table (o.total + 1) o.made → d' ≡ ledger_state d.table (d.total + 1) d.made
      → AreBooksOf books t made o' d' v p k c l
  books-discarded o' d' serial more eo ed = record {
    offered_is = rise (λ (b : Books). b.offered) (λ (x : Totals). x.offered) o o' 1 0 was.offered_is eo (ap (λ (x : Totals). x.offered) more);
    discarded_is = rise (λ (b : Books). b.discarded) (λ (x : Totals). x.discarded) d d' 1 0 was.discarded_is ed
        (ap (λ (x : Totals). x.discarded) more);
    overwritten_is = stay (λ (b : Books). b.overwritten) (λ (x : Totals). x.overwritten) v 0 was.overwritten_is
        (ap (λ (x : Totals). x.overwritten) more);
    packets_is = stay (λ (b : Books). b.overwritten_packets) (λ (x : Totals). x.overwritten_packets) p 0 was.packets_is
        (ap (λ (x : Totals). x.overwritten_packets) more);
    consumed_is = stay (λ (b : Books). b.consumed) (λ (x : Totals). x.consumed) k made was.consumed_is (ap (λ (x : Totals). x.consumed) more);
    cuts_is = stay (λ (b : Books). b.cuts) (λ (x : Totals). x.cuts) c 0 was.cuts_is (ap (λ (x : Totals). x.cuts) more);
    cleared_is = stay (λ (b : Books). b.cleared) (λ (x : Totals). x.cleared) l 0 was.cleared_is (ap (λ (x : Totals). x.cleared) more);
  }

  pub books-taken : (k' : LedgerState) (n : ℕ) → totals_in t ≡ record (totals_in s) { consumed = (totals_in s).consumed + n }
      → k' ≡ ledger_state k.table (k.total + n) k.made → AreBooksOf books t k'.made o d v p k' c l
  books-taken k' n more e =
      let same : k'.made ≡ made =
      ap (λ (l : LedgerState). l.made) (e ∙ ap (λ (l : LedgerState). ledger_state l.table (l.total + n) l.made) was.consumed_is) in
      record {
        offered_is = stay (λ (b : Books). b.offered) (λ (x : Totals). x.offered) o 0 was.offered_is (ap (λ (x : Totals). x.offered) more);
        discarded_is = stay (λ (b : Books). b.discarded) (λ (x : Totals). x.discarded) d 0 was.discarded_is (ap (λ (x : Totals). x.discarded) more);
        overwritten_is = stay (λ (b : Books). b.overwritten) (λ (x : Totals). x.overwritten) v 0 was.overwritten_is
            (ap (λ (x : Totals). x.overwritten) more);
        packets_is = stay (λ (b : Books). b.overwritten_packets) (λ (x : Totals). x.overwritten_packets) p 0 was.packets_is
            (ap (λ (x : Totals). x.overwritten_packets) more);
        consumed_is = rise (λ (b : Books). b.consumed) (λ (x : Totals). x.consumed) k k' n made was.consumed_is e
            (ap (λ (x : Totals). x.consumed) more)
            ∙ ap (λ (m : ℕ). ledger_state books.consumed (totals_in t).consumed m) (sym same);
        cuts_is = stay (λ (b : Books). b.cuts) (λ (x : Totals). x.cuts) c 0 was.cuts_is (ap (λ (x : Totals). x.cuts) more);
        cleared_is = stay (λ (b : Books). b.cleared) (λ (x : Totals). x.cleared) l 0 was.cleared_is (ap (λ (x : Totals). x.cleared) more);
      }

  pub books-cut : (k' c' : LedgerState) (n : ℕ)
      → totals_in t ≡ record (totals_in s) { consumed = (totals_in s).consumed + n; cuts = (totals_in s).cuts + 1 }
      → k' ≡ ledger_state k.table (k.total + n) k.made → c' ≡ ledger_state c.table (c.total + 1) c.made
      → AreBooksOf books t k'.made o d v p k' c' l
  books-cut k' c' n more e ec =
      let same : k'.made ≡ made =
      ap (λ (l : LedgerState). l.made) (e ∙ ap (λ (l : LedgerState). ledger_state l.table (l.total + n) l.made) was.consumed_is) in
      record {
        offered_is = stay (λ (b : Books). b.offered) (λ (x : Totals). x.offered) o 0 was.offered_is (ap (λ (x : Totals). x.offered) more);
        discarded_is = stay (λ (b : Books). b.discarded) (λ (x : Totals). x.discarded) d 0 was.discarded_is (ap (λ (x : Totals). x.discarded) more);
        overwritten_is = stay (λ (b : Books). b.overwritten) (λ (x : Totals). x.overwritten) v 0 was.overwritten_is
            (ap (λ (x : Totals). x.overwritten) more);
        packets_is = stay (λ (b : Books). b.overwritten_packets) (λ (x : Totals). x.overwritten_packets) p 0 was.packets_is
            (ap (λ (x : Totals). x.overwritten_packets) more);
        consumed_is = rise (λ (b : Books). b.consumed) (λ (x : Totals). x.consumed) k k' n made was.consumed_is e
            (ap (λ (x : Totals). x.consumed) more)
            ∙ ap (λ (m : ℕ). ledger_state books.consumed (totals_in t).consumed m) (sym same);
        cuts_is = rise (λ (b : Books). b.cuts) (λ (x : Totals). x.cuts) c c' 1 0 was.cuts_is ec (ap (λ (x : Totals). x.cuts) more);
        cleared_is = stay (λ (b : Books). b.cleared) (λ (x : Totals). x.cleared) l 0 was.cleared_is (ap (λ (x : Totals). x.cleared) more);
      }

  pub books-cleared : (l' : LedgerState) (n : ℕ) → totals_in t ≡ record (totals_in s) { cleared = (totals_in s).cleared + n }
      → l' ≡ ledger_state l.table (l.total + n) l.made → AreBooksOf books t made o d v p k c l'
  books-cleared l' n more e = record {
    offered_is = stay (λ (b : Books). b.offered) (λ (x : Totals). x.offered) o 0 was.offered_is (ap (λ (x : Totals). x.offered) more);
    discarded_is = stay (λ (b : Books). b.discarded) (λ (x : Totals). x.discarded) d 0 was.discarded_is (ap (λ (x : Totals). x.discarded) more);
    overwritten_is = stay (λ (b : Books). b.overwritten) (λ (x : Totals). x.overwritten) v 0 was.overwritten_is
        (ap (λ (x : Totals). x.overwritten) more);
    packets_is = stay (λ (b : Books). b.overwritten_packets) (λ (x : Totals). x.overwritten_packets) p 0 was.packets_is
        (ap (λ (x : Totals). x.overwritten_packets) more);
    consumed_is = stay (λ (b : Books). b.consumed) (λ (x : Totals). x.consumed) k made was.consumed_is (ap (λ (x : Totals). x.consumed) more);
    cuts_is = stay (λ (b : Books). b.cuts) (λ (x : Totals). x.cuts) c 0 was.cuts_is (ap (λ (x : Totals). x.cuts) more);
    cleared_is = rise (λ (b : Books). b.cleared) (λ (x : Totals). x.cleared) l l' n 0 was.cleared_is e (ap (λ (x : Totals). x.cleared) more);
  }

-- a whole seat that was raised by one had the whole total before
pub whole-before : (ledger raised : LedgerState) (seat risen : SeatState) (table : TableId) (total : ℕ)
    → ledger ≡ ledger_state table total 0 → seat ≡ seat_state table seat.amount 1
    → raised ≡ ledger_state ledger.table (ledger.total + 1) ledger.made
    → risen ≡ seat_state seat.table (seat.amount + 1) seat.mark → IsSeatOf raised risen → seat.amount ≡ total
whole-before ledger raised seat risen table total is whole up risen_is share =
    let made : raised.made ≡ 0 = ap (λ (l : LedgerState). l.made) up ∙ ap (λ (l : LedgerState). l.made) is in
    let mark : risen.mark ≡ 1 = ap (λ (s : SeatState). s.mark) risen_is ∙ ap (λ (s : SeatState). s.mark) whole in
    let all : risen.amount ≡ raised.total = share.2 (omega (arith, made, mark)) in
    let amount : risen.amount ≡ seat.amount + 1 = ap (λ (s : SeatState). s.amount) risen_is in
    let now : raised.total ≡ ledger.total + 1 = ap (λ (l : LedgerState). l.total) up in
    let was : ledger.total ≡ total = ap (λ (l : LedgerState). l.total) is in
    omega (arith, all, amount, now, was)
