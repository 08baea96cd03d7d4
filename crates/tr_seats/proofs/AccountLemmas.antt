-- A stream's journal, as its slot keeps it.
use Rattle.std.proofs.Common.{◌≡◌, ◌∙◌, ◌<◌, ℕ, Bool, List, [], ◌∷◌, ◌++◌, Result, ap, arith, map, subst, sym}
use Rattle.std.specs.List.{AllByRecursion}
use Rattle.std.specs.List.Sorted.{IsStrictlyIncreasing}
use Rattle.atomic_table.specs.Seated.{TableId}
use Rattle.tr_accounts.proofs.JournalLemmas.{journal-clear, journal-cut, journal-holds, journal-moved, journal-new, journal-offer, journal-switch, journal-take}
use Rattle.tr_accounts.proofs.SeatLemmas.{offers-theirs, operations-theirs}
use Rattle.tr_accounts.proofs.TakeLemmas.{own-rise, own-were}
use Rattle.tr_accounts.specs.Accounts.{history_of}
use Rattle.tr_accounts.specs.Seats.{IsJournalOf, desk_seat, producer_seat}
use Rattle.tr_accounts.specs.Holds.{HoldsOffers}
use Rattle.tr_accounts.specs.StreamSteps.{accepted_in, clear_step, cut_step, offer_step, switch_step, take_step, taken_in}
use Rattle.tr_accounts.specs.Takes.{WasTaken}
use Rattle.tr_accounts.specs.declared.step.StreamStep.{StreamStep}
use Rattle.tr_journal.specs.Journals.{IsSeatOf, JournalState, SeatState, journal_after, new_seat}
use Rattle.tr_journal.specs.Views.{all_done, done_by, line}
use Rattle.tr_seats.proofs.HeldLemmas.{held-clear, held-cut, held-new, held-offer, held-take}
use Rattle.tr_seats.specs.Accounts.{IsAccountOf, IsKeptAccount, IsNewAccount, IsOperatedBy, IsSeatAt, IsTakenFrom}
use Rattle.tr_seats.specs.Plans.{IsUnused}
use Rattle.tr_session.specs.Sizes.{HoldsItsParts}
use Rattle.tr_stream.proofs.TakeLemmas.{starts}
use Rattle.tr_stream.specs.Kept.{IsKept}
use Rattle.tr_stream.specs.StandsFor.{StandsFor}
use Rattle.tr_stream.specs.State.{StreamState}
use Rattle.tr_stream.specs.StateSteps.{state_after_clear, state_after_cut, state_after_offer, state_after_switch, state_after_take, state_clear_answer, state_cut_answer, state_offer_answer, state_take_answer}
use Rattle.tr_stream.specs.Steps.{new_history}
use Rattle.tr_stream.specs.declared.answers.ClearFault.{ClearFault}
use Rattle.tr_stream.specs.declared.answers.Cleared.{Cleared}
use Rattle.tr_stream.specs.declared.answers.CutDone.{CutDone}
use Rattle.tr_stream.specs.declared.answers.CutFault.{CutFault}
use Rattle.tr_stream.specs.declared.answers.OfferFault.{OfferFault}
use Rattle.tr_stream.specs.declared.answers.Offered.{Offered}
use Rattle.tr_stream.specs.declared.answers.TakeFault.{TakeFault}
use Rattle.tr_stream.specs.declared.answers.Taken.{Taken}

-- a new one
pub kept-new : (table : TableId) (stream : StreamState) (made : ℕ) (account : JournalState StreamStep) → account.table ≡ table
    → IsNewAccount account → made ≡ 0 → IsUnused stream → IsKeptAccount table stream made account
kept-new table stream made account at new none unused = record {
  table_is = at;
  lines_are = subst (λ lines. IsJournalOf lines stream) (sym new.0)
      (journal-new stream (subst (λ (t : StreamState). StandsFor t new_history) (sym unused) (starts stream.config)));
  made_is = omega (arith, new.1, none);
  held = held-new stream unused;
}

pub seat-new : (table : TableId) (who : ℕ) (account : JournalState StreamStep) (seat : SeatState StreamStep) → account.table ≡ table
    → seat ≡ new_seat account.table who → IsSeatAt table who seat
seat-new table who account seat at is = (
  ap (λ (s : SeatState StreamStep). s.table) is ∙ at,
  ap (λ (s : SeatState StreamStep). s.who) is,
  ap (λ (s : SeatState StreamStep). s.joined) is,
)

-- after a call was noted
module _ (table : TableId) (s : StreamState) (made : ℕ) (before after : JournalState StreamStep) (was : IsKeptAccount table s made before) where
  noted : (who : ℕ) (step : StreamStep) (t u : StreamState) → after ≡ journal_after who step before → t ≡ u
      → IsJournalOf (before.lines ++ line who step ∷ []) u → HoldsItsParts u → IsKeptAccount table t made after
  noted who step t u is same lines held = record {
    table_is = ap (λ (j : JournalState StreamStep). j.table) is ∙ was.table_is;
    lines_are = journal-moved before after who step t u is same lines;
    made_is = ap (λ (j : JournalState StreamStep). j.made) is ∙ was.made_is;
    held = subst HoldsItsParts (sym same) held;
  }

  pub kept-offer : (t : StreamState) (who moment id : ℕ) (payload : List ℕ) (told : Result Offered OfferFault) → who ≡ producer_seat → IsKept s
      → told ≡ state_offer_answer moment id payload s → t ≡ state_after_offer moment id payload s
      → after ≡ journal_after who (offer_step moment id payload told) before → IsKeptAccount table t made after
  kept-offer t who moment id payload told mine kept answer same is =
      noted who (offer_step moment id payload told) t (state_after_offer moment id payload s) is same
      (journal-offer before.lines s was.lines_are who moment id payload told mine kept answer) (held-offer s was.held moment id payload)

  pub kept-take : (t : StreamState) (who : ℕ) (told : Result Taken TakeFault) → desk_seat < who → told ≡ state_take_answer s
      → t ≡ state_after_take s → after ≡ journal_after who (take_step told) before → IsKeptAccount table t made after
  kept-take t who told theirs answer same is =
      noted who (take_step told) t (state_after_take s) is same
      (journal-take before.lines s was.lines_are who told theirs answer) (held-take s was.held)

  pub kept-cut : (t : StreamState) (who moment : ℕ) (told : Result CutDone CutFault) → who ≡ desk_seat → told ≡ state_cut_answer moment s
      → t ≡ state_after_cut moment s → after ≡ journal_after who (cut_step moment told) before → IsKeptAccount table t made after
  kept-cut t who moment told desk answer same is =
      noted who (cut_step moment told) t (state_after_cut moment s) is same
      (journal-cut before.lines s was.lines_are who moment told desk answer) (held-cut s was.held moment)

  pub kept-clear : (t : StreamState) (who : ℕ) (told : Result Cleared ClearFault) → who ≡ desk_seat → told ≡ state_clear_answer s
      → t ≡ state_after_clear s → after ≡ journal_after who (clear_step told) before → IsKeptAccount table t made after
  kept-clear t who told desk answer same is =
      noted who (clear_step told) t (state_after_clear s) is same
      (journal-clear before.lines s was.lines_are who told desk answer) (held-clear s was.held)

  pub kept-switch : (t : StreamState) (who : ℕ) (active : Bool) → who ≡ desk_seat → t ≡ state_after_switch active s
      → after ≡ journal_after who (switch_step active) before → IsKeptAccount table t made after
  kept-switch t who active desk same is =
      noted who (switch_step active) t (state_after_switch active s) is same
      (journal-switch before.lines s was.lines_are who active desk) (record { held = was.held.held; known = was.held.known })

-- what a producer's seat has
pub account-of : {made : ℕ} → (table : TableId) (s : StreamState) (account : JournalState StreamStep) (seat : SeatState StreamStep)
    → IsKeptAccount table s made account → IsSeatAt table producer_seat seat → IsSeatOf account seat → IsAccountOf seat.own s
account-of table s account seat kept at own =
    let lines = account.lines in
    let mine : seat.own ≡ done_by producer_seat lines = own.each.0.1 ∙ ap (λ who. done_by who lines) at.1 in
    record {
      all = all_done lines;
      accounted = kept.lines_are.accounted;
      offers = offers-theirs lines kept.lines_are.theirs ∙ sym mine;
      holds = subst (λ steps. HoldsOffers (accepted_in steps) s) (sym mine) (journal-holds lines s kept.lines_are);
    }

-- what the desk's seat has
pub operated-by : {made : ℕ} → (table : TableId) (s : StreamState) (account : JournalState StreamStep) (seat : SeatState StreamStep)
    → IsKeptAccount table s made account → IsSeatAt table desk_seat seat → IsSeatOf account seat → IsOperatedBy seat.own s
operated-by table s account seat kept at own =
    let lines = account.lines in
    let mine : seat.own ≡ done_by desk_seat lines = own.each.0.1 ∙ ap (λ who. done_by who lines) at.1 in
    record {
      all = all_done lines;
      accounted = kept.lines_are.accounted;
      operations = operations-theirs lines kept.lines_are.theirs ∙ sym mine;
    }

-- what a drainer's seat has
pub taken-from : {made : ℕ} → (table : TableId) (s : StreamState) (account : JournalState StreamStep) (seat : SeatState StreamStep)
    → IsKeptAccount table s made account → IsKept s → IsSeatOf account seat → IsTakenFrom (taken_in seat.own) s
taken-from table s account seat kept sound own =
    let lines = account.lines in
    let whole = kept.lines_are.accounted in
    let mine : seat.own ≡ done_by seat.who lines = own.each.0.1 in
    record {
      lines = lines;
      accounted = whole;
      who = seat.who;
      own = ap taken_in mine;
      rise = subst (λ steps. IsStrictlyIncreasing (map (λ (t : Taken). t.seq) (taken_in steps))) (sym mine)
          (own-rise lines s seat.who whole sound);
      were = subst (λ steps. AllByRecursion (WasTaken (history_of s.config (all_done lines))) (taken_in steps)) (sym mine)
          (own-were lines s seat.who whole sound);
    }
