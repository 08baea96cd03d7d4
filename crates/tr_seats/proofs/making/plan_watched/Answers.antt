use Rattle.std.proofs.Common.{◌≡◌, ◌∙◌, Ok, ap, arith, length, subst, sym}
use Rattle.std.proofs.lemmas.List.{length-map}
use Rattle.std.proofs.lemmas.List.FromFn.{length-map-range_with_len}
use Rattle.tr_seats.proofs.OverwriteLemmas.{configured-overwrites}
use Rattle.tr_seats.proofs.PlanLemmas.{configured-unused}
use Rattle.tr_journal.specs.Journals.{JournalState}
use Rattle.tr_operations.specs.declared.step.DeskStep.{DeskStep}
use Rattle.tr_seats.proofs.making.plan_watched.Goals as goal
use Rattle.tr_seats.specs.Books.{AreOverwriting}
use Rattle.tr_seats.specs.Plans.{AreUnused, PlannedState, streams_in, tellers_in}
use Rattle.tr_seats.proofs.TellerLemmas.{tellers-new}
use Rattle.tr_tally.specs.Tallies.{TallyState, new_watchers, teller_state}
use Rattle.tr_session.specs.Runs.{session_of_config}
use Rattle.tr_session.specs.Session.{HasItsStreams, SessionOf, session_of}
use Rattle.tr_stream.specs.Rules.{by_state}
use Rattle.tr_stream.specs.State.{StreamState}

pub open_all-requires-clause-unused : goal.open_all-requires-clause-unused
open_all-requires-clause-unused g c =
    subst (λ (x : SessionOf StreamState). AreUnused x.streams) (sym c.into_parts-book.ensures.value)
    (configured-unused c.args.config.now c.in_ok-configure.field-0 c.in_ok-configure.ensures.ok)

pub invariant_of-result : goal.invariant_of-result
invariant_of-result g c =
    let items = c.in_ok-streams.streams.items in
    let whole : session_of c.into_parts-book.result.0 (streams_in items) ≡ c.in_ok-configure.field-0 =
    (λ j. session_of c.into_parts-book.result.0 (c.in_ok-streams.ensures.streams j)) ∙ c.into_parts-book.ensures.value in
    let many : c.len.result ≡ length c.into_parts-book.result.1.items = c.len.ensures ∙ c.into_parts-book.result.1.ok.0 in (
      record {
        books = length-map items (λ (p : PlannedState). p.books) ∙ sym (length-map items (λ (p : PlannedState). p.stream));
        session = subst HasItsStreams (sym whole) c.into_parts-book.ensures.own;
        overwriting = subst (λ (x : SessionOf StreamState). AreOverwriting x.book.mode x.streams) (sym whole)
            (configured-overwrites c.args.config.now c.in_ok-configure.field-0 c.in_ok-configure.ensures.ok);
        tally = ap (λ (t : TallyState). t.streams) c.in_ok-tally.ensures.tally ∙ many ∙ sym (ap length c.in_ok-streams.ensures.streams)
            ∙ length-map items (λ (p : PlannedState). p.stream) ∙ sym (length-map items (λ (p : PlannedState). p.books));
      },
      subst (λ (x : SessionOf StreamState). AreUnused x.streams) (sym whole)
          (configured-unused c.args.config.now c.in_ok-configure.field-0 c.in_ok-configure.ensures.ok),
      tellers-new c.in_ok-tally.tally.table c.len.result (tellers_in items)
          (c.in_ok-streams.ensures.tellers ∙ c.in_ok-tally.ensures.tellers),
      c.in_ok-tally.ensures.watchers
          ∙ ap (λ (t : TallyState). new_watchers t.table t.streams t.watchers) (sym c.in_ok-tally.ensures.tally),
      ap (λ (j : JournalState DeskStep). j.lines) c.in_ok-journal.ensures.0,
      ap (λ (j : JournalState DeskStep). j.made) c.in_ok-journal.ensures.0,
    )

pub returns-clause-session : goal.returns-clause-session
returns-clause-session g c =
    let items = c.in_ok-streams.streams.items in
    let whole : session_of c.into_parts-book.result.0 (streams_in items) ≡ c.in_ok-configure.field-0 =
    (λ j. session_of c.into_parts-book.result.0 (c.in_ok-streams.ensures.streams j)) ∙ c.into_parts-book.ensures.value in
    subst (λ (x : SessionOf StreamState). session_of_config by_state c.args.config.now ≡ Ok x) (sym whole)
    c.in_ok-configure.ensures.ok

pub returns-clause-books : goal.returns-clause-books
returns-clause-books g c =
    let items = c.in_ok-streams.streams.items in
    length-map items (λ (p : PlannedState). p.books) ∙ sym (length-map items (λ (p : PlannedState). p.stream))

pub open_all-requires-clause-each : goal.open_all-requires-clause-each
open_all-requires-clause-each g c =
    let table = c.in_ok-tally.tally.table in
    omega (
      arith,
      c.len.ensures,
      ap length c.in_ok-tally.ensures.tellers,
      length-map-range_with_len (λ i. teller_state table i 0) 0 c.len.result,
    )
