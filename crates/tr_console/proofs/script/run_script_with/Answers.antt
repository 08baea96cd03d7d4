use Rattle.std.proofs.Common.{◌≡◌, ◌∙◌, ◌≤◌, ◌+◌, refl, ap, sym, arith, Ok, Err, List, [], ℕ, option_map}
use Rattle.std.specs.Borrow.{Bor}
use Rattle.tr_console.proofs.FaultLemmas.{byte-one, made, made_err, same_err, ok_is_no_err}
use Rattle.tr_console.proofs.LineSteps.{one_if}
use Rattle.tr_console.proofs.RunLemmas.{Comes-found, Comes-gathered, Comes-memory, Comes-wrote, Going-breaks, Going-first, Going-gathers, Going-last, Going-line, Going-memory, Going-too_far, Going-wrote}
use Rattle.tr_console.proofs.script.run_script_with.Goals as goal
use Rattle.tr_console.specs.Script.{text_step}
use Rattle.tr_console.specs.declared.script_fault.ScriptFault.TheVariants as fault
use Rattle.tr_lines.specs.Reading.{Reading}
use Rattle.tr_record.proofs.ByteLemmas.{and_then_bytes-none}
use Rattle.tr_record.specs.Bytes.{once_more}
use Rattle.tr_stream.specs.Rules.{by_state}
use Rattle.tr_terms.specs.declared.limits.TheConstants.{LONGEST_SCRIPT}

pub returns-in_err-reader-clause-memory : goal.returns-in_err-reader-clause-memory
returns-in_err-reader-clause-memory g c _ = record {
  script = [];
  count = 0;
  fits = omega arith;
  read = sym (and_then_bytes-none _);
  wrote = sym (and_then_bytes-none _);
  reached = omega arith;
}

pub lines-init : goal.lines-init
lines-init g c =
    let began = c.in_ok-reader.ensures in
    record {
      going = Going-first _ _ _ c.in_ok-outbox.outbox c.in_ok-reader.reader _ c.in_ok-outbox.ensures (ap (λ r. r.held) began)
          (ap (λ r. r.total) began) c.new-console.ensures;
      content = refl;
      source_works = refl;
      sink_works = refl;
    }

-- ---- the next line isn't read

pub returns-in_err-found-clause-source_works : goal.returns-in_err-found-clause-source_works
returns-in_err-found-clause-source_works g c no_read =
    c.next_line.ensures.source_works
    (λ r. no_read (made_err c.from_residual-in_err-found.result _ c.from_residual-in_err-found.ensures.1
    ∙ ap Err (same_err c.next_line.result c.in_err-found.field-0.0 fault.Read c.in_err-found.was r)))
    ∙ c.lines.invariant.source_works

pub returns-in_err-found-clause-sink_works : goal.returns-in_err-found-clause-sink_works
returns-in_err-found-clause-sink_works g c no_write =
    c.next_line.ensures.sink_works
    (λ r. no_write (made_err c.from_residual-in_err-found.result _ c.from_residual-in_err-found.ensures.1
    ∙ ap Err (same_err c.next_line.result c.in_err-found.field-0.0 fault.Write c.in_err-found.was r)))
    ∙ c.lines.invariant.sink_works

pub returns-in_err-found-clause-source_failed : goal.returns-in_err-found-clause-source_failed
returns-in_err-found-clause-source_failed g c e =
    let is = made c.from_residual-in_err-found.result _ fault.Read c.from_residual-in_err-found.ensures.1 e in
    (c.next_line.ensures.read (c.in_err-found.was ∙ ap Err is)).2 ∙ ap once_more c.lines.invariant.source_works

pub returns-in_err-found-clause-sink_failed : goal.returns-in_err-found-clause-sink_failed
returns-in_err-found-clause-sink_failed g c e =
    let is = made c.from_residual-in_err-found.result _ fault.Write c.from_residual-in_err-found.ensures.1 e in
    (c.next_line.ensures.write (c.in_err-found.was ∙ ap Err is)).2 ∙ ap once_more c.lines.invariant.sink_works

pub returns-in_err-found-clause-read : goal.returns-in_err-found-clause-read
returns-in_err-found-clause-read g c e =
    let is = made c.from_residual-in_err-found.result _ fault.Read c.from_residual-in_err-found.ensures.1 e in
    let broke = c.next_line.ensures.read (c.in_err-found.was ∙ ap Err is) in
    let most : c.next_line.new.reader.total ≤ LONGEST_SCRIPT =
    omega (arith, c.reader-in-lines.invariant.3, ap (λ (r : Reading). r.total) c.reader-in-lines.view_is) in
    Going-breaks _ _ _ _ _ c.lines.outbox c.lines.reader _ _ c.lines.invariant.going _ _ c.next_line.new.reader broke.1 most broke.0

pub returns-in_err-found-clause-too_long : goal.returns-in_err-found-clause-too_long
returns-in_err-found-clause-too_long g c e =
    let is = made c.from_residual-in_err-found.result _ fault.TooLong c.from_residual-in_err-found.ensures.1 e in
    let far = c.next_line.ensures.too_long (c.in_err-found.was ∙ ap Err is) in
    Going-too_far _ _ _ _ _ c.lines.outbox c.lines.reader _ _ c.lines.invariant.going _ _ c.next_line.new.reader far.1 far.0

pub returns-in_err-found-clause-memory : goal.returns-in_err-found-clause-memory
returns-in_err-found-clause-memory g c e =
    let is = made c.from_residual-in_err-found.result _ fault.NoMemory c.from_residual-in_err-found.ensures.1 e in
    let lacking = c.next_line.ensures.memory (c.in_err-found.was ∙ ap Err is) in
    let most : c.next_line.new.reader.total ≤ LONGEST_SCRIPT =
    omega (arith, c.reader-in-lines.invariant.3, ap (λ (r : Reading). r.total) c.reader-in-lines.view_is) in
    Going-memory _ _ _ _ _ c.lines.outbox c.lines.reader _ _ c.lines.invariant.going _ _ c.next_line.new.reader lacking.1 most
    c.next_line.ensures.held lacking.0

pub returns-in_err-found-clause-write : goal.returns-in_err-found-clause-write
returns-in_err-found-clause-write g c e =
    let is = made c.from_residual-in_err-found.result _ fault.Write c.from_residual-in_err-found.ensures.1 e in
    let some = c.next_line.ensures.write (c.in_err-found.was ∙ ap Err is) in
    Going-wrote _ _ _ _ _ c.lines.outbox c.lines.reader _ _ c.lines.invariant.going _ _ _ some.0 some.1

-- ---- the line isn't answered

pub returns-in_err-is_refused-clause-sink_works : goal.returns-in_err-is_refused-clause-sink_works
returns-in_err-is_refused-clause-sink_works g c no_write =
    c.answer_line.ensures.no_failure
    (λ r. no_write (made_err c.from_residual-in_err-is_refused.result _ c.from_residual-in_err-is_refused.ensures.1
    ∙ ap Err (same_err c.answer_line.result c.in_err-is_refused.field-0.0 fault.Write c.in_err-is_refused.was r)))
    ∙ c.in_ok-found.ensures.sink_works (λ e. ok_is_no_err _ _ e) ∙ c.lines.invariant.sink_works

pub returns-in_err-is_refused-clause-write : goal.returns-in_err-is_refused-clause-write
returns-in_err-is_refused-clause-write g c e =
    let is = made c.from_residual-in_err-is_refused.result _ fault.Write c.from_residual-in_err-is_refused.ensures.1 e in
    let some = c.answer_line.ensures.write (c.in_err-is_refused.was ∙ ap Err is) in
    let mid = Going-gathers _ _ _ _ _ c.lines.outbox c.lines.reader _ _ c.lines.invariant.going _ c.next_line.new.outbox c.in_ok-found.ensures.gathered in
    let same = c.next_line.ensures.content ∙ c.lines.invariant.content in
    let most : c.next_line.new.reader.total ≤ LONGEST_SCRIPT =
    omega (arith, c.reader-in-lines.invariant.3, ap (λ (r : Reading). r.total) c.reader-in-lines.view_is) in
    let comes = Comes-found _ _ _ _ _ c.next_line.new.outbox c.lines.reader _ _ mid (g.S.ByteSource.content c.args.source.now)
    c.in_ok-found.found _ c.next_line.new.reader most c.next_line.ensures.held
    (λ w. c.next_line.ensures.whole (c.in_ok-found.was ∙ ap Ok w))
    (λ l. let last = c.next_line.ensures.last (c.in_ok-found.was ∙ ap Ok l) in (last.0, last.1 ∙ same)) in
    Comes-wrote _ _ _ _ _ c.next_line.new.outbox c.lines.reader _ _ mid _ _ _ c.next_line.new.reader _ c.text.ensures some comes

pub returns-in_err-is_refused-clause-memory : goal.returns-in_err-is_refused-clause-memory
returns-in_err-is_refused-clause-memory g c e =
    let is = made c.from_residual-in_err-is_refused.result _ fault.NoMemory c.from_residual-in_err-is_refused.ensures.1 e in
    let all_out = c.answer_line.ensures.memory (c.in_err-is_refused.was ∙ ap Err is) in
    let mid = Going-gathers _ _ _ _ _ c.lines.outbox c.lines.reader _ _ c.lines.invariant.going _ c.next_line.new.outbox c.in_ok-found.ensures.gathered in
    let same = c.next_line.ensures.content ∙ c.lines.invariant.content in
    let most : c.next_line.new.reader.total ≤ LONGEST_SCRIPT =
    omega (arith, c.reader-in-lines.invariant.3, ap (λ (r : Reading). r.total) c.reader-in-lines.view_is) in
    let comes = Comes-found _ _ _ _ _ c.next_line.new.outbox c.lines.reader _ _ mid (g.S.ByteSource.content c.args.source.now)
    c.in_ok-found.found _ c.next_line.new.reader most c.next_line.ensures.held
    (λ w. c.next_line.ensures.whole (c.in_ok-found.was ∙ ap Ok w))
    (λ l. let last = c.next_line.ensures.last (c.in_ok-found.was ∙ ap Ok l) in (last.0, last.1 ∙ same)) in
    Comes-memory _ _ _ _ _ c.next_line.new.outbox c.lines.reader _ _ mid _ _ _ c.next_line.new.reader all_out comes

-- ---- the line is answered

pub lines-preserved : goal.lines-preserved
lines-preserved g c =
    let found = c.in_ok-found.was ∙ ap Ok c.in-Whole.is in
    let answered = c.in_ok-is_refused.ensures in
    let count : c.lines.refused + c.from-refused.result
    ≡ c.lines.refused + one_if (text_step by_state c.lines.console
    (option_map (λ (t : Bor (List ℕ)). t.now) c.text.result)).is_refused =
    ap (λ n. c.lines.refused + n) (c.from-refused.ensures ∙ byte-one c.in_ok-is_refused.is_refused ∙ ap one_if answered.refused) in
    let most : c.next_line.new.reader.total ≤ LONGEST_SCRIPT =
    omega (arith, c.reader-in-lines.invariant.3, ap (λ (r : Reading). r.total) c.reader-in-lines.view_is) in
    let mid = Going-gathers _ _ _ _ _ c.lines.outbox c.lines.reader _ _ c.lines.invariant.going _ c.next_line.new.outbox c.in_ok-found.ensures.gathered in
    record {
      going = Going-line _ _ _ _ _ c.next_line.new.outbox c.lines.reader _ _ mid _ _ c.answer_line.new.outbox c.next_line.new.reader _ _ _
          c.text.ensures answered.text answered.world count
          (c.next_line.ensures.whole found) (c.next_line.ensures.shrinks found) most;
      content = c.next_line.ensures.content ∙ c.lines.invariant.content;
      source_works = c.in_ok-found.ensures.source_works (λ e. ok_is_no_err _ _ e) ∙ c.lines.invariant.source_works;
      sink_works = answered.no_failure (λ e. ok_is_no_err _ _ e) ∙ c.in_ok-found.ensures.sink_works (λ e. ok_is_no_err _ _ e)
          ∙ c.lines.invariant.sink_works;
    }

pub returns-in-Last-clause-done : goal.returns-in-Last-clause-done
returns-in-Last-clause-done g c =
    let last = c.next_line.ensures.last (c.in_ok-found.was ∙ ap Ok c.in-Last.is) in
    let answered = c.in_ok-is_refused.ensures in
    let count : c.lines.refused + c.from-refused.result
    ≡ c.lines.refused + one_if (text_step by_state c.lines.console
    (option_map (λ (t : Bor (List ℕ)). t.now) c.text.result)).is_refused =
    ap (λ n. c.lines.refused + n) (c.from-refused.ensures ∙ byte-one c.in_ok-is_refused.is_refused ∙ ap one_if answered.refused) in
    let most : c.next_line.new.reader.total ≤ LONGEST_SCRIPT =
    omega (arith, c.reader-in-lines.invariant.3, ap (λ (r : Reading). r.total) c.reader-in-lines.view_is) in
    let mid = Going-gathers _ _ _ _ _ c.lines.outbox c.lines.reader _ _ c.lines.invariant.going _ c.next_line.new.outbox c.in_ok-found.ensures.gathered in
    Going-last _ _ _ _ _ c.next_line.new.outbox c.lines.reader _ _ mid _ _ c.answer_line.new.outbox c.next_line.new.reader _ _ _
    c.text.ensures answered.text answered.world count
    _ c.in_ok-put_out-in-Last.ensures.ok last.0.on last.0.nothing_held most

-- the last answers don't go out
pub returns-in_err-put_out-in-Last-clause-write : goal.returns-in_err-put_out-in-Last-clause-write
returns-in_err-put_out-in-Last-clause-write g c _ =
    let mid = Going-gathers _ _ _ _ _ c.lines.outbox c.lines.reader _ _ c.lines.invariant.going _ c.next_line.new.outbox c.in_ok-found.ensures.gathered in
    let same = c.next_line.ensures.content ∙ c.lines.invariant.content in
    let most : c.next_line.new.reader.total ≤ LONGEST_SCRIPT =
    omega (arith, c.reader-in-lines.invariant.3, ap (λ (r : Reading). r.total) c.reader-in-lines.view_is) in
    let comes = Comes-found _ _ _ _ _ c.next_line.new.outbox c.lines.reader _ _ mid (g.S.ByteSource.content c.args.source.now)
    c.in_ok-found.found _ c.next_line.new.reader most c.next_line.ensures.held
    (λ w. c.next_line.ensures.whole (c.in_ok-found.was ∙ ap Ok w))
    (λ l. let last = c.next_line.ensures.last (c.in_ok-found.was ∙ ap Ok l) in (last.0, last.1 ∙ same)) in
    Comes-gathered _ _ _ _ _ c.next_line.new.outbox c.lines.reader _ _ mid _ _ _ _ c.answer_line.new.outbox c.next_line.new.reader _
    c.text.ensures c.in_ok-is_refused.ensures.text c.in_err-put_out-in-Last.ensures.err comes

-- ---- what failed

pub returns-in_err-outbox-clause-memory : goal.returns-in_err-outbox-clause-memory
returns-in_err-outbox-clause-memory g c _ = record {
  script = [];
  count = 0;
  fits = omega arith;
  read = sym (and_then_bytes-none _);
  wrote = sym (and_then_bytes-none _);
  reached = omega arith;
}

pub returns-in_err-is_refused-clause-source_works : goal.returns-in_err-is_refused-clause-source_works
returns-in_err-is_refused-clause-source_works g c _ =
    c.in_ok-found.ensures.source_works (λ e. ok_is_no_err _ _ e) ∙ c.lines.invariant.source_works

pub returns-in_err-is_refused-clause-sink_failed : goal.returns-in_err-is_refused-clause-sink_failed
returns-in_err-is_refused-clause-sink_failed g c e =
    let is = made c.from_residual-in_err-is_refused.result _ fault.Write c.from_residual-in_err-is_refused.ensures.1 e in
    c.answer_line.ensures.failed (c.in_err-is_refused.was ∙ ap Err is)
    ∙ ap once_more (c.in_ok-found.ensures.sink_works (λ e. ok_is_no_err _ _ e) ∙ c.lines.invariant.sink_works)

pub returns-in_err-put_out-in-Last-clause-source_works : goal.returns-in_err-put_out-in-Last-clause-source_works
returns-in_err-put_out-in-Last-clause-source_works g c _ =
    c.in_ok-found.ensures.source_works (λ e. ok_is_no_err _ _ e) ∙ c.lines.invariant.source_works

pub returns-in_err-put_out-in-Last-clause-sink_failed : goal.returns-in_err-put_out-in-Last-clause-sink_failed
returns-in_err-put_out-in-Last-clause-sink_failed g c _ =
    c.in_err-put_out-in-Last.ensures.failed
    ∙ ap once_more (c.in_ok-is_refused.ensures.no_failure (λ e. ok_is_no_err _ _ e)
    ∙ c.in_ok-found.ensures.sink_works (λ e. ok_is_no_err _ _ e) ∙ c.lines.invariant.sink_works)

pub returns-in_err-put_out-in-Last-clause-sink_works : goal.returns-in_err-put_out-in-Last-clause-sink_works
returns-in_err-put_out-in-Last-clause-sink_works g c no_write =
    absurd (no_write (made_err c.from_residual-in_err-put_out-in-Last.result fault.Write c.from_residual-in_err-put_out-in-Last.ensures.1))

pub returns-in-Last-clause-end : goal.returns-in-Last-clause-end
returns-in-Last-clause-end g c =
    (c.next_line.ensures.last (c.in_ok-found.was ∙ ap Ok c.in-Last.is)).1 ∙ c.next_line.ensures.content ∙ c.lines.invariant.content
