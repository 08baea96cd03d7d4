use Rattle.std.proofs.Common.{◌+◌, ◌++◌, ◌∙◌, ℕ, List, Option, drop, refl, ap, sym, subst}
use Rattle.tr_chunk.specs.Audit.{capped_count}
use Rattle.tr_record.specs.Bytes.{and_then_bytes}
use Rattle.tr_survey.specs.declared.tally.Last.{Last}
use Rattle.std.proofs.lemmas.Result.{IfOk-weaker, on_err_weaker}
use Rattle.tr_chunk.proofs.AuditLemmas.{front_within}
use Rattle.tr_survey.specs.Listing.{key_of}
use Rattle.tr_survey.specs.Prefix.{GoesOn, IsPrefixOut, IsTold}
use Rattle.tr_survey.specs.Steps.{IsBad, IsStep}
use Rattle.tr_survey.specs.Streams.{TraceState, bytes_told, cause_of, packet_told, place_of}
use Rattle.tr_survey.specs.Told.{Told, and_then}
use Rattle.tr_survey.specs.declared.tally.Tally.{Tally}
use Rattle.tr_survey.proofs.BytesLemmas.{bad_step, cause_step, fault_step, packet_step}
use Rattle.tr_survey.proofs.PrefixLemmas.{at_err, front_longer, goes_text}
use Rattle.tr_survey.proofs.files.tell_front.Goals as goal

pub returns-in-Err-clause-ok : goal.returns-in-Err-clause-ok
returns-in-Err-clause-ok g c =
    let at = place_of c.args.trace.now c.args.stream (key_of c.args.archive.now) in
    IfOk-weaker c.tell_bad.result
    (λ step. (from : TraceState) → IsBad (place_of from c.args.stream (key_of c.args.archive.now)) c.args.tally.now c.args.offset c.in-Err.fault step
    (g.K.ByteSink.taken c.args.sink.now) (g.K.ByteSink.taken c.tell_bad.new.sink) c.tell_bad.new.tally)
    (λ step. IsStep at c.args.tally.now c.args.offset c.args.bytes.now step
    (g.K.ByteSink.taken c.args.sink.now) (g.K.ByteSink.taken c.tell_bad.new.sink) c.tell_bad.new.tally)
    (λ step bad. bad_step at c.args.tally.now c.args.offset c.args.bytes.now c.in-Err.fault step _ _ _
    ((c.in-Err.ensures.fault c.in-Err.fault).0 refl) (bad c.args.trace.now))
    c.tell_bad.ensures.ok

pub returns-in-Err-clause-err : goal.returns-in-Err-clause-err
returns-in-Err-clause-err g c =
    let at = place_of c.args.trace.now c.args.stream (key_of c.args.archive.now) in
    on_err_weaker c.tell_bad.result
    (λ bad n rest breaks.
    subst (λ (t : Told Tally). IsPrefixOut t.text (g.K.ByteSink.taken c.args.sink.now) (g.K.ByteSink.taken c.tell_bad.new.sink))
    (sym (fault_step n at c.args.tally.now c.args.offset c.args.bytes.now rest breaks c.in-Err.fault
    ((c.in-Err.ensures.fault c.in-Err.fault).0 refl) (bad c.args.trace.now).0))
    (bad c.args.trace.now).1)
    c.tell_bad.ensures.err

pub returns-in_err-tell_cause-clause-err : goal.returns-in_err-tell_cause-clause-err
returns-in_err-tell_cause-clause-err g c =
    let at = place_of c.args.trace.now c.args.stream (key_of c.args.archive.now) in
    at_err c.from_residual.result (λ n rest breaks.
    subst (λ (t : Told Tally). IsPrefixOut t.text (g.K.ByteSink.taken c.args.sink.now) (g.K.ByteSink.taken c.tell_cause.new.sink))
    (sym (cause_step n at c.args.tally.now c.args.offset c.in-Ok.front.0 c.in-Ok.front.1 c.args.bytes.now rest breaks c.in-Some.cause
    c.in-Ok.ensures.found.0 c.in-Ok.ensures.found.1
    (ap (λ (l : Option Last). cause_of c.args.trace.now.uuid c.args.stream l c.in-Ok.front.0) (sym c.before-2.ensures)
    ∙ ap (λ (u : List ℕ). cause_of u c.args.stream c.before-2.result c.in-Ok.front.0) (sym c.uuid.ensures) ∙ sym c.cause_of.ensures ∙ c.in-Some.is)))
    (c.in_err-tell_cause.ensures.err c.args.trace.now))

pub returns-in-Some-clause-ok : goal.returns-in-Some-clause-ok
returns-in-Some-clause-ok g c n rest breaks =
    let at = place_of c.args.trace.now c.args.stream (key_of c.args.archive.now) in
    subst (λ (t : Told Tally). IsTold t (g.K.ByteSink.taken c.args.sink.now) (g.K.ByteSink.taken c.tell_cause.new.sink) c.tell_cause.new.tally)
    (sym (cause_step n at c.args.tally.now c.args.offset c.in-Ok.front.0 c.in-Ok.front.1 c.args.bytes.now rest breaks c.in-Some.cause
    c.in-Ok.ensures.found.0 c.in-Ok.ensures.found.1
    (ap (λ (l : Option Last). cause_of c.args.trace.now.uuid c.args.stream l c.in-Ok.front.0) (sym c.before-2.ensures)
    ∙ ap (λ (u : List ℕ). cause_of u c.args.stream c.before-2.result c.in-Ok.front.0) (sym c.uuid.ensures) ∙ sym c.cause_of.ensures ∙ c.in-Some.is)))
    (c.in_ok-tell_cause.ensures.ok c.args.trace.now)

pub returns-in_err-put_line-clause-err : goal.returns-in_err-put_line-clause-err
returns-in_err-put_line-clause-err g c =
    let at = place_of c.args.trace.now c.args.stream (key_of c.args.archive.now) in
    at_err c.from_residual-in_err-put_line.result (λ n rest breaks.
    subst (λ (t : Told Tally). IsPrefixOut t.text (g.K.ByteSink.taken c.args.sink.now) (g.K.ByteSink.taken c.put_line.new.sink))
    (sym (packet_step n at c.args.tally.now c.args.offset c.in-Ok.front.0 c.in-Ok.front.1 c.args.bytes.now rest breaks
    c.in-Ok.ensures.found.0 c.in-Ok.ensures.found.1
    (ap (λ (l : Option Last). cause_of c.args.trace.now.uuid c.args.stream l c.in-Ok.front.0) (sym c.before-2.ensures)
    ∙ ap (λ (u : List ℕ). cause_of u c.args.stream c.before-2.result c.in-Ok.front.0) (sym c.uuid.ensures) ∙ sym c.cause_of.ensures ∙ c.in_default.is)))
    (front_longer _ _ _ _
    (subst (λ (l : List ℕ). IsPrefixOut l (g.K.ByteSink.taken c.args.sink.now) (g.K.ByteSink.taken c.put_line.new.sink))
    (c.as_str.ensures.value ∙ c.in_ok-lines.ensures) c.in_err-put_line.ensures.err)))

pub returns-clause-ok : goal.returns-clause-ok
returns-clause-ok g c =
    let at = place_of c.args.trace.now c.args.stream (key_of c.args.archive.now) in
    let size = c.in-Ok.front.1 in
    let within = front_within c.in-Ok.front.0 size c.args.bytes.now c.in-Ok.ensures.found.0 c.in-Ok.ensures.found.1 in
    let right = ap (λ (l : Option Last). cause_of c.args.trace.now.uuid c.args.stream l c.in-Ok.front.0) (sym c.before-2.ensures)
    ∙ ap (λ (u : List ℕ). cause_of u c.args.stream c.before-2.result c.in-Ok.front.0) (sym c.uuid.ensures) ∙ sym c.cause_of.ensures ∙ c.in_default.is in
    let lines = packet_told at c.args.tally.now c.args.offset c.in-Ok.front.0 in
    let out = c.in_ok-put_line.ensures.ok ∙ ap (λ (l : List ℕ). and_then_bytes (g.K.ByteSink.taken c.args.sink.now) l) (c.as_str.ensures.value ∙ c.in_ok-lines.ensures) in (
      within.0,
      within.1,
      λ n rest breaks.
          let next = λ (s : Tally). bytes_told n at s (capped_count (c.args.offset + size)) (drop size c.args.bytes.now ++ rest) breaks in
          subst (λ (t : Told Tally). GoesOn t (next c.after.result) (g.K.ByteSink.taken c.args.sink.now) (g.K.ByteSink.taken c.put_line.new.sink))
          (sym (packet_step n at c.args.tally.now c.args.offset c.in-Ok.front.0 size c.args.bytes.now rest breaks
          c.in-Ok.ensures.found.0 c.in-Ok.ensures.found.1 right
          ∙ ap (λ (s : Tally). and_then lines (next s)) (sym (c.after.ensures c.args.trace.now.uuid c.args.stream))))
          (goes_text lines (next c.after.result) _ _ out),
    )
