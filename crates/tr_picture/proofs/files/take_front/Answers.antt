use Rattle.std.proofs.Common.{◌≡◌, ◌∙◌, ◌++◌, Option, Some, None, true, false, drop, refl, ap, sym}
use Rattle.std.specs.Prelude.{is_some}
use Rattle.std.proofs.lemmas.Bool.{false≢true}
use Rattle.std.proofs.lemmas.Result.{IfOk-weaker}
use Rattle.tr_chunk.proofs.AuditLemmas.{front_within}
use Rattle.tr_chunk.specs.declared.audit_fault.AuditCause.{AuditCause}
use Rattle.tr_picture.proofs.RowLemmas.{bad_step, cause_step, packet_step}
use Rattle.tr_picture.specs.Rows.{bytes_row}
use Rattle.tr_picture.specs.Steps.{IsBad, IsStep}
use Rattle.tr_picture.specs.declared.rows.Row.{Row}
use Rattle.tr_survey.specs.Listing.{key_of}
use Rattle.tr_survey.specs.Streams.{cause_of, place}
use Rattle.tr_survey.specs.declared.tally.Last.{Last}
use Rattle.tr_picture.proofs.files.take_front.Goals as goal

some_by : (o : Option AuditCause) → is_some o ≡ true → (x : AuditCause) × (o ≡ Some x)
some_by None is = absurd (false≢true is)
some_by (Some x) is = (x, refl)

none_by : (o : Option AuditCause) → is_some o ≡ false → o ≡ None
none_by None is = refl
none_by (Some x) is = absurd (false≢true (sym is))

pub returns-in-Err : goal.returns-in-Err
returns-in-Err c =
    let rule = c.args.rule.now in
    let at = place rule.uuid.now rule.stream (key_of rule.archive.now) in
    IfOk-weaker c.take_bad.result
    (λ step. IsBad rule.frame.now at c.args.row.now c.in-Err.fault step c.take_bad.new.row)
    (λ step. IsStep rule.frame.now at c.args.row.now c.args.bytes.now step c.take_bad.new.row)
    (λ step bad. bad_step rule.frame.now at c.args.row.now c.args.bytes.now c.in-Err.fault step _ ((c.in-Err.ensures.fault c.in-Err.fault).0 refl) bad)
    c.take_bad.ensures

pub returns-then-is_some : goal.returns-then-is_some
returns-then-is_some c n rest breaks =
    let rule = c.args.rule.now in
    let at = place rule.uuid.now rule.stream (key_of rule.archive.now) in
    let wrong = some_by c.cause_of-cause.result (sym c.is_some.ensures ∙ c.if-is_some.true) in
    cause_step n rule.frame.now at c.args.row.now c.in-Ok.front.0 c.in-Ok.front.1 c.args.bytes.now rest breaks wrong.0
    c.in-Ok.ensures.found.0 c.in-Ok.ensures.found.1
    (ap (λ (l : Option Last). cause_of rule.uuid.now rule.stream l c.in-Ok.front.0) (sym c.before-2.ensures) ∙ sym c.cause_of-cause.ensures ∙ wrong.1)
    ∙ sym (c.in_ok-add_fault.ensures rule.uuid.now rule.stream)

pub returns : goal.returns
returns c =
    let rule = c.args.rule.now in
    let at = place rule.uuid.now rule.stream (key_of rule.archive.now) in
    let size = c.in-Ok.front.1 in
    let within = front_within c.in-Ok.front.0 size c.args.bytes.now c.in-Ok.ensures.found.0 c.in-Ok.ensures.found.1 in
    let right = ap (λ (l : Option Last). cause_of rule.uuid.now rule.stream l c.in-Ok.front.0) (sym c.before-2.ensures) ∙ sym c.cause_of-cause.ensures
    ∙ none_by c.cause_of-cause.result (sym c.is_some.ensures ∙ c.if-is_some.false) in (
      within.0,
      within.1,
      λ n rest breaks.
          packet_step n rule.frame.now at c.args.row.now c.in-Ok.front.0 size c.args.bytes.now rest breaks
          c.in-Ok.ensures.found.0 c.in-Ok.ensures.found.1 right
          ∙ ap (λ (s : Row). bytes_row n rule.frame.now at s (drop size c.args.bytes.now ++ rest) breaks)
          (sym (c.in_ok-add_packet.ensures rule.uuid.now rule.stream)),
    )
