use Rattle.std.proofs.Common.{◌≡◌, ◌≤◌, ◌∙◌, ℕ, List, [], ◌∷◌, length, refl, arith}
use Rattle.std.proofs.lemmas.Result.{on_ok_weaker}
use Rattle.tr_picture.specs.Rows.{faulty, left_row}
use Rattle.tr_picture.specs.declared.frame.Frame.{Frame}
use Rattle.tr_picture.specs.declared.rows.Row.{Row}
use Rattle.tr_survey.specs.Listing.{key_of}
use Rattle.tr_survey.specs.Streams.{Place, place}
use Rattle.tr_picture.proofs.files.take_left.Goals as goal

some_left : (f : Frame) (at : Place) (s : Row) (held : List ℕ) → 1 ≤ length held → faulty f at s ≡ left_row f at s held
some_left f at s [] some = absurd (omega arith)
some_left f at s (b ∷ held) some = refl

pub returns-in-len1-up : goal.returns-in-len1-up
returns-in-len1-up c =
    let rule = c.args.rule.now in
    on_ok_weaker c.add_fault.result
    (λ is. is rule.uuid.now rule.stream
    ∙ some_left rule.frame.now (place rule.uuid.now rule.stream (key_of rule.archive.now)) c.args.row.now c.args.held.now
    (let l = c.in-len1-up.len_at_least in omega (arith, l)))
    c.add_fault.ensures
