use Rattle.std.proofs.Common.{◌≡◌, ◌∙◌, ap, sym}
use Rattle.std.proofs.lemmas.Result.{on_ok_weaker}
use Rattle.std.specs.String.{string_bytes}
use Rattle.tr_chunk.specs.Files.{file_name}
use Rattle.tr_folders.proofs.ReadLemmas.{closed, opened}
use Rattle.tr_picture.specs.Rows.{file_row}
use Rattle.tr_survey.specs.Listing.{key_of}
use Rattle.tr_survey.specs.Paths.{file_path}
use Rattle.tr_survey.specs.Streams.{place}
use Rattle.tr_picture.proofs.files.take_archive.Goals as goal

pub returns-in-Ok-true-clause-row : goal.returns-in-Ok-true-clause-row
returns-in-Ok-true-clause-row g c =
    let at = place c.args.uuid.now c.args.stream.now.number (key_of c.args.archive.now) in
    on_ok_weaker c.take_file.result
    (λ is t known.
    let same : c.as_str.result.now ≡ file_path c.args.folder.now (string_bytes c.args.archive.now.name) (file_name (string_bytes c.args.stream.now.name) c.args.stream.now.number) =
    c.as_str.ensures.value ∙ c.in_ok-path.ensures in
    let file = opened _ _ _ c.in-Ok-true.field-0-test (c.in-Ok-true.ensures.opens t known) in
    is file.0 file.2 ∙ ap (file_row c.args.frame.now at c.args.row.now) (sym (ap t.file (sym same) ∙ file.1)))
    c.take_file.ensures.row

pub returns-in-Ok-false-clause-row : goal.returns-in-Ok-false-clause-row
returns-in-Ok-false-clause-row g c t known =
    let at = place c.args.uuid.now c.args.stream.now.number (key_of c.args.archive.now) in
    let same : c.as_str.result.now ≡ file_path c.args.folder.now (string_bytes c.args.archive.now.name) (file_name (string_bytes c.args.stream.now.name) c.args.stream.now.number) =
    c.as_str.ensures.value ∙ c.in_ok-path.ensures in
    let none = closed _ _ _ c.in-Ok-false.field-0-test (c.in-Ok-false.ensures.opens t known) in
    c.in_ok-add_fault-in-Ok-false.ensures c.args.uuid.now c.args.stream.now.number
    ∙ ap (file_row c.args.frame.now at c.args.row.now) (sym (ap t.file (sym same) ∙ none))
