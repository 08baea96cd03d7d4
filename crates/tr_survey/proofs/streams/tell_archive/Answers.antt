use Rattle.std.proofs.Common.{◌≡◌, ◌∙◌, Option, ap, sym, subst, string_bytes}
use Rattle.std.proofs.lemmas.Result.{on_err_weaker, on_ok_weaker}
use Rattle.tr_chunk.specs.Files.{file_name}
use Rattle.tr_folders.proofs.ReadLemmas.{closed, opened}
use Rattle.tr_folders.specs.Tree.{File}
use Rattle.tr_survey.specs.Listing.{key_of}
use Rattle.tr_survey.specs.Paths.{file_path}
use Rattle.tr_survey.specs.Prefix.{IsPrefixOut, IsTold}
use Rattle.tr_survey.specs.Streams.{file_told, place_of}
use Rattle.tr_survey.proofs.streams.tell_archive.Goals as goal

pub returns-in-Ok-true-clause-ok : goal.returns-in-Ok-true-clause-ok
returns-in-Ok-true-clause-ok g c =
    on_ok_weaker c.tell_file.result (λ told t known.
    let same : c.as_str.result.now ≡ file_path c.args.folder.now (string_bytes c.args.archive.now.name) (file_name (string_bytes c.args.stream.now.name) c.args.stream.now.number) = c.as_str.ensures.value ∙ c.in_ok-path.ensures in
    let file = opened _ _ _ c.in-Ok-true.field-0-test (c.in-Ok-true.ensures.opens t known) in
    subst (λ (o : Option File). IsTold (file_told (place_of c.args.trace.now c.args.stream.now.number (key_of c.args.archive.now)) c.args.tally.now o) (g.K.ByteSink.taken c.args.sink.now) (g.K.ByteSink.taken c.tell_file.new.sink) c.tell_file.new.tally)
    (sym (ap t.file (sym same) ∙ file.1)) (told file.0 file.2))
    c.tell_file.ensures.ok

pub returns-in-Ok-true-clause-err : goal.returns-in-Ok-true-clause-err
returns-in-Ok-true-clause-err g c =
    on_err_weaker c.tell_file.result (λ front t known.
    let same : c.as_str.result.now ≡ file_path c.args.folder.now (string_bytes c.args.archive.now.name) (file_name (string_bytes c.args.stream.now.name) c.args.stream.now.number) = c.as_str.ensures.value ∙ c.in_ok-path.ensures in
    let file = opened _ _ _ c.in-Ok-true.field-0-test (c.in-Ok-true.ensures.opens t known) in
    subst (λ (o : Option File). IsPrefixOut (file_told (place_of c.args.trace.now c.args.stream.now.number (key_of c.args.archive.now)) c.args.tally.now o).text (g.K.ByteSink.taken c.args.sink.now) (g.K.ByteSink.taken c.tell_file.new.sink))
    (sym (ap t.file (sym same) ∙ file.1)) (front file.0 file.2))
    c.tell_file.ensures.err

pub returns-in-Ok-false-clause-ok : goal.returns-in-Ok-false-clause-ok
returns-in-Ok-false-clause-ok g c =
    on_ok_weaker c.tell_no_file.result (λ told t known.
    let same : c.as_str.result.now ≡ file_path c.args.folder.now (string_bytes c.args.archive.now.name) (file_name (string_bytes c.args.stream.now.name) c.args.stream.now.number) = c.as_str.ensures.value ∙ c.in_ok-path.ensures in
    let none = closed _ _ _ c.in-Ok-false.field-0-test (c.in-Ok-false.ensures.opens t known) in
    subst (λ (o : Option File). IsTold (file_told (place_of c.args.trace.now c.args.stream.now.number (key_of c.args.archive.now)) c.args.tally.now o) (g.K.ByteSink.taken c.args.sink.now) (g.K.ByteSink.taken c.tell_no_file.new.sink) c.tell_no_file.new.tally)
    (sym (ap t.file (sym same) ∙ none)) (told c.args.trace.now))
    c.tell_no_file.ensures.ok

pub returns-in-Ok-false-clause-err : goal.returns-in-Ok-false-clause-err
returns-in-Ok-false-clause-err g c =
    on_err_weaker c.tell_no_file.result (λ front t known.
    let same : c.as_str.result.now ≡ file_path c.args.folder.now (string_bytes c.args.archive.now.name) (file_name (string_bytes c.args.stream.now.name) c.args.stream.now.number) = c.as_str.ensures.value ∙ c.in_ok-path.ensures in
    let none = closed _ _ _ c.in-Ok-false.field-0-test (c.in-Ok-false.ensures.opens t known) in
    subst (λ (o : Option File). IsPrefixOut (file_told (place_of c.args.trace.now c.args.stream.now.number (key_of c.args.archive.now)) c.args.tally.now o).text (g.K.ByteSink.taken c.args.sink.now) (g.K.ByteSink.taken c.tell_no_file.new.sink))
    (sym (ap t.file (sym same) ∙ none)) (front c.args.trace.now))
    c.tell_no_file.ensures.err
