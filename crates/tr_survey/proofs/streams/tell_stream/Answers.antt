use Rattle.std.proofs.Common.{◌≡◌, ◌∙◌, ℕ, List, Bool, map, refl, ap, subst}
use Rattle.tr_record.specs.Bytes.{and_then_bytes}
use Rattle.tr_survey.specs.Listing.{key_of}
use Rattle.tr_survey.specs.Prefix.{IsPrefixOut, IsTold}
use Rattle.tr_survey.specs.Streams.{are_deleted, ended_told, files_told, no_tally}
use Rattle.tr_survey.specs.Sums.{sums_after_files}
use Rattle.tr_survey.specs.Told.{Told}
use Rattle.tr_survey.specs.declared.tally.Tally.{Tally}
use Rattle.tr_survey.proofs.PrefixLemmas.{at_err, front_nothing}
use Rattle.tr_survey.proofs.TellLemmas.{both_told, second_front}
use Rattle.tr_survey.proofs.streams.tell_stream.Goals as goal

pub returns-in_err-lines-clause-err : goal.returns-in_err-lines-clause-err
returns-in_err-lines-clause-err g c =
    at_err c.from_residual-in_err-lines.result (λ t known.
    let stream = key_of c.args.stream.now in
    let archives = map key_of c.args.archives.now in
    let mid = g.K.ByteSink.taken c.tell_files.new.sink in
    let tally = c.tell_files.new.tally in
    let first = files_told t c.args.folder.now c.args.trace.now stream (no_tally c.args.faults) archives in
    let second : Tally → Told ℕ = λ (s : Tally). ended_told stream (are_deleted archives) s in
    let is = subst (λ (s : Tally). IsTold (files_told t c.args.folder.now c.args.trace.now stream s archives) (g.K.ByteSink.taken c.args.sink.now) mid tally)
    c.new-tally.ensures (c.in_ok-tell_files.ensures.ok t known) in
    second_front first second tally (g.K.ByteSink.taken c.args.sink.now) mid mid is (front_nothing (second tally).text mid))

pub returns-in_err-put_line-clause-err : goal.returns-in_err-put_line-clause-err
returns-in_err-put_line-clause-err g c =
    at_err c.from_residual-in_err-put_line.result (λ t known.
    let stream = key_of c.args.stream.now in
    let archives = map key_of c.args.archives.now in
    let mid = g.K.ByteSink.taken c.tell_files.new.sink in
    let tally = c.tell_files.new.tally in
    let first = files_told t c.args.folder.now c.args.trace.now stream (no_tally c.args.faults) archives in
    let second : Tally → Told ℕ = λ (s : Tally). ended_told stream (are_deleted archives) s in
    let is = subst (λ (s : Tally). IsTold (files_told t c.args.folder.now c.args.trace.now stream s archives) (g.K.ByteSink.taken c.args.sink.now) mid tally)
    c.new-tally.ensures (c.in_ok-tell_files.ensures.ok t known) in
    let lines : c.as_str.result.now ≡ (second tally).text =
    c.as_str.ensures.value ∙ c.in_ok-lines.ensures ∙ ap (λ (b : Bool). (ended_told stream b tally).text) c.are_deleted.ensures in
    second_front first second tally (g.K.ByteSink.taken c.args.sink.now) mid (g.K.ByteSink.taken c.put_line.new.sink) is
    (subst (λ (l : List ℕ). IsPrefixOut l mid (g.K.ByteSink.taken c.put_line.new.sink)) lines c.in_err-put_line.ensures.err))

pub returns-clause-ok : goal.returns-clause-ok
returns-clause-ok g c t known =
    let stream = key_of c.args.stream.now in
    let archives = map key_of c.args.archives.now in
    let mid = g.K.ByteSink.taken c.tell_files.new.sink in
    let tally = c.tell_files.new.tally in
    let first = files_told t c.args.folder.now c.args.trace.now stream (no_tally c.args.faults) archives in
    let second : Tally → Told ℕ = λ (s : Tally). ended_told stream (are_deleted archives) s in
    let is = subst (λ (s : Tally). IsTold (files_told t c.args.folder.now c.args.trace.now stream s archives) (g.K.ByteSink.taken c.args.sink.now) mid tally)
    c.new-tally.ensures (c.in_ok-tell_files.ensures.ok t known) in
    let lines : c.as_str.result.now ≡ (second tally).text =
    c.as_str.ensures.value ∙ c.in_ok-lines.ensures ∙ ap (λ (b : Bool). (ended_told stream b tally).text) c.are_deleted.ensures in
    both_told first second tally (g.K.ByteSink.taken c.args.sink.now) mid (g.K.ByteSink.taken c.put_line.new.sink) tally.faults is
    (record { out = c.in_ok-put_line.ensures.ok ∙ ap (and_then_bytes mid) lines; state_is = refl })

pub returns-clause-sums : goal.returns-clause-sums
returns-clause-sums g c t known =
    c.in_ok-tell_files.ensures.sums t known
    ∙ ap (λ (s : Tally). sums_after_files t c.args.folder.now c.args.trace.now (key_of c.args.stream.now) s (map key_of c.args.archives.now) c.args.sums.now) c.new-tally.ensures
