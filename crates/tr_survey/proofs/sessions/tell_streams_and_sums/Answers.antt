use Rattle.std.proofs.Common.{◌≡◌, ◌∙◌, ℕ, List, map, replicate, length, refl, sym, ap, subst, rules}
use Rattle.std.proofs.lemmas.List.{length-map}
use Rattle.tr_record.specs.Bytes.{and_then_bytes}
use Rattle.tr_survey.specs.Listing.{key_of}
use Rattle.tr_survey.specs.Prefix.{IsPrefixOut}
use Rattle.tr_survey.specs.Streams.{streams_told}
use Rattle.tr_survey.specs.Sums.{lines_asked, no_sums, sums_after_streams, sums_of}
use Rattle.tr_survey.specs.Told.{told}
use Rattle.tr_survey.specs.declared.sums.Sums.{Sums}
use Rattle.tr_survey.proofs.PrefixLemmas.{at_err}
use Rattle.tr_survey.proofs.TellLemmas.{both_told, second_front}
use Rattle.tr_survey.proofs.sessions.tell_streams_and_sums.Goals as goal

pub returns-in_err-put_sums_asked-clause-err : goal.returns-in_err-put_sums_asked-clause-err
returns-in_err-put_sums_asked-clause-err g c =
    at_err c.from_residual-in_err-put_sums_asked.result (λ t known.
    let archives = map key_of c.args.archives.now in
    let streams = map key_of c.args.streams.now in
    let begun : c.as_mut_slice-sums.result.now ≡ replicate (length archives) no_sums =
    c.as_mut_slice-sums.ensures.value ∙ c.in_ok-sums.ensures.items_if_clones_equal (search rules)
    ∙ ap (λ (s : Sums). replicate (length c.args.archives.now) s) c.new.ensures
    ∙ ap (λ (n : ℕ). replicate n no_sums) (sym (length-map c.args.archives.now key_of)) in
    let sums : c.tell_streams.new.sums ≡ sums_of t c.args.folder.now c.args.trace.now archives c.args.faults streams =
    c.in_ok-count.ensures.sums t known ∙ ap (sums_after_streams t c.args.folder.now c.args.trace.now archives c.args.faults streams) begun in
    let lines = lines_asked c.args.asked archives (sums_of t c.args.folder.now c.args.trace.now archives c.args.faults streams) in
    second_front (streams_told t c.args.folder.now c.args.trace.now archives c.args.faults streams) (λ (n : ℕ). told lines n) c.in_ok-count.count
    (g.K.ByteSink.taken c.args.sink.now) (g.K.ByteSink.taken c.tell_streams.new.sink) (g.K.ByteSink.taken c.put_sums_asked.new.sink)
    (c.in_ok-count.ensures.ok t known)
    (subst (λ (l : List Sums). IsPrefixOut (lines_asked c.args.asked archives l) (g.K.ByteSink.taken c.tell_streams.new.sink) (g.K.ByteSink.taken c.put_sums_asked.new.sink))
    sums c.in_err-put_sums_asked.ensures.err))

pub returns-clause-ok : goal.returns-clause-ok
returns-clause-ok g c t known =
    let archives = map key_of c.args.archives.now in
    let streams = map key_of c.args.streams.now in
    let begun : c.as_mut_slice-sums.result.now ≡ replicate (length archives) no_sums =
    c.as_mut_slice-sums.ensures.value ∙ c.in_ok-sums.ensures.items_if_clones_equal (search rules)
    ∙ ap (λ (s : Sums). replicate (length c.args.archives.now) s) c.new.ensures
    ∙ ap (λ (n : ℕ). replicate n no_sums) (sym (length-map c.args.archives.now key_of)) in
    let sums : c.tell_streams.new.sums ≡ sums_of t c.args.folder.now c.args.trace.now archives c.args.faults streams =
    c.in_ok-count.ensures.sums t known ∙ ap (sums_after_streams t c.args.folder.now c.args.trace.now archives c.args.faults streams) begun in
    let lines = lines_asked c.args.asked archives (sums_of t c.args.folder.now c.args.trace.now archives c.args.faults streams) in
    both_told (streams_told t c.args.folder.now c.args.trace.now archives c.args.faults streams) (λ (n : ℕ). told lines n) c.in_ok-count.count
    (g.K.ByteSink.taken c.args.sink.now) (g.K.ByteSink.taken c.tell_streams.new.sink) (g.K.ByteSink.taken c.put_sums_asked.new.sink) c.in_ok-count.count
    (c.in_ok-count.ensures.ok t known)
    (record {
      out = c.in_ok-put_sums_asked.ensures.ok
          ∙ ap (λ (l : List Sums). and_then_bytes (g.K.ByteSink.taken c.tell_streams.new.sink) (lines_asked c.args.asked archives l)) sums;
      state_is = refl;
    })
