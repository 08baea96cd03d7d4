use Rattle.std.proofs.Common.{◌≡◌, ◌∙◌, ℕ, List, Some, ap, map, subst}
use Rattle.std.proofs.lemmas.Result.{IfOk-weaker, on_err_weaker}
use Rattle.tr_folders.specs.Tree.{Tree}
use Rattle.tr_survey.specs.Declaring.{trace_of}
use Rattle.tr_survey.specs.Heads.{head_told}
use Rattle.tr_survey.specs.Identifiers.{judged_by}
use Rattle.tr_survey.specs.Listing.{key_of}
use Rattle.tr_survey.specs.Prefix.{IsPrefixOut, IsTold}
use Rattle.tr_survey.specs.Sessions.{named_told, streams_and_sums_told}
use Rattle.tr_survey.specs.Streams.{TraceState}
use Rattle.tr_survey.specs.Told.{Told}
use Rattle.tr_survey.proofs.PrefixLemmas.{at_err, front_longer, front_nothing}
use Rattle.tr_survey.proofs.TellLemmas.{both_told, second_front}
use Rattle.tr_survey.proofs.sessions.tell_named.Goals as goal

pub returns-in_err-count-clause-err : goal.returns-in_err-count-clause-err
returns-in_err-count-clause-err g c = at_err c.from_residual.result (λ t known. front_longer _ _ _ _ c.in_err-count.ensures.err)

pub returns-in_err-trace-clause-err : goal.returns-in_err-trace-clause-err
returns-in_err-trace-clause-err g c =
    let archives = map key_of c.args.archives.now in
    let streams = map key_of c.args.streams.now in
    let first = head_told c.args.session.now c.args.identity.now archives c.args.namings.now streams c.args.faults in
    let mid = g.K.ByteSink.taken c.put_head.new.sink in
    at_err c.from_residual-in_err-trace.result (λ t known.
    let second : ℕ → Told ℕ = λ (m : ℕ). streams_and_sums_told c.args.asked t c.args.folder.now
    (trace_of t c.args.folder.now (judged_by c.args.identity.now) archives c.args.namings.now) archives streams m in
    second_front first second c.in_ok-count.count (g.K.ByteSink.taken c.args.sink.now) mid mid c.in_ok-count.ensures.ok
    (front_nothing (second c.in_ok-count.count).text mid))

pub returns-clause-ok : goal.returns-clause-ok
returns-clause-ok g c =
    let archives = map key_of c.args.archives.now in
    let streams = map key_of c.args.streams.now in
    let first = head_told c.args.session.now c.args.identity.now archives c.args.namings.now streams c.args.faults in
    let mid = g.K.ByteSink.taken c.put_head.new.sink in
    IfOk-weaker c.tell_streams_and_sums.result
    (λ n. (t : Tree) → g.F.Folders.tree c.trace_of.new.folders ≡ Some t
    → IsTold (streams_and_sums_told c.args.asked t c.args.folder.now c.in_ok-trace.trace archives streams c.in_ok-count.count)
    mid (g.K.ByteSink.taken c.tell_streams_and_sums.new.sink) n)
    (λ n. (t : Tree) → g.F.Folders.tree c.args.folders.now ≡ Some t
    → IsTold (named_told c.args.asked t c.args.session.now c.args.folder.now c.args.identity.now archives c.args.namings.now streams c.args.faults)
    (g.K.ByteSink.taken c.args.sink.now) (g.K.ByteSink.taken c.tell_streams_and_sums.new.sink) n)
    (λ n tells t known.
    let second : ℕ → Told ℕ = λ (m : ℕ). streams_and_sums_told c.args.asked t c.args.folder.now
    (trace_of t c.args.folder.now (judged_by c.args.identity.now) archives c.args.namings.now) archives streams m in
    both_told first second c.in_ok-count.count (g.K.ByteSink.taken c.args.sink.now) mid (g.K.ByteSink.taken c.tell_streams_and_sums.new.sink) n
    c.in_ok-count.ensures.ok
    (subst (λ (u : TraceState). IsTold (streams_and_sums_told c.args.asked t c.args.folder.now u archives streams c.in_ok-count.count) mid
    (g.K.ByteSink.taken c.tell_streams_and_sums.new.sink) n) (c.in_ok-trace.ensures.trace t known ∙ ap (λ (u : List ℕ). trace_of t c.args.folder.now u archives c.args.namings.now) c.judged_by-uuid.ensures) (tells t (c.in_ok-trace.ensures.tree ∙ known))))
    c.tell_streams_and_sums.ensures.ok

pub returns-clause-err : goal.returns-clause-err
returns-clause-err g c =
    let archives = map key_of c.args.archives.now in
    let streams = map key_of c.args.streams.now in
    let first = head_told c.args.session.now c.args.identity.now archives c.args.namings.now streams c.args.faults in
    let mid = g.K.ByteSink.taken c.put_head.new.sink in
    on_err_weaker c.tell_streams_and_sums.result (λ front t known.
    let second : ℕ → Told ℕ = λ (m : ℕ). streams_and_sums_told c.args.asked t c.args.folder.now
    (trace_of t c.args.folder.now (judged_by c.args.identity.now) archives c.args.namings.now) archives streams m in
    second_front first second c.in_ok-count.count (g.K.ByteSink.taken c.args.sink.now) mid (g.K.ByteSink.taken c.tell_streams_and_sums.new.sink)
    c.in_ok-count.ensures.ok
    (subst (λ (u : TraceState). IsPrefixOut (streams_and_sums_told c.args.asked t c.args.folder.now u archives streams c.in_ok-count.count).text mid
    (g.K.ByteSink.taken c.tell_streams_and_sums.new.sink)) (c.in_ok-trace.ensures.trace t known ∙ ap (λ (u : List ℕ). trace_of t c.args.folder.now u archives c.args.namings.now) c.judged_by-uuid.ensures) (front t (c.in_ok-trace.ensures.tree ∙ known))))
    c.tell_streams_and_sums.ensures.err
