use Rattle.std.proofs.Common.{◌≡◌, ◌∙◌, ℕ, List, Option, None, Some, refl, ap, sym, subst}
use Rattle.std.proofs.lemmas.Result.{IfOk-weaker, on_err_weaker}
use Rattle.tr_folders.specs.Tree.{Tree, by_text}
use Rattle.tr_record.proofs.ByteLemmas.{and_then_bytes-none}
use Rattle.tr_survey.specs.Listing.{IsListing, names_in_order}
use Rattle.tr_survey.specs.Prefix.{IsPrefixOut, IsTold}
use Rattle.tr_survey.specs.Sessions.{TellsFolder, end_of, names_told, survey_of, surveyed_of}
use Rattle.tr_survey.specs.Told.{Told, told}
use Rattle.tr_survey.specs.declared.faults.Surveyed.{Surveyed}
use Rattle.tr_survey.specs.declared.faults.Surveyed.TheVariants.{Unlisted, NoSession}
use Rattle.tr_survey.specs.declared.listing.Listing.{Listing}
use Rattle.tr_survey.proofs.PrefixLemmas.{at_err, front_longer, front_nothing}
use Rattle.tr_survey.proofs.TellLemmas.{both_told, second_front}
use Rattle.tr_survey.proofs.SurveyLemmas.{names_there, nothing_there, unlisted_there}
use Rattle.tr_survey.proofs.surveying.survey.Goals as goal

pub returns-in_err-buffer-clause-err : goal.returns-in_err-buffer-clause-err
returns-in_err-buffer-clause-err g c = at_err c.from_residual.result (λ t known. front_nothing (survey_of c.args.archives t c.args.dir.now).text (g.K.ByteSink.taken c.args.sink.now))

pub returns-in_err-listing_at-clause-err : goal.returns-in_err-listing_at-clause-err
returns-in_err-listing_at-clause-err g c = at_err c.from_residual-in_err-listing_at.result (λ t known. front_nothing (survey_of c.args.archives t c.args.dir.now).text (g.K.ByteSink.taken c.args.sink.now))

pub returns-in-Absent-clause-tells : goal.returns-in-Absent-clause-tells
returns-in-Absent-clause-tells g c t known =
    let none = subst (λ (l : Listing). IsListing t c.args.dir.now l) c.in-Absent.is (c.in_ok-listing_at.ensures.is t known) in
    subst (λ (o : Told Surveyed). IsTold o (g.K.ByteSink.taken c.args.sink.now) (g.K.ByteSink.taken c.args.sink.now) NoSession) (sym (nothing_there c.args.archives t c.args.dir.now none))
    (record { out = sym (and_then_bytes-none (g.K.ByteSink.taken c.args.sink.now)); state_is = refl })

pub returns-in-Unreadable-clause-tells : goal.returns-in-Unreadable-clause-tells
returns-in-Unreadable-clause-tells g c t known =
    let hidden = subst (λ (l : Listing). IsListing t c.args.dir.now l) c.in-Unreadable.is (c.in_ok-listing_at.ensures.is t known) in
    subst (λ (o : Told Surveyed). IsTold o (g.K.ByteSink.taken c.args.sink.now) (g.K.ByteSink.taken c.args.sink.now) Unlisted) (sym (unlisted_there c.args.archives t c.args.dir.now hidden))
    (record { out = sym (and_then_bytes-none (g.K.ByteSink.taken c.args.sink.now)); state_is = refl })

pub returns-in_err-names-in-Names-clause-err : goal.returns-in_err-names-in-Names-clause-err
returns-in_err-names-in-Names-clause-err g c = at_err c.from_residual-in_err-names-in-Names.result (λ t known. front_nothing (survey_of c.args.archives t c.args.dir.now).text (g.K.ByteSink.taken c.args.sink.now))

pub returns-in_err-faults-clause-err : goal.returns-in_err-faults-clause-err
returns-in_err-faults-clause-err g c =
    at_err c.from_residual-in_err-faults.result (λ t known.
    let names = by_text c.in-Names.names.items in
    let is = subst (λ (l : Listing). IsListing t c.args.dir.now l) c.in-Names.is (c.in_ok-listing_at.ensures.is t known) in
    let whole = names_there c.args.archives t c.args.dir.now names is.0 is.1 in
    let same : by_text c.deref-2.result.now ≡ names_in_order names =
    ap by_text c.deref-2.ensures.value ∙ c.in_ok-names-in-Names.ensures ∙ ap (λ l. names_in_order (by_text l)) c.deref.ensures.value in
    let first = names_told c.args.archives t c.args.dir.now None (names_in_order names) in
    let second : Option ℕ → Told Surveyed = λ (n : Option ℕ). told (end_of n) (surveyed_of n) in
    let mid = g.K.ByteSink.taken c.tell_names.new.sink in
    let known1 = c.in_ok-listing_at.ensures.tree ∙ known in
    subst (λ (o : Told Surveyed). IsPrefixOut o.text (g.K.ByteSink.taken c.args.sink.now) mid) (sym whole)
    (front_longer first.text (end_of first.state) (g.K.ByteSink.taken c.args.sink.now) mid
    (subst (λ (l : List (List ℕ)). IsPrefixOut (names_told c.args.archives t c.args.dir.now None l).text (g.K.ByteSink.taken c.args.sink.now) mid) same (c.in_err-faults.ensures.err t known1))))

pub returns-clause-tells : goal.returns-clause-tells
returns-clause-tells g c =
    IfOk-weaker c.put_end.result
    (λ said. IsTold (told (end_of c.in_ok-faults.faults) (surveyed_of c.in_ok-faults.faults)) (g.K.ByteSink.taken c.tell_names.new.sink) (g.K.ByteSink.taken c.put_end.new.sink) said)
    (λ said. (t : Tree) → g.F.Folders.tree c.args.folders.now ≡ Some t → TellsFolder c.args.archives t c.args.dir.now said (g.K.ByteSink.taken c.args.sink.now) (g.K.ByteSink.taken c.put_end.new.sink))
    (λ said is-end t known.
    let names = by_text c.in-Names.names.items in
    let is = subst (λ (l : Listing). IsListing t c.args.dir.now l) c.in-Names.is (c.in_ok-listing_at.ensures.is t known) in
    let whole = names_there c.args.archives t c.args.dir.now names is.0 is.1 in
    let same : by_text c.deref-2.result.now ≡ names_in_order names =
    ap by_text c.deref-2.ensures.value ∙ c.in_ok-names-in-Names.ensures ∙ ap (λ l. names_in_order (by_text l)) c.deref.ensures.value in
    let first = names_told c.args.archives t c.args.dir.now None (names_in_order names) in
    let second : Option ℕ → Told Surveyed = λ (n : Option ℕ). told (end_of n) (surveyed_of n) in
    let mid = g.K.ByteSink.taken c.tell_names.new.sink in
    let known1 = c.in_ok-listing_at.ensures.tree ∙ known in
    let told_is = subst (λ (l : List (List ℕ)). IsTold (names_told c.args.archives t c.args.dir.now None l) (g.K.ByteSink.taken c.args.sink.now) mid c.in_ok-faults.faults) same
    (c.in_ok-faults.ensures.ok t known1) in
    subst (λ (o : Told Surveyed). IsTold o (g.K.ByteSink.taken c.args.sink.now) (g.K.ByteSink.taken c.put_end.new.sink) said) (sym whole)
    (both_told first second c.in_ok-faults.faults (g.K.ByteSink.taken c.args.sink.now) mid (g.K.ByteSink.taken c.put_end.new.sink) said told_is is-end))
    c.put_end.ensures.ok

pub returns-clause-err : goal.returns-clause-err
returns-clause-err g c =
    on_err_weaker c.put_end.result (λ front t known.
    let names = by_text c.in-Names.names.items in
    let is = subst (λ (l : Listing). IsListing t c.args.dir.now l) c.in-Names.is (c.in_ok-listing_at.ensures.is t known) in
    let whole = names_there c.args.archives t c.args.dir.now names is.0 is.1 in
    let same : by_text c.deref-2.result.now ≡ names_in_order names =
    ap by_text c.deref-2.ensures.value ∙ c.in_ok-names-in-Names.ensures ∙ ap (λ l. names_in_order (by_text l)) c.deref.ensures.value in
    let first = names_told c.args.archives t c.args.dir.now None (names_in_order names) in
    let second : Option ℕ → Told Surveyed = λ (n : Option ℕ). told (end_of n) (surveyed_of n) in
    let mid = g.K.ByteSink.taken c.tell_names.new.sink in
    let known1 = c.in_ok-listing_at.ensures.tree ∙ known in
    let told_is = subst (λ (l : List (List ℕ)). IsTold (names_told c.args.archives t c.args.dir.now None l) (g.K.ByteSink.taken c.args.sink.now) mid c.in_ok-faults.faults) same
    (c.in_ok-faults.ensures.ok t known1) in
    subst (λ (o : Told Surveyed). IsPrefixOut o.text (g.K.ByteSink.taken c.args.sink.now) (g.K.ByteSink.taken c.put_end.new.sink)) (sym whole)
    (second_front first second c.in_ok-faults.faults (g.K.ByteSink.taken c.args.sink.now) mid (g.K.ByteSink.taken c.put_end.new.sink) told_is front))
    c.put_end.ensures.err
