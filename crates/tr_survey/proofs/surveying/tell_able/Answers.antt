use Rattle.std.proofs.Common.{◌≡◌, ◌∙◌, ℕ, List, Option, Some, map, refl, ap, sym, subst}
use Rattle.tr_folders.specs.Tree.{by_text}
use Rattle.tr_record.proofs.ByteLemmas.{and_then_bytes-none}
use Rattle.tr_survey.specs.Listing.{IsListing, archives_of, key_of}
use Rattle.tr_survey.specs.Order.{Numbered}
use Rattle.tr_survey.specs.Paths.{archives_folder}
use Rattle.tr_survey.specs.Prefix.{IsPrefixOut, IsTold}
use Rattle.tr_survey.specs.Sessions.{able_told, archives_told, faults_of}
use Rattle.tr_survey.specs.Told.{Told}
use Rattle.tr_survey.specs.declared.listing.Listing.{Listing}
use Rattle.tr_survey.proofs.PrefixLemmas.{at_err, front_nothing}
use Rattle.tr_survey.proofs.SurveyLemmas.{no_folder, open_folder}
use Rattle.tr_survey.proofs.surveying.tell_able.Goals as goal

pub returns-in_err-folder-clause-err : goal.returns-in_err-folder-clause-err
returns-in_err-folder-clause-err g c = at_err c.from_residual.result (λ t known. front_nothing (able_told c.args.asked t c.args.dir.now c.args.faults c.args.name.now).text (g.K.ByteSink.taken c.args.sink.now))

pub returns-in_err-listing_at-clause-err : goal.returns-in_err-listing_at-clause-err
returns-in_err-listing_at-clause-err g c =
    at_err c.from_residual-in_err-listing_at.result (λ t known. front_nothing (able_told c.args.asked t c.args.dir.now c.args.faults c.args.name.now).text (g.K.ByteSink.taken c.args.sink.now))

pub returns-in-Absent-clause-ok : goal.returns-in-Absent-clause-ok
returns-in-Absent-clause-ok g c t known =
    let path : c.as_str.result.now ≡ archives_folder c.args.dir.now c.args.name.now = c.as_str.ensures.value ∙ c.in_ok-folder.ensures in
    let none = subst (λ (l : Listing). IsListing t c.as_str.result.now l) c.in-Absent.is (c.in_ok-listing_at.ensures.is t known) in
    subst (λ (o : Told (Option ℕ)). IsTold o (g.K.ByteSink.taken c.args.sink.now) (g.K.ByteSink.taken c.args.sink.now) c.args.faults) (sym (no_folder c.args.asked t c.args.dir.now c.args.faults c.args.name.now c.as_str.result.now path none))
    (record { out = sym (and_then_bytes-none (g.K.ByteSink.taken c.args.sink.now)); state_is = refl })

pub returns-in_err-archives-clause-err : goal.returns-in_err-archives-clause-err
returns-in_err-archives-clause-err g c = at_err c.from_residual-in_err-archives.result (λ t known. front_nothing _ _)

pub returns-in_err-count-clause-err : goal.returns-in_err-count-clause-err
returns-in_err-count-clause-err g c =
    at_err c.from_residual-in_err-count.result (λ t known.
    let q = c.as_str.result.now in
    let path : q ≡ archives_folder c.args.dir.now c.args.name.now = c.as_str.ensures.value ∙ c.in_ok-folder.ensures in
    let second : c.as_str-2.result.now ≡ q = c.as_str-2.ensures.value ∙ sym c.as_str.ensures.value in
    let third : c.as_str-3.result.now ≡ q = c.as_str-3.ensures.value ∙ sym c.as_str.ensures.value in
    let names = by_text c.in-Names.names.items in
    let is = subst (λ (l : Listing). IsListing t q l) c.in-Names.is (c.in_ok-listing_at.ensures.is t known) in
    let known1 = c.in_ok-listing_at.ensures.tree ∙ known in
    let archives : map key_of c.deref-2.result.now ≡ archives_of t q names =
    ap (map key_of) c.deref-2.ensures.value ∙ c.in_ok-archives.ensures.archives t known1
    ∙ ap (λ (l : List ℕ). archives_of t l (by_text c.deref.result.now)) second
    ∙ ap (λ l. archives_of t q (by_text l)) c.deref.ensures.value in
    let same : archives_told c.args.asked t c.args.name.now c.as_str-3.result.now (map key_of c.deref-2.result.now) c.faults_of-2.result
    ≡ archives_told c.args.asked t c.args.name.now q (archives_of t q names) (faults_of c.args.faults) =
    ap (λ (l : List ℕ). archives_told c.args.asked t c.args.name.now l (map key_of c.deref-2.result.now) c.faults_of-2.result) third
    ∙ ap (λ (l : List Numbered). archives_told c.args.asked t c.args.name.now q l c.faults_of-2.result) archives
    ∙ ap (archives_told c.args.asked t c.args.name.now q (archives_of t q names)) c.faults_of-2.ensures in
    let whole = open_folder c.args.asked t c.args.dir.now c.args.faults c.args.name.now q names path is.0 is.1 in
    subst (λ (o : Told (Option ℕ)). IsPrefixOut o.text (g.K.ByteSink.taken c.args.sink.now) (g.K.ByteSink.taken c.tell_archives.new.sink)) (sym whole)
    (subst (λ (o : Told ℕ). IsPrefixOut o.text (g.K.ByteSink.taken c.args.sink.now) (g.K.ByteSink.taken c.tell_archives.new.sink)) same
    (c.in_err-count.ensures.err t (c.in_ok-archives.ensures.tree ∙ known1))))

pub returns-clause-ok : goal.returns-clause-ok
returns-clause-ok g c t known =
    let q = c.as_str.result.now in
    let path : q ≡ archives_folder c.args.dir.now c.args.name.now = c.as_str.ensures.value ∙ c.in_ok-folder.ensures in
    let second : c.as_str-2.result.now ≡ q = c.as_str-2.ensures.value ∙ sym c.as_str.ensures.value in
    let third : c.as_str-3.result.now ≡ q = c.as_str-3.ensures.value ∙ sym c.as_str.ensures.value in
    let names = by_text c.in-Names.names.items in
    let is = subst (λ (l : Listing). IsListing t q l) c.in-Names.is (c.in_ok-listing_at.ensures.is t known) in
    let known1 = c.in_ok-listing_at.ensures.tree ∙ known in
    let archives : map key_of c.deref-2.result.now ≡ archives_of t q names =
    ap (map key_of) c.deref-2.ensures.value ∙ c.in_ok-archives.ensures.archives t known1
    ∙ ap (λ (l : List ℕ). archives_of t l (by_text c.deref.result.now)) second
    ∙ ap (λ l. archives_of t q (by_text l)) c.deref.ensures.value in
    let same : archives_told c.args.asked t c.args.name.now c.as_str-3.result.now (map key_of c.deref-2.result.now) c.faults_of-2.result
    ≡ archives_told c.args.asked t c.args.name.now q (archives_of t q names) (faults_of c.args.faults) =
    ap (λ (l : List ℕ). archives_told c.args.asked t c.args.name.now l (map key_of c.deref-2.result.now) c.faults_of-2.result) third
    ∙ ap (λ (l : List Numbered). archives_told c.args.asked t c.args.name.now q l c.faults_of-2.result) archives
    ∙ ap (archives_told c.args.asked t c.args.name.now q (archives_of t q names)) c.faults_of-2.ensures in
    let whole = open_folder c.args.asked t c.args.dir.now c.args.faults c.args.name.now q names path is.0 is.1 in
    let is-told = subst (λ (o : Told ℕ). IsTold o (g.K.ByteSink.taken c.args.sink.now) (g.K.ByteSink.taken c.tell_archives.new.sink) c.in_ok-count.count) same
    (c.in_ok-count.ensures.ok t (c.in_ok-archives.ensures.tree ∙ known1)) in
    subst (λ (o : Told (Option ℕ)). IsTold o (g.K.ByteSink.taken c.args.sink.now) (g.K.ByteSink.taken c.tell_archives.new.sink) (Some c.in_ok-count.count)) (sym whole)
    (record { out = is-told.out; state_is = ap Some is-told.state_is })
