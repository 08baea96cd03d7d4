use Rattle.std.proofs.Common.{◌≡◌, ◌∙◌, ℕ, List, Some, map, ap, sym, subst}
use Rattle.std.proofs.lemmas.Result.{IfOk-weaker, on_err_weaker}
use Rattle.tr_folders.specs.Tree.{Tree}
use Rattle.tr_survey.specs.Listing.{key_of}
use Rattle.tr_survey.specs.Prefix.{IsPrefixOut, IsTold}
use Rattle.tr_survey.specs.Sessions.{archives_told, identity_of, named_told}
use Rattle.tr_survey.specs.Told.{Told}
use Rattle.tr_survey.specs.declared.names.Numbered as value
use Rattle.tr_survey.specs.declared.naming.Naming.{Naming}
use Rattle.tr_survey.proofs.PrefixLemmas.{at_err, front_nothing}
use Rattle.tr_survey.proofs.SurveyLemmas.{listed_same}
use Rattle.tr_survey.proofs.sessions.tell_archives.Goals as goal

pub returns-in_err-namings-clause-err : goal.returns-in_err-namings-clause-err
returns-in_err-namings-clause-err g c = at_err c.from_residual.result (λ t known. front_nothing _ _)

pub returns-in_err-streams-clause-err : goal.returns-in_err-streams-clause-err
returns-in_err-streams-clause-err g c = at_err c.from_residual-in_err-streams.result (λ t known. front_nothing _ _)

pub returns-in_err-identity-clause-err : goal.returns-in_err-identity-clause-err
returns-in_err-identity-clause-err g c = at_err c.from_residual-in_err-identity.result (λ t known. front_nothing _ _)

pub returns-clause-ok : goal.returns-clause-ok
returns-clause-ok g c =
    IfOk-weaker c.tell_named.result
    (λ n. (t : Tree) → g.F.Folders.tree c.identity_of.new.folders ≡ Some t
    → IsTold (named_told c.args.asked t c.args.session.now c.args.folder.now c.in_ok-identity.identity (map key_of c.args.archives.now) c.deref-3.result.now (map key_of c.deref-4.result.now) c.args.faults)
    (g.K.ByteSink.taken c.args.sink.now) (g.K.ByteSink.taken c.tell_named.new.sink) n)
    (λ n. (t : Tree) → g.F.Folders.tree c.args.folders.now ≡ Some t
    → IsTold (archives_told c.args.asked t c.args.session.now c.args.folder.now (map key_of c.args.archives.now) c.args.faults)
    (g.K.ByteSink.taken c.args.sink.now) (g.K.ByteSink.taken c.tell_named.new.sink) n)
    (λ n tells t known.
    let archives = map key_of c.args.archives.now in
    let same : named_told c.args.asked t c.args.session.now c.args.folder.now c.in_ok-identity.identity archives c.deref-3.result.now (map key_of c.deref-4.result.now) c.args.faults
    ≡ archives_told c.args.asked t c.args.session.now c.args.folder.now archives c.args.faults =
    listed_same c.args.asked t c.args.session.now c.args.folder.now archives (map key_of c.deref-4.result.now) c.deref-3.result.now c.in_ok-identity.identity c.args.faults
    (c.deref-3.ensures.value ∙ c.in_ok-namings.ensures.namings t known)
    (ap (map key_of) c.deref-4.ensures.value ∙ c.in_ok-streams.ensures.streams t (c.in_ok-namings.ensures.tree ∙ known))
    (c.in_ok-identity.ensures.identity t (c.in_ok-streams.ensures.tree ∙ c.in_ok-namings.ensures.tree ∙ known)
    ∙ ap (λ (l : List Naming). identity_of t c.args.folder.now archives l (map key_of c.deref-2.result.now)) (c.deref.ensures.value ∙ sym c.deref-3.ensures.value)
    ∙ ap (λ (l : List value.Numbered). identity_of t c.args.folder.now archives c.deref-3.result.now (map key_of l)) (c.deref-2.ensures.value ∙ sym c.deref-4.ensures.value)) in
    subst (λ (o : Told ℕ). IsTold o (g.K.ByteSink.taken c.args.sink.now) (g.K.ByteSink.taken c.tell_named.new.sink) n) same
    (tells t (c.in_ok-identity.ensures.tree ∙ c.in_ok-streams.ensures.tree ∙ c.in_ok-namings.ensures.tree ∙ known)))
    c.tell_named.ensures.ok

pub returns-clause-err : goal.returns-clause-err
returns-clause-err g c =
    on_err_weaker c.tell_named.result (λ front t known.
    let archives = map key_of c.args.archives.now in
    let same : named_told c.args.asked t c.args.session.now c.args.folder.now c.in_ok-identity.identity archives c.deref-3.result.now (map key_of c.deref-4.result.now) c.args.faults
    ≡ archives_told c.args.asked t c.args.session.now c.args.folder.now archives c.args.faults =
    listed_same c.args.asked t c.args.session.now c.args.folder.now archives (map key_of c.deref-4.result.now) c.deref-3.result.now c.in_ok-identity.identity c.args.faults
    (c.deref-3.ensures.value ∙ c.in_ok-namings.ensures.namings t known)
    (ap (map key_of) c.deref-4.ensures.value ∙ c.in_ok-streams.ensures.streams t (c.in_ok-namings.ensures.tree ∙ known))
    (c.in_ok-identity.ensures.identity t (c.in_ok-streams.ensures.tree ∙ c.in_ok-namings.ensures.tree ∙ known)
    ∙ ap (λ (l : List Naming). identity_of t c.args.folder.now archives l (map key_of c.deref-2.result.now)) (c.deref.ensures.value ∙ sym c.deref-3.ensures.value)
    ∙ ap (λ (l : List value.Numbered). identity_of t c.args.folder.now archives c.deref-3.result.now (map key_of l)) (c.deref-2.ensures.value ∙ sym c.deref-4.ensures.value)) in
    subst (λ (o : Told ℕ). IsPrefixOut o.text (g.K.ByteSink.taken c.args.sink.now) (g.K.ByteSink.taken c.tell_named.new.sink)) same
    (front t (c.in_ok-identity.ensures.tree ∙ c.in_ok-streams.ensures.tree ∙ c.in_ok-namings.ensures.tree ∙ known)))
    c.tell_named.ensures.err
