use Rattle.std.proofs.Common.{◌++◌, ◌∙◌, List, map, ap, sym}
use Rattle.std.proofs.lemmas.Result.{on_ok_weaker}
use Rattle.tr_picture.proofs.LineLemmas.{listed}
use Rattle.tr_picture.specs.Sessions.{Line, seen}
use Rattle.tr_survey.specs.Listing.{key_of}
use Rattle.tr_picture.proofs.sessions.add_archives.Goals as goal

pub returns-clause-found : goal.returns-clause-found
returns-clause-found g c =
    on_ok_weaker c.add_streams.result
    (λ is t known.
    let archives = map key_of c.args.archives.now in
    let known1 = c.in_ok-namings.ensures.tree ∙ known in
    let known2 = c.in_ok-streams.ensures.tree ∙ known1 in
    let known3 = c.in_ok-identity.ensures.tree ∙ known2 in
    is t known3
    ∙ ap (λ (l : List Line). map seen c.args.found.now.items ++ l)
    (listed c.args.frame.now t c.args.session.now c.args.folder.now c.judged_by-uuid.result archives (map key_of c.deref-2.result.now) (map key_of c.deref-3.result.now)
    c.deref.result.now c.in_ok-identity.identity
    (c.deref.ensures.value ∙ c.in_ok-namings.ensures.namings t known)
    (ap (map key_of) c.deref-2.ensures.value ∙ c.in_ok-streams.ensures.streams t known1)
    (ap (map key_of) (c.deref-3.ensures.value ∙ sym c.deref-2.ensures.value))
    (c.in_ok-identity.ensures.identity t known2)
    c.judged_by-uuid.ensures))
    c.add_streams.ensures.found
