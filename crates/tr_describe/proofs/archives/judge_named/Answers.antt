use Rattle.std.proofs.Common.{◌≡◌, ◌∙◌, ◌∷◌, [], List, Some, ap, map, option_map}
use Rattle.std.proofs.lemmas.Result.{IfOk-weaker}
use Rattle.tr_describe.specs.Answers.{by_text, first_of, stream_wrong}
use Rattle.tr_folders.specs.Tree.{Tree}
use Rattle.tr_survey.specs.Listing.{key_of, streams_of}
use Rattle.tr_survey.specs.Order.{Numbered}
use Rattle.tr_survey.specs.declared.names.Numbered as value
use Rattle.tr_describe.proofs.archives.judge_named.Goals as goal

pub returns-clause-wrong : goal.returns-clause-wrong
returns-clause-wrong g c =
    let session = c.args.place.now.session.now in
    let archive = c.args.place.now.archive.now in
    IfOk-weaker c.judge_streams.result
    (λ wrong. (t : Tree) → g.F.Folders.tree c.streams_among.new.folders ≡ Some t → option_map by_text wrong
    ≡ first_of (stream_wrong t session.events.now session.name.now session.folder.now (key_of archive) c.args.uuid.now) (map key_of c.deref.result.now))
    (λ wrong. (t : Tree) → g.F.Folders.tree c.args.folders.now ≡ Some t → option_map by_text wrong
    ≡ first_of (stream_wrong t session.events.now session.name.now session.folder.now (key_of archive) c.args.uuid.now)
    (streams_of t session.folder.now (key_of archive ∷ [])))
    (λ wrong is t known.
    let same : map key_of c.deref.result.now ≡ streams_of t session.folder.now (key_of archive ∷ []) =
    ap (map key_of) c.deref.ensures.value ∙ c.in_ok-streams.ensures.streams t known
    ∙ ap (λ (l : List value.Numbered). streams_of t session.folder.now (map key_of l)) c.from_ref-archives.ensures.value in
    is t (c.in_ok-streams.ensures.tree ∙ known)
    ∙ ap (λ (l : List Numbered). first_of (stream_wrong t session.events.now session.name.now session.folder.now (key_of archive) c.args.uuid.now) l) same)
    c.judge_streams.ensures.wrong
