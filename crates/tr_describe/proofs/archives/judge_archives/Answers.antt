use Rattle.std.proofs.Common.{◌+◌, ◌∙◌, ◌++◌, ◌≤◌, List, drop, length, map, take, ap, sym}
use Rattle.std.proofs.lemmas.List.{drop_all, take_all}
use Rattle.std.specs.List.{filter_map}
use Rattle.tr_describe.specs.Answers.{archive_wrong, by_text, first_of}
use Rattle.tr_describe.specs.Homes.{metadata_in, seen}
use Rattle.tr_describe.proofs.ListLemmas.{found_more, goes, none_by, stops, take_next}
use Rattle.tr_survey.proofs.PrefixLemmas.{from_place}
use Rattle.tr_survey.specs.Listing.{key_of}
use Rattle.tr_survey.specs.Order.{Numbered}
use Rattle.tr_survey.specs.declared.names.Numbered as value
use Rattle.tr_describe.proofs.archives.judge_archives.Goals as goal

pub returns-then-is_some-clause-wrong : goal.returns-then-is_some-clause-wrong
returns-then-is_some-clause-wrong g c t known =
    let session = c.args.session.now in
    let i = c.loop-archive.archive-index in
    stops (archive_wrong t session.events.now session.name.now session.folder.now) by_text c.in_ok-wrong.wrong (key_of c.archive-item.result)
    (map key_of (drop (i + 1) c.args.archives.now)) _
    (c.loop-archive.invariant.wrong t known
    ∙ ap (first_of (archive_wrong t session.events.now session.name.now session.folder.now))
    (from_place key_of c.args.archives.now i c.archive-item.result c.loop-archive-test.true c.archive-item.is))
    (c.in_ok-wrong.ensures.wrong t (c.loop-archive.invariant.tree ∙ known))
    (sym c.is_some.ensures ∙ c.if-is_some.true)

pub loop-archive-preserved : goal.loop-archive-preserved
loop-archive-preserved g c =
    let session = c.args.session.now in
    let i = c.loop-archive.archive-index in
    let all_right = sym c.is_some.ensures ∙ c.if-is_some.false in
    record {
      room = c.in_ok-wrong.ensures.room ∙ c.loop-archive.invariant.room;
      tree = c.in_ok-wrong.ensures.tree ∙ c.loop-archive.invariant.tree;
      failures = c.in_ok-wrong.ensures.failures ∙ c.loop-archive.invariant.failures;
      wrong = λ t known.
          goes (archive_wrong t session.events.now session.name.now session.folder.now) by_text c.in_ok-wrong.wrong (key_of c.archive-item.result)
          (map key_of (drop (i + 1) c.args.archives.now)) _
          (c.loop-archive.invariant.wrong t known
          ∙ ap (first_of (archive_wrong t session.events.now session.name.now session.folder.now))
          (from_place key_of c.args.archives.now i c.archive-item.result c.loop-archive-test.true c.archive-item.is))
          (c.in_ok-wrong.ensures.wrong t (c.loop-archive.invariant.tree ∙ known))
          all_right;
      found = λ t known.
          found_more (metadata_in t session.folder.now) (map seen c.args.found.now.items) (map seen c.loop-archive.found.items) _
          (map key_of (take i c.args.archives.now)) (key_of c.archive-item.result) (c.loop-archive.invariant.found t known)
          (c.in_ok-wrong.ensures.found t (c.loop-archive.invariant.tree ∙ known) (none_by c.in_ok-wrong.wrong all_right))
          ∙ ap (λ (l : List Numbered). map seen c.args.found.now.items ++ filter_map (metadata_in t session.folder.now) l)
          (sym (take_next key_of c.args.archives.now i c.archive-item.result c.loop-archive-test.true c.archive-item.is));
    }

pub returns-clause-wrong : goal.returns-clause-wrong
returns-clause-wrong g c t known =
    let session = c.args.session.now in
    let past : length c.args.archives.now ≤ c.loop-archive.archive-index = c.loop-archive-test.false in
    sym (c.loop-archive.invariant.wrong t known
    ∙ ap (λ (l : List value.Numbered). first_of (archive_wrong t session.events.now session.name.now session.folder.now) (map key_of l))
    (drop_all c.loop-archive.archive-index c.args.archives.now past))

pub returns-clause-found : goal.returns-clause-found
returns-clause-found g c t known none =
    let session = c.args.session.now in
    let past : length c.args.archives.now ≤ c.loop-archive.archive-index = c.loop-archive-test.false in
    c.loop-archive.invariant.found t known
    ∙ ap (λ (l : List value.Numbered). map seen c.args.found.now.items ++ filter_map (metadata_in t session.folder.now) (map key_of l))
    (take_all c.loop-archive.archive-index c.args.archives.now past)
