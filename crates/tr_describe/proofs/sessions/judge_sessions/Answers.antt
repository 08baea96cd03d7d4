use Rattle.std.proofs.Common.{◌+◌, ◌∙◌, ◌++◌, ◌≤◌, ℕ, List, drop, length, map, take, ap, sym, string_bytes}
use Rattle.std.proofs.lemmas.List.{drop_all, take_all}
use Rattle.std.specs.List.{flat_map}
use Rattle.tr_describe.specs.Answers.{first_of, session_wrong}
use Rattle.tr_describe.specs.Answers as answers
use Rattle.tr_describe.specs.Homes.{metadata_of_session, seen}
use Rattle.tr_describe.proofs.ListLemmas.{goes, joined_more, none_by, stops, take_next}
use Rattle.tr_folders.specs.Tree.{by_text}
use Rattle.tr_survey.proofs.PrefixLemmas.{from_place}
use Rattle.tr_describe.proofs.sessions.judge_sessions.Goals as goal

pub returns-then-is_some-clause-wrong : goal.returns-then-is_some-clause-wrong
returns-then-is_some-clause-wrong g c t known =
    let i = c.loop-session.session-index in
    stops (session_wrong t c.args.events.now c.args.dir.now) answers.by_text c.in_ok-wrong.wrong (string_bytes c.session-item.result)
    (by_text (drop (i + 1) c.args.sessions.now)) _
    (c.loop-session.invariant.wrong t known
    ∙ ap (first_of (session_wrong t c.args.events.now c.args.dir.now))
    (from_place string_bytes c.args.sessions.now i c.session-item.result c.loop-session-test.true c.session-item.is))
    (c.in_ok-wrong.ensures.wrong t (c.loop-session.invariant.tree ∙ known)
    ∙ ap (session_wrong t c.args.events.now c.args.dir.now) c.as_str.ensures.value)
    (sym c.is_some.ensures ∙ c.if-is_some.true)

pub loop-session-preserved : goal.loop-session-preserved
loop-session-preserved g c =
    let i = c.loop-session.session-index in
    let all_right = sym c.is_some.ensures ∙ c.if-is_some.false in
    record {
      tree = c.in_ok-wrong.ensures.tree ∙ c.loop-session.invariant.tree;
      failures = c.in_ok-wrong.ensures.failures ∙ c.loop-session.invariant.failures;
      wrong = λ t known.
          goes (session_wrong t c.args.events.now c.args.dir.now) answers.by_text c.in_ok-wrong.wrong (string_bytes c.session-item.result)
          (by_text (drop (i + 1) c.args.sessions.now)) _
          (c.loop-session.invariant.wrong t known
          ∙ ap (first_of (session_wrong t c.args.events.now c.args.dir.now))
          (from_place string_bytes c.args.sessions.now i c.session-item.result c.loop-session-test.true c.session-item.is))
          (c.in_ok-wrong.ensures.wrong t (c.loop-session.invariant.tree ∙ known)
          ∙ ap (session_wrong t c.args.events.now c.args.dir.now) c.as_str.ensures.value)
          all_right;
      found = λ t known.
          joined_more (metadata_of_session t c.args.dir.now) (map seen c.args.found.now.items) (map seen c.loop-session.found.items) _
          (by_text (take i c.args.sessions.now)) (string_bytes c.session-item.result) (c.loop-session.invariant.found t known)
          (c.in_ok-wrong.ensures.found t (c.loop-session.invariant.tree ∙ known) (none_by c.in_ok-wrong.wrong all_right)
          ∙ ap (λ (name : List ℕ). map seen c.loop-session.found.items ++ metadata_of_session t c.args.dir.now name) c.as_str.ensures.value)
          ∙ ap (λ (l : List (List ℕ)). map seen c.args.found.now.items ++ flat_map (metadata_of_session t c.args.dir.now) l)
          (sym (take_next string_bytes c.args.sessions.now i c.session-item.result c.loop-session-test.true c.session-item.is));
    }

pub returns-clause-wrong : goal.returns-clause-wrong
returns-clause-wrong g c t known =
    let past : length c.args.sessions.now ≤ c.loop-session.session-index = c.loop-session-test.false in
    sym (c.loop-session.invariant.wrong t known
    ∙ ap (λ l. first_of (session_wrong t c.args.events.now c.args.dir.now) (by_text l))
    (drop_all c.loop-session.session-index c.args.sessions.now past))

pub returns-clause-found : goal.returns-clause-found
returns-clause-found g c t known none =
    let past : length c.args.sessions.now ≤ c.loop-session.session-index = c.loop-session-test.false in
    c.loop-session.invariant.found t known
    ∙ ap (λ l. map seen c.args.found.now.items ++ flat_map (metadata_of_session t c.args.dir.now) (by_text l))
    (take_all c.loop-session.session-index c.args.sessions.now past)
