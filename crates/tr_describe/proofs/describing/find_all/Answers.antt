use Rattle.std.proofs.Common.{◌≡◌, ◌∙◌, ◌++◌, filter, map, option_map, ap, sym, subst}
use Rattle.std.specs.List.{flat_map}
use Rattle.tr_describe.specs.Answers as answers
use Rattle.tr_describe.specs.Homes.{metadata_of_session, seen}
use Rattle.tr_describe.proofs.AnswerLemmas.{archives_found, sessions_there, some_texts, wrong_found}
use Rattle.tr_folders.specs.Tree.{by_text}
use Rattle.tr_survey.specs.Listing.{IsListing, names_in_order}
use Rattle.tr_survey.specs.Sessions.{is_session, sessions_of}
use Rattle.tr_describe.proofs.describing.find_all.Goals as goal

pub returns-in-Some-clause-found : goal.returns-in-Some-clause-found
returns-in-Some-clause-found g c t known =
    let dir = c.args.dir.now in
    let events = c.args.events.now in
    let is = subst (IsListing t dir) c.in-Names.is (c.in_ok-listing_at.ensures.is t known) in
    let listed = c.in_ok-listing_at.ensures.tree ∙ known in
    let among = c.in_ok-sessions.ensures.tree ∙ listed in
    let names : by_text c.deref-2.result.now ≡ names_in_order (by_text c.in-Names.names.items) =
    ap by_text c.deref-2.ensures.value ∙ c.in_ok-names-in-Names.ensures ∙ ap (λ l. names_in_order (by_text l)) c.deref.ensures.value in
    let same : sessions_of t dir ≡ by_text c.deref-3.result.now =
    sessions_there t dir (by_text c.in-Names.names.items) is.0 is.1
    ∙ ap (filter (is_session t dir)) (sym names)
    ∙ sym (c.in_ok-sessions.ensures.sessions t listed)
    ∙ ap by_text (sym c.deref-3.ensures.value) in
    wrong_found t dir events (by_text c.deref-3.result.now) c.in-Some.wrong is.0 same
    (some_texts _ c.deref-3.result.now (sym c.is_empty.ensures ∙ c.if-is_empty.false) c.deref-3.ensures.len)
    (sym (c.in_ok-wrong.ensures.wrong t among) ∙ ap (option_map answers.by_text) c.in-Some.is)

pub returns-clause-found : goal.returns-clause-found
returns-clause-found g c t known =
    let dir = c.args.dir.now in
    let events = c.args.events.now in
    let is = subst (IsListing t dir) c.in-Names.is (c.in_ok-listing_at.ensures.is t known) in
    let listed = c.in_ok-listing_at.ensures.tree ∙ known in
    let among = c.in_ok-sessions.ensures.tree ∙ listed in
    let names : by_text c.deref-2.result.now ≡ names_in_order (by_text c.in-Names.names.items) =
    ap by_text c.deref-2.ensures.value ∙ c.in_ok-names-in-Names.ensures ∙ ap (λ l. names_in_order (by_text l)) c.deref.ensures.value in
    let same : sessions_of t dir ≡ by_text c.deref-3.result.now =
    sessions_there t dir (by_text c.in-Names.names.items) is.0 is.1
    ∙ ap (filter (is_session t dir)) (sym names)
    ∙ sym (c.in_ok-sessions.ensures.sessions t listed)
    ∙ ap by_text (sym c.deref-3.ensures.value) in
    archives_found t dir events (by_text c.deref-3.result.now) c.judge_sessions.new.found is.0 same
    (some_texts _ c.deref-3.result.now (sym c.is_empty.ensures ∙ c.if-is_empty.false) c.deref-3.ensures.len)
    (sym (c.in_ok-wrong.ensures.wrong t among) ∙ ap (option_map answers.by_text) c.in-None.is)
    (c.in_ok-wrong.ensures.found t among c.in-None.is
    ∙ ap (λ l. map seen l ++ flat_map (metadata_of_session t dir) (by_text c.deref-3.result.now)) c.new-found.ensures.items
    ∙ ap (flat_map (metadata_of_session t dir)) (sym same))
