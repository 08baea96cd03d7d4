use Rattle.std.proofs.Common.{◌≤◌, [], ap, ◌∙◌, sym, subst}
use Rattle.std.specs.Prelude.{slice_index}
use Rattle.tr_tally.specs.Tallies.{TellerState}
use Rattle.tr_tally.specs.Views.{count_in, note_view}
use Rattle.tr_tally.proofs.watcher.Watcher.audit.Goals as goal

pub compare-requires-clause-stream : goal.compare-requires-clause-stream
compare-requires-clause-stream g c =
    let stream = ap (λ (t : TellerState). t.stream) c.teller.view_is in
    let token = c.answer_known-answer.ensures.token.1
    ∙ ap (λ s. (note_view s (slice_index c.args.self.now.answers s), [])) stream in
    token ∙ ap (λ n. (note_view c.args.teller.now.stream n, [])) (sym (ap (λ m. count_in m.0) token))

pub returns-clause-within : goal.returns-clause-within
returns-clause-within g c =
    let stream = ap (λ (t : TellerState). t.stream) c.teller.view_is in
    let token = c.answer_known-answer.ensures.token.1
    ∙ ap (λ s. (note_view s (slice_index c.args.self.now.answers s), [])) stream in
    subst (λ n. n ≤ c.args.teller.now.count) (ap (λ m. count_in m.0) token) c.compare.ensures.within
