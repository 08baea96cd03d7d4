-- `status` by what streams hold, and by their histories.
use Rattle.std.proofs.Common.{List, [], ap, refl, ℕ, ◌++◌, ◌+◌, ◌∙◌, ◌∷◌, ◌≡◌}
use Rattle.tr_console.proofs.WorldAgreement.{StepsAgree, at-agree}
use Rattle.tr_console.specs.Agreement.{WorldsAgree}
use Rattle.tr_replies.specs.Text.{Text}
use Rattle.tr_console.specs.World.{World}
use Rattle.tr_console.specs.commands.Status.{status_rows, status_step, status_text}
use Rattle.tr_replies.specs.Status.{status_head, status_line, status_row}
use Rattle.tr_session.proofs.ClearAgreement.{same-all_cleared}
use Rattle.tr_session.specs.Agreement.{AllAgree, SessionsAgree}
use Rattle.tr_session.specs.Session.{SessionOf}
use Rattle.tr_session.specs.Sizes.{all_cleared}
use Rattle.tr_stream.proofs.RuleLemmas.{same-counted}
use Rattle.tr_stream.specs.Rules.{Traced, by_history, by_state}
use Rattle.tr_stream.specs.State.{StreamState}

same-rows : (i : ℕ) (ss : List StreamState) (ts : List Traced) → AllAgree ss ts → status_rows by_state i ss ≡ status_rows by_history i ts
same-rows i [] [] agree = refl
same-rows i [] (t ∷ ts) agree = absurd agree
same-rows i (s ∷ ss) [] agree = absurd agree
same-rows i (s ∷ ss) (t ∷ ts) agree =
    let c = same-counted s t agree.0 in
    let r = same-rows (i + 1) ss ts agree.1 in
    ap (λ counts. 10 ∷ (status_row i counts ++ status_rows by_state (i + 1) ss)) c ∙ ap (λ rows. 10 ∷ (status_row i (by_history.counts t) ++ rows)) r

same-status : (name : Text) (a : SessionOf StreamState) (b : SessionOf Traced) → SessionsAgree a b
    → status_text by_state name a ≡ status_text by_history name b
same-status name a b is =
    ap (λ k. status_line name k (all_cleared by_state a) ++ (10 ∷ (status_head ++ status_rows by_state 0 a.streams))) is.book
    ∙ ap (λ n. status_line name b.book n ++ (10 ∷ (status_head ++ status_rows by_state 0 a.streams))) (same-all_cleared a b is)
    ∙ ap (λ rows. status_line name b.book (all_cleared by_history b) ++ (10 ∷ (status_head ++ rows)))
    (same-rows 0 a.streams b.streams is.streams)

pub status-agree : (v : World StreamState) (w : World Traced) (name : Text) → WorldsAgree v w
    → StepsAgree (status_step by_state v name) (status_step by_history w name)
status-agree v w name is = at-agree v w name _ _ is (λ a b agree.
    record { world = is; text = ap (λ t. t ++ 10 ∷ []) (same-status name a b agree); is_refused = refl })
