-- The lines of a status.
use Rattle.std.proofs.Common.{◌≡◌, ◌∙◌, ℕ, ◌+◌, List, [], ◌∷◌, ◌++◌, Some, drop, length, sym, ap, append_assoc, append-nil}
use Rattle.std.specs.Prelude.{slice_get}
use Rattle.tr_replies.specs.Text.{Text}
use Rattle.tr_console.proofs.DropLemmas.{drop-got, drop-all}
use Rattle.tr_console.specs.commands.Status.{status_rows, status_text}
use Rattle.tr_replies.specs.Status.{status_head, status_line, status_row}
use Rattle.tr_session.specs.Session.{SessionOf}
use Rattle.tr_session.specs.Sizes.{all_cleared}
use Rattle.tr_stream.specs.Rules.{by_state}
use Rattle.tr_stream.specs.State.{StreamState}
use Rattle.tr_stream.specs.StateSteps.{state_counts}

-- the lines that are written, and those that are left
pub begins : (s : SessionOf StreamState) (name begun : Text) → begun ≡ status_line name s.book (all_cleared by_state s) ++ (10 ∷ status_head)
    → begun ++ status_rows by_state 0 (drop 0 s.streams) ≡ status_text by_state name s
begins s name begun e =
    let rows = status_rows by_state 0 s.streams in
    ap (λ (t : Text). t ++ rows) e ∙ append_assoc (status_line name s.book (all_cleared by_state s)) (10 ∷ status_head) rows

pub goes_on : (ts : List StreamState) (i : ℕ) (t : StreamState) (text more whole : Text) → slice_get ts i ≡ Some t
    → text ++ status_rows by_state i (drop i ts) ≡ whole → more ≡ text ++ 10 ∷ status_row i (state_counts t)
    → more ++ status_rows by_state (i + 1) (drop (i + 1) ts) ≡ whole
goes_on ts i t text more whole got so pushed =
    let e = drop-got ts i t got in
    let rest = status_rows by_state (i + 1) (drop (i + 1) ts) in
    let f : text ++ status_rows by_state i (drop i ts) ≡ text ++ (10 ∷ (status_row i (state_counts t) ++ rest)) =
    ap (λ (us : List StreamState). text ++ status_rows by_state i us) e in
    ap (λ (m : Text). m ++ rest) pushed ∙ append_assoc text (10 ∷ status_row i (state_counts t)) rest ∙ sym f ∙ so

pub ends : (ts : List StreamState) (i : ℕ) (text whole : Text) → i ≡ length ts → text ++ status_rows by_state i (drop i ts) ≡ whole → text ≡ whole
ends ts i text whole end so = sym (append-nil text) ∙ ap (λ (us : List StreamState). text ++ status_rows by_state i us) (sym (drop-all ts i end)) ∙ so
