-- `status`: a session in numbers, a line for each stream.
use Rattle.std.specs.Prelude.{List, [], ℕ, ◌++◌, ◌+◌, ◌∷◌}
use Rattle.tr_console.specs.Steps.{Step, reply_step, session_step}
use Rattle.tr_console.specs.World.{World}
use Rattle.tr_replies.specs.Status.{status_head, status_line, status_row}
use Rattle.tr_replies.specs.Text.{Text}
use Rattle.tr_session.specs.Session.{SessionOf}
use Rattle.tr_session.specs.Sizes.{all_cleared}
use Rattle.tr_stream.specs.Rules.{StreamRules}

-- the lines of streams, numbered from here on, a newline before each
abbrev pub status_rows : {S : Type 0} → StreamRules S → ℕ → List S → Text
status_rows rules i [] = []
status_rows rules i (t ∷ ts) = 10 ∷ (status_row i (rules.counts t) ++ status_rows rules (i + 1) ts)

abbrev pub status_text : {S : Type 0} → StreamRules S → Text → SessionOf S → Text
status_text rules name s =
    status_line name s.book (all_cleared rules s) ++ (10 ∷ (status_head ++ status_rows rules 0 s.streams))

abbrev pub status_step : {S : Type 0} → StreamRules S → World S → Text → Step S
status_step rules w name = session_step w name (λ s. reply_step w (status_text rules name s))
