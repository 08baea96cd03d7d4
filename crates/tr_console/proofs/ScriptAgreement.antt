-- A script, by what streams hold and by their histories: both give the same answer.
use Rattle.std.proofs.Common.{◌≡◌, ℕ, Bool, true, false, cond, List, [], ◌∷◌, Option, Some, None, codes, refl}
use Rattle.std.specs.Option.{option_map_or}
use Rattle.tr_console.specs.World.{World}
use Rattle.tr_command.specs.Asked.{Asked}
use Rattle.tr_command.specs.Language.{asked_of}
use Rattle.tr_console.proofs.Agreement.{answers-agree}
use Rattle.tr_console.proofs.WorldAgreement.{StepsAgree}
use Rattle.tr_console.specs.Agreement.{WorldsAgree}
use Rattle.tr_console.specs.commands.{request_step}
use Rattle.tr_console.specs.Script.{words_step, text_step, line_step, answers, world_after}
use Rattle.tr_console.specs.Steps.{bad_line_step, skipped_step}
use Rattle.tr_lines.specs.Lines.{text_of_line}
use Rattle.tr_lines.specs.Words.{words_of, is_skipped}
use Rattle.tr_replies.specs.Text.{Text}
use Rattle.tr_stream.specs.Rules.{Traced, by_state, by_history}
use Rattle.tr_stream.specs.State.{StreamState}

asked-agree : (asked : Option Asked) (v : World StreamState) (w : World Traced) → WorldsAgree v w
    → StepsAgree (option_map_or (request_step by_state v) asked (bad_line_step v))
    (option_map_or (request_step by_history w) asked (bad_line_step w))
asked-agree None v w is = record { world = is; text = refl; is_refused = refl }
asked-agree (Some asked) v w is = answers-agree asked v w is

words-agree : (words : List Text) (v : World StreamState) (w : World Traced) → WorldsAgree v w
    → StepsAgree (words_step by_state v words) (words_step by_history w words)
words-agree words v w is = go (is_skipped words)
  where
    go : (skips : Bool) → StepsAgree (cond skips (skipped_step v)
        (option_map_or (request_step by_state v) (asked_of (codes "tracerd" ∷ words)) (bad_line_step v)))
        (cond skips (skipped_step w)
        (option_map_or (request_step by_history w) (asked_of (codes "tracerd" ∷ words)) (bad_line_step w)))
    go true = record { world = is; text = refl; is_refused = refl }
    go false = asked-agree (asked_of (codes "tracerd" ∷ words)) v w is

text-agree : (text : Option Text) (v : World StreamState) (w : World Traced) → WorldsAgree v w
    → StepsAgree (text_step by_state v text) (text_step by_history w text)
text-agree None v w is = record { world = is; text = refl; is_refused = refl }
text-agree (Some t) v w is = words-agree (words_of t) v w is

pub line-agree : (line : List ℕ) (v : World StreamState) (w : World Traced) → WorldsAgree v w
    → StepsAgree (line_step by_state v line) (line_step by_history w line)
unfolding line_step
line-agree line v w is = text-agree (text_of_line line) v w is

-- the answer to lines
pub same-answers : (lines : List (List ℕ)) (v : World StreamState) (w : World Traced) → WorldsAgree v w
    → answers by_state v lines ≡ answers by_history w lines
same-answers [] v w is = refl
same-answers (line ∷ lines) v w is =
    let step = line-agree line v w is in
    let rest = same-answers lines (line_step by_state v line).world (line_step by_history w line).world step.world in
    let text = step.text in
    cc

pub agree-after : (lines : List (List ℕ)) (v : World StreamState) (w : World Traced) → WorldsAgree v w
    → WorldsAgree (world_after by_state v lines) (world_after by_history w lines)
agree-after [] v w is = is
agree-after (line ∷ lines) v w is =
    agree-after lines (line_step by_state v line).world (line_step by_history w line).world (line-agree line v w is).world
