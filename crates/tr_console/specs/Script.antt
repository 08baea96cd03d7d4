-- The answer to a whole script.
use Rattle.std.specs.Option.{option_map_or}
use Rattle.std.specs.Prelude.{ℕ, ◌+◌, List, [], ◌∷◌, ◌++◌, Option, codes, if◌then◌else◌}
use Rattle.tr_console.specs.World.{World, no_sessions}
use Rattle.tr_events.specs.Events.{Declarations, nothing}
use Rattle.tr_command.specs.Asked.{Asked}
use Rattle.tr_command.specs.Language.{asked_of}
use Rattle.tr_console.specs.commands.{request_step}
use Rattle.tr_console.specs.Steps.{Step, bad_line_step, skipped_step}
use Rattle.tr_lines.specs.Lines.{lines_of, text_of_line}
use Rattle.tr_lines.specs.Words.{words_of, is_skipped}
use Rattle.tr_replies.specs.Text.{Text}
use Rattle.tr_stream.specs.Rules.{StreamRules, by_history}

-- the answer to what the words of a line ask for; none is a bad line
abbrev pub asked_step : {S : Type 0} → StreamRules S → World S → Option Asked → Step S
asked_step rules w asked = option_map_or (request_step rules w) asked (bad_line_step w)

-- the answer to the words of a line
abbrev pub words_step : {S : Type 0} → StreamRules S → World S → List Text → Step S
words_step rules w words =
    if is_skipped words then skipped_step w
    else asked_step rules w (asked_of (codes "tracerd" ∷ words))

-- the answer to a line's text; none is a bad line
abbrev pub text_step : {S : Type 0} → StreamRules S → World S → Option Text → Step S
text_step rules w text = option_map_or (λ t. words_step rules w (words_of t)) text (bad_line_step w)

-- the answer to the bytes of a line
unfoldable pub line_step : {S : Type 0} → StreamRules S → World S → List ℕ → Step S
line_step rules w line = text_step rules w (text_of_line line)

abbrev pub answers : {S : Type 0} → StreamRules S → World S → List (List ℕ) → Text
answers rules w [] = []
answers rules w (line ∷ lines) = (line_step rules w line).text ++ answers rules (line_step rules w line).world lines

abbrev pub world_after : {S : Type 0} → StreamRules S → World S → List (List ℕ) → World S
world_after rules w [] = w
world_after rules w (line ∷ lines) = world_after rules (line_step rules w line).world lines

abbrev pub refused_in : {S : Type 0} → StreamRules S → World S → List (List ℕ) → ℕ
refused_in rules w [] = 0
refused_in rules w (line ∷ lines) =
    (if (line_step rules w line).is_refused then 1 else 0) + refused_in rules (line_step rules w line).world lines

-- the whole answer to the whole script, whose sessions are created with these events
abbrev pub script_text_by : Declarations → List ℕ → Text
script_text_by events script = answers by_history (no_sessions events) (lines_of script)

-- without events
abbrev pub script_text : List ℕ → Text
script_text = script_text_by nothing
