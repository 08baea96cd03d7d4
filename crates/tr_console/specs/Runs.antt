-- How a run of a script ends: what its source gave, and what went out.
use Rattle.std.specs.Borrow.{Bor}
use Rattle.std.specs.Prelude.{◌≡◌, ◌≤◌, ◌⊎◌, ◌+◌, ◌-◌, ℕ, List, [], ◌∷◌, ◌++◌, Option, length, option_map, take}
use Rattle.tr_console.specs.World.{World, no_sessions}
use Rattle.tr_events.specs.Events.{Declarations}
use Rattle.tr_console.specs.Agreement.{WorldsAgree}
use Rattle.tr_console.specs.Script.{answers, refused_in, script_text_by, text_step, world_after}
use Rattle.tr_console.specs.Steps.{Step}
use Rattle.tr_lines.specs.Lines.{lines_of, whole_lines_of}
use Rattle.tr_replies.specs.Text.{Text}
use Rattle.tr_record.specs.Bytes.{and_then_bytes}
use Rattle.tr_stream.specs.Rules.{Traced, by_history, by_state}
use Rattle.tr_stream.specs.State.{StreamState}
use Rattle.tr_terms.specs.declared.limits.TheConstants.{LONGEST_PIECE, LONGEST_SCRIPT}

-- what a console that holds these sessions does at a line's text
abbrev pub step_of_line : World StreamState → Option (Bor (List ℕ)) → Step StreamState
step_of_line w line = text_step by_state w (option_map (λ t. t.now) line)

-- the answer to lines, the first ones of a script
abbrev pub text_answered : Declarations → List (List ℕ) → Text
text_answered events lines = answers by_history (no_sessions events) lines

-- how many lines of a script are refused
abbrev pub refused_lines : Declarations → List ℕ → ℕ
refused_lines events script = refused_in by_history (no_sessions events) (lines_of script)

-- the sessions, by their streams' histories, that a script leaves
abbrev pub world_left : Declarations → List ℕ → World Traced
world_left events script = world_after by_history (no_sessions events) (lines_of script)

-- the events that the script's sessions are created with, and what the source had given and the sink taken before the run, and
-- after it
module _ (events : Declarations) (given given_now taken taken_now : Option (List ℕ)) where
  -- the whole script was read, its whole answer written, and this number of its lines refused; the sessions are as the
  -- script leaves them
  pub record Ran (world : World StreamState) (refused : ℕ) : Type 0 where
    pub script : List ℕ
    pub fits : length script ≤ LONGEST_SCRIPT
    pub read : given_now ≡ and_then_bytes given script
    pub wrote : taken_now ≡ and_then_bytes taken (script_text_by events script)
    pub refusals : refused ≡ refused_lines events script
    pub sessions : WorldsAgree world (world_left events script)

  -- this was read before the source failed, and its whole lines answered
  pub record BrokeOff : Type 0 where
    pub script : List ℕ
    pub fits : length script ≤ LONGEST_SCRIPT
    pub read : given_now ≡ and_then_bytes given script
    pub wrote : taken_now ≡ and_then_bytes taken (text_answered events (whole_lines_of script))

  -- a script of the greatest length was read, and one byte more; its whole lines are answered
  pub record WentTooFar : Type 0 where
    pub script : List ℕ
    pub byte : ℕ
    pub full : length script ≡ LONGEST_SCRIPT
    pub read : given_now ≡ and_then_bytes given (script ++ byte ∷ [])
    pub wrote : taken_now ≡ and_then_bytes taken (text_answered events (whole_lines_of script))

  -- this was read, and a prefix of its answer written, which ends within the answer to its whole lines, unless the source
  -- has nothing else
  pub record WroteSome (content : Option (List ℕ)) : Type 0 where
    pub script : List ℕ
    pub count : ℕ
    pub fits : length script ≤ LONGEST_SCRIPT
    pub read : given_now ≡ and_then_bytes given script
    pub wrote : taken_now ≡ and_then_bytes taken (take count (script_text_by events script))
    pub within : (count ≤ length (text_answered events (whole_lines_of script))) ⊎ (given_now ≡ content)

  -- this was read, and this number of its whole lines answered: at least all but one that end before the last piece
  pub record AnsweredSome : Type 0 where
    pub script : List ℕ
    pub count : ℕ
    pub fits : length script ≤ LONGEST_SCRIPT
    pub read : given_now ≡ and_then_bytes given script
    pub wrote : taken_now ≡ and_then_bytes taken (text_answered events (take count (whole_lines_of script)))
    pub reached : length (whole_lines_of (take (length script - LONGEST_PIECE) script)) ≤ count + 1
