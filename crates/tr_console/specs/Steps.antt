-- The answer to a line, and what the line leaves.
use Rattle.std.specs.Option.{option_map_or}
use Rattle.std.specs.Prelude.{◌≡◌, ◌⊎◌, [], ◌∷◌, ◌++◌, Bool, true, false, is_err, Result, Ok, Err}
use Rattle.tr_replies.specs.OneLine.{bad_line_text, refusal_text}
use Rattle.tr_replies.specs.Text.{Text}
use Rattle.tr_console.specs.World.{World, session_named, with_session}
use Rattle.tr_replies.specs.declared.line_fault.LineFault.{LineFault}
use Rattle.tr_replies.specs.declared.line_fault.LineFault.TheVariants as fault
use Rattle.tr_session.specs.Session.{SessionOf}
use Rattle.tr_session_book.specs.declared.faults.SessionFault.{SessionFault}

-- the answer to a line, with its newline, and what the line leaves
pub record Step (S : Type 0) : Type 0 where
  pub world : World S
  pub text : Text
  pub is_refused : Bool

abbrev pub reply_step : {S : Type 0} → World S → Text → Step S
reply_step w text = record { world = w; text = text ++ 10 ∷ []; is_refused = false }

abbrev pub refusal_step : {S : Type 0} → World S → LineFault → Step S
refusal_step w fault = record { world = w; text = refusal_text fault ++ 10 ∷ []; is_refused = true }

abbrev pub bad_line_step : {S : Type 0} → World S → Step S
bad_line_step w = record { world = w; text = bad_line_text ++ 10 ∷ []; is_refused = true }

abbrev pub skipped_step : {S : Type 0} → World S → Step S
skipped_step w = record { world = w; text = []; is_refused = false }

-- the line of an answer without its newline, by the words for a result
abbrev pub line_of : {R : Type 0} → (R → Text) → Result R LineFault → Text
line_of words (Ok result) = words result
line_of words (Err fault) = refusal_text fault

-- ---- what a command does with a session

-- what is done with the session of this name, if there is one
abbrev pub session_step : {S : Type 0} → World S → Text → (SessionOf S → Step S) → Step S
session_step w name f = option_map_or f (session_named name w) (refusal_step w fault.NoSession)

-- something was added to it, and this is the answer, or it was refused
abbrev pub addition_step : {S : Type 0} → World S → Text → Text → Result (SessionOf S) SessionFault → Step S
addition_step w name text (Ok s) = reply_step (with_session name w s) text
addition_step w name text (Err why) = refusal_step w (fault.Session why)

-- the words for a call's result, and the session of this name as the call leaves it
abbrev pub call_step : {S R : Type 0} → World S → Text → (R → Text) → Result R LineFault → SessionOf S → Step S
call_step w name words result after =
    record { world = with_session name w after; text = line_of words result ++ 10 ∷ []; is_refused = is_err result }

-- the words for the answer to a question, which changes nothing
abbrev pub question_step : {S R : Type 0} → World S → (R → Text) → Result R LineFault → Step S
question_step w words result =
    record { world = w; text = line_of words result ++ 10 ∷ []; is_refused = is_err result }

-- ---- what a line leaves if an allocation fails

-- the sessions as they were, or as the line leaves them
abbrev pub IsBeforeOrAfter : {S : Type 0} → Step S → World S → World S → Type 0
IsBeforeOrAfter step w new = (new ≡ w) ⊎ (new ≡ step.world)
