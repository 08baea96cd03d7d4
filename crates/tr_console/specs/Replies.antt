-- What a reply says, and what it leaves.
use Rattle.std.specs.Prelude.{◌≡◌, ◌∷◌, ◌++◌, [], Result, Ok, Err}
use Rattle.tr_console.specs.World.{World}
use Rattle.tr_console.specs.Steps.{Step}
use Rattle.tr_replies.specs.OneLine.{refusal_text}
use Rattle.tr_replies.specs.Text.{Text}
use Rattle.tr_replies.specs.Words.{text_bytes}
use Rattle.tr_replies.specs.declared.line_fault.LineFault.{LineFault}
use Rattle.tr_console.specs.declared.replies.Reply.{Reply}
use Rattle.tr_replies.specs.declared.one_line.ReplyText.TheVariants as reply

-- what a reply says
abbrev pub said : {A : Type 0} → Reply A → Text
said r = text_bytes r.text

-- this text, or that of a refusal with its newline
abbrev pub text_or_refusal : {R : Type 0} → Text → Result R LineFault → Text
text_or_refusal text (Ok done) = text
text_or_refusal text (Err fault) = refusal_text fault ++ 10 ∷ []

-- the reply says what the step does, and the world is as the step leaves it
abbrev pub Does : {S A : Type 0} → Step S → World S → Reply A → Type 0
Does step world r = (said r ≡ step.text) × (r.is_refused ≡ step.is_refused) × (world ≡ step.world)
