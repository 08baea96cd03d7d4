-- Words and numbers, and the text of an answer.
use Rattle.std.specs.Prelude.{ℕ, List, [], ◌∷◌, ◌++◌}
use Rattle.std.specs.Borrow.{Bor}
use Rattle.std.specs.Fmt.{decimal}
use Rattle.std.specs.String.{string_bytes}
use Rattle.tr_replies.specs.Text.{Text}
use Rattle.tr_replies.specs.declared.one_line.ReplyText.{ReplyText}
use Rattle.tr_replies.specs.declared.one_line.ReplyText.TheVariants as reply

abbrev pub text_bytes : {A : Type 0} → ReplyText A → Text
text_bytes (reply.Constant text) = text.now
text_bytes (reply.Written text) = string_bytes text

-- words, with a number after each of them
abbrev pub words_and_numbers : List (Bor Text × ℕ) → Text
words_and_numbers [] = []
words_and_numbers (part ∷ parts) = part.0.now ++ (decimal part.1 ++ words_and_numbers parts)
