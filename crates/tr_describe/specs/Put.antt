-- What is put, one text after another.
use Rattle.std.specs.Prelude.{◌≡◌, ℕ, List, ◌++◌, Option, option_map}

-- a text, and the path of the file that has it
pub record Text : Type 0 where
  pub path : List ℕ
  pub text : List ℕ

abbrev pub text_at : List ℕ → List ℕ → Text
text_at path text = record { path = path; text = text }

-- what is known to have been put, and then these; nothing is known of a file system
abbrev pub and_then_put : Option (List Text) → List Text → Option (List Text)
and_then_put known more = option_map (λ before. before ++ more) known

-- some of these were put, from the first one on
pub record IsFrontPut (all : List Text) (before after : Option (List Text)) : Type 0 where
  pub front : List Text
  pub rest : List Text
  pub parts : all ≡ front ++ rest
  pub put : after ≡ and_then_put before front
