-- Answers that are gathered, and go out together.
use Rattle.std.specs.Prelude.{◌≡◌, ◌≤◌, ℕ, ◌++◌, Option, length, take}
use Rattle.tr_replies.specs.Text.{Text}
use Rattle.tr_record.specs.Bytes.{and_then_bytes}

-- what the sink had taken before, and after it
module _ (taken taken_now : Option Text) where
  -- `more` came after what was gathered: some of it all went out, and the rest is gathered
  pub record Gathers (gathered more gathered_now : Text) : Type 0 where
    pub out : Text
    pub went : taken_now ≡ and_then_bytes taken out
    pub rest : gathered ++ more ≡ out ++ gathered_now

  -- a prefix of this went out
  pub record WentInPart (all : Text) : Type 0 where
    pub count : ℕ
    pub within : count ≤ length all
    pub went : taken_now ≡ and_then_bytes taken (take count all)
