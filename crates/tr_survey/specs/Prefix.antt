-- What went out of a text before a fault.
use Rattle.std.specs.Prelude.{◌≡◌, ◌≤◌, ℕ, List, length, take, Option}
use Rattle.tr_record.specs.Bytes.{and_then_bytes}
use Rattle.tr_survey.specs.Told.{Told}

-- of this text some first bytes went out, and nothing else
abbrev pub IsPrefixOut : List ℕ → Option (List ℕ) → Option (List ℕ) → Type 0
IsPrefixOut text before now = (k : ℕ) × (k ≤ length text) × (now ≡ and_then_bytes before (take k text))

-- all of it was reported, and this is the state then
pub record IsTold {S : Type 0} (t : Told S) (before now : Option (List ℕ)) (state : S) : Type 0 where
  pub out : now ≡ and_then_bytes before t.text
  pub state_is : state ≡ t.state

-- some of the whole is reported: once the rest is too, all of it is; and once a front of the rest is, a front of all is
pub record GoesOn {S : Type 0} (whole rest : Told S) (before now : Option (List ℕ)) : Type 0 where
  pub out : and_then_bytes now rest.text ≡ and_then_bytes before whole.text
  pub state : rest.state ≡ whole.state
  pub front : (after : Option (List ℕ)) → IsPrefixOut rest.text now after → IsPrefixOut whole.text before after
