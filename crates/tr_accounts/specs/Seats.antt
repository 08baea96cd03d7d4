-- The seats of a stream's journal: which of them notes which calls.
use Rattle.std.specs.Global.{Global}
use Rattle.std.specs.Prelude.{◌≡◌, ◌<◌, ℕ, Bool, true, false, nat_lt, List, filter}
use Rattle.std.specs.List.{AllByRecursion}
use Rattle.tr_journal.specs.Views.{all_done}
use Rattle.tr_journal.specs.declared.rule.Line.{Line}
use Rattle.tr_journal.specs.declared.rule.Part.{Part}
use Rattle.tr_stream.specs.State.{StreamState}
use Rattle.tr_stream.specs.declared.events.StreamEvent.{StreamEvent}
use Rattle.tr_stream.specs.declared.events.StreamEvent.TheVariants.{Offer, Take}
use Rattle.tr_accounts.specs.Accounts.{IsAccounted}
use Rattle.tr_accounts.specs.declared.step.StreamStep.{StreamStep}

-- the first seat is the producer's, the next one the desk's, and all later ones are drainers'
abbrev pub producer_seat : ℕ
producer_seat = 0

abbrev pub desk_seat : ℕ
desk_seat = 1

-- whose call it is
pub data Role : Type 0 where
  Offers : Role
  Takes : Role
  Operates : Role

abbrev pub role_of : StreamEvent Global → Role
role_of (Offer moment id payload) = Offers
role_of Take = Takes
role_of call = Operates

abbrev pub HasRole : Role → ℕ → Type 0
HasRole Offers who = who ≡ producer_seat
HasRole Takes who = desk_seat < who
HasRole Operates who = who ≡ desk_seat

-- each step is noted by a seat whose call it is
abbrev pub AreTheirs : List (Line StreamStep) → Type 0
AreTheirs lines = AllByRecursion (λ l. HasRole (role_of l.done.call) l.who) lines

-- the steps of one role, in order
abbrev pub is_offer : Role → Bool
is_offer Offers = true
is_offer role = false

abbrev pub is_take : Role → Bool
is_take Takes = true
is_take role = false

abbrev pub is_operation : Role → Bool
is_operation Operates = true
is_operation role = false

abbrev pub steps_of : (Role → Bool) → List StreamStep → List StreamStep
steps_of wanted steps = filter (λ step. wanted (role_of step.call)) steps

-- the lines with takes, and the parts of drainers' seats
abbrev pub take_lines : List (Line StreamStep) → List (Line StreamStep)
take_lines lines = filter (λ l. is_take (role_of l.done.call)) lines

abbrev pub drainer_parts : List (Part StreamStep) → List (Part StreamStep)
drainer_parts parts = filter (λ p. nat_lt desk_seat p.who) parts

-- a stream's journal: the stream is what its steps lead to, and each was noted by a seat whose call it is
pub record IsJournalOf (lines : List (Line StreamStep)) (s : StreamState) : Type 0 where
  pub accounted : IsAccounted (all_done lines) s
  pub theirs : AreTheirs lines
